use Rattle.board.proofs.tick.Staging.{change-none, change-same, change-one}
use mathlib.Core.Path.{sym}
use Rattle.board.proofs.tick.change_record.Goals as goal

pub returns-then-mode-new : goal.returns-then-mode-new
returns-then-mode-new c = sym (change-same _ _ _ _ _ _ c.args.t.valid c.if-mode-new.true)

pub returns-then-event-eq0 : goal.returns-then-event-eq0
returns-then-event-eq0 c = sym (change-none _ _ _ _ _ _ c.action-event.ensures c.if-event-eq0.true)

pub returns : goal.returns
returns c = sym (change-one _ _ _ _ _ _ c.action-event.ensures c.if-event-eq0.false)
