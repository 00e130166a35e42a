use Rattle.board.proofs.tick.Staging.{obeyed-none, staged-none}
use mathlib.Core.Path.{sym, ◌∙◌}
use Rattle.board.proofs.tick.obey.Goals as goal

pub returns-then-command-eq0-clause-records : goal.returns-then-command-eq0-clause-records
returns-then-command-eq0-clause-records c = staged-none _ (obeyed-none _ _ c.args.t (sym c.command.ensures ∙ c.if-command-eq0.true))
