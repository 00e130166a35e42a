use Rattle.board.proofs.tick.Staging.{put-one, staged-none}
use Rattle.board.specs.Log.{log_bytes}
use Rattle.board.specs.Tick.{listed}
use mathlib.Core.List.{◌++◌}
use mathlib.Core.Path.{sym, ap, ◌∙◌}
use native.Mathlib.Omega.{arith}
use Rattle.board.proofs.stage.Staged.put.Goals as goal

pub returns-in-Some : goal.returns-in-Some
returns-in-Some c =
    let q = c.self.inside in
    put-one q.bytes q.count _ (omega (arith, c.self.invariant, c.self.told)) c.put_record.ensures
    ∙ (λ j. c.self.view_is j ++ log_bytes (listed (sym c.in-Some.is j)))

pub returns-in_default : goal.returns-in_default
returns-in_default c = staged-none _ (ap listed c.in_default.is)
