use Prim.Native.Nat.{◌*◌}
use Rattle.board.proofs.log.Words.{write_part}
use Rattle.board.specs.Log.{record_width}
use lib.ListN.{length}
use lib.Seq.{length-take-le}
use mathlib.Core.Path.{ap, ◌∙◌}
use native.Mathlib.Omega.{arith}
use Rattle.board.proofs.stage.Staged.commit.Goals as goal

pub returns : goal.returns
returns c =
    let q = c.self.inside in
    let l = length-take-le (q.count * record_width) q.bytes (omega (arith, c.self.invariant, c.self.told)) in
    write_part c.args.at _ c.args.log.now (c.copy_from_slice.ensures.after ∙ c.self.view_is) (omega (arith, l, ap length c.self.view_is))
