use Rattle.board.proofs.steady.Steadying.{still-within}
use native.Mathlib.Omega.{arith}
use Rattle.board.proofs.steady.Pair.unmoved.Goals as goal

pub returns : goal.returns
returns c =
    still-within _ _ c.args.self.follower.valid c.args.self.master.valid _ _ _
    (omega (arith, c.apart-drift.ensures, c.distance-2.ensures, c.distance.ensures))
    (omega (arith, c.apart-drift.ensures, c.distance-2.ensures, c.distance.ensures))
    (omega (arith, c.min.ensures, c.still-2.ensures, c.still.ensures))
