use Prim.Native.Nat.{◌-◌}
use Rattle.board.proofs.points.Keys.{Bracket}
use Rattle.board.proofs.points.OrderedPoints.first_from.Given as goal

abbrev pub invariant-loop-low : goal.invariant-loop-low
invariant-loop-low l = Bracket l.self.keys.now l.wanted l.low l.high

abbrev pub decreases-loop-low : goal.decreases-loop-low
decreases-loop-low l = l.high - l.low
