use Prim.Native.Nat.{ℕ, ◌≤◌}
use Rattle.board.specs.Replay.{Each}
use Rattle.board.specs.Quiet.{Fewest, WithMaster}
use Rattle.board.specs.Tick.{members}
use Rattle.track.specs.Rule.{clock_end}
use mathlib.Core.List.{[]}
use Rattle.board.proofs.quiet.steady_followers.Given as goal

abbrev pub invariant-loop-i : goal.invariant-loop-i
invariant-loop-i l = (goal.iterator-loop-i).can_next l.i-iterator
    × (goal.iterator-loop-i).is_finite l.i-iterator
    × Each (WithMaster l.tracks) (members l.i-iterator.0)
    × (l.fewest ≤ clock_end)
    × ((r : ℕ) → Fewest [] l.tracks [] (members l.i-iterator.0) l.fewest r → Fewest [] l.tracks [] (members l.led) l.initial.fewest r)
