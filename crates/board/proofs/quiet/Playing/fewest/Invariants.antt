use Prim.Native.Nat.{ℕ, ◌≤◌}
use Rattle.board.specs.Quiet.{Leapable, Fewest}
use Rattle.board.specs.Tick.{members}
use Rattle.track.specs.Rule.{clock_end}
use mathlib.Core.List.{[]}
use Rattle.board.proofs.quiet.Playing.fewest.Given as goal

abbrev pub invariant-loop-i : goal.invariant-loop-i
invariant-loop-i l = (goal.iterator-loop-i).can_next l.i-iterator
    × (goal.iterator-loop-i).is_finite l.i-iterator
    × Leapable l.self.tracks.now (members l.i-iterator.0)
    × (l.fewest ≤ clock_end)
    × ((r : ℕ) → Fewest l.points.keys.now l.self.tracks.now (members l.i-iterator.0) [] l.fewest r → Fewest l.points.keys.now l.self.tracks.now (members l.self.word) [] clock_end r)
