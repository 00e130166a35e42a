use Rattle.board.specs.Quiet.{Leapable, leap_into}
use Rattle.board.specs.Tick.{members}
use mathlib.Core.Path.{◌≡◌}
use Rattle.board.proofs.quiet.Playing.leapt.Given as goal

abbrev pub invariant-loop-i : goal.invariant-loop-i
invariant-loop-i l = (goal.iterator-loop-i).can_next l.i-iterator
    × (goal.iterator-loop-i).is_finite l.i-iterator
    × Leapable l.self.tracks.now (members l.i-iterator.0)
    × (leap_into l.k.0 l.self.tracks.now (members l.i-iterator.0) l.next ≡ leap_into l.k.0 l.self.tracks.now (members l.self.word) l.self.tracks.now)
