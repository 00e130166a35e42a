use Rattle.board.proofs.follow.Judging.{Judging}
use Rattle.board.specs.Tick.{members}
use Rattle.board.proofs.follow.judge_bands.Given as goal

abbrev pub invariant-loop-i : goal.invariant-loop-i
invariant-loop-i l = (goal.iterator-loop-i).can_next l.i-iterator
    × (goal.iterator-loop-i).is_finite l.i-iterator
    × Judging l.clock.0 (members l.led) l.initial.tracks l.initial.stage l.tracks l.stage (members l.i-iterator.0)
