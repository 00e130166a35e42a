-- The invariants of the tick loop and of the pass over the playing tracks in it (proofs/advance/Standing).
use Prim.Native.Nat.{◌-◌}
use Rattle.board.proofs.advance.Standing.{Standing, Pass}
use Rattle.board.proofs.advance.Advancing.{board_at}
use Rattle.board.proofs.advance.Turning.{Turning}
use Rattle.board.specs.Advance.{turns_left}
use Rattle.board.specs.Call.{world}
use Rattle.board.proofs.advance.run.Given as goal

abbrev pub invariant-ticks : goal.invariant-ticks
invariant-ticks l =
    Standing l.b l.wanted l.fn.log l.log l.tracks l.clock l.held l.taken l.answer
    l.word l.led

abbrev pub decreases-ticks : goal.decreases-ticks
decreases-ticks l =
    turns_left l.look (l.wanted - l.taken)
    (world (board_at l.b l.tracks l.clock l.held) l.log)

abbrev pub invariant-loop-i : goal.invariant-loop-i
invariant-loop-i l =
    record {
      can_next : (goal.iterator-loop-i).can_next l.i-iterator;
      is_finite : (goal.iterator-loop-i).is_finite l.i-iterator;
      pass : Pass l.b l.wanted l.fn.log l.log l.initial.tracks l.back l.clock l.held l.taken l.word l.led l.skipped l.room;
      turning : Turning l.b l.initial.tracks l.clock l.word l.skipped l.stage l.reached l.tracks l.i-iterator.0 l.more;
    }
