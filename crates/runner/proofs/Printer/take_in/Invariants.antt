use Rattle.std.proofs.Common.{◌-◌, ◌≡◌, length, drop}
use Rattle.script.specs.Run.{Went}
use Rattle.runner.proofs.Printer.take_in.Given as goal

abbrev pub invariant-loop-at : goal.invariant-loop-at
invariant-loop-at g l = (length l.self.buffer ≡ 65536) × (length l.log ≡ length l.initial.log) × Went l.initial.session l.piece l.initial.log l.session (drop l.at l.piece) l.log

abbrev pub decreases-loop-at : goal.decreases-loop-at
decreases-loop-at g l = length l.piece - l.at
