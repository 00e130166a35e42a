use Rattle.std.proofs.Common.{◌≡◌, length}
use Rattle.runner.proofs.Printer.print_records.Given as goal

abbrev pub invariant-loop-shown : goal.invariant-loop-shown
invariant-loop-shown g l = length l.self.buffer ≡ 65536

abbrev pub decreases-loop-shown : goal.decreases-loop-shown
decreases-loop-shown g l = l.shown.left
