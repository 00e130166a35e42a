use Rattle.board.proofs.lists.Executing.{RowsDone}
use Rattle.board.proofs.lists.run_calls.Given as goal

abbrev pub invariant-loop-i : goal.invariant-loop-i
invariant-loop-i l = RowsDone l.calls l.initial.log l.initial.replies l.i l.b l.log l.replies
