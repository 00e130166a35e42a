use Rattle.board.proofs.tick.Commands.{Turns}
use Rattle.board.proofs.tick.run_commands.Given as goal

abbrev pub invariant-loop-d : goal.invariant-loop-d
invariant-loop-d l = Turns l.present l.clock.0 l.reached l.initial.tracks l.initial.stage l.tracks l.stage l.d-index
