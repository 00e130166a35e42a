use Rattle.std.specs.Prelude.{Ok}
use native.Mathlib.Omega.{arith}
use Rattle.board.proofs.call.Leaving.{clock-leaves}
use Rattle.board.specs.Query.{clock_of}
use Rattle.board.proofs.Board.clock_and_held.Goals as goal

pub returns-in_err-checked : goal.returns-in_err-checked
unfolding clock_of
returns-in_err-checked c = clock-leaves _ {r = c.from_residual.result} (grind arith)

pub returns : goal.returns
unfolding clock_of
returns c = clock-leaves _ {r = Ok (c.args.self.clock, c.args.self.held)} (grind arith)
