use Rattle.std.specs.Prelude.{Ok}
use native.Mathlib.Omega.{arith}
use Rattle.board.proofs.call.Leaving.{clear-leaves}
use Rattle.board.specs.Setup.{outcome, board_with, clear_board}
use Rattle.board.proofs.Board.clear.Goals as goal

pub returns-in_err-checked : goal.returns-in_err-checked
unfolding clear_board
returns-in_err-checked c = clear-leaves _ {r = outcome c.args.self c.from_residual.result} (grind arith)

pub returns : goal.returns
unfolding clear_board
returns c =
    let b = c.args.self in
    clear-leaves _ {r = outcome b (Ok (board_with b b.tracks b.present b.points 0))} (grind arith)
