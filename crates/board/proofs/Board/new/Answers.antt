use Rattle.board.specs.Board.{fresh_board}
use Rattle.board.proofs.Board.new.Goals as goal

pub returns : goal.returns
unfolding fresh_board
returns c = simp (c.new-absent.ensures, c.new-points.ensures)
