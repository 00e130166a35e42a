-- What a call leaves.
use Rattle.std.specs.Prelude.{ℕ, ◌≡◌}
use Rattle.track.specs.declared.refusal.Refusal.{Refusal}
use Rattle.track.specs.Refusal.{number_of}
use Rattle.board.specs.declared.Board.{Board}
use Rattle.board.specs.Call.{Reply, reply_by}
use Rattle.board.specs.declared.apply.Applied.{Applied}

-- a reply and a board, as a call's result has them, a refusal's number given by number
pub record SaysBy {R : Type 0} (number : R → ℕ) (reply : Reply) (board : Board) (r : Applied R) : Type 0 where
  pub reply_is : reply_by number r.told ≡ reply
  pub board_is : r.board ≡ board

abbrev pub Says : Reply → Board → Applied Refusal → Type 0
Says = SaysBy number_of
