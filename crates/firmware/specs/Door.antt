-- What the one door for every call answers.
use Rattle.std.specs.Prelude.{ℕ, ◌≡◌, List, ℤ}
use Rattle.board.specs.declared.Board.{Board}
use Rattle.board.specs.Cut.{Did}
use Rattle.board.specs.Replay.{World}
use Rattle.board.specs.Call.{Reply, world, master_does}
use Rattle.board.specs.Row.{numbers_of}
use Rattle.firmware.specs.declared.door.Replied.{Replied}

-- the numbers of the reply, the board and every log byte are those that a row gives
pub record RowGives (d : Did Reply (World Board)) (r : Replied) (log : List ℕ) : Type 0 where
  pub reply_is : r.reply ≡ numbers_of d.answer
  pub board_is : r.board ≡ d.left.board
  pub log_is : log ≡ d.left.log

-- of a master call with any numbers, which takes no log: whatever the log, it leaves it
abbrev pub MasterGives : ℤ → ℤ → List ℤ → Board → Replied → Type 0
MasterGives track master zs b r = (log : List ℕ) → RowGives (master_does track master zs (world b log)) r log
