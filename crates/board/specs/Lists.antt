-- Lists of calls on the board, their replay (01, "Lists of calls"), and encoded lists of calls.
use Rattle.std.specs.Prelude.{ℕ, ◌/◌, min, List, [], ◌≡◌, ℤ, length, drop}
use Rattle.board.specs.declared.Board.{Board}
use Rattle.board.specs.declared.log.Record.{Record}
use Rattle.board.specs.declared.call.Call.{Call}
use Rattle.board.specs.Board.{fresh_board}
use Rattle.board.specs.Cut.{All, Part, parts, performs}
use Rattle.board.specs.Replay.{State, replay, cleared_at}
use Rattle.board.specs.Call.{Reply, gridstep, most, run_count, advance_by}
use Rattle.board.specs.Log.{write_at}
use Rattle.board.specs.Row.{call_width, reply_width, rows_of, calls_in, numbers_in, answers_to}

-- a list as the cut sees it
abbrev pub cut_up : List Call → List (Part Call)
cut_up = parts most run_count advance_by

-- the replay at first: its own board, fresh, the log as it is, and a row without records
abbrev pub start : List ℕ → State Board Record
start log = record { board = fresh_board; log = log; row = [] }

-- the replay of a list: fed the log as it is at the start and the calls, and nothing else
abbrev pub replayed : List Call → List ℕ → All Reply (State Board Record)
replayed cs log = performs (replay gridstep) (cut_up cs) (start log)

-- the records that the row has got since the last accepted clear, all of them if there was none
abbrev pub since_clear : List Call → List ℕ → List Record
since_clear cs log = drop (cleared_at gridstep (cut_up cs) (start log) 0) (replayed cs log).last.row

-- ---- What an encoded list of calls does.

-- as many rows are executed as both have room for: whole calls, and whole replies
abbrev pub rows_both : List ℤ → List ℕ → ℕ
rows_both calls replies = min (length calls / call_width) (length replies / reply_width)

-- An encoded list, executed from a fresh board: end board, every log byte and every reply are the replay's.
pub record Executed (calls : List ℤ) (log replies : List ℕ) (board : Board) (log' replies' : List ℕ) : Type 0 where
  pub board_is : board ≡ (replayed (calls_in (rows_of (rows_both calls replies) calls)) log).last.board
  pub log_is : log' ≡ (replayed (calls_in (rows_of (rows_both calls replies) calls)) log).last.log
  pub replies_are : replies' ≡
      write_at replies 0
      (numbers_in
      (answers_to (rows_of (rows_both calls replies) calls) (replayed (calls_in (rows_of (rows_both calls replies) calls)) log).answers))
