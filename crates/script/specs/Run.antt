-- What a script does with a board and its log, and what is printed of its lines (01, "Script lines").
use Rattle.std.specs.Prelude.{ℕ, ◌≤◌, ◌<◌, ◌≡◌, List, [], ◌∷◌, ◌++◌, map, length, take, drop, Option}
use Rattle.board.specs.declared.Board.{Board}
use Rattle.board.specs.Board.{fresh_board}
use Rattle.board.specs.Cut.{All}
use Rattle.board.specs.Replay.{World}
use Rattle.board.specs.declared.call.Call.{Call}
use Rattle.board.specs.Call.{Reply, Gives, world}
use Rattle.board.specs.Row.{row_does, rows_do}
use Rattle.script.specs.Lines.{lines_of, number_after, number_behind, lines_in, open_after, last_line, kept_by}
use Rattle.script.specs.Grammar.{line_call}
use Rattle.script.specs.Output.{note_of, record_lines, end_line}
use Rattle.script.specs.Text.{line_room, text_of}
use Rattle.script.specs.declared.run.Session.{Session}
use Rattle.script.specs.declared.run.Fed.{Fed}
use Rattle.script.specs.declared.run.Ended.{Ended}
use Rattle.script.specs.declared.text.Out.{Out}

-- ---- what 01 says

-- what the lines of a script are, one after the other: calls, or 9
abbrev pub script_rows : List ℕ → List (Option Call)
script_rows s = map line_call (lines_of s)

-- all answers, and the board and log that the last line leaves
abbrev pub lines_do : List (List ℕ) → World Board → All Reply (World Board)
lines_do ls w = rows_do (map line_call ls) w

-- what is printed of answers as they come, of which the first is line n's
abbrev pub notes_of : ℕ → List Reply → List ℕ
notes_of n [] = []
notes_of n (a ∷ rest) = note_of n a ++ notes_of (number_after n) rest

-- what is printed at the end: each held record, then the end line
abbrev pub shown_at_end : World Board → List ℕ
shown_at_end w = record_lines w.board.held w.log ++ end_line w.board.clock.0 w.board.held

-- all that is printed of a script, from a fresh board and a log
abbrev pub printed : List ℕ → List ℕ → List ℕ
printed s log =
    let a : All Reply (World Board) = rows_do (script_rows s) (world fresh_board log) in
    notes_of 1 a.answers ++ shown_at_end a.last

-- ---- what the code holds

-- a session's board, and the log
abbrev pub world_of : Session → List ℕ → World Board
world_of x log = world x.board log

-- the lines that end in s, done from a session on
abbrev pub done_in : Session → List ℕ → List ℕ → All Reply (World Board)
done_in x s log = lines_do (lines_in (kept_by x.reader) s) (world_of x log)

-- what is printed of them
abbrev pub notes_in : Session → List ℕ → List ℕ → List ℕ
notes_in x s log = notes_of x.reader.line (done_in x s log).answers

-- A fresh board, and nothing read of line 1.
pub record Starts (x : Session) : Type 0 where
  pub open_is : kept_by x.reader ≡ []
  pub line_is : x.reader.line ≡ 1
  pub board_is : x.board ≡ fresh_board

-- x with s to read prints `text`, then what y with s' to read prints; both end with the same board, log, open line and line number.
pub record Goes (x : Session) (s log text : List ℕ) (y : Session) (s' log' : List ℕ) : Type 0 where
  pub text_is : notes_in x s log ≡ text ++ notes_in y s' log'
  pub left_is : (done_in x s log).last ≡ (done_in y s' log').last
  pub open_is : open_after (kept_by x.reader) s ≡ open_after (kept_by y.reader) s'
  pub line_is :
      number_behind x.reader.line (lines_in (kept_by x.reader) s) ≡ number_behind y.reader.line (lines_in (kept_by y.reader) s')

-- The same, whatever was printed.
pub record Went (x : Session) (s log : List ℕ) (y : Session) (s' log' : List ℕ) : Type 0 where
  pub text : List ℕ
  pub goes : Goes x s log text y s' log'

-- The line that the reader keeps is done, and what it prints is noted; the next is open, and nothing read of it.
pub record EndsLine (x : Session) (log : List ℕ) (note : Out) (y : Session) (log' : List ℕ) : Type 0 where
  pub reply : Reply
  pub gives : Gives (row_does (line_call (kept_by x.reader)) (world_of x log)) reply y.board log'
  pub text_is : text_of note ≡ note_of x.reader.line reply
  pub open_is : kept_by y.reader ≡ []
  pub line_is : y.reader.line ≡ number_after x.reader.line

-- A piece has been taken in from `at` to the place that is next.
pub record Feeds (x : Session) (piece : List ℕ) (at : ℕ) (log out : List ℕ) (r : Fed) (y : Session) (log' out' : List ℕ) : Type 0 where
  pub goes : Goes x (drop at piece) log (take r.used out') y (drop r.next piece) log'
  pub within : r.used ≤ length out
  pub further : line_room ≤ length out → at < length piece → at < r.next

-- The input has ended: the line that was open is done, if there is one, and what it prints is noted.
pub record Ends (x : Session) (log : List ℕ) (r : Ended) (log' : List ℕ) : Type 0 where
  pub left_is : world r.board log' ≡ (lines_do (last_line (kept_by x.reader)) (world_of x log)).last
  pub text_is : text_of r.note ≡ notes_of x.reader.line (lines_do (last_line (kept_by x.reader)) (world_of x log)).answers
