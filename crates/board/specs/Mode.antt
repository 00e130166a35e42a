-- The four mode calls (01, "Track", "Other calls", "Turned down"), as far as the log's length decides them.
use Rattle.std.specs.Prelude.{ℕ, ◌+◌, cond, List, [], length, set, ℤ, leb, Option, Some, None, Result, Ok, Err}
use Rattle.track.specs.declared.refusal.Refusal.{Refusal}
use Rattle.track.specs.Refusal.{Answer, Accepted, Refused, number_of}
use Rattle.track.specs.Rule.{entered}
use Rattle.track.specs.Grid.{grid_of}
use Rattle.track.specs.Number.{on_some}
use Rattle.board.specs.declared.Board.{Board}
use Rattle.board.specs.declared.log.Record.{Record}
use Rattle.board.specs.Log.{capacity}
use Rattle.board.specs.declared.mode.ModeChange.{ModeChange}
use Rattle.board.specs.Board.{track_at, unbroken_test, found_in}
use Rattle.board.specs.Setup.{Outcome, board_with, accepted, refused}
use Rattle.board.specs.Tick.{change_records}

-- what a call with the log comes to: the answer, the board with its records not yet counted, and those records
pub record ModeResult : Type 0 where
  pub answer : Answer
  pub board : Board
  pub records : List Record

abbrev pub declined : ℕ → Board → ModeResult
declined n b = record { answer = Refused n; board = b; records = [] }

-- the records that a change of mode of track i to `mode` writes, with the clock as it is, position and passes before any rewinding
abbrev pub call_records : Board → ℕ → ℕ → List Record
call_records b i mode =
    let t = track_at b.tracks i in
    change_records b.clock.0 i t mode t.position.0 t.passes.0

-- track i goes to `mode`
abbrev pub changing : Board → ℕ → ℕ → ModeResult
changing b i mode =
    record {
      answer = Accepted;
      board = board_with b (set b.tracks i (entered (track_at b.tracks i) mode)) b.present b.points b.held;
      records = call_records b i mode;
    }

-- 8 the mode call's record doesn't fit
unfoldable pub changes_to : Board → ℕ → ℕ → ℕ → ModeResult
changes_to b n i mode = cond (leb (b.held + length (call_records b i mode)) (capacity n)) (changing b i mode) (declined 8 b)

-- 2 mode does not allow the call
unfoldable pub decided : Board → ℕ → ℕ → Option ℕ → ModeResult
decided b n i (Some mode) = changes_to b n i mode
decided b n i None = declined 2 b

-- 3 broken, 7 capacity below held, 1 track, 2 mode, 8 no room; n is the log's length
unfoldable pub mode_result : Board → ℕ → ℤ → ℕ → ModeResult
mode_result b n track call =
    cond (unbroken_test b)
    (cond (leb b.held (capacity n))
    (on_some (found_in b.present track) (λ i. decided b n i (grid_of (track_at b.tracks i).mode call)) (declined 1 b))
    (declined 7 b))
    (declined 3 b)

-- the board b with the change of a mode call: one track put in its place, and the number of records held
abbrev pub changed_by : Board → ModeChange → Board
changed_by b r = board_with b (set b.tracks r.at r.track) b.present b.points r.held

-- the board b after a mode call that came to r, and the answer
abbrev pub outcome_of : Board → Result ModeChange Refusal → Outcome
outcome_of b (Ok r) = accepted (changed_by b r)
outcome_of b (Err e) = refused (number_of e) b
