-- The lines that the runner prints (01, "Script lines").
use Rattle.std.specs.Prelude.{ℕ, zero, suc, ◌≤◌, ◌<◌, ◌≡◌, List, [], ◌∷◌, ◌++◌, length, take, drop}
use Rattle.board.specs.Log.{record_width, RecordValues, LogReply, unpack_of, record_values}
use Rattle.board.specs.Log as log
use Rattle.board.specs.Call.{Reply, accepted, refused, done, log_full, clock_ended, clock_is, track_is, point_is, count_is}
use Rattle.script.specs.declared.output.Shown.{Shown}
use Rattle.script.specs.Bytes.{lf, comma}
use Rattle.script.specs.Text.{line_room, signed, number_then}
use Rattle.board.specs.declared.log.Record.{Record}

-- refused,line,number
abbrev pub refused_line : ℕ → ℕ → List ℕ
refused_line line n = (114 ∷ 101 ∷ 102 ∷ 117 ∷ 115 ∷ 101 ∷ 100 ∷ comma ∷ []) ++ number_then line comma ++ number_then n lf

-- short,line,taken,reason
abbrev pub short_line : ℕ → ℕ → ℕ → List ℕ
short_line line taken reason =
    (115 ∷ 104 ∷ 111 ∷ 114 ∷ 116 ∷ comma ∷ []) ++ number_then line comma ++ number_then taken comma ++ number_then reason lf

-- end,clock,held
abbrev pub end_line : ℕ → ℕ → List ℕ
end_line clock held = (101 ∷ 110 ∷ 100 ∷ comma ∷ []) ++ number_then clock comma ++ number_then held lf

-- clock, track, kind, event, detail
abbrev pub record_head : RecordValues → List ℕ
record_head r =
    number_then r.clock comma
    ++ number_then r.track comma
    ++ number_then r.kind comma
    ++ number_then r.event comma
    ++ number_then r.detail comma

-- and position, passes
abbrev pub record_line : RecordValues → List ℕ
record_line r = record_head r ++ (signed r.position ++ (comma ∷ [])) ++ number_then r.passes lf

-- the line of 16 bytes of the log, if they are a record
abbrev pub unpacked_line : LogReply → List ℕ
unpacked_line (log.record_is r) = record_line r
unpacked_line (log.refused n) = []
unpacked_line log.packed = []

-- each of so many records, from these bytes of the log on
abbrev pub record_lines : ℕ → List ℕ → List ℕ
record_lines zero log = []
record_lines (suc n) log = unpacked_line (unpack_of (take record_width log)) ++ record_lines n (drop record_width log)

-- records, one line each
abbrev pub line_each : List Record → List ℕ
line_each [] = []
line_each (r ∷ rs) = record_line (record_values r) ++ line_each rs

-- what is printed of a line's answer: reasons are 1 LogFull, 2 ClockEnd
abbrev pub note_of : ℕ → Reply → List ℕ
note_of line accepted = []
note_of line (refused n) = refused_line line n
note_of line (done n) = []
note_of line (log_full n) = short_line line n 1
note_of line (clock_ended n) = short_line line n 2
note_of line (clock_is c held) = []
note_of line (track_is t) = []
note_of line (point_is p) = []
note_of line (count_is n) = []

-- ---- what the code holds

-- Records have been written into an empty buffer as long as it had room; what is left is still to be written.
pub record Shows (log : List ℕ) (at left : ℕ) (r : Shown) (out out' : List ℕ) : Type 0 where
  pub text_is : record_lines left (drop at log) ≡ take r.used out' ++ record_lines r.left (drop r.at log)
  pub within : r.used ≤ length out
  pub long : length out' ≡ length out
  pub further : line_room ≤ length out → 0 < left → r.left < left
