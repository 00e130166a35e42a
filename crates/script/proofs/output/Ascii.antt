-- Each line that this crate hands out is ASCII, and shorter than a line's room.
use Prim.Native.Nat.{ℕ, suc, ◌+◌, ◌*◌}
use mathlib.Core.List.{[], ◌∷◌, ◌++◌}
use native.Mathlib.Omega.{arith}
use Rattle.board.specs.Log.{RecordValues}
use Rattle.board.specs.Call.{Reply, accepted, refused, done, log_full, clock_ended, clock_is, track_is, point_is, count_is}
use Rattle.script.specs.Bytes.{comma, lf}
use Rattle.script.specs.Text.{digits_most, signed, number_then}
use Rattle.script.specs.Output.{refused_line, short_line, end_line, record_head, record_line, note_of}
use Rattle.script.proofs.text.Ascii.{AsciiWithin, ascii-more, ascii-none, ascii-byte, ascii-append, signed-ascii, number-ascii}

-- the bytes of a line that is handed out, at most: a record has seven numbers, each with its sign or the byte behind it, and the comma behind its position
abbrev pub printed_most : ℕ
printed_most = 7 * suc digits_most + 1

-- ---- a number and a comma, a number and a line's end

comma-ascii : (n : ℕ) → AsciiWithin (suc digits_most) (number_then n comma)
comma-ascii n = number-ascii n comma (omega arith)

lf-ascii : (n : ℕ) → AsciiWithin (suc digits_most) (number_then n lf)
lf-ascii n = number-ascii n lf (omega arith)

-- ---- the lines

pub empty-ascii : AsciiWithin printed_most []
empty-ascii = ascii-more printed_most (omega arith) ascii-none

pub refused-ascii : (line n : ℕ) → AsciiWithin printed_most (refused_line line n)
refused-ascii line n =
    ascii-more printed_most (omega arith)
    (ascii-byte 114 (omega arith) (ascii-byte 101 (omega arith) (ascii-byte 102 (omega arith) (ascii-byte 117 (omega arith)
    (ascii-byte 115 (omega arith) (ascii-byte 101 (omega arith) (ascii-byte 100 (omega arith) (ascii-byte comma (omega arith)
    (ascii-append (number_then line comma) (number_then n lf) (comma-ascii line) (lf-ascii n))))))))))

pub short-ascii : (line taken reason : ℕ) → AsciiWithin printed_most (short_line line taken reason)
short-ascii line taken reason =
    ascii-more printed_most (omega arith)
    (ascii-byte 115 (omega arith) (ascii-byte 104 (omega arith) (ascii-byte 111 (omega arith) (ascii-byte 114 (omega arith)
    (ascii-byte 116 (omega arith) (ascii-byte comma (omega arith)
    (ascii-append (number_then line comma ++ number_then taken comma) (number_then reason lf)
    (ascii-append (number_then line comma) (number_then taken comma) (comma-ascii line) (comma-ascii taken)) (lf-ascii reason))))))))

pub end-ascii : (clock held : ℕ) → AsciiWithin printed_most (end_line clock held)
end-ascii clock held =
    ascii-more printed_most (omega arith)
    (ascii-byte 101 (omega arith) (ascii-byte 110 (omega arith) (ascii-byte 100 (omega arith) (ascii-byte comma (omega arith)
    (ascii-append (number_then clock comma) (number_then held lf) (comma-ascii clock) (lf-ascii held))))))

-- the numbers of a record but for its position and passes
head-ascii : (r : RecordValues) → AsciiWithin (5 * suc digits_most) (record_head r)
head-ascii r =
    ascii-append _ (number_then r.detail comma)
    (ascii-append _ (number_then r.event comma)
    (ascii-append _ (number_then r.kind comma) (ascii-append (number_then r.clock comma) (number_then r.track comma) (comma-ascii r.clock) (comma-ascii r.track)) (comma-ascii r.kind))
    (comma-ascii r.event)) (comma-ascii r.detail)

pub record-ascii : (r : RecordValues) → AsciiWithin printed_most (record_line r)
record-ascii r =
    ascii-more printed_most (omega arith)
    (ascii-append _ (number_then r.passes lf)
    (ascii-append (record_head r) (signed r.position ++ (comma ∷ [])) (head-ascii r)
    (ascii-append (signed r.position) (comma ∷ []) (signed-ascii r.position) (ascii-byte comma (omega arith) ascii-none))) (lf-ascii r.passes))

pub note-ascii : (line : ℕ) (reply : Reply) → AsciiWithin printed_most (note_of line reply)
note-ascii line accepted = empty-ascii
note-ascii line (refused n) = refused-ascii line n
note-ascii line (done n) = empty-ascii
note-ascii line (log_full n) = short-ascii line n 1
note-ascii line (clock_ended n) = short-ascii line n 2
note-ascii line (clock_is c held) = empty-ascii
note-ascii line (track_is t) = empty-ascii
note-ascii line (point_is p) = empty-ascii
note-ascii line (count_is n) = empty-ascii
