-- The log: numbers as bytes, a part of a list written over, and the record (01, "Log record"): 16 bytes, lowest byte first.
use Rattle.std.specs.Prelude.{List, [], ◌∷◌, ◌++◌, ℕ, zero, suc, ◌+◌, ◌-◌, ◌*◌, ◌/◌, ◌%◌, length, take, drop, get_or, Bool, cond, ◌&&◌, eqb, ltb, leb, ℤ, pos, negsuc, Result, Ok, Err, ⊤}
use Rattle.track.specs.declared.Coordinate.{Coordinate}
use Rattle.track.specs.Number.{value_of}
use Rattle.track.specs.declared.refusal.Refusal.{Refusal}
use Rattle.track.specs.Refusal.{number_of}
use Rattle.board.specs.declared.log.Record.{Record}

-- x in n bytes, lowest byte first
unfoldable pub le : ℕ → ℕ → List ℕ
le zero x = []
le (suc n) x = x % 256 ∷ le n (x / 256)

-- the number that bytes spell, lowest byte first
unfoldable pub from_le : List ℕ → ℕ
from_le [] = 0
from_le (b ∷ bs) = b + 256 * from_le bs

-- xs with ys over the elements from `at` on; every other element is as it was
unfoldable pub write_at : List ℕ → ℕ → List ℕ → List ℕ
write_at xs at ys = take at xs ++ (ys ++ drop (at + length ys) xs)

-- the bytes of a record
abbrev pub record_width : ℕ
record_width = 16

-- a detail is one number times this, and another
abbrev pub detail_unit : ℕ
detail_unit = 16

-- kinds 1 to 4: point, mode change, refused command, and "Packing and unpacking accept kind 4", a band entered
unfoldable pub kind_test : ℕ → Bool
kind_test k = leb 1 k && leb k 4

-- a number as a word of 4 bytes in two's complement; and back, where a word from 2,147,483,648 on is negative
unfoldable pub twos_of : ℤ → ℕ
twos_of (pos k) = k
twos_of (negsuc k) = 4294967296 - suc k

unfoldable pub signed_of : ℕ → ℤ
signed_of w = cond (ltb w 2147483648) (pos w) (negsuc (4294967295 - w))

-- the position that a record's coordinate stands for: less 1,000,000, and from 2,148,483,648 on less 4,294,967,296 more
unfoldable pub position_of : Coordinate → ℤ
position_of c = cond (ltb c.0 2148483648) (value_of c) (negsuc (4295967295 - c.0))

-- A record, as 01 has it: its position signed.
pub record RecordValues : Type 0 where
  pub clock : ℕ
  pub track : ℕ
  pub kind : ℕ
  pub event : ℕ
  pub detail : ℕ
  pub position : ℤ
  pub passes : ℕ

abbrev pub record_values : Record → RecordValues
record_values r =
    record {
      clock = r.clock.0;
      track = r.track;
      kind = r.kind;
      event = r.event;
      detail = r.detail;
      position = position_of r.position;
      passes = r.passes.0;
    }

-- clock (4), track (1), kind (1), event (1), detail (1), position (4, two's complement), passes (4)
unfoldable pub bytes_of : RecordValues → List ℕ
bytes_of v =
    le 4 v.clock ++ ((v.track ∷ v.kind ∷ v.event ∷ v.detail ∷ []) ++ (le 4 (twos_of v.position) ++ le 4 v.passes))

unfoldable pub record_bytes : Record → List ℕ
record_bytes r = bytes_of (record_values r)

-- the record that 16 bytes spell
unfoldable pub spelled : List ℕ → RecordValues
spelled s =
    record {
      clock = from_le (take 4 s);
      track = get_or s 4 0;
      kind = get_or s 5 0;
      event = get_or s 6 0;
      detail = get_or s 7 0;
      position = signed_of (from_le (take 4 (drop 8 s)));
      passes = from_le (take 4 (drop 12 s));
    }

-- An answer to packing or unpacking, by 01's numbers and values: packed, a record, or a refusal's number.
pub data LogReply : Type 0 where
  packed : LogReply
  record_is : RecordValues → LogReply
  refused : ℕ → LogReply

abbrev pub pack_said : Result ⊤ Refusal → LogReply
pack_said (Ok x) = packed
pack_said (Err e) = refused (number_of e)

abbrev pub unpack_said : Result Record Refusal → LogReply
unpack_said (Ok r) = record_is (record_values r)
unpack_said (Err e) = refused (number_of e)

-- Unpacking a slice that isn't 16 bytes long, or has another kind, is refused 3.
unfoldable pub unpack_of : List ℕ → LogReply
unpack_of s = cond (eqb (length s) record_width && kind_test (get_or s 5 0)) (record_is (spelled s)) (refused 3)

-- Packing at a place: refused 3 for another kind, or where 16 bytes do not fit there; else every other byte stays.
unfoldable pub pack_answer : Record → List ℕ → ℕ → LogReply
pack_answer r s at = cond (kind_test r.kind && leb (at + record_width) (length s)) packed (refused 3)

unfoldable pub pack_bytes : Record → List ℕ → ℕ → List ℕ
pack_bytes r s at = cond (kind_test r.kind && leb (at + record_width) (length s)) (write_at s at (record_bytes r)) s

-- the bytes of records, one behind the other
unfoldable pub log_bytes : List Record → List ℕ
log_bytes [] = []
log_bytes (r ∷ rs) = record_bytes r ++ log_bytes rs

-- Capacity is the log's length over 16, rounded down.
abbrev pub capacity : ℕ → ℕ
capacity n = n / record_width
