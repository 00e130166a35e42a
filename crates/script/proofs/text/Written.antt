-- The laws of what is written: std's numbers in base ten are ours, and a coordinate's four bytes with their sign are its position.
use Rattle.std.proofs.Common.{ℕ, suc, ◌^◌, ◌<◌, ◌≡◌, refl, sym, ◌∙◌, ap, [], ◌∷◌, append-nil, arith, lt-ltb, le-ltb, pos, negsuc, ◌+◌, ◌-◌, ◌%◌, ◌≤◌, List, length, take, min}
use Rattle.std.specs.Fmt as fmt
use Rattle.std.proofs.lemmas.List.{take_min}
use Rattle.std.proofs.lemmas.Fmt.{PrependsLastDigit, decimal_from_prepends, length-decimal-le}
use Rattle.track.specs.declared.Coordinate.{Coordinate}
use Rattle.track.specs.Number.{value_of}
use Rattle.board.specs.Log.{position_of}
use Rattle.script.specs.Text.{digits_then, decimal, signed, line_room}

prepends : PrependsLastDigit digits_then
unfolding digits_then
prepends = record { one = λ k n acc h. rw (lt-ltb n 10 h) refl; more = λ k n acc h. rw (le-ltb n 10 h) refl }

pub decimal_is : (n : ℕ) → n < 2 ^ 64 → fmt.decimal n ≡ decimal n
decimal_is n h = sym (decimal_from_prepends digits_then prepends 20 n [] h (length-decimal-le 20 n (omega arith) (omega arith) h) ∙ append-nil (fmt.decimal n))

-- how far a coordinate's four bytes are past those of position 0
abbrev past_zero : Coordinate → ℕ
past_zero c = (c.0 + (2 ^ 32 - 1000000)) % 2 ^ 32

position-ahead : (c : Coordinate) → c.0 < 2 ^ 32 → past_zero c < 2 ^ 31 → position_of c ≡ pos (past_zero c)
unfolding position_of value_of
position-ahead c h l = grind arith

position-below : (c : Coordinate) → c.0 < 2 ^ 32 → 2 ^ 31 ≤ past_zero c → position_of c ≡ negsuc (2 ^ 32 - suc (past_zero c))
unfolding position_of value_of
position-below c h l = grind arith

-- a position without sign, and one behind a sign: its size is what the bytes lack to zero
pub ahead_is : (c : Coordinate) → c.0 < 2 ^ 32 → past_zero c < 2 ^ 31 → fmt.decimal (past_zero c) ≡ signed (position_of c)
ahead_is c h l = decimal_is (past_zero c) (omega arith) ∙ ap signed (sym (position-ahead c h l))

pub below_is : (c : Coordinate) (n : ℕ) → c.0 < 2 ^ 32 → n < 2 ^ 32 → 2 ^ 31 ≤ past_zero c → (n + past_zero c) % 2 ^ 32 ≡ 0
    → 45 ∷ fmt.decimal n ≡ signed (position_of c)
below_is c n h f l z =
    let e : n ≡ suc (2 ^ 32 - suc (past_zero c)) = omega arith in
    ap (λ k. 45 ∷ k) (decimal_is n (omega arith) ∙ ap decimal e) ∙ ap signed (sym (position-below c h l))

-- a line longer than its room is what the room holds
pub within_room : (n : ℕ) (bytes : List ℕ) → length bytes ≡ line_room → take (min n line_room) bytes ≡ take n bytes
within_room n bytes e = ap (λ k. take (min n k) bytes) (sym e) ∙ take_min n bytes
