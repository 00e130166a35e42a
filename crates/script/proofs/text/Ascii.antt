-- Numbers are written in ASCII, so that a caller may take them for a `str`: in digits_most bytes at most, one more with a sign before or a byte behind.
use Prim.Native.Nat.{ℕ, zero, suc, ◌+◌, ◌/◌, ◌%◌, ◌≤◌, ◌<◌}
use Rattle.std.specs.Prelude.{IsAscii}
use Rattle.std.proofs.lemmas.Str.{IsAscii-append}
use Rattle.std.proofs.lemmas.Str.Ascii.{IsAscii-nil, IsAscii-cons}
use mathlib.Core.List.{List, [], ◌∷◌, ◌++◌}
use native.Mathlib.Omega.{arith}
use lib.Dec.{ltb}
use lib.IntN.{ℤ, pos, negsuc}
use lib.ListN.{length, length-append}
use borrow.Author.Tests.{ltb-true}
use Rattle.track.proofs.Tests.{cond_cases}
use Rattle.script.specs.Bytes.{minus, digit_zero}
use Rattle.script.specs.Text.{digits_then, digits_most, decimal, signed, number_then}

-- ASCII bytes, so many at most
pub record AsciiWithin (most : ℕ) (text : List ℕ) : Type 0 where
  pub ascii : IsAscii text
  pub within : length text ≤ most

pub ascii-more : {m : ℕ} (n : ℕ) {text : List ℕ} → m ≤ n → AsciiWithin m text → AsciiWithin n text
ascii-more n h a = record { ascii = a.ascii; within = omega (arith, a.within, h) }

pub ascii-none : AsciiWithin 0 []
ascii-none = record { ascii = IsAscii-nil; within = omega arith }

pub ascii-byte : (b : ℕ) {n : ℕ} {text : List ℕ} → b < 128 → AsciiWithin n text → AsciiWithin (suc n) (b ∷ text)
ascii-byte b {text = text} h a = record { ascii = IsAscii-cons b text h a.ascii; within = omega (arith, a.within) }

pub ascii-append : {m n : ℕ} (xs ys : List ℕ) → AsciiWithin m xs → AsciiWithin n ys → AsciiWithin (m + n) (xs ++ ys)
ascii-append xs ys a b =
    record { ascii = IsAscii-append xs ys a.ascii b.ascii; within = omega (arith, a.within, b.within, length-append xs ys) }

-- ---- numbers

digits-ascii : (f n : ℕ) {m : ℕ} (rest : List ℕ) → AsciiWithin m rest → AsciiWithin (m + f) (digits_then f n rest)
unfolding digits_then
digits-ascii zero n {m = m} rest a = ascii-more (m + zero) (omega arith) a
digits-ascii (suc f) n {m = m} rest a =
    cond_cases (AsciiWithin (m + suc f)) (ltb n 10)
    (λ e. ascii-more (m + suc f) (omega arith) (ascii-byte (digit_zero + n) (omega (arith, ltb-true n 10 e)) a))
    (λ e. ascii-more (m + suc f) (omega arith) (digits-ascii f (n / 10) ((digit_zero + n % 10) ∷ rest) (ascii-byte (digit_zero + n % 10) (omega arith) a)))

decimal-ascii : (n : ℕ) → AsciiWithin digits_most (decimal n)
decimal-ascii n = digits-ascii digits_most n [] ascii-none

pub signed-ascii : (z : ℤ) → AsciiWithin (suc digits_most) (signed z)
signed-ascii (pos n) = ascii-more (suc digits_most) (omega arith) (decimal-ascii n)
signed-ascii (negsuc n) = ascii-byte minus (omega arith) (decimal-ascii (suc n))

-- a number and an ASCII byte behind it
pub number-ascii : (n b : ℕ) → b < 128 → AsciiWithin (suc digits_most) (number_then n b)
number-ascii n b h = ascii-append (decimal n) (b ∷ []) (decimal-ascii n) (ascii-byte b h ascii-none)
