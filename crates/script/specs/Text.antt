-- Numbers in base ten, and what is written into a buffer.
use Rattle.std.specs.Prelude.{ℕ, zero, suc, ◌+◌, ◌/◌, ◌%◌, ◌≤◌, ◌≡◌, cond, List, [], ◌∷◌, ◌++◌, ltb, ℤ, pos, negsuc, length, take}
use Rattle.script.specs.declared.text.Out.{Out}
use Rattle.script.specs.Bytes.{minus, digit_zero}

-- the digits of n, at most f of them, and then rest
unfoldable pub digits_then : ℕ → ℕ → List ℕ → List ℕ
digits_then zero n rest = rest
digits_then (suc f) n rest = cond (ltb n 10) ((digit_zero + n) ∷ rest) (digits_then f (n / 10) ((digit_zero + n % 10) ∷ rest))

-- the digits of a number of 64 bits, at most
abbrev pub digits_most : ℕ
digits_most = 20

-- a number of 64 bits in base ten
abbrev pub decimal : ℕ → List ℕ
decimal n = digits_then digits_most n []

-- with `-` before it if negative
abbrev pub signed : ℤ → List ℕ
signed (pos n) = decimal n
signed (negsuc n) = minus ∷ decimal (suc n)

-- a number and the byte behind it
abbrev pub number_then : ℕ → ℕ → List ℕ
number_then n b = decimal n ++ (b ∷ [])

-- ---- what the code holds

-- the bytes of a line, at most
abbrev pub line_room : ℕ
line_room = 160

-- what has been written
abbrev pub text_of : Out → List ℕ
text_of o = take o.length o.bytes

-- more is written behind what was, in so many bytes at most
pub record Adds (o : Out) (more : List ℕ) (most : ℕ) (r : Out) : Type 0 where
  pub adds : text_of r ≡ text_of o ++ more
  pub few : r.length ≤ o.length + most

-- a text has been written into a buffer, of which so many bytes were used
pub record Wrote (text : List ℕ) (used : ℕ) (out : List ℕ) (used' : ℕ) (out' : List ℕ) : Type 0 where
  pub text_is : take used' out' ≡ take used out ++ text
  pub few : used' ≤ used + line_room
  pub long : length out' ≡ length out
