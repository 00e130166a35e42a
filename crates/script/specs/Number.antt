-- The numbers of a script line (01, "Script lines").
use Rattle.std.specs.Prelude.{ℕ, ◌+◌, ◌-◌, ◌*◌, Bool, cond, ◌&&◌, List, [], ◌∷◌, leb, eqb, ℤ, pos, neg_ℤ, Option, Some, None}
use Rattle.script.specs.Bytes.{minus, digit_zero, digit_nine}

abbrev pub is_digit : ℕ → Bool
is_digit b = leb digit_zero b && leb b digit_nine

-- the greatest size of a number
abbrev pub size_most : ℕ
size_most = 4294967295

-- the number whose digits are those of v and then s
unfoldable pub size_from : ℕ → List ℕ → Option ℕ
size_from v [] = cond (leb v size_most) (Some v) None
size_from v (b ∷ s) = cond (is_digit b) (size_from (v * 10 + (b - digit_zero)) s) None

-- a zero stands alone
abbrev pub zero_alone : List ℕ → Option ℕ
zero_alone [] = Some 0
zero_alone (b ∷ s) = None

-- `0`, or digits without leading zero
unfoldable pub size_of : List ℕ → Option ℕ
size_of [] = None
size_of (b ∷ s) = cond (eqb b digit_zero) (zero_alone s) (size_from 0 (b ∷ s))

abbrev pub positive : Option ℕ → Option ℤ
positive (Some n) = Some (pos n)
positive None = None

-- `-0` is none
abbrev pub negative : Option ℕ → Option ℤ
negative (Some n) = cond (eqb n 0) None (Some (neg_ℤ (pos n)))
negative None = None

-- with `-` before it if negative
unfoldable pub number_of : List ℕ → Option ℤ
number_of [] = None
number_of (b ∷ s) = cond (eqb b minus) (negative (size_of s)) (positive (size_of (b ∷ s)))
