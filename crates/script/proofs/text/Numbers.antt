-- A number that is printed is read as that number.
use Prim.Native.Nat.{ℕ, zero, suc, ◌+◌, ◌*◌, ◌-◌, ◌/◌, ◌%◌, ◌^◌, ◌≤◌, ◌<◌}
use mathlib.Core.Path.{◌≡◌, refl, sym, ap, subst, ◌∙◌}
use mathlib.Core.List.{List, [], ◌∷◌, ◌++◌, append_assoc, append-nil}
use native.Mathlib.Omega.{arith}
use lib.IntN.{ℤ, pos, negsuc, nat_abs}
use lib.ListN.{get_or}
use borrow.Author.Tests.{le-leb, ne_eqb}
use Rattle.std.proofs.Common.{Some}
use Rattle.script.specs.Number.{size_from, size_of, number_of, positive, negative}
use Rattle.script.specs.Text.{digits_then, decimal, signed}
use Rattle.script.proofs.text.Written.{decimal_is}
use Rattle.std.specs.Fmt as fmt
use Rattle.std.proofs.lemmas.Fmt.{decimal_by_steps, first_decimal}

-- ---- digits

digit-read : (v d : ℕ) (rest : List ℕ) → d < 10 → size_from v ((48 + d) ∷ rest) ≡ size_from (v * 10 + d) rest
unfolding size_from
digit-read v d rest h =
    let e : 48 + d - 48 ≡ d = omega arith in
    rw (le-leb 48 (48 + d) (omega arith), le-leb (48 + d) 57 (omega arith), e) refl

-- read digit by digit they come to the number
digits-read : (n : ℕ) (rest : List ℕ) → n < 2 ^ 64 → size_from 0 (fmt.decimal n ++ rest) ≡ size_from n rest
digits-read n rest h = decimal_by_steps (λ n ds. (rest : List ℕ) → size_from 0 (ds ++ rest) ≡ size_from n rest) one more n h rest
  where
    one : (n : ℕ) → n < 10 → (rest : List ℕ) → size_from 0 ((48 + n) ∷ rest) ≡ size_from n rest
    one n l rest =
        let z : 0 * 10 + n ≡ n = omega arith in
        digit-read 0 n rest l ∙ ap (λ (v : ℕ). size_from v rest) z

    more : (n : ℕ) (ds : List ℕ) → 10 ≤ n → ((rest : List ℕ) → size_from 0 (ds ++ rest) ≡ size_from (n / 10) rest) → (rest : List ℕ) →
        size_from 0 ((ds ++ ((48 + n % 10) ∷ [])) ++ rest) ≡ size_from n rest
    more n ds l e rest =
        let q : n / 10 * 10 + n % 10 ≡ n = omega arith in
        ap (size_from 0) (append_assoc ds ((48 + n % 10) ∷ []) rest)
        ∙ e ((48 + n % 10) ∷ rest)
        ∙ digit-read (n / 10) (n % 10) rest (omega arith)
        ∙ ap (λ (v : ℕ). size_from v rest) q

-- the first is no zero
digits-first : (n : ℕ) → n < 2 ^ 64 → 0 < n → 48 < get_or (decimal n) 0 0
digits-first n h p = subst (λ (ds : List ℕ). 48 < get_or ds 0 0) (decimal_is n h) (first_decimal n p h)

-- ---- numbers

first_read : (s : List ℕ) → 48 < get_or s 0 0 → size_of s ≡ size_from 0 s
unfolding size_of
first_read [] h = absurd (omega arith)
first_read (b ∷ s) h =
    let z : b ≡ 48 → ⊥ = λ e. omega arith in
    rw (ne_eqb b 48 z) refl

pub size-read : (n : ℕ) → n ≤ 4294967295 → size_of (decimal n) ≡ Some n
unfolding size_of size_from digits_then
size-read zero h = refl
size-read (suc n) h =
    first_read (decimal (suc n)) (digits-first (suc n) (omega arith) (omega arith))
    ∙ ap (size_from 0) (sym (append-nil (fmt.decimal (suc n)) ∙ decimal_is (suc n) (omega arith)))
    ∙ digits-read (suc n) [] (omega arith)
    ∙ rw (le-leb (suc n) 4294967295 h) refl

no_sign : (s : List ℕ) → 47 < get_or s 0 0 → number_of s ≡ positive (size_of s)
unfolding number_of
no_sign [] h = absurd (omega arith)
no_sign (b ∷ s) h =
    let z : b ≡ 45 → ⊥ = λ e. omega arith in
    rw (ne_eqb b 45 z) refl

zero-read : number_of (decimal 0) ≡ Some (pos 0)
unfolding number_of size_of digits_then
zero-read = refl

below-read : (s : List ℕ) (n : ℕ) → size_of s ≡ Some (suc n) → number_of (45 ∷ s) ≡ Some (negsuc n)
unfolding number_of
below-read s n e = ap negative e ∙ rw (ne_eqb (suc n) 0 (λ z. omega arith)) refl

-- a number of the grammar, and a negative one with its sign
pub number_read : (z : ℤ) → nat_abs z ≤ 4294967295 → number_of (signed z) ≡ Some z
number_read (pos zero) h = zero-read
number_read (pos (suc n)) h =
    let f = digits-first (suc n) (omega arith) (omega arith) in
    no_sign (decimal (suc n)) (omega arith) ∙ ap positive (size-read (suc n) h)
number_read (negsuc n) h = below-read (decimal (suc n)) n (size-read (suc n) h)
