-- The laws of numbers as they are read, digit by digit.
use Prim.Native.Nat.{ℕ, zero, suc, ◌+◌, ◌-◌, ◌*◌, ◌^◌, ◌≤◌, ◌<◌}
use mathlib.Core.Path.{◌≡◌, refl, sym, ap, ◌∙◌}
use mathlib.Core.List.{List, [], ◌∷◌}
use mathlib.Core.Bool.{Bool, true, false, cond, ◌&&◌}
use mathlib.Core.Logic.{◌⊎◌, inl, inr}
use native.Mathlib.Omega.{arith}
use native.Mathlib.Numerals.{add-one}
use lib.ListN.{length, get_or, take, drop, drop_of_length-le}
use lib.Seq.{drop-cons}
use lib.Dec.{eqb}
use lib.Pointwise.{pointwise}
use lib.IntN.{ℤ, pos, neg_ℤ, ◌-ℤ◌, +ℤ_idl}
use mir.Syntax.{w64}
use mir.Val.{SFits, to_z, of_z}
use mir.Facts.{to_z-of_z}
use borrow.Author.Tests.{eq-eqb, ne_eqb, le-leb, lt-leb}
use Rattle.std.proofs.Common.{Option, Some, None, slice_get}
use Rattle.script.specs.Number.{is_digit, size_from, size_of, number_of, positive, negative}

-- without a digit there is no number
pub size_none : (s : List ℕ) → None ≡ slice_get s 0 → None ≡ size_of s
unfolding size_of
size_none [] e = refl
size_none (b ∷ s) e = cc

pub size-more : (s : List ℕ) (b : ℕ) → Some b ≡ slice_get s 0 → b ≡ 48 → 1 < length s → None ≡ size_of s
unfolding size_of
size-more [] b e z h = absurd (omega arith)
size-more (a ∷ []) b e z h = absurd (omega arith)
size-more (a ∷ d ∷ s) b e z h =
    let q : a ≡ 48 = cc in
    rw (eq-eqb a 48 q) refl

pub size-start : (s : List ℕ) (b : ℕ) → Some b ≡ slice_get s 0 → ((b ≡ 48) × (length s ≤ 1)) ⊎ (b ≡ 48 → ⊥) → size_from 0 s ≡ size_of s
unfolding size_of size_from
size-start [] b e h = cc
size-start (a ∷ []) b e (inl h) =
    let q : a ≡ 48 = cc in
    rw q refl
size-start (a ∷ d ∷ s) b e (inl h) = absurd (omega arith)
size-start (a ∷ s) b e (inr h) =
    let q : a ≡ b = cc in
    rw (ne_eqb a 48 (λ z. h (sym q ∙ z))) refl

-- digits only make a number greater
size-over : (v : ℕ) (s : List ℕ) → 4294967295 < v → size_from v s ≡ None
unfolding size_from
size-over v [] h = rw (lt-leb v 4294967295 h) refl
size-over v (b ∷ s) h = go (is_digit b) (size-over (v * 10 + (b - 48)) s (omega arith))
  where
    go : (t : Bool) {x : Option ℕ} → x ≡ None → cond t x None ≡ None
    go true e = e
    go false e = refl

module _ (v : ℕ) (s : List ℕ) (i : ℕ) (within : i < length s) where
  pub size-stop : false ≡ is_digit (get_or s i 0) → size_from v (drop i s) ≡ None
  unfolding size_from
  size-stop e = rw (drop-cons s i 0 within, sym e) refl

  pub size-next : true ≡ is_digit (get_or s i 0) → size_from (v * 10 + (get_or s i 0 - 48)) (drop (i + 1) s) ≡ size_from v (drop i s)
  unfolding size_from
  size-next e = rw (drop-cons s i 0 within, sym e, add-one) refl

  pub size-great : true ≡ is_digit (get_or s i 0) → 4294967295 < v * 10 + (get_or s i 0 - 48) → None ≡ size_from v (drop i s)
  size-great e h = sym (size-over (v * 10 + (get_or s i 0 - 48)) (drop (i + 1) s) h) ∙ size-next e

pub size-done : (v : ℕ) (s : List ℕ) (i : ℕ) → length s ≤ i → v ≤ 4294967295 → Some v ≡ size_from v (drop i s)
unfolding size_from
size-done v s i h l = rw (drop_of_length-le s {i = i} h, le-leb v 4294967295 l) refl

-- what the answers of a reading rest on
pub ruleset reading = (size_none, size-more, size-start, size-stop, size-next, size-great, size-done)

-- ---- numbers

no_minus_on : (b : ℕ) (s : List ℕ) (t : Bool) → eqb b 45 ≡ t → (t && true) ≡ false → positive (size_of (b ∷ s)) ≡ number_of (b ∷ s)
unfolding number_of
no_minus_on b s false e h = rw e refl
no_minus_on b s true e h = cc

pub no_minus : (s : List ℕ) → pointwise eqb (take 1 s) (45 ∷ []) ≡ false → positive (size_of s) ≡ number_of s
unfolding number_of size_of
no_minus [] h = refl
no_minus (b ∷ s) h = no_minus_on b s (eqb b 45) refl h

below_minus_on : (b : ℕ) (s : List ℕ) (t : Bool) → eqb b 45 ≡ t → (t && true) ≡ true → negative (size_of s) ≡ number_of (b ∷ s)
unfolding number_of
below_minus_on b s true e h = rw e refl
below_minus_on b s false e h = cc

pub below_minus : (s d : List ℕ) → pointwise eqb (take 1 s) (45 ∷ []) ≡ true → d ≡ drop 1 s → negative (size_of d) ≡ number_of s
below_minus [] d h e = cc
below_minus (b ∷ s) d h e = ap (λ (x : List ℕ). negative (size_of x)) e ∙ below_minus_on b s (eqb b 45) refl h

pub negative-zero : (n : ℕ) → n ≡ 0 → None ≡ negative (Some n)
negative-zero n z = rw (eq-eqb n 0 z) refl

pub negative-more : (n : ℕ) → (n ≡ 0 → ⊥) → Some (neg_ℤ (pos n)) ≡ negative (Some n)
negative-more n z = rw (ne_eqb n 0 z) refl

-- as 64 bits hold them
fits_neg : (n : ℕ) → n < 2 ^ 32 → SFits w64 (neg_ℤ (pos n))
fits_neg zero h = record { sfits = omega arith }
fits_neg (suc n) h = record { sfits = omega arith }

pub held : (n : ℕ) (z : ℤ) → n < 2 ^ 32 → z ≡ pos n → to_z w64 (of_z w64 z) ≡ pos n
held n z h e = ap (λ (x : ℤ). to_z w64 (of_z w64 x)) e ∙ to_z-of_z {w = w64} (record { sfits = omega arith })

pub held_minus : (n : ℕ) (z : ℤ) → n < 2 ^ 32 → z ≡ pos n → to_z w64 (of_z w64 (pos 0 -ℤ to_z w64 (of_z w64 z))) ≡ neg_ℤ (pos n)
held_minus n z h e =
    ap (λ (x : ℤ). to_z w64 (of_z w64 (pos 0 -ℤ x))) (held n z h e)
    ∙ ap (λ (x : ℤ). to_z w64 (of_z w64 x)) (+ℤ_idl (neg_ℤ (pos n)))
    ∙ to_z-of_z {w = w64} (fits_neg n h)
