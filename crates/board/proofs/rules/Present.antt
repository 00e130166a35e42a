-- The word of the tracks that are present.
use Rattle.std.specs.Prelude.{Option, Some, None}
use Prim.Native.Nat.{ℕ, zero, suc, ◌+◌, ◌*◌, ◌/◌, ◌%◌, ◌^◌, ◌<◌}
use mathlib.Core.Path.{◌≡◌, refl, ◌∙◌, ap, subst}
use mathlib.Core.Bool.{Bool, true, false, cond}
use native.Mathlib.Nat.{pow-suc, one-mul, mod-eq_of_lt}
use lib.Pow.{pow-lt}
use native.Mathlib.Omega.{arith}
use lib.Dec.{eqb}
use lib.IntN.{ℤ}
use borrow.Author.Tests.{eqb-false, eqb-true}
use Rattle.track.specs.Number.{natural_of, on_some}
use Rattle.board.specs.Board.{is_present, found_in}
use Rattle.board.specs.Points.{track_count}
use Rattle.board.proofs.rules.Broken.{present-bit, present-small, half-bit}

Present? : ℕ → Option ℕ → Type 0
Present? present (Some i) = is_present present i ≡ true
Present? present None = Unit {0}

-- a track that is found is present
pub found_in_lem : (present : ℕ) (track : ℤ) {i : ℕ} → found_in present track ≡ Some i → is_present present i ≡ true
unfolding Present? found_in
found_in_lem present track e = subst (Present? present) e (go (natural_of track 0 15))
  where
    at : (i : ℕ) (b : Bool) → is_present present i ≡ b → Present? present (cond b (Some i) None)
    at i true e = e
    at i false e = tt

    go : (n : Option ℕ) → Present? present (on_some n (λ i. cond (is_present present i) (Some i) None) None)
    go (Some i) = at i (is_present present i) refl
    go None = tt

-- and has a number below 16
pub found-below : (present : ℕ) (track : ℤ) {i : ℕ} → found_in present track ≡ Some i → i < track_count
found-below present track e = present-small present _ (found_in_lem present track e)

-- a word of n bits has room for a bit that is not set
grows : (i n word : ℕ) → i < n → word < 2 ^ n → word / 2 ^ i % 2 ≡ 0 → word + 2 ^ i < 2 ^ n
grows i zero word l h e = absurd (omega arith)
grows zero (suc n) word l h e =
    let w : word % 2 ≡ 0 = omega (arith, e) in
    let p = pow-suc 2 n in
    omega arith
grows (suc i) (suc n) word l h e =
    let half = grows i n (word / 2) (omega arith) (let p = pow-suc 2 n in omega arith) (ap (λ (m : ℕ). m % 2) (half-bit word i) ∙ e) in
    let p = pow-suc 2 n in
    let q = pow-suc 2 i in
    omega arith

pub with-track-fits : (word i : ℕ) → word < 65536 → i < track_count → is_present word i ≡ false → word + 2 ^ i < 65536
with-track-fits word i h l e =
    grows i 16 word l h (let n = eqb-false (word / 2 ^ i % 2) 1 (present-bit word i l ∙ e) in omega arith)

-- a bit as the code makes it
pub bit_is : (i : ℕ) → i < track_count → 1 * 2 ^ i % 65536 ≡ 2 ^ i
bit_is i h = ap (λ (m : ℕ). m % 65536) (one-mul (2 ^ i)) ∙ mod-eq_of_lt (pow-lt h)

-- a target that keeps its rule is below 16
pub target_below : (present command target : ℕ) → cond (eqb command 0) (eqb target 0) (is_present present target) ≡ true → target < track_count
target_below present command target = go (eqb command 0)
  where
    go : (z : Bool) → cond z (eqb target 0) (is_present present target) ≡ true → target < track_count
    go true e = let h = eqb-true target 0 e in omega arith
    go false e = present-small present target e
