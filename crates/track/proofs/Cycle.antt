-- Counting round a cycle of n places.
use Prim.Native.Nat.{ℕ, suc, ◌+◌, ◌-◌, ◌*◌, ◌/◌, ◌%◌, ◌≤◌, ◌<◌}
use mathlib.Core.Path.{◌≡◌, refl, ◌∙◌, ap}
use mathlib.Core.Bool.{Bool, true, false}
use lib.Dec.{ltb, leb}
use borrow.Author.Tests.{ltb-true, ltb-false, leb-true, leb-false}
use native.Mathlib.Nat.{div-add-mod', mod-lt, div-lt_iff_lt-mul, mul-div_cancel, mul-mod_left, mod-eq-sub-mod, mod-eq_of_lt}
use native.Mathlib.Omega.{arith}
use lib.Arith.{digits_div, digits_mod}
use Rattle.track.specs.Stride.{ahead}
use Rattle.track.proofs.Tests.{cond_cases}

module _ (x : ℕ) {n : ℕ} where
  -- one more, not at the last place
  pub near-mod : x % n + 1 < n → (x + 1) % n ≡ x % n + 1
  near-mod h = ap (λ (y : ℕ). y % n) (omega (arith, div-add-mod' x n)) ∙ digits_mod (x / n) h

  pub near_div : x % n + 1 < n → (x + 1) / n ≡ x / n
  near_div h = ap (λ (y : ℕ). y / n) (omega (arith, div-add-mod' x n)) ∙ digits_div (x / n) h

  -- one more, at the last place
  pub last-mod : x % n + 1 ≡ n → (x + 1) % n ≡ 0
  last-mod h = ap (λ (y : ℕ). y % n) (omega (arith, div-add-mod' x n)) ∙ digits_mod (x / n + 1) {r = 0} (omega arith)

  pub last-div : x % n + 1 ≡ n → (x + 1) / n ≡ x / n + 1
  last-div h = ap (λ (y : ℕ). y / n) (omega (arith, div-add-mod' x n)) ∙ digits_div (x / n + 1) {r = 0} (omega arith)

-- c + j is the place that j steps from c reach; with j + 1 < k * n - c, k rounds are not over
pub rounds-open : (c j k n : ℕ) → suc j < k * n - c → 0 < n → (c + j + 1) / n < k
rounds-open c j k n h p = (div-lt_iff_lt-mul p).1 (omega arith)

-- at j + 1 ≡ k * n - c they are
module _ (c j k n : ℕ) (h : suc j ≡ k * n - c) where
  pub rounds-over : 0 < n → (c + j + 1) / n ≡ k
  rounds-over p = ap (λ (y : ℕ). y / n) (omega arith) ∙ mul-div_cancel k p

  pub rounds-last : 0 < n → (c + j) % n + 1 ≡ n
  rounds-last p = go (ltb ((c + j) % n + 1) n) refl
    where
      zero-mod : (c + j + 1) % n ≡ 0
      zero-mod = ap (λ (y : ℕ). y % n) (omega arith) ∙ mul-mod_left k n

      go : (b : Bool) → ltb ((c + j) % n + 1) n ≡ b → (c + j) % n + 1 ≡ n
      go true e = absurd (omega (arith, near-mod (c + j) {n = n} (ltb-true ((c + j) % n + 1) n e), zero-mod))
      go false e = omega (arith, ltb-false ((c + j) % n + 1) n e, mod-lt (c + j) p)

wrapped : (x n : ℕ) → n ≤ x → x < n + n → x % n ≡ x - n
wrapped x n h k = mod-eq-sub-mod h ∙ mod-eq_of_lt (omega arith)

-- so many steps from place c reach place f, and none before
module _ (c f n : ℕ) (hc : c < n) (hf : f < n) where
  pub ahead-is : (c + ahead c f n) % n ≡ f
  ahead-is =
      cond_cases (λ (j : ℕ). (c + j) % n ≡ f) (leb c f)
      (λ h. let q : c ≤ f = leb-true c f h in mod-eq_of_lt {n = c + (f - c)} (omega arith) ∙ omega arith)
      (λ h. let q : f < c = leb-false c f h in wrapped (c + (f + n - c)) n (omega arith) (omega arith) ∙ omega arith)

  pub ahead-first : (j : ℕ) → j < ahead c f n → (c + j) % n ≡ f → ⊥
  ahead-first j =
      cond_cases (λ (d : ℕ). j < d → (c + j) % n ≡ f → ⊥) (leb c f)
      (λ h k e. omega (arith, mod-eq_of_lt {n = c + j} {m = n} (omega (arith, leb-true))))
      (λ h k e. go (ltb (c + j) n) refl (leb-false c f h) k e)
    where
      go : (b : Bool) → ltb (c + j) n ≡ b → f < c → j < f + n - c → (c + j) % n ≡ f → ⊥
      go true eb q k e = omega (arith, mod-eq_of_lt (ltb-true (c + j) n eb))
      go false eb q k e = let w : n ≤ c + j = ltb-false (c + j) n eb in omega (arith, wrapped (c + j) n w (omega arith))
