-- The laws of the numbers of a call: what was read is in its range, and reading is inverse to writing.
use Rattle.std.specs.Prelude.{Option, Some, None, IfSome}
use mathlib.Core.Logic.{◌⊎◌, inl, inr}
use Rattle.std.proofs.lemmas.Option.{none-some, same_Some}
use Rattle.std.proofs.lemmas.Bool.Decides.{nat_tests}
use mathlib.Core.Path.{◌≡◌, refl, sym, ap, subst, ◌∙◌}
use mathlib.Core.Bool.{Bool, true, false, cond, ◌&&◌}
use Prim.Native.Nat.{ℕ, suc, ◌+◌, ◌-◌, ◌<◌, ◌≤◌, min}
use native.Mathlib.Omega.{arith}
use borrow.Author.Tests.{ltb-true, ltb-false, leb-true, leb-false, lt-ltb, le-ltb, le-leb, lt-leb}
use lib.Dec.{ltb, leb}
use lib.IntN.{ℤ, pos, negsuc, sub_ℕ}
use lib.Signed.{le_z}
use mir.Syntax.{w64}
use mir.Val.{SFits, to_z, of_z}
use mir.Facts.{to_z-of_z}
use Rattle.track.specs.Rule.{coordinate_last}
use Rattle.track.specs.Number.{natural_of, capped_of, coordinate_of, coordinate_at, within, value_of, clamped_of, on_some}
use Rattle.track.specs.declared.Coordinate.{Coordinate}

-- ---- a number that was read from least to most is that number, from least to most
natural_range : (n : ℤ) (least most : ℕ) → IfSome (natural_of n least most) (λ k. (n ≡ pos k) × (least ≤ k) × (k ≤ most))
unfolding natural_of
natural_range (pos k) least most = grind (arith, nat_tests)
natural_range (negsuc k) least most = tt

pub natural-in : (n : ℤ) (least most : ℕ) {k : ℕ} → natural_of n least most ≡ Some k → (n ≡ pos k) × (least ≤ k) × (k ≤ most)
natural-in n least most e = rw e at (natural_range n least most)

-- one is read from least to most, or none; the first part gives `grind` the term to match
pub natural_cases : (n : ℤ) (least most : ℕ) →
    (natural_of n least most ≡ natural_of n least most)
    × (((k : ℕ) × (natural_of n least most ≡ Some k) × (least ≤ k) × (k ≤ most)) ⊎ (natural_of n least most ≡ None))
natural_cases n least most = (refl, go (natural_of n least most) (natural_range n least most))
  where
    go : (o : Option ℕ) → IfSome o (λ k. (n ≡ pos k) × (least ≤ k) × (k ≤ most)) → ((k : ℕ) × (o ≡ Some k) × (least ≤ k) × (k ≤ most)) ⊎ (o ≡ None)
    go (Some k) h = inl (k, refl, h.1, h.2)
    go None h = inr refl

-- and every number from least to most is read
pub natural-of : (k least most : ℕ) → least ≤ k → k ≤ most → natural_of (pos k) least most ≡ Some k
unfolding natural_of
natural-of k least most h l = simp (le-leb _ _ l, le-leb _ _ h)

-- a number brought down to most is not negative, and that number or most
pub capped-in : (n : ℤ) (most : ℕ) {k : ℕ} → capped_of n most ≡ Some k → (j : ℕ) × (n ≡ pos j) × (k ≡ min j most)
unfolding capped_of
capped-in (pos j) most e = (j, refl, same_Some _ _ (sym e))
capped-in (negsuc j) most e = absurd (none-some _ e)

-- ---- coordinates and positions are inverse

-- a difference of naturals, by which is greater
sub-yes : (a b : ℕ) → b ≤ a → sub_ℕ a b ≡ pos (a - b)
sub-yes a b h = simp (le-ltb a b h) refl

sub-no : (a b : ℕ) → a < b → sub_ℕ a b ≡ negsuc (b - suc a)
sub-no a b h = simp (lt-ltb a b h) refl

-- the position of the coordinate k, by its sign
pub by_sign : (P : ℤ → Type 0) (k : ℕ) → (1000000 ≤ k → P (pos (k - 1000000))) → (k < 1000000 → P (negsuc (1000000 - suc k))) →
    P (value_of (record { 0 = k }))
unfolding value_of
by_sign P k f g = at (ltb k 1000000) refl
  where
    at : (t : Bool) → ltb k 1000000 ≡ t → P (sub_ℕ k 1000000)
    at true e = subst P (sym (sub-no k 1000000 (ltb-true _ _ e))) (g (ltb-true _ _ e))
    at false e = subst P (sym (sub-yes k 1000000 (ltb-false _ _ e))) (f (ltb-false _ _ e))

-- the coordinate of a coordinate's position is that coordinate
pub coordinate-value : (c : Coordinate) → c.0 ≤ coordinate_last → coordinate_of (value_of c) ≡ Some c
unfolding coordinate_of
coordinate-value c h =
    by_sign (λ (z : ℤ). coordinate_of z ≡ Some c) c.0
    (λ l. simp (le-ltb 1000000 (c.0 - 1000000) (omega arith)) (ap (λ (k : ℕ). Some (record { 0 = k })) (omega arith)))
    (λ l. simp (le-ltb 999999 (1000000 - suc c.0) (omega arith)) (ap (λ (k : ℕ). Some (record { 0 = k })) (omega arith)))

-- the same of any coordinate, where the position is taken for one
pub coordinate-at : (c : Coordinate) → coordinate_at (value_of c) ≡ c
unfolding coordinate_at
coordinate-at c =
    by_sign (λ (z : ℤ). coordinate_at z ≡ c) c.0
    (λ l. ap (λ (k : ℕ). record { 0 = k }) (omega arith)) (λ l. ap (λ (k : ℕ). record { 0 = k }) (omega arith))

coordinate_range : (n : ℤ) → IfSome (coordinate_of n) (λ c. (value_of c ≡ n) × (c.0 ≤ coordinate_last))
unfolding coordinate_of value_of
coordinate_range (pos k) = at (ltb 1000000 k) refl
  where
    at : (t : Bool) → ltb 1000000 k ≡ t →
        IfSome (cond t None (Some (record { 0 = k + 1000000 }))) (λ c. (value_of c ≡ pos k) × (c.0 ≤ coordinate_last))
    at true e = tt
    at false e = (sub-yes (k + 1000000) 1000000 (omega arith) ∙ ap pos (omega arith), omega (arith, ltb-false 1000000 k e))
coordinate_range (negsuc k) = at (ltb 999999 k) refl
  where
    at : (t : Bool) → ltb 999999 k ≡ t →
        IfSome (cond t None (Some (record { 0 = 1000000 - suc k }))) (λ c. (value_of c ≡ negsuc k) × (c.0 ≤ coordinate_last))
    at true e = tt
    at false e =
        (sub-no (1000000 - suc k) 1000000 (omega (arith, ltb-false 999999 k e)) ∙ ap negsuc (omega (arith, ltb-false 999999 k e)), omega arith)

-- a number that has a coordinate is that coordinate's position
pub value-coordinate : (n : ℤ) {c : Coordinate} → coordinate_of n ≡ Some c → (value_of c ≡ n) × (c.0 ≤ coordinate_last)
value-coordinate n e = rw e at (coordinate_range n)

within_range : (low high : ℕ) (p : Option Coordinate) → IfSome (within low high p) (λ c. (low ≤ c.0) × (c.0 ≤ high) × (p ≡ Some c))
unfolding within
within_range low high None = tt
within_range low high (Some c) = grind (arith, nat_tests)

-- a coordinate read from low to high is from low to high
pub within_in : (low high : ℕ) (p : Option Coordinate) {c : Coordinate} → within low high p ≡ Some c → (low ≤ c.0) × (c.0 ≤ high) × (p ≡ Some c)
within_in low high p e = rw e at (within_range low high p)

-- and a coordinate in its range is found
pub between_in : (low high : ℕ) (c : Coordinate) (p : Option Coordinate) → p ≡ Some c → low ≤ c.0 → c.0 ≤ high → Some c ≡ within low high p
unfolding within
between_in low high c p e h k = sym (ap (within low high) e ∙ simp (le-leb low c.0 h, le-leb c.0 high k))

-- ---- the bounds of a range of positions
leb-same : (a b c d : ℕ) → (a ≤ b → c ≤ d) → (b < a → d < c) → leb a b ≡ leb c d
leb-same a b c d f g = at (leb a b) refl
  where
    at : (t : Bool) → leb a b ≡ t → leb a b ≡ leb c d
    at true e = e ∙ sym (le-leb c d (f (leb-true a b e)))
    at false e = e ∙ sym (lt-leb c d (g (leb-false a b e)))

-- what holds of a coordinate against the clamped bound in each of the four cases of the bound holds against it
module _ (P : ℤ → ℕ → Type 0) where
  by-clamp : (n : ℤ) → ((k : ℕ) → 1000000 < k → P (pos k) 2000002) → ((k : ℕ) → k ≤ 1000000 → P (pos k) (k + 1000001)) →
      ((k : ℕ) → 1000000 ≤ k → P (negsuc k) 0) → ((k : ℕ) → k < 1000000 → P (negsuc k) (1000001 - suc k)) → P n (clamped_of n)
  unfolding clamped_of
  by-clamp (pos k) a b c d = at (ltb 1000000 k) refl
    where
      at : (t : Bool) → ltb 1000000 k ≡ t → P (pos k) (cond t 2000002 (k + 1000001))
      at true e = a k (ltb-true 1000000 k e)
      at false e = b k (ltb-false 1000000 k e)
  by-clamp (negsuc k) a b c d = at (ltb 999999 k) refl
    where
      at : (t : Bool) → ltb 999999 k ≡ t → P (negsuc k) (cond t 0 (1000001 - suc k))
      at true e = c k (omega (arith, ltb-true 999999 k e))
      at false e = d k (omega (arith, ltb-false 999999 k e))

-- a clamped bound is at most one past the last
pub clamped-most : (n : ℤ) → clamped_of n ≤ 2000002
clamped-most n =
    by-clamp (λ (z : ℤ) (m : ℕ). m ≤ 2000002) n (λ k l. omega arith) (λ k l. omega arith) (λ k l. omega arith) (λ k l. omega arith)

module _ (c : Coordinate) (h : c.0 ≤ coordinate_last) where
  from : ℤ → ℕ → Type 0
  from n m = le_z n (value_of c) ≡ leb m (c.0 + 1)

  to : ℤ → ℕ → Type 0
  to n m = le_z (value_of c) n ≡ leb (c.0 + 1) m

  -- a coordinate's position is at least n, or at most n, exactly if the clamped bound says so of the coordinate
  pub from-clamped : (n : ℤ) → le_z n (value_of c) ≡ leb (clamped_of n) (c.0 + 1)
  unfolding from
  from-clamped n =
      by-clamp from n
      (λ k l. by_sign (λ (z : ℤ). le_z (pos k) z ≡ leb 2000002 (c.0 + 1)) c.0 (λ s. leb-same k (c.0 - 1000000) 2000002 (c.0 + 1) (omega arith) (omega arith)) (λ s. sym (lt-leb 2000002 (c.0 + 1) (omega arith))))
      (λ k l. by_sign (λ (z : ℤ). le_z (pos k) z ≡ leb (k + 1000001) (c.0 + 1)) c.0 (λ s. leb-same k (c.0 - 1000000) (k + 1000001) (c.0 + 1) (omega arith) (omega arith)) (λ s. sym (lt-leb (k + 1000001) (c.0 + 1) (omega arith))))
      (λ k l. by_sign (λ (z : ℤ). le_z (negsuc k) z ≡ leb 0 (c.0 + 1)) c.0 (λ s. sym (le-leb 0 (c.0 + 1) (omega arith))) (λ s. leb-same (1000000 - suc c.0) k 0 (c.0 + 1) (omega arith) (omega arith)))
      (λ k l. by_sign (λ (z : ℤ). le_z (negsuc k) z ≡ leb (1000001 - suc k) (c.0 + 1)) c.0 (λ s. sym (le-leb (1000001 - suc k) (c.0 + 1) (omega arith))) (λ s. leb-same (1000000 - suc c.0) k (1000001 - suc k) (c.0 + 1) (omega arith) (omega arith)))

  pub to-clamped : (n : ℤ) → le_z (value_of c) n ≡ leb (c.0 + 1) (clamped_of n)
  unfolding to
  to-clamped n =
      by-clamp to n
      (λ k l. by_sign (λ (z : ℤ). le_z z (pos k) ≡ leb (c.0 + 1) 2000002) c.0 (λ s. leb-same (c.0 - 1000000) k (c.0 + 1) 2000002 (omega arith) (omega arith)) (λ s. sym (le-leb (c.0 + 1) 2000002 (omega arith))))
      (λ k l. by_sign (λ (z : ℤ). le_z z (pos k) ≡ leb (c.0 + 1) (k + 1000001)) c.0 (λ s. leb-same (c.0 - 1000000) k (c.0 + 1) (k + 1000001) (omega arith) (omega arith)) (λ s. sym (le-leb (c.0 + 1) (k + 1000001) (omega arith))))
      (λ k l. by_sign (λ (z : ℤ). le_z z (negsuc k) ≡ leb (c.0 + 1) 0) c.0 (λ s. sym (lt-leb (c.0 + 1) 0 (omega arith))) (λ s. leb-same k (1000000 - suc c.0) (c.0 + 1) 0 (omega arith) (omega arith)))
      (λ k l. by_sign (λ (z : ℤ). le_z z (negsuc k) ≡ leb (c.0 + 1) (1000001 - suc k)) c.0 (λ s. sym (lt-leb (c.0 + 1) (1000001 - suc k) (omega arith))) (λ s. leb-same k (1000000 - suc c.0) (c.0 + 1) (1000001 - suc k) (omega arith) (omega arith)))

  -- a coordinate's position is from a to b exactly if the clamped bounds say so, for every a and b
  pub between-clamped : (a b : ℤ) → (le_z a (value_of c) && le_z (value_of c) b) ≡ (leb (clamped_of a) (c.0 + 1) && leb (c.0 + 1) (clamped_of b))
  between-clamped a b = λ i. from-clamped a i && to-clamped b i

-- ---- what a number or a position comes to, outside its range and within
pub some-out : {A B : Type 0} (o : Option A) (f : A → B) (x : B) {r : B} → o ≡ None → r ≡ x → r ≡ on_some o f x
some-out o f x e q = q ∙ simp e

pub some-take : {A B : Type 0} (o : Option A) (f : A → B) (x : B) {a : A} {r : B} → o ≡ Some a → r ≡ f a → r ≡ on_some o f x
some-take o f x e q = q ∙ simp e

-- ---- a number that the code reads back from its bits, and what a caller learns of f at a number n that it passed on
abbrev pub back : ℤ → ℤ
back n = to_z w64 (of_z w64 n)

pub told : {A : Type 0} {n : ℤ} {r x : A} (f : ℤ → A) → SFits w64 n → r ≡ f (back n) → r ≡ x → f n ≡ x
told f s e k = ap f (sym (to_z-of_z s)) ∙ sym e ∙ k
