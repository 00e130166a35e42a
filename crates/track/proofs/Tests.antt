-- Laws of tests and choices, over any tests.
use Prim.Native.Nat.{ℕ}
use mathlib.Core.Path.{◌≡◌, refl, sym, ◌∙◌}
use mathlib.Core.Bool.{Bool, true, false, cond, ◌&&◌, false≢true}
use mathlib.Core.List.{List, [], ◌∷◌}
use lib.Dec.{eqb}
use borrow.Author.Tests.{eqb-true, eqb-false, eq-eqb, ne_eqb}
use Rattle.track.specs.Rule.{every}

-- what holds of both values holds of the one that a test picks
pub cond_cases : {A : Type 0} (P : A → Type 0) (b : Bool) {x y : A} → (b ≡ true → P x) → (b ≡ false → P y) → P (cond b x y)
cond_cases P true f g = f refl
cond_cases P false f g = g refl

-- the value that a test picks
pub cond_yes : {A : Type 0} {b : Bool} (x y : A) {r : A} → b ≡ true → r ≡ x → r ≡ cond b x y
cond_yes x y e q = q ∙ simp e

pub cond_no : {A : Type 0} {b : Bool} (x y : A) {r : A} → b ≡ false → r ≡ y → r ≡ cond b x y
cond_no x y e q = q ∙ simp e

-- a test that cannot hold is false
pub refuted : (b : Bool) → (b ≡ true → ⊥) → false ≡ b
refuted true n = absurd (n refl)
refuted false n = refl

-- every test of a list holds exactly if each of them does
abbrev pub Every : List Bool → Type 0
Every [] = Unit {0}
Every (b ∷ bs) = (b ≡ true) × Every bs

pub every_of : (l : List Bool) → every l ≡ true → Every l
unfolding every
every_of [] h = tt
every_of (true ∷ l) h = (refl, every_of l h)
every_of (false ∷ l) h = absurd (false≢true h)

pub every-is : (l : List Bool) → Every l → every l ≡ true
unfolding every
every-is [] e = refl
every-is (true ∷ l) e = every-is l e.1
every-is (false ∷ l) e = e.0

pub both : (a b : Bool) → (a && b) ≡ true → (a ≡ true) × (b ≡ true)
both true b h = (refl, h)
both false b h = absurd (false≢true h)

pub both_is : {a b : Bool} → a ≡ true → b ≡ true → (a && b) ≡ true
both_is p q = simp (p, q)

-- tests that hold together agree
pub same_tests : (a b : Bool) → (a ≡ true → b ≡ true) → (b ≡ true → a ≡ true) → a ≡ b
same_tests true b f g = sym (f refl)
same_tests false true f g = g refl
same_tests false false f g = refl

-- tests of equivalent facts agree
pub eqb_same : (a b c d : ℕ) → (a ≡ b → c ≡ d) → (c ≡ d → a ≡ b) → eqb a b ≡ eqb c d
eqb_same a b c d f g = go (eqb c d) refl
  where
    go : (r : Bool) → eqb c d ≡ r → eqb a b ≡ r
    go true h = eq-eqb a b (g (eqb-true c d h))
    go false h = ne_eqb a b (λ e. eqb-false c d h (f e))
