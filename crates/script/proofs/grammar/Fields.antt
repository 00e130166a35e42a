-- The laws of fields: what is split off is the first of them.
use Prim.Native.Nat.{ℕ, suc, ◌<◌}
use mathlib.Core.Path.{◌≡◌, refl, sym, ap, ◌∙◌}
use mathlib.Core.List.{List, [], ◌∷◌, ◌++◌}
use mathlib.Core.Bool.{Bool, true, false}
use native.Mathlib.Omega.{arith}
use lib.ListN.{length, get_or, length-append}
use lib.Dec.{eqb}
use borrow.Author.Tests.{eqb-true}
use Rattle.std.proofs.Common.{Option, Some, None, is_some, MatchOption}
use Rattle.std.specs.Bool.{MatchBool}
use Rattle.std.specs.List.{IsFirstMatchOrLen}
use Rattle.std.specs.Fn.{Called, ComputesKey}
use Rattle.std.proofs.lemmas.List.Sorted.{answers_always}
use denote.Bor.{Bor}
use denote.Param.Members.{Mut}
use Rattle.std.proofs.lemmas.List.{get_or_append_left, get_or_at}
use Rattle.script.specs.Lines.{ahead}
use Rattle.script.specs.Grammar.{fields_of}

-- no comma in a field
abbrev Whole : List ℕ → Type 0
Whole x = (k : ℕ) → k < length x → eqb (get_or x k 0) 44 ≡ false

later : (b : ℕ) (x : List ℕ) → Whole (b ∷ x) → Whole x
later b x h k l = h (suc k) (omega arith)

last-field : (x : List ℕ) → Whole x → fields_of x ≡ x ∷ []
unfolding fields_of
last-field [] h = refl
last-field (b ∷ x) h = rw (h 0 (omega arith)) (ap (ahead b) (last-field x (later b x h)))

field-before : (x s : List ℕ) → Whole x → fields_of (x ++ (44 ∷ s)) ≡ x ∷ fields_of s
unfolding fields_of
field-before [] s h = refl
field-before (b ∷ x) s h = rw (h 0 (omega arith)) (ap (ahead b) (field-before x s (later b x h)))

-- the fields left, none after the last
abbrev pub left : Bool → List ℕ → List (List ℕ)
left true s = []
left false s = fields_of s

-- a field from s on, and what is left of the text behind its comma
split-next : (s x t : List ℕ) (done : Bool) → MatchBool done (s ≡ x) ((y : ℕ) × (s ≡ x ++ (y ∷ t))) →
    IsFirstMatchOrLen (λ b. eqb b 44) s (length x) → fields_of s ≡ x ∷ left done t
split-next s x t true e h = ap fields_of e ∙ last-field x (λ k l. ap (λ (z : List ℕ). eqb (get_or z k 0) 44) (sym e) ∙ h.0 k 0 (omega arith) l)
split-next s x t false (y, e) h =
    let long : length x < length s = omega (arith, ap length e, length-append x (y ∷ t)) in
    let comma : y ≡ 44 = eqb-true y 44 (ap (λ (b : ℕ). eqb b 44) (sym (ap (λ (z : List ℕ). get_or z (length x) 0) e ∙ get_or_at x y t 0 (length x) refl)) ∙ h.1 long 0) in
    let whole : Whole x = λ k l. ap (λ (b : ℕ). eqb b 44) (sym (ap (λ (z : List ℕ). get_or z k 0) e ∙ get_or_append_left x (y ∷ t) 0 k l)) ∙ h.0 k 0 (omega arith) l in
    ap fields_of (e ∙ ap (λ (b : ℕ). x ++ (b ∷ t)) comma) ∙ field-before x t whole

-- an iterator over a text from s on gave x, and is left at t: of its closure whatever test it makes
abbrev Gave : {F : Type 0} → Mut F (Bor ℕ × Unit {0}) Bool → F → F → List ℕ → List ℕ → List ℕ → Bool → Bool → Type 0
Gave g f f' s x t before done =
    (before ≡ false) × MatchBool done (s ≡ x) ((y : ℕ) × (s ≡ x ++ (y ∷ t)))
    × ((p : ℕ → Bool) → ComputesKey g p f → ComputesKey g p f' × IsFirstMatchOrLen p s (length x))

-- the closure tests for a comma
abbrev Commas : {F : Type 0} → Mut F (Bor ℕ × Unit {0}) Bool → Type 0
Commas {F} g = (f : F) (a : Bor ℕ × Unit {0}) (r : Bool) (f' : F) → Called g f a r f' → r ≡ eqb a.0.now 44

module _ {F : Type 0} {g : Mut F (Bor ℕ × Unit {0}) Bool} {f f' : F} (s x t : List ℕ) (before done : Bool) (u : Gave g f f' s x t before done) (h : Commas g) where
  pub field-next : fields_of s ≡ x ∷ left done t
  field-next = split-next s x t done u.1 (u.2 (λ b. eqb b 44) (answers_always _ _ _ h)).1

  pub field-left : left before s ≡ x ∷ left done t
  field-left = ap (λ (b : Bool). left b s) u.0 ∙ field-next

-- what is said of a value that is there, and of none
pub at-some : {A : Type 0} (P : Type 0) (Q : A → Type 0) (o : Option A) → true ≡ is_some o → MatchOption o P Q → (x : A) × Q x
at-some P Q (Some x) e h = (x, h)
at-some P Q None e h = cc

pub at-none : {A : Type 0} (P : Type 0) (Q : A → Type 0) (o : Option A) → false ≡ is_some o → MatchOption o P Q → P
at-none P Q None e h = h
at-none P Q (Some x) e h = cc
