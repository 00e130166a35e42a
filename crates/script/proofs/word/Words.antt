-- The table of forms, word by word: a word's place in it tells its form.
use Prim.Native.Nat.{ℕ, zero, suc, ◌+◌, ◌≤◌, ◌<◌}
use mathlib.Core.Path.{◌≡◌, refl, sym, ap, ◌∙◌}
use mathlib.Core.List.{List, [], ◌∷◌, map}
use mathlib.Core.Bool.{Bool, true, false, cond, ◌&&◌}
use native.Mathlib.Omega.{arith}
use native.Mathlib.Numerals.{add-one}
use native.Mathlib.Nat.{not-suc-le-zero, le_of_suc-le-suc}
use lib.ListN.{length, get_or, drop, drop_of_length-le}
use lib.Seq.{drop-cons}
use lib.Dec.{eqb}
use borrow.Author.Tests.{ne_eqb}
use Rattle.std.proofs.Common.{Option, Some, None, Bor}
use Rattle.std.specs.Str.{bytes_eq}
use Rattle.std.proofs.lemmas.List.{get_or-map, length-map}
use Rattle.script.specs.declared.word.CodedForm.{CodedForm}
use Rattle.script.specs.Word.{Form, forms, no_form, same, code_from, code_of, form_of}

-- an entry of a mapped list, below its end, whatever stands for the entries past it
pub get_or-map-below : {A B : Type 0} (f : A → B) (l : List A) (k : ℕ) (d : A) (e : B) → k < length l → get_or (map f l) k e ≡ f (get_or l k d)
get_or-map-below f [] k d e h = absurd (not-suc-le-zero h)
get_or-map-below f (x ∷ xs) zero d e h = refl
get_or-map-below f (x ∷ xs) (suc k) d e h = get_or-map-below f xs k d e (le_of_suc-le-suc h)

-- a form as the table has it
abbrev pub as_form : Bor (List ℕ) × ℕ → Form
as_form f = record { word = f.0.now; count = f.1 }

-- the table has the forms, and the word is not among the first k
pub record Sought (w : List ℕ) (fs : List (Bor (List ℕ) × ℕ)) (k : ℕ) : Type 0 where
  pub table : map as_form fs ≡ forms
  pub code : code_from (suc k) w (drop k forms) ≡ code_of w

same_is : (s t : List ℕ) → same s t ≡ bytes_eq s t
unfolding same
same_is [] [] = refl
same_is [] (b ∷ t) = refl
same_is (a ∷ s) [] = refl
same_is (a ∷ s) (b ∷ t) = ap (λ (x : Bool). eqb a b && x) (same_is s t)

number-of-forms : length forms ≡ 16
unfolding forms
number-of-forms = refl

module _ {w : List ℕ} {fs : List (Bor (List ℕ) × ℕ)} {k : ℕ} (s : Sought w fs k) where
  form-at : (d : Bor (List ℕ) × ℕ) → k < 16 → get_or forms k no_form ≡ as_form (get_or fs k d)
  form-at d h =
      let n : k < length fs = omega (arith, number-of-forms, ap length s.table, length-map fs as_form) in
      ap (λ (f : List Form). get_or f k no_form) (sym s.table) ∙ get_or-map as_form fs k d no_form n

  code-step : (d : Bor (List ℕ) × ℕ) (t : Bool) → k < 16 → t ≡ bytes_eq w (get_or fs k d).0.now → cond t (suc k) (code_from (suc (suc k)) w (drop (suc k) forms)) ≡ code_of w
  unfolding code_from
  code-step d t h e =
      let q = e ∙ sym (same_is w (get_or fs k d).0.now) ∙ ap (λ (f : Form). same w f.word) (sym (form-at d h)) in
      ap (λ (x : Bool). cond x (suc k) (code_from (suc (suc k)) w (drop (suc k) forms))) q
      ∙ sym (ap (code_from (suc k) w) (drop-cons forms k no_form (omega (arith, number-of-forms))))
      ∙ s.code

  pub form-found : (d : Bor (List ℕ) × ℕ) → k < 16 → true ≡ bytes_eq w (get_or fs k d).0.now → Some (record { code = k + 1; count = (get_or fs k d).1 }) ≡ form_of w
  form-found d h e =
      let found : ℕ → ℕ → Option CodedForm = λ c n. Some (record { code = c; count = n }) in
      ap (λ (c : ℕ). found c (get_or fs k d).1) (add-one k)
      ∙ sym (rw (sym (code-step d true h e), ne_eqb (suc k) 0 (λ z. omega arith)) (ap (λ (f : Form). found (suc k) f.count) (form-at d h)))

  pub sought-next : (d : Bor (List ℕ) × ℕ) → k < 16 → false ≡ bytes_eq w (get_or fs k d).0.now → Sought w fs (k + 1)
  sought-next d h e = record {
    table = s.table;
    code = ap (λ (j : ℕ). code_from (suc j) w (drop j forms)) (add-one k) ∙ code-step d false h e;
  }

  pub form-none : 16 ≤ k → None ≡ form_of w
  unfolding code_from
  form-none h =
      let z : 0 ≡ code_of w = sym (ap (code_from (suc k) w) (drop_of_length-le forms {i = k} (omega (arith, number-of-forms)))) ∙ s.code in
      sym (rw (sym z) refl)
