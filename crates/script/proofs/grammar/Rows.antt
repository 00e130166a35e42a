-- The laws of a line's numbers: those read so far and the fields left come to what all fields come to.
use Prim.Native.Nat.{ℕ, zero, suc, ◌+◌, ◌-◌, ◌≤◌, ◌<◌}
use mathlib.Core.Path.{◌≡◌, refl, sym, ap, ◌∙◌}
use mathlib.Core.List.{List, [], ◌∷◌, ◌++◌, append-nil}
use mathlib.Core.Bool.{Bool, true, false, ◌&&◌}
use native.Mathlib.Omega.{arith}
use native.Mathlib.Numerals.{add-one}
use lib.ListN.{length, get_or, drop, take, set, length-set, replicate, drop_of_length-le}
use lib.Dec.{eqb}
use lib.Pointwise.{pointwise}
use lib.Seq.{drop-cons, take_all, take-suc-set, append_snoc}
use lib.IntN.{ℤ, pos}
use borrow.Author.Tests.{ne_eqb, le-leb, lt-leb}
use Rattle.std.proofs.Common.{Option, Some, None}
use Rattle.std.proofs.lemmas.List.{drop-replicate}
use Rattle.script.specs.declared.grammar.Row.{Row}
use Rattle.script.specs.declared.word.CodedForm.{CodedForm}
use Rattle.board.specs.declared.call.Call.{Call}
use Rattle.board.specs.Row.{call_of, plain_at}
use Rattle.script.specs.Number.{number_of}
use Rattle.script.specs.Grammar.{ahead_of, numbers_of, fields_of, row_call, fields_call, line_call, padded, row_with, row_from, fields_row}
use Rattle.script.specs.Word.{code_of, numbers_after, form_of}
use Rattle.script.proofs.grammar.Fields.{left}

-- numbers read, ahead of those of the fields left
abbrev read_ahead : List ℤ → Option (List ℤ) → Option (List ℤ)
read_ahead ns None = None
read_ahead ns (Some zs) = Some (ns ++ zs)

read-snoc : (ns : List ℤ) (z : ℤ) (o : Option (List ℤ)) → read_ahead ns (ahead_of (Some z) o) ≡ read_ahead (ns ++ (z ∷ [])) o
read-snoc ns z None = refl
read-snoc ns z (Some zs) = ap Some (sym (append_snoc ns z zs))

read_none : (o : Option (List ℤ)) → read_ahead [] o ≡ o
read_none None = refl
read_none (Some zs) = refl

-- the row of a form, if these numbers and k in these fields are all
abbrev joined : CodedForm → List ℤ → ℕ → List (List ℕ) → Option Row
joined f ns k fs = row_with f.code (read_ahead ns (numbers_of k fs))

-- of a form's numbers n are read, and these fields are left: with theirs they are the row of all fields
pub record Reading (f : CodedForm) (all : List (List ℕ)) (a : List ℤ) (n : ℕ) (rest : List (List ℕ)) : Type 0 where
  pub long : length a ≡ f.count
  pub row : row_with f.code (read_ahead (take n a) (numbers_of (f.count - n) rest)) ≡ fields_row all

module _ (w : List ℕ) {all fs : List (List ℕ)} (split : all ≡ w ∷ fs) where
  pub row-unknown : None ≡ form_of w → None ≡ fields_row all
  row-unknown e = ap (λ (o : Option CodedForm). row_from o fs) e ∙ ap fields_row (sym split)

  pub reading-start : (f : CodedForm) (a : List ℤ) → Some f ≡ form_of w → length a ≡ f.count → Reading f all a 0 fs
  reading-start f a e l =
      let k : f.count - 0 ≡ f.count = omega arith in
      record {
        long = l;
        row =
            ap (row_with f.code) (read_none (numbers_of (f.count - 0) fs) ∙ ap (λ (j : ℕ). numbers_of j fs) k)
            ∙ ap (λ (o : Option CodedForm). row_from o fs) e
            ∙ ap fields_row (sym split);
      }

module _ {f : CodedForm} {all : List (List ℕ)} {a : List ℤ} {n : ℕ} where
  -- no field is left for the next number
  pub row-short : {done : Bool} (s : List ℕ) → Reading f all a n (left done s) → n < f.count → done ≡ true → None ≡ fields_row all
  unfolding numbers_of
  row-short {done} s r h e =
      let d : f.count - n ≡ suc (f.count - n - 1) = omega arith in
      ap (λ (t : Bool). joined f (take n a) (suc (f.count - n - 1)) (left t s)) (sym e) ∙ ap (λ (j : ℕ). joined f (take n a) j (left done s)) (sym d) ∙ r.row

  -- the next field is no number
  pub row-bad : {rest : List (List ℕ)} (x : List ℕ) (more : List (List ℕ)) → Reading f all a n rest → n < f.count → rest ≡ x ∷ more → None ≡ number_of x → None ≡ fields_row all
  unfolding numbers_of
  row-bad {rest} x more r h e q =
      let d : f.count - n ≡ suc (f.count - n - 1) = omega arith in
      ap (λ (o : Option ℤ). row_with f.code (read_ahead (take n a) (ahead_of o (numbers_of (f.count - n - 1) more)))) q
      ∙ ap (joined f (take n a) (suc (f.count - n - 1))) (sym e)
      ∙ ap (λ (j : ℕ). joined f (take n a) j rest) (sym d)
      ∙ r.row

  -- one number more
  pub row_next : {rest : List (List ℕ)} (x : List ℕ) (more : List (List ℕ)) (z : ℤ) → Reading f all a n rest → n < f.count → rest ≡ x ∷ more → Some z ≡ number_of x →
      Reading f all (set a n z) (n + 1) more
  unfolding numbers_of
  row_next {rest} x more z r h e q =
      let d : f.count - n ≡ suc (f.count - (n + 1)) = omega arith in
      let within : n < length a = omega (arith, r.long) in
      let here = numbers_of (f.count - (n + 1)) more in
      record {
        long = length-set a n z ∙ r.long;
        row =
            ap (row_with f.code)
            (ap (λ (l : List ℤ). read_ahead l here) (ap (λ (j : ℕ). take j (set a n z)) (add-one n) ∙ take-suc-set a n z within)
            ∙ sym (read-snoc (take n a) z here)
            ∙ ap (λ (o : Option ℤ). read_ahead (take n a) (ahead_of o here)) q)
            ∙ ap (joined f (take n a) (suc (f.count - (n + 1)))) (sym e)
            ∙ ap (λ (j : ℕ). joined f (take n a) j rest) (sym d)
            ∙ r.row;
      }

  -- a field is left over
  pub row_long : {rest : List (List ℕ)} (x : List ℕ) (more : List (List ℕ)) → Reading f all a n rest → f.count ≤ n → rest ≡ x ∷ more → None ≡ fields_row all
  unfolding numbers_of
  row_long {rest} x more r h e =
      let d : f.count - n ≡ 0 = omega arith in
      ap (joined f (take n a) 0) (sym e) ∙ ap (λ (j : ℕ). joined f (take n a) j rest) (sym d) ∙ r.row

  -- no field is left, and no number is wanted
  pub row_done : {done : Bool} (s : List ℕ) → Reading f all a n (left done s) → f.count ≤ n → f.count ≤ 6 → done ≡ true →
      Some (record { code = f.code; numbers = a ++ drop f.count (replicate 6 (pos 0)) }) ≡ fields_row all
  unfolding numbers_of
  row_done {done} s r h m e =
      let d : f.count - n ≡ 0 = omega arith in
      let whole : List ℤ → Option Row = λ zs. Some (record { code = f.code; numbers = zs }) in
      ap (λ (zs : List ℤ). whole (a ++ zs)) (drop-replicate f.count 6 (pos 0) ∙ ap (λ (k : ℕ). replicate (6 - k) (pos 0)) (sym r.long))
      ∙ ap (λ (zs : List ℤ). whole (padded zs)) (sym (append-nil (take n a) ∙ take_all n a (omega (arith, r.long))))
      ∙ ap (λ (t : Bool). joined f (take n a) 0 (left t s)) (sym e)
      ∙ ap (λ (j : ℕ). joined f (take n a) j (left done s)) (sym d)
      ∙ r.row

-- ---- the call of a row

-- zeros behind the numbers make no difference to the call
zeros-at : (k i : ℕ) → get_or (replicate k (pos 0)) i (pos 0) ≡ pos 0
zeros-at zero i = refl
zeros-at (suc k) zero = refl
zeros-at (suc k) (suc i) = zeros-at k i

past-at : (zs : List ℤ) (k i : ℕ) → get_or (zs ++ replicate k (pos 0)) i (pos 0) ≡ get_or zs i (pos 0)
past-at [] k i = zeros-at k i
past-at (z ∷ zs) k zero = refl
past-at (z ∷ zs) k (suc i) = past-at zs k i

padded-call : (c : ℕ) (zs : List ℤ) → plain_at (pos c ∷ padded zs) ≡ plain_at (pos c ∷ zs)
padded-call c zs =
    let at : (i : ℕ) → get_or (padded zs) i (pos 0) ≡ get_or zs i (pos 0) = past-at zs (6 - length zs) in
    λ i. call_of (pos c) (at 0 i) (at 1 i) (at 2 i) (at 3 i) (at 4 i) (at 5 i)

-- the call of a row
abbrev row_calls : Option Row → Option Call
row_calls None = None
row_calls (Some r) = plain_at (pos r.code ∷ r.numbers)

with-calls : (c : ℕ) (o : Option (List ℤ)) → row_calls (row_with c o) ≡ row_call c o
with-calls c None = refl
with-calls c (Some zs) = padded-call c zs

-- a word of no form makes no call
no-call : (o : Option (List ℤ)) → None ≡ row_call 0 o
no-call None = refl
no-call (Some zs) = refl

from-calls : (w : List ℕ) (fs : List (List ℕ)) (k : ℕ) → code_of w ≡ k → row_calls (row_from (form_of w) fs) ≡ fields_call (w ∷ fs)
from-calls w fs zero e =
    rw e (no-call (numbers_of (numbers_after 0) fs))
from-calls w fs (suc k) e =
    rw (e, ne_eqb (suc k) 0 (λ z. omega arith)) (with-calls (suc k) (numbers_of (numbers_after (suc k)) fs))

of-calls : (all : List (List ℕ)) → row_calls (fields_row all) ≡ fields_call all
of-calls [] = refl
of-calls (w ∷ fs) = from-calls w fs (code_of w) refl

pub call-some : (all : List (List ℕ)) (r : Row) {o : Option Call} → Some r ≡ fields_row all → o ≡ plain_at (pos r.code ∷ r.numbers) → o ≡ fields_call all
call-some all r e q = q ∙ ap row_calls e ∙ of-calls all

-- ---- a whole line

-- the last byte is the LF
and-true : (t : Bool) → (t && true) ≡ t
and-true true = refl
and-true false = refl

ends-in : (l : List ℕ) → pointwise eqb (drop (length l - 1) l) (10 ∷ []) ≡ eqb (get_or l (length l - 1) 0) 10
ends-in [] = refl
ends-in (b ∷ l) =
    let n = length (b ∷ l) - 1 in
    let past : length (b ∷ l) ≤ suc n = omega arith in
    rw (drop-cons (b ∷ l) n 0 (omega arith), drop_of_length-le (b ∷ l) {i = suc n} past) (and-true (eqb (get_or (b ∷ l) n 0) 10))

module _ (l : List ℕ) where
  pub line-long : 64 < length l → None ≡ line_call l
  unfolding line_call
  line-long h = rw (lt-leb (length l) 64 h) refl

  -- an empty line has no LF
  pub line-empty : length l ≡ 0 → None ≡ line_call l
  unfolding line_call
  line-empty = go l
    where
      go : (l : List ℕ) → length l ≡ 0 → None ≡ line_call l
      go [] h = refl
      go (b ∷ l) h = absurd (omega arith)

  pub line-open : length l ≤ 64 → (get_or l (length l - 1) 0 ≡ 10 → ⊥) → None ≡ line_call l
  unfolding line_call
  line-open h e = rw (le-leb (length l) 64 h, ne_eqb _ _ e) refl

  -- the same, of the last byte as a suffix
  pub line-unended : length l ≤ 64 → pointwise eqb (drop (length l - 1) l) (10 ∷ []) ≡ false → None ≡ line_call l
  unfolding line_call
  line-unended h e = rw (le-leb (length l) 64 h, sym (ends-in l), e) refl

  pub line-whole : {o : Option Call} (t : List ℕ) → length l ≤ 64 → pointwise eqb (drop (length l - 1) l) (10 ∷ []) ≡ true → t ≡ take (length l - 1) l →
      o ≡ fields_call (fields_of t) → o ≡ line_call l
  unfolding line_call
  line-whole t h e q p = p ∙ ap (λ (s : List ℕ). fields_call (fields_of s)) q ∙ sym (rw (le-leb (length l) 64 h, sym (ends-in l), e) refl)

pub ruleset whole_line = (line-long, line-unended, line-whole)
