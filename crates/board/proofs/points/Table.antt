-- The table of points: what stands at a key, also after one element is put in, changed or taken out.
use Prim.Native.Nat.{ℕ, zero, suc, ◌≤◌, ◌<◌, suc-le-suc}
use native.Mathlib.Nat.{le_of_suc-le-suc, not-suc-le-zero, zero-lt-suc}
use native.Mathlib.Omega.{arith}
use mathlib.Core.Path.{◌≡◌, refl, sym, ap, ◌∙◌}
use mathlib.Core.Logic.{⊎_elim}
use mathlib.Core.Bool.{true, false, cond, true≢false}
use mathlib.Core.List.{List, [], ◌∷◌}
use lib.ListN.{length, get_or, set}
use lib.Dec.{eqb}
use borrow.Author.Tests.{eq-eqb, ne_eqb}
use Rattle.board.specs.declared.points.Points.{Points}
use Rattle.board.specs.Points.{point_most, ascending_from, has_key, first_from, insert_at, remove_at, info_at, keys_of}
use Rattle.track.proofs.Tests.{refuted}
use Rattle.board.proofs.points.Keys.{same_or_not, ascending-rest, ascending-low, first-is, has-head, has-tail, has-below, has_first, Searched}

-- ---- the info at a key

at_here : (k x d : ℕ) (xs ds : List ℕ) → x ≡ k → info_at k (x ∷ xs) (d ∷ ds) ≡ d
unfolding info_at
at_here k x d xs ds e = rw (eq-eqb x k e)

at_there : (k x d : ℕ) (xs ds : List ℕ) → (x ≡ k → ⊥) → info_at k (x ∷ xs) (d ∷ ds) ≡ info_at k xs ds
unfolding info_at
at_there k x d xs ds e = rw (ne_eqb x k e)

-- no info stands where the key is not there
pub info-none : (k : ℕ) (ks ds : List ℕ) → has_key k ks ≡ false → info_at k ks ds ≡ 0
unfolding info_at
info-none k [] ds h = refl
info-none k (x ∷ ks) [] h = refl
info-none k (x ∷ ks) (d ∷ ds) h =
    at_there k x d ks ds (λ e. true≢false (sym (has-head k x ks e) ∙ h))
    ∙ info-none k ks ds (sym (refuted (has_key k ks) (λ t. true≢false (sym (has-tail k x ks t) ∙ h))))

at-index : (i k : ℕ) (ks ds : List ℕ) → length ks ≡ length ds → i < length ks → ((j : ℕ) → j < i → get_or ks j 0 < k) → get_or ks i 0 ≡ k
    → info_at k ks ds ≡ get_or ds i 0
at-index i k [] ds e l b h = absurd (not-suc-le-zero l)
at-index i k (x ∷ ks) [] e l b h = absurd (omega arith)
at-index zero k (x ∷ ks) (d ∷ ds) e l b h = at_here k x d ks ds h
at-index (suc i) k (x ∷ ks) (d ∷ ds) e l b h =
    let m = b zero (zero-lt-suc i) in
    at_there k x d ks ds (omega arith)
    ∙ at-index i k ks ds (omega arith) (le_of_suc-le-suc l) (λ j m. b (suc j) (suc-le-suc m)) h

-- where the key is there, the info is what stands beside the first key from it on
pub info-has : (k : ℕ) (ks ds : List ℕ) → ascending_from 0 ks ≡ true → length ks ≡ length ds → has_key k ks ≡ true
    → info_at k ks ds ≡ get_or ds (first_from ks k) 0
info-has k ks ds asc e h =
    let f = has_first k (first_from ks k) ks asc refl h in
    at-index (first_from ks k) k ks ds e f.0 (first-is ks k).below f.1

-- an info that is not 0 stands beside its key
pub info-entry : (k : ℕ) (ks ds : List ℕ) → (info_at k ks ds ≡ 0 → ⊥)
    → (j : ℕ) × (j < length ks) × (get_or ks j 0 ≡ k) × (get_or ds j 0 ≡ info_at k ks ds)
unfolding info_at
info-entry k [] ds h = absurd (h refl)
info-entry k (x ∷ ks) [] h = absurd (h refl)
info-entry k (x ∷ ks) (d ∷ ds) h =
    ⊎_elim
    (λ (e : x ≡ k). (zero, zero-lt-suc (length ks), e, sym (at_here k x d ks ds e)))
    (λ (n : x ≡ k → ⊥).
    let r = info-entry k ks ds (λ z. h (at_there k x d ks ds n ∙ z)) in
    (suc r.0, suc-le-suc r.1, r.2, r.3 ∙ sym (at_there k x d ks ds n)))
    (same_or_not x k)

-- ---- the info at a key after one element is put in, changed or taken out

at-cons : (k x d : ℕ) (ks ds ks' ds' : List ℕ) → info_at k ks ds ≡ info_at k ks' ds' → info_at k (x ∷ ks) (d ∷ ds) ≡ info_at k (x ∷ ks') (d ∷ ds')
unfolding info_at
at-cons k x d ks ds ks' ds' e = ap (cond (eqb x k) d) e

-- the info put in stands at its key
pub at-insert : (i k d : ℕ) (ks ds : List ℕ) → length ks ≡ length ds → i ≤ length ks → ((j : ℕ) → j < i → get_or ks j 0 < k)
    → info_at k (insert_at i k ks) (insert_at i d ds) ≡ d
unfolding insert_at
at-insert zero k d ks ds e l b = at_here k k d ks ds refl
at-insert (suc i) k d [] ds e l b = absurd (not-suc-le-zero l)
at-insert (suc i) k d (x ∷ ks) [] e l b = absurd (omega arith)
at-insert (suc i) k d (x ∷ ks) (y ∷ ds) e l b =
    let m = b zero (zero-lt-suc i) in
    at_there k x y (insert_at i k ks) (insert_at i d ds) (omega arith)
    ∙ at-insert i k d ks ds (omega arith) (le_of_suc-le-suc l) (λ j m. b (suc j) (suc-le-suc m))

-- and every other key has the info that it had
pub insert-others : (i j k d : ℕ) (ks ds : List ℕ) → length ks ≡ length ds → (k ≡ j → ⊥)
    → info_at j (insert_at i k ks) (insert_at i d ds) ≡ info_at j ks ds
unfolding insert_at
insert-others zero j k d ks ds e n = at_there j k d ks ds n
insert-others (suc i) j k d [] [] e n = at_there j k d [] [] n
insert-others (suc i) j k d [] (y ∷ ds) e n = absurd (omega arith)
insert-others (suc i) j k d (x ∷ ks) [] e n = absurd (omega arith)
insert-others (suc i) j k d (x ∷ ks) (y ∷ ds) e n =
    at-cons j x y (insert_at i k ks) (insert_at i d ds) ks ds (insert-others i j k d ks ds (omega arith) n)

-- a changed info changes no other key's
pub set-others : (i j k d : ℕ) (ks ds : List ℕ) → i < length ks → get_or ks i 0 ≡ k → (k ≡ j → ⊥) → info_at j ks (set ds i d) ≡ info_at j ks ds
set-others i j k d [] ds l e n = absurd (not-suc-le-zero l)
set-others i j k d (x ∷ ks) [] l e n = refl
set-others zero j k d (x ∷ ks) (y ∷ ds) l e n =
    at_there j x d ks ds (λ h. n (sym e ∙ h)) ∙ sym (at_there j x y ks ds (λ h. n (sym e ∙ h)))
set-others (suc i) j k d (x ∷ ks) (y ∷ ds) l e n =
    at-cons j x y ks (set ds i d) ks ds (set-others i j k d ks ds (le_of_suc-le-suc l) e n)

-- no info stands at the key taken out
pub at-remove : (i lo k : ℕ) (ks ds : List ℕ) → ascending_from lo ks ≡ true → length ks ≡ length ds → i < length ks → get_or ks i 0 ≡ k
    → info_at k (remove_at i ks) (remove_at i ds) ≡ 0
unfolding remove_at
at-remove i lo k [] ds asc e l h = absurd (not-suc-le-zero l)
at-remove i lo k (x ∷ ks) [] asc e l h = absurd (omega arith)
at-remove zero lo k (x ∷ ks) (y ∷ ds) asc e l h = info-none k ks ds (has-below (suc x) k ks (ascending-rest lo x ks asc) (omega arith))
at-remove (suc i) lo k (x ∷ ks) (y ∷ ds) asc e l h =
    let r = ascending-rest lo x ks asc in
    let m = ascending-low (suc x) ks r i (le_of_suc-le-suc l) in
    at_there k x y (remove_at i ks) (remove_at i ds) (omega arith)
    ∙ at-remove i (suc x) k ks ds r (omega arith) (le_of_suc-le-suc l) h

-- and every other key has the info that it had
pub remove-others : (i j k : ℕ) (ks ds : List ℕ) → length ks ≡ length ds → i < length ks → get_or ks i 0 ≡ k → (k ≡ j → ⊥)
    → info_at j (remove_at i ks) (remove_at i ds) ≡ info_at j ks ds
unfolding remove_at
remove-others i j k [] ds e l h n = absurd (not-suc-le-zero l)
remove-others i j k (x ∷ ks) [] e l h n = absurd (omega arith)
remove-others zero j k (x ∷ ks) (y ∷ ds) e l h n = sym (at_there j x y ks ds (λ q. n (sym h ∙ q)))
remove-others (suc i) j k (x ∷ ks) (y ∷ ds) e l h n =
    at-cons j x y (remove_at i ks) (remove_at i ds) ks ds (remove-others i j k ks ds (omega arith) (le_of_suc-le-suc l) h n)

-- ---- the ways out of info_at

module _ (ks ds : List ℕ) (k i : ℕ) where
  pub info-found : ascending_from 0 ks ≡ true → length ks ≡ length ds → Searched ks k i true → get_or ds i 0 ≡ info_at k ks ds
  info-found asc lens s = ap (λ (j : ℕ). get_or ds j 0) s.place ∙ sym (info-has k ks ds asc lens s.has)

  pub info-absent : Searched ks k i false → 0 ≡ info_at k ks ds
  info-absent s = sym (info-none k ks ds s.has)

-- ---- a table

-- rows of the full length, no more points than the limit, keys ascending: every table that the calls make
pub record Sorted (t : Points) : Type 0 where
  pub most : t.count ≤ point_most
  pub keys_long : length t.keys ≡ point_most
  pub infos_long : length t.infos ≡ point_most
  pub ascending : ascending_from 0 (keys_of t) ≡ true

-- what holds at the key and the info of every point of a table
abbrev pub EachPoint : (ℕ → ℕ → Type 0) → Points → Type 0
EachPoint P t = (j : ℕ) → j < t.count → P (get_or t.keys j 0) (get_or t.infos j 0)
