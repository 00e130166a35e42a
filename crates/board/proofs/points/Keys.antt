-- Ascending keys, the first one from a number on, and the search for it.
use Prim.Native.Nat.{ℕ, zero, suc, ◌+◌, ◌≤◌, ◌<◌, suc-le-suc, zero-le}
use native.Mathlib.Nat.{le_of_suc-le-suc, not-suc-le-zero, zero-lt-suc, le_refl}
use native.Mathlib.Omega.{arith}
use mathlib.Core.Path.{◌≡◌, refl, sym, ◌∙◌}
use mathlib.Core.Logic.{◌⊎◌, inl, inr, ⊎_elim}
use mathlib.Core.Bool.{Bool, true, false, cond, ◌||◌, or-true, false≢true}
use mathlib.Core.List.{List, [], ◌∷◌}
use lib.ListN.{length, take, get_or}
use lib.Seq.{length-take-le}
use lib.Dec.{leb, ltb, eqb}
use borrow.Author.Tests.{lt-ltb, le-ltb, le-leb, eq-eqb, ne_eqb, leb-true, ltb-true, ltb-false, eqb-true, eqb-false}
use Rattle.std.specs.Prelude.{Ok, Err}
use Rattle.std.specs.Ordering.{nat_cmp}
use Rattle.std.specs.List.Sorted.{IsBinarySearchResult}
use Rattle.std.proofs.lemmas.List.Sorted.{searched}
use Rattle.track.proofs.Tests.{refuted, both}
use Rattle.board.specs.Points.{ascending_from, has_key, first_from}

pub lt-or-ge : (a b : ℕ) → (a < b) ⊎ (b ≤ a)
lt-or-ge a b = go (ltb a b) refl
  where
    go : (t : Bool) → ltb a b ≡ t → (a < b) ⊎ (b ≤ a)
    go true e = inl (ltb-true a b e)
    go false e = inr (ltb-false a b e)

pub same_or_not : (a b : ℕ) → (a ≡ b) ⊎ (a ≡ b → ⊥)
same_or_not a b = go (eqb a b) refl
  where
    go : (t : Bool) → eqb a b ≡ t → (a ≡ b) ⊎ (a ≡ b → ⊥)
    go true e = inl (eqb-true a b e)
    go false e = inr (eqb-false a b e)

-- ---- ascending keys

pub ascending-head : (lo x : ℕ) (xs : List ℕ) → ascending_from lo (x ∷ xs) ≡ true → lo ≤ x
unfolding ascending_from
ascending-head lo x xs h = leb-true lo x (both (leb lo x) _ h).0

pub ascending-rest : (lo x : ℕ) (xs : List ℕ) → ascending_from lo (x ∷ xs) ≡ true → ascending_from (suc x) xs ≡ true
unfolding ascending_from
ascending-rest lo x xs h = (both (leb lo x) _ h).1

pub ascending-cons : (lo x : ℕ) (xs : List ℕ) → lo ≤ x → ascending_from (suc x) xs ≡ true → ascending_from lo (x ∷ xs) ≡ true
unfolding ascending_from
ascending-cons lo x xs l h = rw (le-leb lo x l) h

-- every key is at least the bound
pub ascending-low : (lo : ℕ) (xs : List ℕ) → ascending_from lo xs ≡ true → (q : ℕ) → q < length xs → lo ≤ get_or xs q 0
ascending-low lo [] h q l = absurd (not-suc-le-zero l)
ascending-low lo (x ∷ xs) h zero l = ascending-head lo x xs h
ascending-low lo (x ∷ xs) h (suc q) l =
    let a = ascending-head lo x xs h in
    let b = ascending-low (suc x) xs (ascending-rest lo x xs h) q (le_of_suc-le-suc l) in
    omega arith

-- a key further on is larger
pub ascending-lt : (lo : ℕ) (xs : List ℕ) → ascending_from lo xs ≡ true → (p q : ℕ) → p < q → q < length xs → get_or xs p 0 < get_or xs q 0
ascending-lt lo [] h p q pq l = absurd (not-suc-le-zero l)
ascending-lt lo (x ∷ xs) h p zero pq l = absurd (not-suc-le-zero pq)
ascending-lt lo (x ∷ xs) h zero (suc q) pq l = ascending-low (suc x) xs (ascending-rest lo x xs h) q (le_of_suc-le-suc l)
ascending-lt lo (x ∷ xs) h (suc p) (suc q) pq l =
    ascending-lt (suc x) xs (ascending-rest lo x xs h) p q (le_of_suc-le-suc pq) (le_of_suc-le-suc l)

pub ascending-le : (lo : ℕ) (xs : List ℕ) → ascending_from lo xs ≡ true → (p q : ℕ) → p ≤ q → q < length xs → get_or xs p 0 ≤ get_or xs q 0
ascending-le lo xs h p q pq l =
    ⊎_elim
    (λ (g : p < q). let m = ascending-lt lo xs h p q g l in omega arith)
    (λ (g : q ≤ p). let e : p ≡ q = omega arith in rw e (le_refl (get_or xs q 0)))
    (lt-or-ge p q)

-- ---- the first key from a number on

-- what first_from says: smaller keys before the index, and none at it
pub record First (xs : List ℕ) (k r : ℕ) : Type 0 where
  pub le : r ≤ length xs
  pub below : (j : ℕ) → j < r → get_or xs j 0 < k
  pub at : r < length xs → k ≤ get_or xs r 0

first-cons : (x : ℕ) (xs : List ℕ) (k r : ℕ) (b : Bool) → ltb x k ≡ b → First xs k r → First (x ∷ xs) k (cond b (suc r) 0)
first-cons x xs k r true e f = record { le = suc-le-suc f.le; below = low; at = λ h. f.at (le_of_suc-le-suc h) }
  where
    low : (j : ℕ) → j < suc r → get_or (x ∷ xs) j 0 < k
    low zero h = ltb-true x k e
    low (suc j) h = f.below j (le_of_suc-le-suc h)
first-cons x xs k r false e f = record { le = zero-le; below = λ j h. absurd (not-suc-le-zero h); at = λ h. ltb-false x k e }

pub first-is : (xs : List ℕ) (k : ℕ) → First xs k (first_from xs k)
unfolding first_from
first-is [] k = record { le = le_refl 0; below = λ j h. absurd (not-suc-le-zero h); at = λ h. absurd (not-suc-le-zero h) }
first-is (x ∷ xs) k = first-cons x xs k (first_from xs k) (ltb x k) refl (first-is xs k)

pub first_at : (xs : List ℕ) (k i : ℕ) → i ≡ first_from xs k → First xs k i
first_at xs k i e = rw e (first-is xs k)

-- the keys before it are as many as its index
pub first-length : (xs : List ℕ) (k i : ℕ) → i ≡ first_from xs k → length (take i xs) ≡ i
first-length xs k i e = length-take-le i xs (first_at xs k i e).le

-- only the index of first_from is so
pub first-unique : (xs : List ℕ) (k r : ℕ) → First xs k r → r ≡ first_from xs k
unfolding first_from
first-unique [] k r f = let l = f.le in omega arith
first-unique (x ∷ xs) k zero f = rw (le-ltb x k (f.at (zero-lt-suc (length xs))))
first-unique (x ∷ xs) k (suc r) f =
    let rest : First xs k r = record {
      le = le_of_suc-le-suc f.le;
      below = λ j h. f.below (suc j) (suc-le-suc h);
      at = λ h. f.at (suc-le-suc h);
    } in
    let e = first-unique xs k r rest in
    rw (lt-ltb x k (f.below zero (zero-lt-suc r)), e)

-- ---- the search by halves: every key before low is below w, and every one from high on is at least w

pub record Bracket (xs : List ℕ) (w low high : ℕ) : Type 0 where
  pub low_le : low ≤ high
  pub high_le : high ≤ length xs
  pub below : (j : ℕ) → j < low → get_or xs j 0 < w
  pub from : (j : ℕ) → high ≤ j → j < length xs → w ≤ get_or xs j 0

-- the search starts, takes its turns and ends
pub bracket-start : (xs : List ℕ) (w : ℕ) → Bracket xs w 0 (length xs)
bracket-start xs w = record {
  low_le = omega arith;
  high_le = omega arith;
  below = λ j l. absurd (not-suc-le-zero l);
  from = λ j l l'. absurd (omega arith);
}

module _ (xs : List ℕ) (w : ℕ) (asc : ascending_from 0 xs ≡ true) where
  module _ (low high middle : ℕ) (b : Bracket xs w low high) (up : low ≤ middle) (down : middle < high) where
    pub bracket-up : get_or xs middle 0 < w → Bracket xs w (middle + 1) high
    bracket-up h = record {
      low_le = omega arith;
      high_le = b.high_le;
      below = λ j l. let m = ascending-le 0 xs asc j middle (omega arith) (let e = b.high_le in omega arith) in omega arith;
      from = b.from;
    }

    pub bracket-down : w ≤ get_or xs middle 0 → Bracket xs w low middle
    bracket-down h = record {
      low_le = up;
      high_le = let e = b.high_le in omega arith;
      below = b.below;
      from = λ j l l'. let m = ascending-le 0 xs asc middle j l l' in omega arith;
    }

  pub bracket-done : (low high : ℕ) → Bracket xs w low high → high ≤ low → low ≡ first_from xs w
  bracket-done low high b h =
      first-unique xs w low (record {
        le = let e = b.high_le in let f = b.low_le in omega arith;
        below = b.below;
        at = λ l. b.from low h l;
      })

-- ---- whether a key is there

-- a key is there as the first one or further on
pub has-head : (k x : ℕ) (xs : List ℕ) → x ≡ k → has_key k (x ∷ xs) ≡ true
unfolding has_key
has-head k x xs e = rw (eq-eqb x k e)

pub has-tail : (k x : ℕ) (xs : List ℕ) → has_key k xs ≡ true → has_key k (x ∷ xs) ≡ true
unfolding has_key
has-tail k x xs h = rw h (or-true (eqb x k))

pub has-cases : (k x : ℕ) (xs : List ℕ) → has_key k (x ∷ xs) ≡ true → (x ≡ k) ⊎ (has_key k xs ≡ true)
unfolding has_key
has-cases k x xs h = go (eqb x k) refl h
  where
    go : (t : Bool) → eqb x k ≡ t → (t || has_key k xs) ≡ true → (x ≡ k) ⊎ (has_key k xs ≡ true)
    go true e h = inl (eqb-true x k e)
    go false e h = inr h

pub has-none : (k : ℕ) → has_key k [] ≡ false
unfolding has_key
has-none k = refl

pub has-past : (k x : ℕ) (xs : List ℕ) → (x ≡ k → ⊥) → has_key k xs ≡ false → has_key k (x ∷ xs) ≡ false
unfolding has_key
has-past k x xs n h = rw (ne_eqb x k n) h

-- a key that stands at an index is there
pub has-index : (k j : ℕ) (ks : List ℕ) → j < length ks → get_or ks j 0 ≡ k → has_key k ks ≡ true
has-index k j [] l e = absurd (not-suc-le-zero l)
has-index k zero (x ∷ ks) l e = has-head k x ks e
has-index k (suc j) (x ∷ ks) l e = has-tail k x ks (has-index k j ks (le_of_suc-le-suc l) e)

-- a key that is there stands at an index
pub index-has : (k : ℕ) (ks : List ℕ) → has_key k ks ≡ true → (j : ℕ) × (j < length ks) × (get_or ks j 0 ≡ k)
index-has k [] h = absurd (false≢true (sym (has-none k) ∙ h))
index-has k (x ∷ ks) h =
    ⊎_elim
    (λ (e : x ≡ k). (zero, zero-lt-suc (length ks), e))
    (λ (t : has_key k ks ≡ true). let i = index-has k ks t in (suc i.0, suc-le-suc i.1, i.2))
    (has-cases k x ks h)

-- a key that is there is at least the bound
pub has-low : (lo k : ℕ) (ks : List ℕ) → ascending_from lo ks ≡ true → has_key k ks ≡ true → lo ≤ k
has-low lo k ks asc h = let j = index-has k ks h in let m = ascending-low lo ks asc j.0 j.1 in omega arith

-- a key below the bound is not there
pub has-below : (lo k : ℕ) (ks : List ℕ) → ascending_from lo ks ≡ true → k < lo → has_key k ks ≡ false
has-below lo k ks asc l = sym (refuted (has_key k ks) (λ h. omega (arith, has-low lo k ks asc h)))

-- a key that is there stands at the first index from it on (has-index is the other direction)
pub has_first : (k i : ℕ) (ks : List ℕ) → ascending_from 0 ks ≡ true → i ≡ first_from ks k → has_key k ks ≡ true
    → (i < length ks) × (get_or ks i 0 ≡ k)
has_first k i ks asc ei h =
    let f : First ks k i = rw ei (first-is ks k) in
    let j = index-has k ks h in
    ⊎_elim
    (λ (l : j.0 < i). let b = f.below j.0 l in absurd (omega arith))
    (λ (l : i ≤ j.0).
    let il : i < length ks = omega arith in
    let a = f.at il in
    let m = ascending-le 0 ks asc i j.0 l j.1 in
    (il, omega arith))
    (lt-or-ge j.0 i)

-- a key that does not stand at the first index from it on is not there
pub has-not : (k i : ℕ) (ks : List ℕ) → ascending_from 0 ks ≡ true → i ≡ first_from ks k → (i < length ks → get_or ks i 0 ≡ k → ⊥)
    → has_key k ks ≡ false
has-not k i ks asc ei n = sym (refuted (has_key k ks) (λ h. let f = has_first k i ks asc ei h in n f.0 f.1))

-- ---- the search for a key

-- what it says: whether the key is there, and that the index is the first from the key on
pub record Searched (ks : List ℕ) (k i : ℕ) (there : Bool) : Type 0 where
  pub has : has_key k ks ≡ there
  pub place : i ≡ first_from ks k

module _ (ks : List ℕ) (k i : ℕ) (asc : ascending_from 0 ks ≡ true) where
  -- by the first index from the key on
  pub placed_there : i ≡ first_from ks k → (i < length ks) × ((d : ℕ) → k ≡ get_or ks i d) → Searched ks k i true
  placed_there ei g = record { has = has-index k i ks g.0 (sym (g.1 0)); place = ei }

  pub placed_none : i ≡ first_from ks k → (i < length ks → get_or ks i 0 ≡ k → ⊥) → Searched ks k i false
  placed_none ei n = record { has = has-not k i ks asc ei n; place = ei }

  -- by the library's search
  pub searched_there : IsBinarySearchResult (λ y. nat_cmp y k) ks (Ok i) → Searched ks k i true
  searched_there h =
      let s = searched ks k (Ok i) h (ascending-le 0 ks asc) in
      record {
        has = has-index k i ks s.0 s.1;
        place =
            first-unique ks k i
            (record {
              le = omega (arith, s.0);
              below = λ j m. let b = ascending-lt 0 ks asc j i m s.0 in omega (arith, s.1);
              at = λ m. omega (arith, s.1);
            });
      }

  pub searched_none : IsBinarySearchResult (λ y. nat_cmp y k) ks (Err i) → Searched ks k i false
  searched_none h =
      let s = searched ks k (Err i) h (ascending-le 0 ks asc) in
      let e =
      first-unique ks k i
      (record { le = s.0; below = s.1; at = λ m. let b = s.2 i (le_refl i) m in omega arith }) in
      record { has = has-not k i ks asc e (λ l q. let b = s.2 i (le_refl i) l in omega arith); place = e }
