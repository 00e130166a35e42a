-- The band of a drift, and the drifts of a band.
use Prim.Native.Nat.{ℕ, zero, suc, ◌≤◌, ◌<◌}
use mathlib.Core.Path.{◌≡◌, refl, ap}
use mathlib.Core.Bool.{Bool, true, false, cond, ◌&&◌, true≢false}
use mathlib.Core.List.{List, [], ◌∷◌}
use native.Mathlib.Omega.{arith}
use lib.Dec.{ltb, leb, eqb}
use lib.ListN.{length, get_or}
use borrow.Author.Tests.{ltb-true, ltb-false, lt-ltb, le-ltb, leb-true, le-leb, eqb-true, ne_eqb}
use Rattle.track.specs.Rule.{coordinate_last, threshold_most, event_most}
use Rattle.track.specs.Follow.{up_to_zero, band_of, low_of, high_of, zeros_test, pairs_test}
use Rattle.track.proofs.Tests.{both}
use Rattle.board.specs.Points.{ascending_from}

rising-head : (lo x : ℕ) (xs : List ℕ) → ascending_from (suc lo) (x ∷ xs) ≡ true → lo < x
unfolding ascending_from
rising-head lo x xs h = leb-true (suc lo) x (both (leb (suc lo) x) (ascending_from (suc x) xs) h).0

rising-rest : (lo x : ℕ) (xs : List ℕ) → ascending_from (suc lo) (x ∷ xs) ≡ true → ascending_from (suc x) xs ≡ true
unfolding ascending_from
rising-rest lo x xs h = (both (leb (suc lo) x) (ascending_from (suc x) xs) h).1

-- every element of a rising list is above its floor
above : (lo : ℕ) (xs : List ℕ) → ascending_from (suc lo) xs ≡ true → (k : ℕ) → k < length xs → lo < get_or xs k 0
above lo [] h k l = absurd (omega arith)
above lo (x ∷ xs) h zero l = rising-head lo x xs h
above lo (x ∷ xs) h (suc k) l = let a = rising-head lo x xs h in let b = above x xs (rising-rest lo x xs h) k (omega arith) in omega arith

-- a drift in the range of a band has that band
pub band-is : (lo : ℕ) (xs : List ℕ) → ascending_from (suc lo) xs ≡ true → (k d : ℕ) → k ≤ length xs
    → low_of xs k ≤ d → d ≤ high_of xs k → band_of xs d ≡ k
unfolding band_of
band-is lo [] h zero d l a b = refl
band-is lo [] h (suc k) d l a b = absurd (omega arith)
band-is lo (x ∷ xs) h zero d l a b = rw (le-ltb x d b)
band-is lo (x ∷ xs) h (suc zero) d l a b = rw (lt-ltb x d a) (ap suc (band-is x xs (rising-rest lo x xs h) zero d (omega arith) (omega arith) b))
band-is lo (x ∷ xs) h (suc (suc k)) d l a b =
    let up = above x xs (rising-rest lo x xs h) k (omega arith) in
    rw (lt-ltb x d (omega arith)) (ap suc (band-is x xs (rising-rest lo x xs h) (suc k) d (omega arith) a b))

-- and the other way
pub band-within : (xs : List ℕ) (d : ℕ) → d ≤ coordinate_last → (low_of xs (band_of xs d) ≤ d) × (d ≤ high_of xs (band_of xs d))
unfolding band_of
band-within [] d m = (omega arith, m)
band-within (x ∷ xs) d m = go (ltb x d) refl (band_of xs d) (band-within xs d m)
  where
    go : (b : Bool) → ltb x d ≡ b → (k : ℕ) → (low_of xs k ≤ d) × (d ≤ high_of xs k)
        → (low_of (x ∷ xs) (cond b (suc k) 0) ≤ d) × (d ≤ high_of (x ∷ xs) (cond b (suc k) 0))
    go true e zero ih = (ltb-true x d e, ih.1)
    go true e (suc k) ih = ih
    go false e k ih = (omega arith, ltb-false x d e)

-- "The band is the highest threshold exceeded": each up to the k-th is exceeded, and none behind it
pub record Highest (xs : List ℕ) (d k : ℕ) : Type 0 where
  pub one : k ≤ length xs
  pub exceeded : (j : ℕ) → j < k → get_or xs j 0 < d
  pub not_above : (j : ℕ) → k ≤ j → j < length xs → d ≤ get_or xs j 0

pub band-highest : (lo : ℕ) (xs : List ℕ) → ascending_from (suc lo) xs ≡ true → (d : ℕ) → Highest xs d (band_of xs d)
unfolding band_of
band-highest lo [] h d = record { one = omega arith; exceeded = λ j l. absurd (omega arith); not_above = λ j l m. absurd (omega arith) }
band-highest lo (x ∷ xs) h d = go (ltb x d) refl (band_of xs d) (band-highest x xs (rising-rest lo x xs h) d)
  where
    go : (b : Bool) → ltb x d ≡ b → (k : ℕ) → Highest xs d k → Highest (x ∷ xs) d (cond b (suc k) 0)
    go true e k ih =
        record { one = omega (arith, ih.one); exceeded = λ j l. ex j l; not_above = λ j l m. up j l m }
      where
        ex : (j : ℕ) → j < suc k → get_or (x ∷ xs) j 0 < d
        ex zero l = ltb-true x d e
        ex (suc j) l = ih.exceeded j (omega arith)

        up : (j : ℕ) → suc k ≤ j → j < length (x ∷ xs) → d ≤ get_or (x ∷ xs) j 0
        up zero l m = absurd (omega arith)
        up (suc j) l m = ih.not_above j (omega arith) (omega arith)
    go false e k ih =
        record { one = omega arith; exceeded = λ j l. absurd (omega arith); not_above = λ j l m. up j m }
      where
        up : (j : ℕ) → j < length (x ∷ xs) → d ≤ get_or (x ∷ xs) j 0
        up zero m = ltb-false x d e
        up (suc j) m = let a = above x xs (rising-rest lo x xs h) j (omega arith) in let b = ltb-false x d e in omega arith

-- ---- a row of thresholds, and those before the first 0

not-zero : (x : ℕ) (a : Bool) → (eqb (suc x) 0 && a) ≡ true → ⊥
not-zero x a h = let e = eqb-true (suc x) 0 (both (eqb (suc x) 0) a h).0 in omega arith

picked : (b x y : Bool) → b ≡ false → cond b x y ≡ true → y ≡ true
picked true x y e h = absurd (true≢false e)
picked false x y e h = h

-- the tests of the first pair
record First (lo x e : ℕ) (xs es : List ℕ) : Type 0 where
  pub rises : leb (suc lo) x ≡ true
  pub small : x ≤ threshold_most
  pub rest : pairs_test x xs es ≡ true

pairs_first : (lo x e : ℕ) (xs es : List ℕ) → pairs_test lo (suc x ∷ xs) (e ∷ es) ≡ true → First lo (suc x) e xs es
unfolding pairs_test
pairs_first lo x e xs es h =
    let p = picked (eqb (suc x) 0) _ _ (ne_eqb (suc x) 0 (λ q. omega arith)) h in
    let a = both (ltb lo (suc x)) _ p in
    let b = both (leb (suc x) threshold_most) _ a.1 in
    let c = both (leb 1 e) _ b.1 in
    let d = both (leb e event_most) _ c.1 in
    record { rises = le-leb (suc lo) (suc x) (ltb-true lo (suc x) a.0); small = leb-true (suc x) threshold_most b.0; rest = d.1 }

pub pairs-rising : (lo : ℕ) (xs es : List ℕ) → pairs_test lo xs es ≡ true → ascending_from (suc lo) (up_to_zero xs) ≡ true
unfolding up_to_zero ascending_from pairs_test zeros_test
pairs-rising lo [] es h = refl
pairs-rising lo (zero ∷ xs) es h = refl
pairs-rising lo (suc x ∷ xs) [] h = absurd (not-zero x _ h)
pairs-rising lo (suc x ∷ xs) (e ∷ es) h =
    let f = pairs_first lo x e xs es h in simp f.rises (pairs-rising (suc x) xs es f.rest)

-- every threshold is at most the greatest
pub rows-small : (lo : ℕ) (xs es : List ℕ) → pairs_test lo xs es ≡ true → (k : ℕ) → get_or (up_to_zero xs) k 0 ≤ threshold_most
unfolding up_to_zero pairs_test zeros_test
rows-small lo [] es h k = omega arith
rows-small lo (zero ∷ xs) es h k = omega arith
rows-small lo (suc x ∷ xs) [] h k = absurd (not-zero x _ h)
rows-small lo (suc x ∷ xs) (e ∷ es) h zero = (pairs_first lo x e xs es h).small
rows-small lo (suc x ∷ xs) (e ∷ es) h (suc k) = rows-small (suc x) xs es (pairs_first lo x e xs es h).rest k

pub row-length : (xs : List ℕ) → length (up_to_zero xs) ≤ length xs
unfolding up_to_zero
row-length [] = omega arith
row-length (zero ∷ xs) = omega arith
row-length (suc x ∷ xs) = let h = row-length xs in omega arith

-- the thresholds read in the row itself
pub row_at : (xs : List ℕ) (k : ℕ) → k < length (up_to_zero xs) → get_or xs k 0 ≡ get_or (up_to_zero xs) k 0
unfolding up_to_zero
row_at [] k h = absurd (omega arith)
row_at (zero ∷ xs) k h = absurd (omega arith)
row_at (suc x ∷ xs) zero h = refl
row_at (suc x ∷ xs) (suc k) h = row_at xs k (omega arith)

pub row-behind : (xs : List ℕ) (k c : ℕ) → k ≤ length (up_to_zero xs) → get_or xs k 0 ≡ 0 → get_or (up_to_zero xs) k c ≡ c
unfolding up_to_zero
row-behind [] k c h e = refl
row-behind (zero ∷ xs) k c h e = refl
row-behind (suc x ∷ xs) zero c h e = absurd (omega arith)
row-behind (suc x ∷ xs) (suc k) c h e = row-behind xs k c (omega arith) e

pub row_next : (xs : List ℕ) (k c : ℕ) → k ≤ length (up_to_zero xs) → (get_or xs k 0 ≡ 0 → ⊥) → get_or xs k 0 ≡ get_or (up_to_zero xs) k c
unfolding up_to_zero
row_next [] k c h e = absurd (e refl)
row_next (zero ∷ xs) zero c h e = absurd (e refl)
row_next (zero ∷ xs) (suc k) c h e = absurd (omega arith)
row_next (suc x ∷ xs) zero c h e = refl
row_next (suc x ∷ xs) (suc k) c h e = row_next xs k c (omega arith) e
