-- The pairs of a call that sets a master: what the numbers in their places say of the thresholds and events that they are.
use Rattle.std.specs.Prelude.{Option, Some, None}
use Prim.Native.Nat.{ℕ, zero, suc, ◌+◌, ◌*◌, ◌≤◌, ◌<◌}
use mathlib.Core.Path.{◌≡◌, refl, sym, ◌∙◌, ap}
use mathlib.Core.Bool.{Bool, true, false, cond, not, ◌&&◌, false≢true}
use mathlib.Core.List.{List, [], ◌∷◌}
use native.Mathlib.Nat.{not-suc-le-zero, le_of_suc-le-suc}
use native.Mathlib.Omega.{arith}
use Rattle.std.specs.List.{list_all}
use Rattle.std.specs.Simd.{first_chunks}
use lib.Dec.{leb, eqb}
use lib.IntN.{ℤ}
use lib.ListN.{length, get_or, set}
use borrow.Author.Tests.{le-leb, lt-leb, leb-true, eq-eqb, ne_eqb}
use Rattle.track.specs.Rule.{STOPPED, threshold_count, threshold_most, event_most}
use Rattle.track.specs.Number.{natural_of}
use Rattle.track.specs.declared.Track.{Track}
use Rattle.track.specs.Follow.{following, zeros_test, pairs_test}
use Rattle.track.proofs.Tests.{both, both_is, cond_yes, cond_no}
use Rattle.track.proofs.Numbers.{natural-in}
use Rattle.board.specs.Points.{ascending_from}
use Rattle.board.specs.declared.Board.{Board}
use Rattle.board.specs.Setup.{Outcome}
use Rattle.board.specs.Board.{track_at, is_present, master_test}
use Rattle.board.specs.Setup.{accepted, refused, board_with, put_master}
use Rattle.board.specs.Setup.{is_in, number_in, number_at, ranged_test, thresholds_in, events_in, rising_test, row_of, master_named}

-- ---- a number from 1 on, 0 if it is out of range

module _ (z : ℤ) (most : ℕ) where
  -- it is never above the most
  pub in_most : number_in (natural_of z 1 most) ≤ most
  in_most = go (natural_of z 1 most) refl
    where
      go : (n : Option ℕ) → natural_of z 1 most ≡ n → number_in n ≤ most
      go (Some k) e = (natural-in z 1 most e).2
      go None e = omega arith

  -- one in range is from 1 to the most
  pub in-range : is_in (natural_of z 1 most) ≡ true → (1 ≤ number_in (natural_of z 1 most)) × (number_in (natural_of z 1 most) ≤ most)
  in-range = go (natural_of z 1 most) refl
    where
      go : (n : Option ℕ) → natural_of z 1 most ≡ n → is_in n ≡ true → (1 ≤ number_in n) × (number_in n ≤ most)
      go (Some k) e h = let r = natural-in z 1 most e in (r.1, r.2)
      go None e h = absurd (false≢true h)

  -- so it is not 0
  pub in-nonzero : is_in (natural_of z 1 most) ≡ true → eqb (number_in (natural_of z 1 most)) 0 ≡ false
  in-nonzero h = let r = (in-range h).0 in ne_eqb (number_in (natural_of z 1 most)) 0 (λ e. absurd (omega arith))

-- ---- the pairs one by one

both-first : (a b : Bool) {l r : Bool} → l ≡ r → ((a && (b && true)) && l) ≡ (a && (b && r))
both-first true true e = e
both-first true false e = refl
both-first false b e = refl

both-out : (a b : Bool) {r : Bool} → false ≡ r → false ≡ (a && (b && r))
both-out true true e = e
both-out true false e = refl
both-out false b e = refl

-- pairs with nothing left over are in range if each is
pub ranged-whole : (k : ℕ) (zs : List ℤ) → length zs ≡ k * 2 → list_all ranged_test (first_chunks 2 k zs) ≡ ranged_test zs
unfolding ranged_test
ranged-whole zero [] h = refl
ranged-whole zero (x ∷ zs) h = absurd (omega (arith, h))
ranged-whole (suc k) [] h = absurd (omega (arith, h))
ranged-whole (suc k) (x ∷ []) h = absurd (omega (arith, h))
ranged-whole (suc k) (x ∷ e ∷ zs) h =
    both-first (is_in (natural_of x 1 threshold_most)) (is_in (natural_of e 1 event_most)) (ranged-whole k zs (omega (arith, h)))

-- a threshold without an event is in no range
pub ranged-odd : (k : ℕ) (zs : List ℤ) → length zs ≡ k * 2 + 1 → false ≡ ranged_test zs
unfolding ranged_test
ranged-odd k [] h = absurd (omega (arith, h))
ranged-odd k (x ∷ []) h = refl
ranged-odd zero (x ∷ e ∷ zs) h = absurd (omega (arith, h))
ranged-odd (suc k) (x ∷ e ∷ zs) h =
    both-out (is_in (natural_of x 1 threshold_most)) (is_in (natural_of e 1 event_most)) (ranged-odd k zs (omega (arith, h)))

-- ---- pairs in their ranges

module _ (x e : ℤ) (zs : List ℤ) (h : ranged_test (x ∷ e ∷ zs) ≡ true) where
  first-in : is_in (natural_of x 1 threshold_most) ≡ true
  unfolding ranged_test
  first-in = (both (is_in (natural_of x 1 threshold_most)) (is_in (natural_of e 1 event_most) && ranged_test zs) h).0

  second-in : is_in (natural_of e 1 event_most) ≡ true
  unfolding ranged_test
  second-in =
      (both (is_in (natural_of e 1 event_most)) (ranged_test zs)
      (both (is_in (natural_of x 1 threshold_most)) (is_in (natural_of e 1 event_most) && ranged_test zs) h).1).0

  rest_in : ranged_test zs ≡ true
  unfolding ranged_test
  rest_in =
      (both (is_in (natural_of e 1 event_most)) (ranged_test zs)
      (both (is_in (natural_of x 1 threshold_most)) (is_in (natural_of e 1 event_most) && ranged_test zs) h).1).1

-- two numbers for each threshold
pub pairs-long : (zs : List ℤ) → ranged_test zs ≡ true → length zs ≡ length (thresholds_in zs) + length (thresholds_in zs)
unfolding ranged_test thresholds_in
pairs-long [] h = refl
pairs-long (x ∷ []) h = absurd (false≢true h)
pairs-long (x ∷ e ∷ zs) h = let l = pairs-long zs (rest_in x e zs h) in omega arith

-- the thresholds are in every second place, the events in the places between
twice : ℕ → ℕ
twice zero = 0
twice (suc k) = suc (suc (twice k))

threshold-at : (zs : List ℤ) (k : ℕ) → ranged_test zs ≡ true → number_at zs (twice k) threshold_most ≡ get_or (thresholds_in zs) k 0
unfolding ranged_test thresholds_in natural_of twice
threshold-at [] k h = refl
threshold-at (x ∷ []) k h = absurd (false≢true h)
threshold-at (x ∷ e ∷ zs) zero h = refl
threshold-at (x ∷ e ∷ zs) (suc k) h = threshold-at zs k (rest_in x e zs h)

event-at : (zs : List ℤ) (k : ℕ) → ranged_test zs ≡ true → number_at zs (suc (twice k)) event_most ≡ get_or (events_in zs) k 0
unfolding ranged_test events_in natural_of twice
event-at [] k h = refl
event-at (x ∷ []) k h = absurd (false≢true h)
event-at (x ∷ e ∷ zs) zero h = refl
event-at (x ∷ e ∷ zs) (suc k) h = event-at zs k (rest_in x e zs h)

module _ (zs : List ℤ) (h : ranged_test zs ≡ true) where
  pub thresholds-row : {r : List ℕ} →
      r ≡ number_at zs 0 threshold_most ∷ number_at zs 2 threshold_most ∷ number_at zs 4 threshold_most ∷ number_at zs 6 threshold_most ∷ [] → r ≡ row_of (thresholds_in zs)
  unfolding twice
  thresholds-row e =
      e ∙ (λ i. threshold-at zs 0 h i ∷ threshold-at zs 1 h i ∷ threshold-at zs 2 h i ∷ threshold-at zs 3 h i ∷ [])

  pub events-row : {r : List ℕ} →
      r ≡ number_at zs 1 event_most ∷ number_at zs 3 event_most ∷ number_at zs 5 event_most ∷ number_at zs 7 event_most ∷ [] → r ≡ row_of (events_in zs)
  unfolding twice
  events-row e = e ∙ (λ i. event-at zs 0 h i ∷ event-at zs 1 h i ∷ event-at zs 2 h i ∷ event-at zs 3 h i ∷ [])

-- ---- four of them at most, strictly rising, keep the rules of a follower

-- a row of n places
padded : ℕ → List ℕ → List ℕ
padded zero xs = []
padded (suc n) [] = 0 ∷ padded n []
padded (suc n) (x ∷ xs) = x ∷ padded n xs

row-padded : (xs : List ℕ) → row_of xs ≡ padded threshold_count xs
unfolding padded
row-padded [] = refl
row-padded (a ∷ []) = refl
row-padded (a ∷ b ∷ []) = refl
row-padded (a ∷ b ∷ c ∷ []) = refl
row-padded (a ∷ b ∷ c ∷ d ∷ xs) = refl

padded-zeros : (n : ℕ) → zeros_test (padded n []) ≡ true
unfolding padded zeros_test
padded-zeros zero = refl
padded-zeros (suc n) = padded-zeros n

padded-pairs : (n lo : ℕ) (zs : List ℤ) → ranged_test zs ≡ true → length (thresholds_in zs) ≤ n →
    pairs_test lo (padded n (thresholds_in zs)) (padded n (events_in zs)) ≡ ascending_from (suc lo) (thresholds_in zs)
unfolding ranged_test thresholds_in events_in padded pairs_test zeros_test ascending_from
padded-pairs zero lo [] h l = refl
padded-pairs (suc n) lo [] h l = simp (padded-zeros n)
padded-pairs n lo (x ∷ []) h l = absurd (false≢true h)
padded-pairs zero lo (x ∷ e ∷ zs) h l = absurd (not-suc-le-zero l)
padded-pairs (suc n) lo (x ∷ e ∷ zs) h l =
    let p = in-range x threshold_most (first-in x e zs h) in
    let q = in-range e event_most (second-in x e zs h) in
    simp (
      in-nonzero x threshold_most (first-in x e zs h),
      le-leb _ threshold_most p.1,
      le-leb 1 (number_in (natural_of e 1 event_most)) q.0,
      le-leb _ event_most q.1,
      padded-pairs n (number_in (natural_of x 1 threshold_most)) zs (rest_in x e zs h) (le_of_suc-le-suc l),
    )

-- the first is from 1 on
from_one : (zs : List ℤ) → ranged_test zs ≡ true → ascending_from 1 (thresholds_in zs) ≡ ascending_from 0 (thresholds_in zs)
unfolding ranged_test thresholds_in ascending_from
from_one [] h = refl
from_one (x ∷ []) h = absurd (false≢true h)
from_one (x ∷ e ∷ zs) h =
    let p = in-range x threshold_most (first-in x e zs h) in
    simp (le-leb 1 (number_in (natural_of x 1 threshold_most)) p.0, le-leb 0 (number_in (natural_of x 1 threshold_most)) (omega arith))

module _ (zs : List ℤ) (h : ranged_test zs ≡ true) where
  pub pairs-rising : length zs ≤ 8 → pairs_test 0 (row_of (thresholds_in zs)) (row_of (events_in zs)) ≡ rising_test (thresholds_in zs)
  unfolding rising_test
  pairs-rising l =
      let m : length (thresholds_in zs) ≤ threshold_count = omega (arith, pairs-long zs h) in
      (λ i. pairs_test 0 (row-padded (thresholds_in zs) i) (row-padded (events_in zs) i))
      ∙ padded-pairs threshold_count 0 zs h m
      ∙ from_one zs h
      ∙ simp (le-leb (length (thresholds_in zs)) threshold_count m)

  pub pairs-many : 8 < length zs → rising_test (thresholds_in zs) ≡ false
  unfolding rising_test
  pairs-many l = simp (lt-leb (length (thresholds_in zs)) threshold_count (omega (arith, pairs-long zs h)))

  -- those that rise are no more than four
  pub rising-few : rising_test (thresholds_in zs) ≡ true → length zs ≤ 8
  unfolding rising_test
  rising-few r =
      let m = leb-true (length (thresholds_in zs)) threshold_count (both (leb (length (thresholds_in zs)) threshold_count) (ascending_from 0 (thresholds_in zs)) r).0 in
      omega (arith, pairs-long zs h)

-- ---- the master that is kept

-- it is another track that is present, or 0
pub master-kept : (present i m : ℕ) (t : Track) (zs : List ℤ) → is_present present m ≡ true → (i ≡ m → ⊥) → ranged_test zs ≡ true →
    master_test present i (following t (master_named m zs) (row_of (thresholds_in zs)) (row_of (events_in zs))) ≡ true
unfolding master_test thresholds_in ranged_test
master-kept present i m t [] p n h = refl
master-kept present i m t (x ∷ []) p n h = absurd (false≢true h)
master-kept present i m t (x ∷ e ∷ zs) p n h =
    simp (in-nonzero x threshold_most (first-in x e zs h), p, ne_eqb m i (λ z. n (sym z)))

-- ---- the ways out of `put_master`, from the test of the pairs on

module _ (b : Board) (i m : ℕ) (zs : List ℤ) (stopped : (track_at b.tracks i).mode ≡ STOPPED) (other : i ≡ m → ⊥) {a : Bool} (ea : a ≡ ranged_test zs)
    (ha : a ≡ true) where
  ranged : ranged_test zs ≡ true
  ranged = sym ea ∙ ha

  -- a value in its range: what is left is whether the thresholds rise
  valued : {r : Outcome} →
      r ≡ cond (rising_test (thresholds_in zs))
      (accepted (board_with b
      (set b.tracks i (following (track_at b.tracks i) (master_named m zs) (row_of (thresholds_in zs)) (row_of (events_in zs))))
      b.present b.points b.held))
      (refused 10 b) → r ≡ put_master b i m zs
  unfolding put_master
  valued e =
      let f : (not (eqb i m) && ranged_test zs) ≡ true = both_is (ap not (ne_eqb i m other)) ranged in
      cond_yes _ _ (eq-eqb _ _ stopped) (cond_yes _ _ f e)

  pub put_many : 8 < length zs → refused 10 b ≡ put_master b i m zs
  put_many l = valued (cond_no _ _ (pairs-many zs ranged l) refl)

  module _ (l : length zs ≤ 8) {xs es : List ℕ}
      (ex : xs ≡ number_at zs 0 threshold_most ∷ number_at zs 2 threshold_most ∷ number_at zs 4 threshold_most ∷ number_at zs 6 threshold_most ∷ [])
      (ee : es ≡ number_at zs 1 event_most ∷ number_at zs 3 event_most ∷ number_at zs 5 event_most ∷ number_at zs 7 event_most ∷ [])
      {k : Bool} (ek : k ≡ pairs_test 0 xs es) where
    rises : k ≡ rising_test (thresholds_in zs)
    rises =
        ek
        ∙ (λ j. pairs_test 0 (thresholds-row zs ranged ex j) (events-row zs ranged ee j))
        ∙ pairs-rising zs ranged l

    pub put_falling : k ≡ false → refused 10 b ≡ put_master b i m zs
    put_falling h = valued (cond_no _ _ (sym rises ∙ h) refl)

    pub put_done : k ≡ true → {s : ℕ} → s ≡ master_named m zs → {u : Track} → u ≡ following (track_at b.tracks i) s xs es →
        accepted (board_with b (set b.tracks i u) b.present b.points b.held) ≡ put_master b i m zs
    put_done h ev eu =
        valued
        (cond_yes _ _ (sym rises ∙ h)
        (ap (λ (v : Track). accepted (board_with b (set b.tracks i v) b.present b.points b.held))
        (eu ∙ (λ j. following (track_at b.tracks i) (ev j) (thresholds-row zs ranged ex j) (events-row zs ranged ee j)))))

-- the ways out of setting a master
pub ruleset putting = (put_many, put_falling, put_done)
