-- Followers: the test of their rules says whether they keep them, and what a pass over a row of thresholds comes to.
use Prim.Native.Nat.{ℕ, zero, suc, ◌+◌, ◌≤◌, ◌<◌}
use mathlib.Core.Path.{◌≡◌, refl, sym, ◌∙◌, ap}
use mathlib.Core.Bool.{Bool, true, false, cond, not, ◌&&◌, ◌||◌, and_assoc}
use mathlib.Core.List.{List, [], ◌∷◌}
use native.Mathlib.Numerals.{add-one}
use native.Mathlib.Omega.{arith}
use lib.Dec.{ltb, leb, eqb}
use lib.ListN.{length, get_or, drop, drop_of_length-le}
use Rattle.std.proofs.Common.{nat_eq, nat_lt}
use Rattle.std.specs.List.{prefix_len, list_all}
use lib.Seq.{drop-cons}
use borrow.Author.Tests.{eqb-true, leb-true, le-leb, eq-eqb, ne_eqb}
use Rattle.track.specs.declared.Track.{Track}
use Rattle.track.specs.declared.Ticks.{Ticks}
use Rattle.track.specs.Rule.{STOPPED, threshold_count, threshold_most, event_most, Sound, moved, with_remainder, entered}
use Rattle.track.specs.Walk.{stops, visited, step}
use Rattle.track.specs.Stride.{stride}
use Rattle.track.specs.Leap.{moves, remainder_left, played, leap}
use Rattle.track.specs.Follow.{up_to_zero, thresholds_of, distance, apart, band_of, judged, banded, zeros_test, pairs_test, Follower, follower_test}
use Rattle.track.proofs.Tests.{cond_cases, every_of, every-is}

-- ---- a row of thresholds up to its first 0: how many there are, and the band of a drift

pub count-is : (row : List ℕ) → prefix_len (λ x. not (nat_eq x 0)) row ≡ length (up_to_zero row)
unfolding up_to_zero
count-is [] = refl
count-is (zero ∷ row) = refl
count-is (suc x ∷ row) = let n : eqb (suc x) 0 ≡ false = ne_eqb _ _ (omega arith) in simp (n, count-is row) (omega arith)

pub band-is : (row : List ℕ) (drift : ℕ) → prefix_len (λ x. not (nat_eq x 0) && nat_lt x drift) row ≡ band_of (up_to_zero row) drift
unfolding up_to_zero band_of
band-is [] drift = refl
band-is (zero ∷ row) drift = refl
band-is (suc x ∷ row) drift =
    let n : eqb (suc x) 0 ≡ false = ne_eqb _ _ (omega arith) in
    simp (n, band-is row drift) (at (ltb (suc x) drift))
  where
    at : (b : Bool) → cond b (1 + band_of (up_to_zero row) drift) 0 ≡ cond b (suc (band_of (up_to_zero row) drift)) 0
    at true = omega arith
    at false = refl

-- from a 0 on there is none
pub count_none : (row : List ℕ) (k : ℕ) → k < length row → get_or row k 0 ≡ 0 → length (up_to_zero (drop k row)) ≡ 0
unfolding up_to_zero
count_none row k l h = rw (drop-cons row k 0 l, h)

-- ---- thresholds and their events

zeros-is : (xs : List ℕ) → zeros_test xs ≡ list_all (λ x. nat_eq x 0) xs
unfolding zeros_test
zeros-is [] = refl
zeros-is (x ∷ xs) = simp (zeros-is xs)

module _ (low : ℕ) (xs es : List ℕ) (k : ℕ) where
  module _ (l : k < length xs) (m : k < length es) where
    -- at a 0 there is nothing but 0 from there on
    pub pairs_none : get_or xs k 0 ≡ 0 →
        pairs_test low (drop k xs) (drop k es) ≡ (list_all (λ x. nat_eq x 0) (drop k xs) && list_all (λ x. nat_eq x 0) (drop k es))
    unfolding pairs_test zeros_test
    pairs_none h = rw (drop-cons xs k 0 l, drop-cons es k 0 m, h, zeros-is, zeros-is)

    -- at a threshold the pair keeps its rules, and so do those behind it
    pub pairs_some : (get_or xs k 0 ≡ 0 → ⊥) →
        pairs_test low (drop k xs) (drop k es)
        ≡ ((ltb low (get_or xs k 0)
        && (leb (get_or xs k 0) threshold_most
        && (leb 1 (get_or es k 0) && leb (get_or es k 0) event_most)))
        && pairs_test (get_or xs k 0) (drop (k + 1) xs) (drop (k + 1) es))
    unfolding pairs_test
    pairs_some h = rw (add-one, drop-cons xs k 0 l, drop-cons es k 0 m, ne_eqb (get_or xs k 0) 0 h) (simp and_assoc)

    -- then the rules from there on are those behind it
    pub pairs_next : (get_or xs k 0 ≡ 0 → ⊥) → {b : Bool} →
        b ≡ (ltb low (get_or xs k 0) && (leb (get_or xs k 0) threshold_most && (leb 1 (get_or es k 0) && leb (get_or es k 0) event_most))) →
        b ≡ true → pairs_test (get_or xs k 0) (drop (k + 1) xs) (drop (k + 1) es) ≡ pairs_test low (drop k xs) (drop k es)
    pairs_next h e g =
        sym (pairs_some h ∙ ap (λ (p : Bool). p && pairs_test (get_or xs k 0) (drop (k + 1) xs) (drop (k + 1) es)) (sym e ∙ g))

  pub pairs_end : length xs ≤ k → length es ≤ k → pairs_test low (drop k xs) (drop k es) ≡ true
  unfolding pairs_test zeros_test
  pairs_end l m = rw (drop_of_length-le xs {i = k} l, drop_of_length-le es {i = k} m)

-- what the check may use of a pass over them
pub ruleset pairing = (pairs_none, pairs_some, pairs_end)

-- ---- the rules of a follower

module _ (t : Track) (clock : Ticks) where
  rules : List Bool
  rules =
      eqb (length t.thresholds) threshold_count
      ∷ eqb (length t.events) threshold_count
      ∷ pairs_test 0 t.thresholds t.events
      ∷ leb t.band (length (thresholds_of t))
      ∷ (not (eqb clock.0 0) || eqb t.band 0)
      ∷ []

  pub follower-of : follower_test t clock ≡ true → Follower t clock
  unfolding follower_test rules
  follower-of h =
      let e = every_of rules h in
      record {
        thresholds = eqb-true _ _ e.0;
        events = eqb-true _ _ e.1.0;
        pairs = e.1.1.0;
        band = leb-true _ _ e.1.1.1.0;
        start = λ z. eqb-true _ _ (simp (eq-eqb clock.0 0 z) at e.1.1.1.1.0);
      }

  pub follower-is : Follower t clock → true ≡ follower_test t clock
  unfolding follower_test rules
  follower-is f =
      sym (every-is rules (
        eq-eqb _ _ f.thresholds,
        (eq-eqb _ _ f.events, (f.pairs, (le-leb _ _ f.band, (first (eqb clock.0 0) refl, tt)))),
      ))
    where
      first : (b : Bool) → eqb clock.0 0 ≡ b → (not b || eqb t.band 0) ≡ true
      first true e = eq-eqb _ _ (f.start (eqb-true _ _ e))
      first false e = refl

-- ---- what keeps them

-- u has the master, band, thresholds and events of t
pub record SameFollower (t u : Track) : Type 0 where
  pub master : u.master ≡ t.master
  pub band : u.band ≡ t.band
  pub thresholds : u.thresholds ≡ t.thresholds
  pub events : u.events ≡ t.events

pub same-follower : (t : Track) → SameFollower t t
same-follower t = record { master = refl; band = refl; thresholds = refl; events = refl }

pub then-follower : {t u v : Track} → SameFollower t u → SameFollower u v → SameFollower t v
then-follower p q =
    record {
      master = q.master ∙ p.master;
      band = q.band ∙ p.band;
      thresholds = q.thresholds ∙ p.thresholds;
      events = q.events ∙ p.events;
    }

-- so has a track in another mode, at another position, with another remainder
moved-follower : {t : Track} {mode position passes due remainder : ℕ} → SameFollower t (with_remainder (moved t mode position passes due) remainder)
moved-follower = record { master = refl; band = refl; thresholds = refl; events = refl }

pub entered-follower : (t : Track) (m : ℕ) → SameFollower t (entered t m)
unfolding entered
entered-follower t m = cond_cases (SameFollower t) (eqb m STOPPED) (λ e. moved-follower) (λ e. moved-follower)

pub step-follower : (t : Track) (w : Bool) → SameFollower t (step t w)
unfolding step visited
step-follower t w = cond_cases (SameFollower t) (stops t) (λ e. moved-follower) (λ e. moved-follower)

pub stride-follower : (t : Track) (n : ℕ) → SameFollower t (stride t n)
unfolding stride
stride-follower t n = moved-follower

pub leap-follower : (t : Track) (n : ℕ) → SameFollower t (leap t n)
unfolding leap stride
leap-follower t n = moved-follower

pub played-follower : (t : Track) (w : Bool) → SameFollower t (played t w)
unfolding played
played-follower t w =
    let r : SameFollower t (with_remainder t (remainder_left t)) = moved-follower in
    cond_cases (SameFollower t) (moves t) (λ e. then-follower r (step-follower (with_remainder t (remainder_left t)) w)) (λ e. r)

-- a track with the same of them keeps the rules, and at a later clock
pub follower-same : {t u : Track} {clock : Ticks} → SameFollower t u → Follower t clock → Follower u clock
follower-same {t} {u} {clock} s f =
    record {
      thresholds = ap length s.thresholds ∙ f.thresholds;
      events = ap length s.events ∙ f.events;
      pairs = (λ i. pairs_test 0 (s.thresholds i) (s.events i)) ∙ f.pairs;
      band = rw (s.band, s.thresholds) f.band;
      start = λ z. s.band ∙ f.start z;
    }

pub follower-later : {t : Track} {c d : Ticks} → c.0 ≤ d.0 → Follower t c → Follower t d
follower-later l f =
    record {
      thresholds = f.thresholds;
      events = f.events;
      pairs = f.pairs;
      band = f.band;
      start = λ z. f.start (omega arith);
    }

-- another band of the thresholds keeps them, but at clock 0
pub follower-banded : {t : Track} {clock : Ticks} (k : ℕ) → 0 < clock.0 → k ≤ length (thresholds_of t) → Follower t clock → Follower (banded t k) clock
follower-banded k c l f =
    record {
      thresholds = f.thresholds;
      events = f.events;
      pairs = f.pairs;
      band = l;
      start = λ z. absurd (omega arith);
    }

-- a track with another master, another band, other thresholds and events is as sound as it was
pub follower-sound : {t : Track} {clock : Ticks} {master band : ℕ} {thresholds events : List ℕ} → Sound t clock →
    Sound (record t { master = master; band = band; thresholds = thresholds; events = events }) clock
follower-sound s =
    let v = s.valid in
    record {
      valid =
          record {
            ordered = v.ordered;
            loops = v.loops;
            mode = v.mode;
            direction = v.direction;
            repeat = v.repeat;
            due = v.due;
            cells = v.cells;
            rate = v.rate;
          };
      passes = s.passes;
    }

-- ---- judging

-- a band is none or one of the thresholds
pub band-most : (xs : List ℕ) (d : ℕ) → band_of xs d ≤ length xs
unfolding band_of
band-most [] d = omega arith
band-most (x ∷ xs) d =
    let h = band-most xs d in
    cond_cases (λ (k : ℕ). k ≤ suc (length xs)) (ltb x d) (λ _. omega arith) (λ _. omega arith)

pub judged-most : (t m : Track) → judged t m ≤ length (thresholds_of t)
unfolding judged
judged-most t m =
    cond_cases (λ (k : ℕ). k ≤ length (thresholds_of t)) (eqb t.mode STOPPED || eqb m.mode STOPPED) (λ _. omega arith)
    (λ _. band-most (thresholds_of t) (apart (distance t) (distance m)))
