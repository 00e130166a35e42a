-- Slower tracks (02, 2.4), by examples and small laws: 2 in 5, 1 in q, q in q; what clears the remainder and what keeps it; what the call of a
-- rate is refused.
use Rattle.std.specs.Prelude.{Option, Some, None}
use Prim.Native.Nat.{ℕ, suc, ◌+◌, ◌-◌, ◌*◌, ◌/◌, ◌%◌, ◌≤◌, ◌<◌}
use mathlib.Core.Path.{◌≡◌, refl, ◌∙◌, ap}
use mathlib.Core.Bool.{Bool, true, false, cond}
use native.Mathlib.Nat.{div-one, mod-eq_of_lt, div-eq_of_lt, mul-add-div_right, mul-add-mod_self_right}
use native.Mathlib.Omega.{arith}
use lib.Dec.{leb, ltb, eqb}
use lib.IntN.{ℤ, pos, negsuc}
use borrow.Author.Tests.{eq-eqb, ne_eqb, le-leb, lt-leb, le-ltb, ltb-false}
use Rattle.track.specs.declared.Track.{Track}
use Rattle.track.specs.declared.Coordinate.{Coordinate}
use Rattle.track.specs.declared.setup.Change.TheVariants as change
use Rattle.track.specs.Refusal.{Answer, Accepted, Refused}
use Rattle.track.specs.Rule.{STOPPED, DUE, rate_most, Valid, moved, paced, rewound, stopped, entered}
use Rattle.track.specs.Number.{natural_of, coordinate_of, within, on_some}
use Rattle.track.specs.Leap.{added, moves, remainder_left, steps_in, remainder_after, leap, ticks_before}
use Rattle.track.specs.Setup.{Changed, refused, accepted, turned, closes, turned_to, jump_to, rate_set, set_by, permits, changed_by}
use Rattle.track.proofs.Tests.{cond_cases}
use Rattle.track.proofs.Numbers.{natural-in, natural-of}
use Rattle.track.proofs.Leaps.{leap-moves}

-- ---- 2 in 5: the steps are made in ticks 3 and 5
pub record TwoInFive (t : Track) : Type 0 where
  -- the remainder after 1 to 5 ticks
  pub remainders : (remainder_after t 1 ≡ 2)
      × (remainder_after t 2 ≡ 4)
      × (remainder_after t 3 ≡ 1)
      × (remainder_after t 4 ≡ 3)
      × (remainder_after t 5 ≡ 0)
  -- the steps made by then
  pub made : (steps_in t 1 ≡ 0) × (steps_in t 2 ≡ 0) × (steps_in t 3 ≡ 1) × (steps_in t 4 ≡ 1) × (steps_in t 5 ≡ 2)
  -- whether the next tick makes one, after 0 to 4
  pub moving : (moves (leap t 0) ≡ false)
      × (moves (leap t 1) ≡ false)
      × (moves (leap t 2) ≡ true)
      × (moves (leap t 3) ≡ false)
      × (moves (leap t 4) ≡ true)

module _ (t : Track) (v : Valid t) (two : t.steps ≡ 2) (five : t.ticks ≡ 5) (none : t.remainder ≡ 0) where
  remainder-at : (n : ℕ) → remainder_after t n ≡ (0 + n * 2) % 5
  unfolding remainder_after
  remainder-at n = λ i. (none i + n * two i) % five i

  steps-at : (n : ℕ) → steps_in t n ≡ (0 + n * 2) / 5
  unfolding steps_in
  steps-at n = λ i. (none i + n * two i) / five i

  moves-at : (n : ℕ) → moves (leap t n) ≡ leb 5 ((0 + n * 2) % 5 + 2)
  moves-at n = leap-moves t v n ∙ (λ i. leb (five i) (remainder-at n i + two i))

  pub two-in-five : TwoInFive t
  two-in-five =
      record {
        remainders = (remainder-at 1, remainder-at 2, remainder-at 3, remainder-at 4, remainder-at 5);
        made = (steps-at 1, steps-at 2, steps-at 3, steps-at 4, steps-at 5);
        moving = (moves-at 0, moves-at 1, moves-at 2, moves-at 3, moves-at 4);
      }

-- ---- 1 in q: the first step is made in tick q
pub record OneInMany (t : Track) : Type 0 where
  -- in the q - 1 ticks before it there is none
  pub before : ticks_before t 0 ≡ t.ticks - 1
  pub still : (n : ℕ) → n + 1 < t.ticks → moves (leap t n) ≡ false
  pub unmade : (n : ℕ) → n < t.ticks → steps_in t n ≡ 0
  -- the remainder counts the ticks
  pub counts : (n : ℕ) → n < t.ticks → remainder_after t n ≡ n
  -- and tick q makes it, and leaves no remainder
  pub then : moves (leap t (t.ticks - 1)) ≡ true
  pub made : steps_in t t.ticks ≡ 1
  pub cleared : remainder_after t t.ticks ≡ 0

module _ (t : Track) (v : Valid t) (one : t.steps ≡ 1) (none : t.remainder ≡ 0) where
  counted : (n : ℕ) → t.remainder + n * t.steps ≡ n
  counted n = (λ i. none i + n * one i) ∙ omega arith

  counts-ticks : (n : ℕ) → n < t.ticks → remainder_after t n ≡ n
  unfolding remainder_after
  counts-ticks n h = ap (λ (k : ℕ). k % t.ticks) (counted n) ∙ mod-eq_of_lt h

  first-before : ticks_before t 0 ≡ t.ticks - 1
  unfolding ticks_before
  first-before =
      let e : (suc 0 * t.ticks - t.remainder - 1) / t.steps ≡ suc 0 * t.ticks - 0 - 1 =
      (λ i. (suc 0 * t.ticks - none i - 1) / one i) ∙ div-one (suc 0 * t.ticks - 0 - 1) in
      omega (arith, e, v.rate)

  none_made : (n : ℕ) → n < t.ticks → steps_in t n ≡ 0
  unfolding steps_in
  none_made n h = ap (λ (k : ℕ). k / t.ticks) (counted n) ∙ div-eq_of_lt h

  all-ticks : t.remainder + t.ticks * t.steps ≡ 1 * t.ticks + 0
  all-ticks = counted t.ticks ∙ omega arith

  one-made : steps_in t t.ticks ≡ 1
  unfolding steps_in
  one-made =
      let less : 0 / t.ticks ≡ 0 = div-eq_of_lt (omega (arith, v.rate)) in
      ap (λ (k : ℕ). k / t.ticks) all-ticks
      ∙ mul-add-div_right {m = t.ticks} (omega (arith, v.rate)) 1 0
      ∙ ap (λ (k : ℕ). 1 + k) less

  none_left : remainder_after t t.ticks ≡ 0
  unfolding remainder_after
  none_left =
      ap (λ (k : ℕ). k % t.ticks) all-ticks
      ∙ mul-add-mod_self_right 1 t.ticks 0
      ∙ mod-eq_of_lt (omega (arith, v.rate))

  last-moves : moves (leap t (t.ticks - 1)) ≡ true
  last-moves =
      let e : remainder_after t (t.ticks - 1) ≡ t.ticks - 1 = counts-ticks (t.ticks - 1) (omega (arith, v.rate)) in
      leap-moves t v (t.ticks - 1) ∙ le-leb t.ticks (remainder_after t (t.ticks - 1) + t.steps) (omega (arith, v.rate, e, one))

  pub one-in-many : OneInMany t
  one-in-many =
      record {
        before = first-before;
        still = λ n h. leap-moves t v n ∙ lt-leb t.ticks (remainder_after t n + t.steps) (omega (arith, counts-ticks n (omega arith), one));
        unmade = none_made;
        counts = counts-ticks;
        then = last-moves;
        made = one-made;
        cleared = none_left;
      }

-- ---- q in q: every tick makes a step, and the remainder stays
pub record EveryTick (t : Track) : Type 0 where
  pub moving : moves t ≡ true
  pub left : remainder_left t ≡ t.remainder
  pub moving_on : (n : ℕ) → moves (leap t n) ≡ true
  pub made : (n : ℕ) → steps_in t n ≡ n
  pub stays : (n : ℕ) → remainder_after t n ≡ t.remainder

module _ (t : Track) (v : Valid t) (same : t.steps ≡ t.ticks) where
  always : moves t ≡ true
  unfolding moves
  always = le-leb t.ticks (added t) (omega (arith, same))

  left-same : remainder_left t ≡ t.remainder
  unfolding remainder_left
  left-same = ap (λ (b : Bool). cond b (added t - t.ticks) (added t)) always ∙ omega (arith, same)

  rounds : (n : ℕ) → t.remainder + n * t.steps ≡ n * t.ticks + t.remainder
  rounds n = omega (arith, ap (λ (k : ℕ). n * k) same)

  made_all : (n : ℕ) → steps_in t n ≡ n
  unfolding steps_in
  made_all n =
      ap (λ (k : ℕ). k / t.ticks) (rounds n)
      ∙ mul-add-div_right {m = t.ticks} (omega (arith, v.rate)) n t.remainder
      ∙ ap (λ (k : ℕ). n + k) (div-eq_of_lt v.rate.below)
      ∙ omega arith

  stays_same : (n : ℕ) → remainder_after t n ≡ t.remainder
  unfolding remainder_after
  stays_same n =
      ap (λ (k : ℕ). k % t.ticks) (rounds n)
      ∙ mul-add-mod_self_right n t.ticks t.remainder
      ∙ mod-eq_of_lt v.rate.below

  pub every-tick : EveryTick t
  every-tick =
      record {
        moving = always;
        left = left-same;
        moving_on = λ n. leap-moves t v n ∙ le-leb t.ticks (remainder_after t n + t.steps) (omega (arith, same));
        made = made_all;
        stays = stays_same;
      }

-- ---- "Rewinding sets the remainder to 0; pause and wait keep it"
module _ (t : Track) where
  pub stopped-clears : (stopped t).remainder ≡ 0
  stopped-clears = refl

  pub rewound-clears : (rewound t).remainder ≡ 0
  rewound-clears = refl

  pub entered-stopped : (entered t STOPPED).remainder ≡ 0
  unfolding entered
  entered-stopped = refl

  pub entered-keeps : (m : ℕ) → (m ≡ STOPPED → ⊥) → (entered t m).remainder ≡ t.remainder
  unfolding entered
  entered-keeps m n = simp (ne_eqb m STOPPED n)

  pub jump-keeps : (p : ℤ) → (jump_to t p).track.remainder ≡ t.remainder
  unfolding jump_to
  jump-keeps p = go (within t.start.0 t.end.0 (coordinate_of p))
    where
      go : (r : Option Coordinate) →
          (on_some r (λ c. accepted (moved t t.mode c.0 t.passes.0 DUE)) (refused 3 t)).track.remainder ≡ t.remainder
      go (Some c) = refl
      go None = refl

  pub turned-keeps : (k : ℕ) → (t.mode ≡ STOPPED → ⊥) → (turned_to t k).remainder ≡ t.remainder
  unfolding turned_to
  turned-keeps k n =
      let u = turned t k in
      let w = moved u u.mode u.position.0 u.passes.0 DUE in
      ap (λ (b : Bool). (cond b (rewound u) (cond (closes t k) w u)).remainder) (ne_eqb t.mode STOPPED n)
      ∙ cond_cases (λ (x : Track). x.remainder ≡ t.remainder) (closes t k) (λ _. refl) (λ _. refl)

  -- turned when STOPPED, it rewinds
  pub turned-clears : (k : ℕ) → t.mode ≡ STOPPED → (turned_to t k).remainder ≡ 0
  unfolding turned_to
  turned-clears k e =
      let u = turned t k in
      let w = moved u u.mode u.position.0 u.passes.0 DUE in
      ap (λ (b : Bool). (cond b (rewound u) (cond (closes t k) w u)).remainder) (eq-eqb t.mode STOPPED e)

-- ---- the call of a rate

-- u is t where it stood
pub record Standing (t u : Track) : Type 0 where
  pub position : u.position ≡ t.position
  pub passes : u.passes ≡ t.passes
  pub due : u.due ≡ t.due
  pub mode : u.mode ≡ t.mode
  pub remainder : u.remainder ≡ t.remainder

-- the number of a refusal
abbrev number : Answer → ℕ
number Accepted = 0
number (Refused n) = n

-- a natural number out of an integer
abbrev size : ℤ → ℕ
size (pos k) = k
size (negsuc k) = 0

module _ (t : Track) where
  -- what holds of a refusal 11, and of the rate set where it is in its range, holds of what the call gives
  pub rate-cases : (P : Changed → Type 0) (p q : ℤ) → P (refused 11 t) →
      ((a b : ℕ) → p ≡ pos a → q ≡ pos b → 1 ≤ a → a ≤ b → b ≤ rate_most → P (accepted (paced t a b t.remainder))) → P (rate_set t p q)
  unfolding rate_set
  rate-cases P p q out in-range = go (natural_of p 1 rate_most) (natural_of q 1 rate_most) refl refl
    where
      go : (m n : Option ℕ) → natural_of p 1 rate_most ≡ m → natural_of q 1 rate_most ≡ n →
          P (on_some m (λ a. on_some n (λ b. cond (ltb b a) (refused 11 t) (accepted (paced t a b t.remainder))) (refused 11 t)) (refused 11 t))
      go (Some a) (Some b) e f =
          let x = natural-in p 1 rate_most e in
          let y = natural-in q 1 rate_most f in
          cond_cases P (ltb b a) (λ _. out) (λ h. in-range a b x.0 y.0 x.1 (ltb-false b a h) y.2)
      go (Some a) None e f = out
      go None n e f = out

  -- it does not rewind, accepted or not
  pub rate-stands : (p q : ℤ) → Standing t (rate_set t p q).track
  rate-stands p q =
      rate-cases (λ (c : Changed). Standing t c.track) p q
      (record { position = refl; passes = refl; due = refl; mode = refl; remainder = refl })
      (λ a b e f x y z. record { position = refl; passes = refl; due = refl; mode = refl; remainder = refl })

  -- 2 in every mode but STOPPED
  pub rate-unstopped : (p q : ℤ) → (t.mode ≡ STOPPED → ⊥) → changed_by t (change.Rate p q) ≡ refused 2 t
  unfolding changed_by permits
  rate-unstopped p q n = simp (ne_eqb t.mode STOPPED n)

  pub rate-stopped : (p q : ℤ) → t.mode ≡ STOPPED → changed_by t (change.Rate p q) ≡ rate_set t p q
  unfolding changed_by permits set_by
  rate-stopped p q e = simp (eq-eqb t.mode STOPPED e)

  -- when STOPPED it is accepted exactly in its range, 1 ≤ p ≤ q ≤ 1,000; else 11
  module _ (s : t.mode ≡ STOPPED) where
    pub rate-accepted : (a b : ℕ) → 1 ≤ a → a ≤ b → b ≤ rate_most →
        changed_by t (change.Rate (pos a) (pos b)) ≡ accepted (paced t a b t.remainder)
    unfolding rate_set
    rate-accepted a b x y z =
        rate-stopped (pos a) (pos b) s ∙ simp (natural-of a 1 rate_most x (omega arith), natural-of b 1 rate_most (omega arith) z, le-ltb b a y)

    pub rate-refused : (p q : ℤ) → ((a b : ℕ) → p ≡ pos a → q ≡ pos b → 1 ≤ a → a ≤ b → b ≤ rate_most → ⊥) →
        changed_by t (change.Rate p q) ≡ refused 11 t
    rate-refused p q n =
        rate-stopped p q s
        ∙ rate-cases (λ (c : Changed). c ≡ refused 11 t) p q refl (λ a b e f x y z. absurd (n a b e f x y z))

    -- by its numbers: p of 0, p above q, q above 1,000; below 0
    pub rate-out : (a b : ℕ) → (1 ≤ a → a ≤ b → b ≤ rate_most → ⊥) → changed_by t (change.Rate (pos a) (pos b)) ≡ refused 11 t
    rate-out a b n =
        rate-refused (pos a) (pos b)
        (λ x y e f l m h.
        let i : a ≡ x = ap size e in
        let j : b ≡ y = ap size f in
        n (omega arith) (omega arith) (omega arith))

    pub rate-negative : (k : ℕ) (q : ℤ) → changed_by t (change.Rate (negsuc k) q) ≡ refused 11 t
    unfolding rate_set natural_of
    rate-negative k q = rate-stopped (negsuc k) q s

    pub rate-of-negative : (p : ℤ) (k : ℕ) → changed_by t (change.Rate p (negsuc k)) ≡ refused 11 t
    unfolding rate_set natural_of
    rate-of-negative p k = rate-stopped p (negsuc k) s ∙ go (natural_of p 1 rate_most)
      where
        go : (m : Option ℕ) → on_some m (λ a. refused 11 t) (refused 11 t) ≡ refused 11 t
        go (Some a) = refl
        go None = refl

  -- its range is never told as 3, in any mode
  pub never-three : (p q : ℤ) → (changed_by t (change.Rate p q)).answer ≡ Refused 3 → ⊥
  unfolding changed_by permits set_by
  never-three p q =
      cond_cases (λ (c : Changed). c.answer ≡ Refused 3 → ⊥) (eqb t.mode STOPPED)
      (λ _. rate-cases (λ (c : Changed). c.answer ≡ Refused 3 → ⊥) p q
      (λ e. let z : ◌≡◌ {A = ℕ} 11 3 = ap number e in omega arith)
      (λ a b _ _ _ _ _ e. let z : ◌≡◌ {A = ℕ} 0 3 = ap number e in omega arith))
      (λ _ e. let z : ◌≡◌ {A = ℕ} 2 3 = ap number e in omega arith)
