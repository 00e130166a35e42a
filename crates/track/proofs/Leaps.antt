-- The laws of the leap: n ticks at once are n single ticks, at any rate.
use Prim.Native.Nat.{ℕ, zero, suc, ◌+◌, ◌-◌, ◌*◌, ◌/◌, ◌%◌, ◌≤◌, ◌<◌, min}
use mathlib.Core.Path.{◌≡◌, refl, sym, ◌∙◌, ap, ap₂}
use mathlib.Core.Bool.{Bool, true, false, cond}
use native.Mathlib.Nat.{div-one, mod-lt, mod-eq_of_lt, mod-eq-sub-mod, div-eq_of_lt, mul-add-div_right}
use native.Mathlib.Omega.{arith}
use lib.Dec.{leb, eqb}
use borrow.Author.Tests.{eqb-true, leb-true, leb-false, le-leb}
use Rattle.track.specs.declared.Track.{Track}
use Rattle.track.specs.Rule.{STOPPED, WAITING, clock_end, Valid, with_remainder}
use Rattle.track.specs.Walk.{arrival, passes_at, stops, visited, step}
use Rattle.track.specs.Stride.{next, stride}
use Rattle.track.specs.Leap.{added, moves, remainder_left, played, steps_in, remainder_after, leap, ticks_before}
use Rattle.track.proofs.Tests.{cond_cases}
use Rattle.track.proofs.Rates.{steps-zero, remainder-zero, steps-add, remainder-add, steps-few, not-before, made-till, made_then}
use Rattle.track.proofs.Arrivals.{remainder-valid, step-valid, step-passes}
use Rattle.track.proofs.Strides.{stride-valid, stride-zero, stride-suc, stride-add, stride-passes}

-- the remainder is nothing to the walk: where a step arrives, whether it stops the track, where strides lead
module _ (t : Track) (r : ℕ) where
  pub remainder-arrival : arrival (with_remainder t r) ≡ arrival t
  unfolding arrival
  remainder-arrival = refl

  pub remainder-stops : stops (with_remainder t r) ≡ stops t
  unfolding stops passes_at arrival
  remainder-stops = refl

  pub remainder-stride : (n : ℕ) → stride (with_remainder t r) n ≡ with_remainder (stride t n) r
  unfolding stride next arrival
  remainder-stride zero = refl
  remainder-stride (suc n) = refl

-- what a tick comes to
module _ (t : Track) (w : Bool) where
  pub played-moves : moves t ≡ true → played t w ≡ step (with_remainder t (added t - t.ticks)) w
  unfolding played remainder_left
  played-moves h = simp h

  pub played-stands : moves t ≡ false → played t w ≡ with_remainder t (added t)
  unfolding played remainder_left
  played-stands h = simp h

-- and when it makes a step
pub moves-reach : (t : Track) → moves t ≡ true → t.ticks ≤ added t
unfolding moves
moves-reach t h = leb-true t.ticks (added t) h

-- a step that does not stop the track
step-goes : (t : Track) (w : Bool) → stops t ≡ false → step t w ≡ visited t (cond w WAITING t.mode)
unfolding step
step-goes t w h = simp h

-- nor finds a wait flag
step-on : (t : Track) (r : ℕ) → stops t ≡ false → step (with_remainder t r) false ≡ with_remainder (visited t t.mode) r
unfolding step visited arrival passes_at
step-on t r h = simp (remainder-stops t r ∙ h)

-- n ticks on, a step is of the track so many steps on
module _ (t : Track) (n : ℕ) where
  pub leap-arrival : arrival (leap t n) ≡ arrival (stride t (steps_in t n))
  unfolding leap
  leap-arrival = remainder-arrival (stride t (steps_in t n)) (remainder_after t n)

  pub leap-stops : stops (leap t n) ≡ stops (stride t (steps_in t n))
  unfolding leap
  leap-stops = remainder-stops (stride t (steps_in t n)) (remainder_after t n)

module _ (t : Track) (v : Valid t) where
  some : 0 < t.ticks
  some = omega (arith, v.rate)

  -- no tick
  pub steps-none : steps_in t 0 ≡ 0
  unfolding steps_in
  steps-none = steps-zero t.ticks t.steps t.remainder some v.rate.below

  pub leap-zero : leap t 0 ≡ t
  unfolding leap remainder_after
  leap-zero =
      ap₂ (λ (u : Track) (r : ℕ). with_remainder u r) (ap (stride t) steps-none ∙ stride-zero t v)
      (remainder-zero t.ticks t.steps t.remainder some v.rate.below)

  -- the remainder is always below the ticks, and there are never more steps than ticks
  pub remainder-below : (n : ℕ) → remainder_after t n < t.ticks
  unfolding remainder_after
  remainder-below n = mod-lt (t.remainder + n * t.steps) some

  pub steps-most : (n : ℕ) → steps_in t n ≤ n
  unfolding steps_in
  steps-most = steps-few t.ticks t.steps t.remainder some v.rate.below v.rate.most

  -- the track that a step is made of
  pub moving-valid : t.ticks ≤ added t → Valid (with_remainder t (added t - t.ticks))
  moving-valid h = remainder-valid t v (added t - t.ticks) (omega (arith, v.rate)) (λ e. omega (arith, v.rate, v.rate.stands e))

  -- one tick more makes a step exactly if the remainder says so
  module _ (n : ℕ) where
    one_more : steps_in t (n + 1) ≡ steps_in t n + (remainder_after t n + t.steps) / t.ticks
    unfolding steps_in remainder_after
    one_more =
        steps-add t.ticks t.steps t.remainder some n 1
        ∙ ap (λ (k : ℕ). steps_in t n + (remainder_after t n + k) / t.ticks) (omega arith)

    one-over : remainder_after t (n + 1) ≡ (remainder_after t n + t.steps) % t.ticks
    unfolding remainder_after
    one-over =
        remainder-add t.ticks t.steps t.remainder some n 1
        ∙ ap (λ (k : ℕ). (remainder_after t n + k) % t.ticks) (omega arith)

    next-suc : n + 1 ≡ suc n
    next-suc = omega arith

    pub leap-moves : moves (leap t n) ≡ leb t.ticks (remainder_after t n + t.steps)
    unfolding moves leap stride
    leap-moves = refl

    module _ (h : moves (leap t n) ≡ true) where
      reached : t.ticks ≤ remainder_after t n + t.steps
      reached = leb-true _ _ (sym leap-moves ∙ h)

      rest : remainder_after t n + t.steps - t.ticks < t.ticks
      rest = omega (arith, reached, remainder-below n, v.rate)

      split : remainder_after t n + t.steps ≡ 1 * t.ticks + (remainder_after t n + t.steps - t.ticks)
      split = omega (arith, reached)

      pub steps-suc : steps_in t (suc n) ≡ suc (steps_in t n)
      steps-suc =
          omega (
            arith,
            ap (steps_in t) next-suc,
            one_more,
            ap (λ (k : ℕ). k / t.ticks) split ∙ mul-add-div_right {m = t.ticks} some 1 (remainder_after t n + t.steps - t.ticks),
            div-eq_of_lt rest,
          )

      pub remainder-suc : remainder_after t (suc n) ≡ remainder_after t n + t.steps - t.ticks
      remainder-suc =
          ap (remainder_after t) (sym next-suc) ∙ one-over ∙ mod-eq-sub-mod reached ∙ mod-eq_of_lt {n = remainder_after t n + t.steps - t.ticks} rest

    module _ (h : moves (leap t n) ≡ false) where
      short : remainder_after t n + t.steps < t.ticks
      short = leb-false _ _ (sym leap-moves ∙ h)

      pub steps-same : steps_in t (suc n) ≡ steps_in t n
      steps-same = omega (arith, ap (steps_in t) next-suc, one_more, div-eq_of_lt short)

      pub remainder-same : remainder_after t (suc n) ≡ remainder_after t n + t.steps
      remainder-same = ap (remainder_after t) (sym next-suc) ∙ one-over ∙ mod-eq_of_lt short

  -- the track after one tick more
  module _ (n : ℕ) where
    left-suc : moves (leap t n) ≡ true → added (leap t n) - (leap t n).ticks ≡ remainder_after t (suc n)
    unfolding leap stride
    left-suc e = sym (remainder-suc n e)

    leap-visited : moves (leap t n) ≡ true → with_remainder (visited (leap t n) (leap t n).mode) (remainder_after t (suc n)) ≡ leap t (suc n)
    unfolding leap visited arrival passes_at stride
    leap-visited e =
        ap (λ (u : Track). with_remainder u (remainder_after t (suc n)))
        (sym (stride-suc t v (steps_in t n)) ∙ ap (stride t) (sym (steps-suc n e)))

    stay : moves (leap t n) ≡ false → with_remainder (leap t n) (added (leap t n)) ≡ leap t (suc n)
    unfolding leap stride
    stay e = ap₂ (λ (k r : ℕ). with_remainder (stride t k) r) (sym (steps-same n e)) (sym (remainder-same n e))

  -- a tick that does not stop the track and finds no wait flag leaps one further
  pub leap-played : (n : ℕ) → (moves (leap t n) ≡ true → stops (leap t n) ≡ false) → played (leap t n) false ≡ leap t (suc n)
  leap-played n h = go (moves (leap t n)) refl
    where
      go : (b : Bool) → moves (leap t n) ≡ b → played (leap t n) false ≡ leap t (suc n)
      go true e =
          played-moves (leap t n) false e
          ∙ ap (λ (r : ℕ). step (with_remainder (leap t n) r) false) (left-suc n e)
          ∙ step-on (leap t n) (remainder_after t (suc n)) (h e)
          ∙ leap-visited n e
      go false e = played-stands (leap t n) false e ∙ stay n e

  -- two leaps are one
  pub leap-add : (a b : ℕ) → leap (leap t a) b ≡ leap t (a + b)
  unfolding leap steps_in remainder_after stride
  leap-add a b =
      let k : ℕ = (remainder_after t a + b * t.steps) / t.ticks in
      let r : ℕ = (remainder_after t a + b * t.steps) % t.ticks in
      ap (λ (u : Track). with_remainder u r) (remainder-stride (stride t (steps_in t a)) (remainder_after t a) k)
      ∙ ap₂ (λ (u : Track) (r : ℕ). with_remainder u r)
      (stride-add t v (steps_in t a) k ∙ ap (stride t) (sym (steps-add t.ticks t.steps t.remainder some a b)))
      (sym (remainder-add t.ticks t.steps t.remainder some a b))

  -- a leap keeps a track that is not STOPPED valid
  pub leap-valid : (t.mode ≡ STOPPED → ⊥) → (n : ℕ) → Valid (leap t n)
  unfolding leap stride
  leap-valid m n =
      remainder-valid (stride t (steps_in t n)) (stride-valid t v (steps_in t n)) (remainder_after t n) (remainder-below n) (λ e. absurd (m e))

  -- passes grow by at most one a tick, so that they never come above the clock
  pub leap-passes : (n : ℕ) → (leap t n).passes.0 ≤ t.passes.0 + n
  unfolding leap
  leap-passes n = omega (arith, stride-passes t v (steps_in t n), steps-most n)

  -- the ticks before a step: in none of them it is made, and the one behind them makes it, unless they are cut off by the clock's end
  module _ (s : ℕ) where
    pub before_small : ticks_before t s ≤ clock_end
    unfolding ticks_before
    before_small = omega arith

    pub before-none : (n : ℕ) → n ≤ ticks_before t s → steps_in t n ≤ s
    unfolding ticks_before steps_in
    before-none n h = not-before t.ticks t.steps t.remainder some v.rate.below v.rate.some s n (omega arith)

    module _ (h : ticks_before t s < clock_end) where
      exactly : ticks_before t s ≡ (suc s * t.ticks - t.remainder - 1) / t.steps
      unfolding ticks_before
      exactly = omega arith

      pub before-made : steps_in t (ticks_before t s) ≡ s
      unfolding steps_in
      before-made = made-till t.ticks t.steps t.remainder some v.rate.below v.rate.some s v.rate.most (ticks_before t s) exactly

      pub before-moves : moves (leap t (ticks_before t s)) ≡ true
      unfolding remainder_after
      before-moves =
          leap-moves (ticks_before t s)
          ∙ le-leb _ _ (made_then t.ticks t.steps t.remainder some v.rate.below v.rate.some s v.rate.most (ticks_before t s) exactly)

      pub before-late : s ≤ ticks_before t s
      before-late = omega (arith, before-made, steps-most (ticks_before t s))

  -- ---- at 1 in 1 everything is what it was: a tick is a step
  module _ (one : t.ticks ≡ 1) where
    one-steps : t.steps ≡ 1
    one-steps = omega (arith, v.rate)

    one-remainder : t.remainder ≡ 0
    one-remainder = omega (arith, v.rate)

    pub one-moves : moves t ≡ true
    unfolding moves
    one-moves = le-leb t.ticks (added t) (omega (arith, one-steps))

    pub one-played : (w : Bool) → played t w ≡ step t w
    one-played w =
        played-moves t w one-moves
        ∙ ap (λ (r : ℕ). step (with_remainder t r) w) (omega (arith, one-steps, one-remainder))

    pub one-steps_in : (n : ℕ) → steps_in t n ≡ n
    unfolding steps_in
    one-steps_in n =
        ap₂ (λ (k q : ℕ). k / q) (ap₂ (λ (r p : ℕ). r + n * p) one-remainder one-steps ∙ omega arith) one ∙ div-one n

    pub one-leap : (n : ℕ) → leap t n ≡ stride t n
    unfolding leap stride
    one-leap n =
        ap₂ (λ (k r : ℕ). with_remainder (stride t k) r) (one-steps_in n) (omega (arith, remainder-below n, one, one-remainder))

    pub one-before : (s : ℕ) → s ≤ clock_end → ticks_before t s ≡ s
    unfolding ticks_before
    one-before s h =
        ap (min clock_end) (ap₂ (λ (k p : ℕ). k / p) (ap₂ (λ (q r : ℕ). suc s * q - r - 1) one one-remainder ∙ omega arith) one-steps ∙ div-one s) ∙ omega arith

-- ---- what a tick keeps
module _ (t : Track) (v : Valid t) (w : Bool) where
  pub played-valid : (t.mode ≡ STOPPED → ⊥) → Valid (played t w)
  unfolding moves
  played-valid n = go (moves t) refl
    where
      go : (b : Bool) → moves t ≡ b → Valid (played t w)
      go true e = rw (played-moves t w e) (step-valid _ (moving-valid t v (leb-true t.ticks (added t) e)) w)
      go false e =
          rw (played-stands t w e) (remainder-valid t v (added t) (leb-false t.ticks (added t) e) (λ m. absurd (n m)))

  -- passes grow by at most one in a tick
  pub played-passes : (played t w).passes.0 ≤ t.passes.0 + 1
  unfolding played
  played-passes =
      cond_cases (λ (u : Track). u.passes.0 ≤ t.passes.0 + 1) (moves t) (λ _. step-passes (with_remainder t (remainder_left t)) w) (λ _. omega arith)

  -- and the mode is one of the four
  pub played-mode : (played t w).mode ≤ WAITING
  unfolding moves
  played-mode = go (moves t) refl
    where
      go : (b : Bool) → moves t ≡ b → (played t w).mode ≤ WAITING
      go true e = rw (played-moves t w e) (step-valid _ (moving-valid t v (leb-true t.ticks (added t) e)) w).mode
      go false e = rw (played-stands t w e) v.mode

  -- a tick that makes a step, as that step and what it leaves of the remainder: rewinding leaves none, and a STOPPED track has none
  pub played-left : moves t ≡ true → played t w ≡ with_remainder (step t w) (cond (eqb (step t w).mode STOPPED) 0 (added t - t.ticks))
  unfolding step visited arrival passes_at
  played-left h =
      played-moves t w h ∙ go (stops t) refl
    where
      r : ℕ
      r = added t - t.ticks

      -- where the mode stays STOPPED there is none to leave
      none : t.mode ≡ STOPPED → r ≡ 0
      none e = omega (arith, v.rate, v.rate.stands e)

      kept : (w : Bool) → r ≡ cond (eqb (cond w WAITING t.mode) STOPPED) 0 r
      kept true = refl
      kept false = cond_cases (λ (k : ℕ). r ≡ k) (eqb t.mode STOPPED) (λ e. none (eqb-true t.mode STOPPED e)) (λ _. refl)

      go : (b : Bool) → stops t ≡ b → step (with_remainder t r) w ≡ with_remainder (step t w) (cond (eqb (step t w).mode STOPPED) 0 r)
      go true e = rw (remainder-stops t r, e) refl
      go false e =
          step-goes (with_remainder t r) w (remainder-stops t r ∙ e)
          ∙ ap (λ (k : ℕ). with_remainder (visited t (cond w WAITING t.mode)) k) (kept w)
          ∙ sym (ap (λ (u : Track). with_remainder u (cond (eqb u.mode STOPPED) 0 r)) (step-goes t w e))

-- what the check may use of many ticks
pub ruleset leaping = (leap-zero, steps-most)
