-- The laws of the stride: n steps at once are n single steps.
use Prim.Native.Nat.{ℕ, zero, suc, ◌+◌, ◌-◌, ◌/◌, ◌%◌, ◌≤◌, ◌<◌, max}
use mathlib.Core.Path.{◌≡◌, refl, sym, ◌∙◌, ap, ap₂}
use mathlib.Core.Bool.{Bool, true, false, not, ◌&&◌}
use native.Mathlib.Nat.{add-zero, add-mod_right, div-le_self, div-lt_iff_lt-mul, mul-le-mul_left, mod-lt, mod-eq_of_lt, div-eq_of_lt}
use native.Mathlib.Omega.{arith}
use lib.Dec.{eqb, leb}
use borrow.Author.Tests.{eqb-true, eq-eqb, lt-leb, le-leb, leb-false}
use Rattle.track.specs.declared.Track.{Track}
use Rattle.track.specs.Rule.{VISITED, clock_end, backward, repeats, Valid, far, moved}
use Rattle.track.specs.Walk.{arrival, passes_at, stops, visited, step}
use Rattle.track.specs.Stride.{span, phase, place, next, stride, walk, stop_step, running, steps_to}
use Rattle.track.proofs.Tests.{cond_cases, eqb_same}
use Rattle.track.proofs.Cycle.{last-div, rounds-open, rounds-over, rounds-last, ahead-is, ahead-first}
use Rattle.track.proofs.Arrivals.{next_small, place-next, passes-next, next-visited, place_inside, moved-valid}

module _ (t : Track) (v : Valid t) where
  -- a stride keeps the track valid
  pub stride-valid : (n : ℕ) → Valid (stride t n)
  unfolding stride
  stride-valid zero = moved-valid t v _ _ _ _ v.mode v.due (omega arith) v.rate.stands
  stride-valid (suc n) = moved-valid t v _ _ _ _ v.mode (omega arith) (place_inside t v _ (mod-lt _ (omega arith))) v.rate.stands

  -- where the step after a stride arrives
  pub stride-next : (n : ℕ) → next (stride t n) ≡ (next t + n) % span t
  unfolding stride next arrival
  stride-next zero = sym (mod-eq_of_lt (next_small t v)) ∙ ap (λ (x : ℕ). x % span t) (sym (add-zero (next t)))
  stride-next (suc n) =
      next-visited (stride t (suc n)) (stride-valid (suc n)) (next t + n) refl refl ∙ ap (λ (x : ℕ). x % span t) (omega arith)

  pub stride-arrival : (n : ℕ) → arrival (stride t n) ≡ place t ((next t + n) % span t)
  unfolding stride
  stride-arrival n = sym (place-next (stride t n) (stride-valid n)) ∙ ap (place t) (stride-next n)

  -- the passes that the step after a stride leaves
  pub stride-passes_at : (n : ℕ) → passes_at (stride t n) (arrival (stride t n)) ≡ t.passes.0 + (next t + n + 1) / span t
  unfolding stride
  stride-passes_at n = passes-next (stride t n) (stride-valid n) t.passes.0 (next t + n) (stride-next n) refl

  -- no step at all
  pub stride-zero : stride t 0 ≡ t
  unfolding stride
  stride-zero =
      ap (λ (k : ℕ). moved t t.mode t.position.0 k t.due)
      (omega (arith, div-eq_of_lt (next_small t v), ap (λ (x : ℕ). x / span t) (add-zero (next t))))

  -- one step more
  pub stride-suc : (n : ℕ) → stride t (suc n) ≡ visited (stride t n) t.mode
  unfolding stride visited
  stride-suc n =
      ap₂ (λ (l k : ℕ). moved t t.mode l k VISITED) (sym (stride-arrival n))
      (ap (λ (x : ℕ). t.passes.0 + x / span t) (omega arith) ∙ sym (stride-passes_at n))

-- two strides are one
pub stride-add : (t : Track) → Valid t → (a b : ℕ) → stride (stride t a) b ≡ stride t (a + b)
unfolding stride
stride-add t v a zero = stride-zero (stride t a) (stride-valid t v a) ∙ ap (stride t) (sym (add-zero a))
stride-add t v a (suc b) =
    stride-suc (stride t a) (stride-valid t v a) b
    ∙ ap (λ (u : Track). visited u t.mode) (stride-add t v a b)
    ∙ sym (stride-suc t v (a + b))
    ∙ ap (stride t) (omega arith)

module _ (t : Track) (v : Valid t) where
  -- the step after a stride is at far exactly at the last distance
  stride-far : (n : ℕ) → eqb (arrival (stride t n)) (far t) ≡ eqb ((next t + n) % span t + 1) (span t)
  stride-far n = ap (λ (l : ℕ). eqb l (far t)) (stride-arrival t v n) ∙ go (backward t) refl
    where
      small : (next t + n) % span t < span t
      small = mod-lt (next t + n) (omega arith)

      go : (b : Bool) → backward t ≡ b → eqb (place t ((next t + n) % span t)) (far t) ≡ eqb ((next t + n) % span t + 1) (span t)
      go true eb =
          simp eb
          (eqb_same (t.end.0 - (next t + n) % span t) t.start.0 ((next t + n) % span t + 1) (span t) (λ h. omega (arith, small))
          (λ h. omega (arith, small)))
      go false eb =
          simp eb
          (eqb_same (t.start.0 + (next t + n) % span t) t.end.0 ((next t + n) % span t + 1) (span t) (λ h. omega (arith, small))
          (λ h. omega (arith, small)))

  -- when the step after a stride stops the track
  stops-stride : (n : ℕ) → stops (stride t n)
      ≡ (eqb ((next t + n) % span t + 1) (span t) && not (repeats t) && leb t.loops (t.passes.0 + (next t + n + 1) / span t))
  unfolding stops stride
  stops-stride n = ap₂ (λ (f : Bool) (k : ℕ). f && not (repeats t) && leb t.loops k) (stride-far n) (stride-passes_at t v n)

  -- no step before the stopping one stops the track, and none at all with repeat on
  pub stride-runs : (n : ℕ) → (repeats t ≡ false → suc n < stop_step t) → stops (stride t n) ≡ false
  unfolding stop_step
  stride-runs n h = stops-stride n ∙ go (repeats t) (eqb ((next t + n) % span t + 1) (span t)) refl refl
    where
      go : (r f : Bool) → repeats t ≡ r → eqb ((next t + n) % span t + 1) (span t) ≡ f →
          (f && not r && leb t.loops (t.passes.0 + (next t + n + 1) / span t)) ≡ false
      go true true er ef = refl
      go true false er ef = refl
      go false false er ef = refl
      go false true er ef =
          lt-leb t.loops (t.passes.0 + (next t + n + 1) / span t)
          (omega (
            arith,
            rounds-open (next t) n (max 1 (t.loops - t.passes.0)) (span t) (h er) (omega arith),
            last-div (next t + n) (eqb-true _ _ ef),
          ))

  -- the stopping step stops it
  pub stride-stops : (n : ℕ) → repeats t ≡ false → suc n ≡ stop_step t → stops (stride t n) ≡ true
  unfolding stop_step
  stride-stops n er h =
      stops-stride n
      ∙ simp (eq-eqb _ _ (rounds-last (next t) n (max 1 (t.loops - t.passes.0)) (span t) h (omega arith)), er)
      (le-leb t.loops (t.passes.0 + (next t + n + 1) / span t)
      (omega (arith, rounds-over (next t) n (max 1 (t.loops - t.passes.0)) (span t) h (omega arith))))

  -- a step before the stopping one that finds no wait flag strides one further
  pub stride-step : (n : ℕ) → (repeats t ≡ false → suc n < stop_step t) → step (stride t n) false ≡ stride t (suc n)
  unfolding step stride
  stride-step n h = simp (stride-runs n h) (sym (stride-suc t v n))

  -- the stopping step is at least the first
  pub stop-later : 0 < stop_step t
  unfolding stop_step
  stop-later =
      omega (arith, next_small t v, mul-le-mul_left {m = 1} {n = max 1 (t.loops - t.passes.0)} (span t) (omega arith))

  module _ (l : ℕ) (above : t.start.0 ≤ l) (below : l ≤ t.end.0) where
    pub phase-small : phase t l < span t
    phase-small = cond_cases (λ (k : ℕ). k < span t) (backward t) (λ _. omega arith) (λ _. omega arith)

    pub place-phase : place t (phase t l) ≡ l
    place-phase = go (backward t) refl
      where
        go : (b : Bool) → backward t ≡ b → place t (phase t l) ≡ l
        go true eb = simp eb (omega arith)
        go false eb = simp eb (omega arith)

    pub phase-of : (k : ℕ) → k < span t → place t k ≡ l → k ≡ phase t l
    phase-of k h e = go (backward t) refl
      where
        go : (b : Bool) → backward t ≡ b → k ≡ phase t l
        go true eb = simp eb (omega (arith, simp eb at e))
        go false eb = simp eb (omega (arith, simp eb at e))

    -- after so many steps the next one arrives at l
    pub first-arrival : arrival (stride t (steps_to t l)) ≡ l
    unfolding steps_to
    first-arrival =
        stride-arrival t v (steps_to t l)
        ∙ ap (place t) (ahead-is (next t) (phase t l) (span t) (next_small t v) phase-small)
        ∙ place-phase

    -- and none before does
    pub none_before : (j : ℕ) → j < steps_to t l → arrival (stride t j) ≡ l → ⊥
    unfolding steps_to
    none_before j h e =
        ahead-first (next t) (phase t l) (span t) (next_small t v) phase-small j h
        (phase-of ((next t + j) % span t) (mod-lt _ (omega arith)) (sym (stride-arrival t v j) ∙ e))

    -- it is reached within one round
    pub steps-small : steps_to t l < span t
    unfolding steps_to
    steps-small =
        cond_cases (λ (d : ℕ). d < span t) (leb (next t) (phase t l)) (λ _. omega (arith, phase-small))
        (λ h. omega (arith, phase-small, next_small t v, leb-false (next t) (phase t l) h))

  -- a round later the arrivals repeat
  pub arrival-round : (n : ℕ) → arrival (stride t (n + span t)) ≡ arrival (stride t n)
  arrival-round n =
      stride-arrival t v (n + span t)
      ∙ ap (place t) (ap (λ (x : ℕ). x % span t) (omega arith) ∙ add-mod_right (next t + n) (span t))
      ∙ sym (stride-arrival t v n)

-- a location ahead of the next arrival is reached in this round
pub steps_up : (t : Track) (l : ℕ) {c f : ℕ} → c ≡ next t → f ≡ phase t l → c ≤ f → f - c ≡ steps_to t l
unfolding steps_to
steps_up t l {c} {f} ec ef h = simp (← ec, ← ef, le-leb c f h)

-- n single steps that find no wait flag and do not stop the track are one stride
pub stride-walk : (wait : ℕ → Bool) (t : Track) → Valid t → (n : ℕ) → (repeats t ≡ false → n < stop_step t) →
    ((j : ℕ) → j < n → wait (arrival (stride t j)) ≡ false) → walk wait t n ≡ stride t n
unfolding walk
stride-walk wait t v zero h q = sym (stride-zero t v)
stride-walk wait t v (suc n) h q =
    ap (λ (u : Track). step u (wait (arrival u))) (stride-walk wait t v n (λ r. omega (arith, h r)) (λ j l. q j (omega arith)))
    ∙ ap (step (stride t n)) (q n (omega arith))
    ∙ stride-step t v n h

module _ (t : Track) (v : Valid t) where
  -- passes grow by at most one a step, so that they never come above the clock
  pub stride-passes : (n : ℕ) → (stride t n).passes.0 ≤ t.passes.0 + n
  unfolding stride
  stride-passes n =
      omega (
        arith,
        (div-lt_iff_lt-mul {k = span t} {x = next t + n} {y = n + 1} (omega arith)).1
            (omega (arith, next_small t v, mul-le-mul_left {m = 1} {n = span t} n (omega arith))),
      )

  -- `running` is short of the stopping step, and just short of it unless it is the clock's end
  pub running-before : repeats t ≡ false → running t < stop_step t
  unfolding running
  running-before r = simp r (omega (arith, stop-later t v))

  pub running-exact : running t < clock_end → (repeats t ≡ false) × (suc (running t) ≡ stop_step t)
  unfolding running
  running-exact = go (repeats t) refl
    where
      go : (r : Bool) → repeats t ≡ r → running t < clock_end → (repeats t ≡ false) × (suc (running t) ≡ stop_step t)
      go true er h = absurd (omega (arith, simp er at h))
      go false er h = (er, simp er (omega (arith, simp er at h, stop-later t v)))

-- what the check may use of the step that stops a track, and of many steps
pub ruleset stopping = (stop-later)

pub ruleset striding = (next_small, stride-zero, div-le_self)
