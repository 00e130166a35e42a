-- The laws of one step.
use Prim.Native.Nat.{ℕ, ◌+◌, ◌-◌, ◌/◌, ◌%◌, ◌≤◌, ◌<◌}
use mathlib.Core.Path.{◌≡◌, refl}
use mathlib.Core.Bool.{Bool, true, false}
use native.Mathlib.Nat.{mod-lt}
use native.Mathlib.Omega.{arith}
use lib.Dec.{eqb}
use borrow.Author.Tests.{eqb-true, eqb-false, eq-eqb, ne_eqb}
use Rattle.track.specs.declared.Track.{Track}
use Rattle.track.specs.Rule.{PLAYING, STOPPED, WAITING, BACKWARD, VISITED, DUE, backward, is_due, Valid, home, far, moved, with_remainder, rewound, stopped, entered}
use Rattle.track.specs.Walk.{arrival, passes_at, stops, visited, step}
use Rattle.track.specs.Stride.{span, place, next}
use Rattle.track.proofs.Tests.{cond_cases}
use Rattle.track.proofs.Cycle.{near-mod, near_div, last-mod, last-div}

-- a backward track steps down, but from the start of its span
pub arrival-down : (t : Track) → (t.due ≡ DUE → ⊥) → t.direction ≡ BACKWARD → (t.position.0 ≡ t.start.0 → ⊥) → t.position.0 - 1 ≡ arrival t
unfolding arrival
arrival-down t d b e = simp (ne_eqb _ _ d, eq-eqb _ _ b, ne_eqb _ _ e)

-- home and far lie in the span, and are two locations
module _ (t : Track) (v : Valid t) where
  pub home-inside : (t.start.0 ≤ home t) × (home t ≤ t.end.0)
  home-inside = cond_cases (λ (l : ℕ). (t.start.0 ≤ l) × (l ≤ t.end.0)) (backward t) (λ _. omega arith) (λ _. omega arith)

  pub home-far : home t ≡ far t → ⊥
  home-far e = go (backward t) refl
    where
      go : (b : Bool) → backward t ≡ b → ⊥
      go true eb = omega (arith, simp eb at e)
      go false eb = omega (arith, simp eb at e)

module _ (t : Track) (v : Valid t) where
  pub arrival-inside : (t.start.0 ≤ arrival t) × (arrival t ≤ t.end.0)
  unfolding arrival
  arrival-inside = go (is_due t) (backward t) refl refl
    where
      go : (d b : Bool) → is_due t ≡ d → backward t ≡ b → (t.start.0 ≤ arrival t) × (arrival t ≤ t.end.0)
      go true b ed eb = simp ed (omega arith)
      go false true ed eb =
          simp (ed, eb)
          (cond_cases (λ (l : ℕ). (t.start.0 ≤ l) × (l ≤ t.end.0)) (eqb t.position.0 t.start.0) (λ h. omega arith)
          (λ h. omega (arith, eqb-false)))
      go false false ed eb =
          simp (ed, eb)
          (cond_cases (λ (l : ℕ). (t.start.0 ≤ l) × (l ≤ t.end.0)) (eqb t.position.0 t.end.0) (λ h. omega arith)
          (λ h. omega (arith, eqb-false)))

  -- the next distance is one of the span, and its place is where the step arrives
  pub next_small : next t < span t
  unfolding next
  next_small =
      cond_cases (λ (k : ℕ). k < span t) (backward t) (λ h. omega (arith, arrival-inside)) (λ h. omega (arith, arrival-inside))

  pub place-next : place t (next t) ≡ arrival t
  unfolding next
  place-next = go (backward t) refl
    where
      go : (b : Bool) → backward t ≡ b → place t (next t) ≡ arrival t
      go true eb = simp eb (omega (arith, arrival-inside))
      go false eb = simp eb (omega (arith, arrival-inside))

  -- the passes after a step, where x counts the steps round the span from some K on
  pub passes-next : (K x : ℕ) → next t ≡ x % span t → t.passes.0 ≡ K + x / span t → passes_at t (arrival t) ≡ K + (x + 1) / span t
  unfolding passes_at next
  passes-next K x e p = go (backward t) refl
    where
      go : (b : Bool) → backward t ≡ b → passes_at t (arrival t) ≡ K + (x + 1) / span t
      go true eb =
          simp eb
          (cond_cases (λ (k : ℕ). k ≡ K + (x + 1) / span t) (eqb (arrival t) t.start.0)
          (λ h. omega (arith, arrival-inside, last-div x {n = span t} (omega (arith, simp eb at e, arrival-inside, eqb-true))))
          (λ h. omega (arith, arrival-inside, near_div x {n = span t} (omega (arith, simp eb at e, arrival-inside, eqb-false)))))
      go false eb =
          simp eb
          (cond_cases (λ (k : ℕ). k ≡ K + (x + 1) / span t) (eqb (arrival t) t.end.0)
          (λ h. omega (arith, arrival-inside, last-div x {n = span t} (omega (arith, simp eb at e, arrival-inside, eqb-true))))
          (λ h. omega (arith, arrival-inside, near_div x {n = span t} (omega (arith, simp eb at e, arrival-inside, eqb-false)))))

  -- the distance after that of x, of a visited track
  pub next-visited : (x : ℕ) → is_due t ≡ false → t.position.0 ≡ place t (x % span t) → next t ≡ (x + 1) % span t
  unfolding next arrival
  next-visited x ed e = go (backward t) refl
    where
      small : x % span t < span t
      small = mod-lt x (omega arith)

      go : (b : Bool) → backward t ≡ b → next t ≡ (x + 1) % span t
      go true eb =
          simp (ed, eb)
          (cond_cases (λ (l : ℕ). t.end.0 - l ≡ (x + 1) % span t) (eqb t.position.0 t.start.0)
          (λ h. omega (arith, last-mod x {n = span t} (omega (arith, simp eb at e, small, eqb-true)), simp eb at e, small))
          (λ h. omega (arith, near-mod x {n = span t} (omega (arith, simp eb at e, small, eqb-false)), simp eb at e, small, eqb-false)))
      go false eb =
          simp (ed, eb)
          (cond_cases (λ (l : ℕ). l - t.start.0 ≡ (x + 1) % span t) (eqb t.position.0 t.end.0)
          (λ h. omega (arith, last-mod x {n = span t} (omega (arith, simp eb at e, small, eqb-true)), simp eb at e, small))
          (λ h. omega (arith, near-mod x {n = span t} (omega (arith, simp eb at e, small, eqb-false)), simp eb at e, small, eqb-false)))

  pub place_inside : (k : ℕ) → k < span t → (t.start.0 ≤ place t k) × (place t k ≤ t.end.0)
  place_inside k h =
      cond_cases (λ (l : ℕ). (t.start.0 ≤ l) × (l ≤ t.end.0)) (backward t) (λ _. omega arith) (λ _. omega arith)

-- ---- what a step keeps
module _ (t : Track) (v : Valid t) where
  pub put-valid : (m l q d r : ℕ) → m ≤ WAITING → d ≤ DUE → (t.start.0 ≤ l) × (l ≤ t.end.0) → r < t.ticks → (m ≡ STOPPED → r ≡ 0) →
      Valid (with_remainder (moved t m l q d) r)
  put-valid m l q d r hm hd hl hr hs =
      record {
        ordered = omega arith;
        loops = v.loops;
        mode = hm;
        direction = v.direction;
        repeat = v.repeat;
        due = hd;
        cells = v.cells;
        rate = record { some = v.rate.some; most = v.rate.most; last = v.rate.last; below = hr; stands = hs };
      }

  pub moved-valid : (m l q d : ℕ) → m ≤ WAITING → d ≤ DUE → (t.start.0 ≤ l) × (l ≤ t.end.0) → (m ≡ STOPPED → t.remainder ≡ 0) →
      Valid (moved t m l q d)
  moved-valid m l q d hm hd hl hs = put-valid m l q d t.remainder hm hd hl v.rate.below hs

  pub remainder-valid : (r : ℕ) → r < t.ticks → (t.mode ≡ STOPPED → r ≡ 0) → Valid (with_remainder t r)
  remainder-valid r hr hs = put-valid t.mode t.position.0 t.passes.0 t.due r v.mode v.due (omega arith) hr hs

  pub stopped-valid : Valid (stopped t)
  stopped-valid = put-valid STOPPED (home t) 0 DUE 0 (omega arith) (omega arith) (home-inside t v) (omega (arith, v.rate)) (λ _. refl)

  pub entered-valid : (m : ℕ) → m ≤ WAITING → Valid (entered t m)
  unfolding entered
  entered-valid m h =
      cond_cases Valid (eqb m STOPPED) (λ _. stopped-valid) (λ n. moved-valid m t.position.0 t.passes.0 t.due h v.due (omega arith) (λ e. absurd (eqb-false m STOPPED n e)))

  pub step-valid : (w : Bool) → Valid (step t w)
  unfolding step visited
  step-valid w =
      cond_cases Valid (stops t) (λ h. stopped-valid)
      (λ h. moved-valid _ _ _ _ (cond_cases (λ (m : ℕ). m ≤ WAITING) w (λ _. omega arith) (λ _. v.mode)) (omega arith) (arrival-inside t v)
      (cond_cases (λ (m : ℕ). m ≡ STOPPED → t.remainder ≡ 0) w (λ _ e. absurd (omega arith)) (λ _. v.rate.stands)))

-- passes grow by at most 1 in a step, and never by a change of mode
pub step-passes : (t : Track) (w : Bool) → (step t w).passes.0 ≤ t.passes.0 + 1
unfolding step visited passes_at
step-passes t w =
    cond_cases (λ (u : Track). u.passes.0 ≤ t.passes.0 + 1) (stops t) (λ _. omega arith)
    (λ _. cond_cases (λ (k : ℕ). k ≤ t.passes.0 + 1) (eqb (arrival t) (far t)) (λ _. omega arith) (λ _. omega arith))

pub entered-passes : (t : Track) (m : ℕ) → (entered t m).passes.0 ≤ t.passes.0
unfolding entered
entered-passes t m =
    cond_cases (λ (u : Track). u.passes.0 ≤ t.passes.0) (eqb m STOPPED) (λ _. omega arith) (λ _. omega arith)

-- ---- 01's traps

-- the point on home is not missed at play: the first step of a rewound track that is played reaches home
pub play-home : (t : Track) → arrival (entered (rewound t) PLAYING) ≡ home t
unfolding arrival entered
play-home t = refl

-- nor reported again after resume with due not set anew: a visited track never arrives where it stands
pub resume-leaves : (t : Track) → Valid t → is_due t ≡ false → arrival (entered t PLAYING) ≡ t.position.0 → ⊥
unfolding arrival entered
resume-leaves t v d e = go (backward t) refl
  where
    go : (b : Bool) → backward t ≡ b → ⊥
    go true eb =
        cond_cases (λ (l : ℕ). l ≡ t.position.0 → ⊥) (eqb t.position.0 t.start.0) (λ h k. omega (arith, eqb-true)) (λ h k. omega (arith, eqb-false))
        (simp (d, eb) at e)
    go false eb =
        cond_cases (λ (l : ℕ). l ≡ t.position.0 → ⊥) (eqb t.position.0 t.end.0) (λ h k. omega (arith, eqb-true)) (λ h k. omega (arith, eqb-false))
        (simp (d, eb) at e)

-- a step that does not stop the track clears due
pub step-visits : (t : Track) (w : Bool) → stops t ≡ false → (step t w).due ≡ VISITED
unfolding step visited
step-visits t w s = simp s

-- going from far to home takes a tick: from far a visited track arrives at home, one step, and no pass is counted there
pub far-home : (t : Track) → Valid t → is_due t ≡ false → t.position.0 ≡ far t →
    (arrival t ≡ home t) × (passes_at t (arrival t) ≡ t.passes.0)
unfolding arrival passes_at
far-home t v d e =
    let a : arrival t ≡ home t = simp (d, eq-eqb _ _ e) in
    (a, rw a (simp (ne_eqb _ _ (home-far t v))))

-- a wait flag at the stopping arrival counts for nothing
pub stop-unwaited : (t : Track) → stops t ≡ true → step t true ≡ step t false
unfolding step
stop-unwaited t s = simp s

-- a waiting or paused track owes nothing: a change of mode but stop keeps position, passes and due
pub entered-stands : (t : Track) (m : ℕ) → (m ≡ STOPPED → ⊥) → entered t m ≡ moved t m t.position.0 t.passes.0 t.due
unfolding entered
entered-stands t m n = simp (ne_eqb _ _ n)

-- what the check may use of the next step
pub ruleset arriving = (arrival-inside)
