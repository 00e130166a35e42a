-- Where a track is n quiet ticks on: on its line, round its span, or anywhere on it.
use Prim.Native.Nat.{ℕ, zero, suc, ◌+◌, ◌-◌, ◌*◌, ◌/◌, ◌%◌, ◌≤◌, ◌<◌}
use mathlib.Core.Path.{◌≡◌, refl, sym, ap, ◌∙◌}
use mathlib.Core.Bool.{Bool, true, false, cond, ◌||◌, or-true}
use native.Mathlib.Nat.{mod-lt, mod-eq_of_lt, mod-add-mod, div-eq_of_lt, div-add-mod', mul-add-div_right, mul-zero, add-zero}
use native.Mathlib.Omega.{arith}
use lib.Dec.{eqb}
use borrow.Author.Tests.{eq-eqb}
use Rattle.track.specs.declared.Track.{Track}
use Rattle.track.specs.Rule.{clock_end, coordinate_last, is_due, Valid}
use Rattle.track.specs.Stride.{span, phase, place, next, stride}
use Rattle.track.specs.Leap.{moves, steps_in, remainder_after, leap, ticks_before}
use Rattle.track.specs.Follow.{distance}
use Rattle.track.proofs.Tests.{cond_cases}
use Rattle.track.proofs.Arrivals.{next-visited, place_inside}
use Rattle.track.proofs.Strides.{stride-valid, phase-small, place-phase, phase-of}
use Rattle.track.proofs.Leaps.{remainder-below, before_small, before-none, before-made, before-moves}
use Rattle.board.specs.Steady.{is_playing, goes, straight_steps, straight, still, fine, pace, least, width, turns_back}
use Rattle.board.proofs.steady.Going.{goes-plays, goes-stands, goes-ticks, goes-valid, leap-playing}

-- the location of so many parts
pub located : (d q r : ℕ) → r < q → (d * q + r) / q ≡ d
located d q r h = mul-add-div_right {m = q} (omega arith) d r ∙ omega (arith, div-eq_of_lt h)

turning : (t : Track) → is_playing t ≡ true → moves t ≡ true → (is_due t || eqb (distance t + 1) (span t)) ≡ true → turns_back t ≡ true
unfolding turns_back
turning t p m w = simp (p, m, w)

module _ (t : Track) (v : Valid t) where
  pub here : distance t < span t
  here = phase-small t v t.position.0 v.ordered.above v.ordered.below

  far-place : (k : ℕ) → k < span t → phase t (place t k) ≡ k
  far-place k h =
      let i = place_inside t v k h in
      sym (phase-of t v (place t k) i.0 i.1 k h refl)

  -- ---- so many steps on

  -- anywhere on its span
  stride-any : (n : ℕ) → distance (stride t n) < span t
  unfolding stride
  stride-any n =
      let w = stride-valid t v n in
      phase-small (stride t n) w (stride t n).position.0 w.ordered.above w.ordered.below

  -- round its span, if it is visited
  module _ (visited : is_due t ≡ false) where
    next-round : next t ≡ (distance t + 1) % span t
    next-round =
        next-visited t v (distance t) visited
        (sym (place-phase t v t.position.0 v.ordered.above v.ordered.below) ∙ ap (place t) (sym (mod-eq_of_lt here)))

    stride-round : (n : ℕ) → distance (stride t n) ≡ (distance t + n) % span t
    unfolding stride
    stride-round zero = sym (mod-eq_of_lt here) ∙ ap (λ (k : ℕ). k % span t) (sym (add-zero (distance t)))
    stride-round (suc n) =
        far-place ((next t + n) % span t) (mod-lt (next t + n) (omega arith))
        ∙ ap (λ (k : ℕ). (k + n) % span t) next-round
        ∙ mod-add-mod (distance t + 1) (span t) n
        ∙ ap (λ (k : ℕ). k % span t) (omega arith)

  -- one further in each step, until it turns
  stride-straight : (n : ℕ) → n ≤ straight_steps t → distance (stride t n) ≡ distance t + n
  unfolding straight_steps stride
  stride-straight n = go (is_due t) refl
    where
      go : (d : Bool) → is_due t ≡ d → n ≤ cond d 0 (span t - 1 - distance t) → distance (stride t n) ≡ distance t + n
      go true e h =
          let z : n ≡ 0 = omega arith in
          ap (λ (k : ℕ). distance (stride t k)) z ∙ omega arith
      go false e h = stride-round e n ∙ mod-eq_of_lt {n = distance t + n} (omega (arith, here))

  -- ---- so many ticks on

  leap-distance : (n : ℕ) → distance (leap t n) ≡ distance (stride t (steps_in t n))
  unfolding leap stride
  leap-distance n = refl

  leap-span : (n : ℕ) → span (leap t n) ≡ span t
  unfolding leap stride
  leap-span n = refl

  -- no step leaves it where it is, due or not
  stride-none : distance (stride t 0) ≡ distance t
  unfolding stride
  stride-none = refl

  due-stays : (n : ℕ) → is_due t ≡ true → steps_in t n ≡ 0 → is_due (leap t n) ≡ true
  unfolding leap stride
  due-stays n d z = ap (λ (k : ℕ). is_due (stride t k)) z ∙ d

  steps-due : is_due t ≡ true → straight_steps t ≡ 0
  unfolding straight_steps
  steps-due d = simp d

  steps-visited : is_due t ≡ false → straight_steps t ≡ span t - 1 - distance t
  unfolding straight_steps
  steps-visited d = simp d

  leap-any : (n : ℕ) → distance (leap t n) < span t
  leap-any n = omega (arith, leap-distance n, stride-any (steps_in t n))

  fine-leap : is_playing t ≡ true → (n : ℕ) → fine (leap t n) ≡ distance (leap t n) * t.ticks + remainder_after t n
  unfolding fine leap stride
  fine-leap e n = simp e

  parts : (n : ℕ) → steps_in t n * t.ticks + remainder_after t n ≡ t.remainder + n * t.steps
  unfolding steps_in remainder_after
  parts n = div-add-mod' (t.remainder + n * t.steps) t.ticks

  -- a place in parts tells the location
  pub fine-place : fine t / t.ticks ≡ distance t
  unfolding fine
  fine-place =
      cond_cases (λ (r : ℕ). (distance t * t.ticks + r) / t.ticks ≡ distance t) (is_playing t)
      (λ _. located (distance t) t.ticks t.remainder v.rate.below)
      (λ _. located (distance t) t.ticks 0 (omega (arith, v.rate)))

  module _ (e : is_playing t ≡ true) where
    fine-plays : fine t ≡ distance t * t.ticks + t.remainder
    unfolding fine
    fine-plays = simp e

    pace-is : pace t ≡ t.steps
    unfolding pace
    pace-is = simp e

    straight-is : straight t ≡ ticks_before t (straight_steps t)
    unfolding straight
    straight-is = simp e

    still-is : still t ≡ ticks_before t 0
    unfolding still
    still-is = simp e

  module _ (e : is_playing t ≡ false) where
    pace-none : pace t ≡ 0
    unfolding pace
    pace-none = simp e

    straight-ever : straight t ≡ clock_end
    unfolding straight
    straight-ever = simp e

  -- its place in parts, n ticks on, before it is taken round
  sum : (n : ℕ) → is_playing t ≡ true → fine t + n * t.steps ≡ (distance t + steps_in t n) * t.ticks + remainder_after t n
  sum n e = omega (arith, parts n, fine-plays e)

  -- after the last step of its line the next one leaves it
  leaves : is_playing t ≡ true → (n : ℕ) → steps_in t n ≡ straight_steps t → moves (leap t n) ≡ true → turns_back (leap t n) ≡ true
  leaves e n s m = turning (leap t n) (leap-playing t n ∙ e) m (go (is_due t) refl)
    where
      go : (d : Bool) → is_due t ≡ d → (is_due (leap t n) || eqb (distance (leap t n) + 1) (span (leap t n))) ≡ true
      go true d = simp (due-stays n d (s ∙ steps-due d))
      go false d =
          let k : distance (leap t n) ≡ distance t + straight_steps t =
          leap-distance n ∙ stride-straight (steps_in t n) (omega arith) ∙ ap (λ (j : ℕ). distance t + j) s in
          let q : distance (leap t n) + 1 ≡ span (leap t n) = omega (arith, steps-visited d, here, leap-span n) in
          rw (eq-eqb (distance (leap t n) + 1) (span (leap t n)) q) (or-true (is_due (leap t n)))

  -- on its line it goes on evenly, in parts of a location
  pub fine-line : (n : ℕ) → n ≤ straight t → fine (goes n t) ≡ fine t + n * pace t
  fine-line n h = go (is_playing t) refl
    where
      go : (b : Bool) → is_playing t ≡ b → fine (goes n t) ≡ fine t + n * pace t
      go true e =
          let s : steps_in t n ≤ straight_steps t = before-none t v (straight_steps t) n (omega (arith, straight-is e)) in
          let d : distance (leap t n) ≡ distance t + steps_in t n = leap-distance n ∙ stride-straight (steps_in t n) s in
          let k : distance (leap t n) * t.ticks ≡ (distance t + steps_in t n) * t.ticks = ap (λ (x : ℕ). x * t.ticks) d in
          let p : n * pace t ≡ n * t.steps = ap (λ (x : ℕ). n * x) (pace-is e) in
          ap fine (goes-plays n t e) ∙ fine-leap e n ∙ omega (arith, parts n, fine-plays e)
      go false e =
          let p : n * pace t ≡ n * 0 = ap (λ (x : ℕ). n * x) (pace-none e) in
          ap fine (goes-stands n t e) ∙ omega (arith, mul-zero n)

  -- when the ticks of its line are over, its next step leaves it
  pub straight-turns : straight t < clock_end → turns_back (goes (straight t) t) ≡ true
  straight-turns h = go (is_playing t) refl
    where
      go : (b : Bool) → is_playing t ≡ b → turns_back (goes (straight t) t) ≡ true
      go false e = absurd (omega (arith, straight-ever e))
      go true e =
          ap (λ (n : ℕ). turns_back (goes n t)) (straight-is e)
          ∙ ap turns_back (goes-plays (ticks_before t (straight_steps t)) t e)
          ∙ leaves e (ticks_before t (straight_steps t)) (before-made t v (straight_steps t) (omega (arith, straight-is e)))
          (before-moves t v (straight_steps t) (omega (arith, straight-is e)))

  pub any_at : (n : ℕ) → (least t ≤ distance (goes n t)) × (distance (goes n t) ≤ least t + width t)
  unfolding least width goes
  any_at n = go (is_playing t)
    where
      go : (b : Bool)
          → (cond b 0 (distance t) ≤ distance (cond b (leap t n) t))
          × (distance (cond b (leap t n) t) ≤ cond b 0 (distance t) + cond b (span t - 1) 0)
      go true = let l = leap-any n in omega arith
      go false = omega arith

  pub goes_small : (n : ℕ) → distance (goes n t) ≤ coordinate_last
  unfolding goes
  goes_small n =
      cond_cases (λ (u : Track). distance u ≤ coordinate_last) (is_playing t) (λ _. let l = leap-any n in omega (arith, v.ordered))
      (λ _. let l = here in omega (arith, v.ordered))

  pub still-small : still t ≤ clock_end
  unfolding still
  still-small = cond_cases (λ (r : ℕ). r ≤ clock_end) (is_playing t) (λ _. before_small t v 0) (λ _. omega arith)

  -- until its first step it is where it is
  pub still-at : (n : ℕ) → n ≤ still t → distance (goes n t) ≡ distance t
  still-at n h = go (is_playing t) refl
    where
      go : (b : Bool) → is_playing t ≡ b → distance (goes n t) ≡ distance t
      go true e =
          let z : steps_in t n ≡ 0 = omega (arith, before-none t v 0 n (omega (arith, still-is e))) in
          ap distance (goes-plays n t e) ∙ leap-distance n ∙ ap (λ (k : ℕ). distance (stride t k)) z ∙ stride-none
      go false e = ap distance (goes-stands n t e)

  -- a visited one goes round its span
  pub round-at : is_playing t ≡ true → is_due t ≡ false → (n : ℕ) → distance (goes n t) ≡ (fine t + n * t.steps) / t.ticks % span t
  round-at e d n =
      ap distance (goes-plays n t e)
      ∙ leap-distance n
      ∙ stride-round d (steps_in t n)
      ∙ ap (λ (k : ℕ). k % span t) (sym whole)
    where
      whole : (fine t + n * t.steps) / t.ticks ≡ distance t + steps_in t n
      whole =
          ap (λ (k : ℕ). k / t.ticks) (sum n e)
          ∙ located (distance t + steps_in t n) t.ticks (remainder_after t n) (remainder-below t v n)

-- on its line it is where its parts tell
pub line_at : (t : Track) → Valid t → (n : ℕ) → n ≤ straight t → distance (goes n t) ≡ (fine t + n * pace t) / t.ticks
line_at t v n h =
    sym (fine-place (goes n t) (goes-valid t v n))
    ∙ ap (λ (q : ℕ). fine (goes n t) / q) (goes-ticks n t)
    ∙ ap (λ (x : ℕ). x / t.ticks) (fine-line t v n h)
