-- Turning a PAUSED track (02, 2.3): a flip on its new far position sets due, so that the next arrival closes a pass there; every other turn
-- changes the direction alone.
use Prim.Native.Nat.{ℕ, ◌+◌, ◌-◌, ◌≤◌}
use mathlib.Core.Path.{◌≡◌, refl, sym, ◌∙◌, ap, ap₂}
use mathlib.Core.Bool.{Bool, true, false, cond, not, ◌&&◌}
use native.Mathlib.Omega.{arith}
use lib.Dec.{eqb, leb}
use lib.IntN.{pos}
use borrow.Author.Tests.{eqb-true, eqb-false, eq-eqb, ne_eqb, le-leb, not-true}
use Rattle.track.specs.declared.Track.{Track}
use Rattle.track.specs.declared.setup.Change.TheVariants as change
use Rattle.track.specs.Rule.{STOPPED, PLAYING, PAUSED, WAITING, BACKWARD, VISITED, DUE, backward, repeats, Valid, home, far, moved, rewound, stopped, entered}
use Rattle.track.specs.Walk.{arrival, passes_at, stops, visited, step}
use Rattle.track.specs.Stride.{span, stride}
use Rattle.track.specs.Follow.{distance}
use Rattle.track.specs.Setup.{Changed, refused, accepted, settled, permits, turned, closes, turned_to, direction_set, set_by, changed_by}
use Rattle.track.specs.Flip.{directed, resumed, Closing}
use Rattle.track.proofs.Tests.{both, refuted, cond_cases}
use Rattle.track.proofs.Numbers.{natural-of}
use Rattle.track.proofs.Arrivals.{far-home, moved-valid, entered-valid}
use Rattle.track.proofs.Strides.{stride-zero, stride-suc}
use Rattle.track.proofs.Setups.{changed-keeps}

-- ---- what the call's definitions come to

settled-stopped : {m : ℕ} → m ≡ STOPPED → settled m ≡ true
unfolding settled
settled-stopped e = simp (eq-eqb _ _ e)

settled-else : {m : ℕ} → (m ≡ STOPPED → ⊥) → settled m ≡ eqb m PAUSED
unfolding settled
settled-else n = simp (ne_eqb _ _ n)

module _ (t : Track) (k : ℕ) where
  closes-far : (k ≡ t.direction → ⊥) → t.mode ≡ PAUSED → t.due ≡ VISITED → closes t k ≡ eqb t.position.0 (far (turned t k))
  unfolding closes
  closes-far n p d = simp (ne_eqb k t.direction n, eq-eqb _ _ p, eq-eqb _ _ d)

  turned-to-rewound : t.mode ≡ STOPPED → turned_to t k ≡ rewound (turned t k)
  unfolding turned_to
  turned-to-rewound e = simp (eq-eqb _ _ e)

  module _ (n : t.mode ≡ STOPPED → ⊥) where
    turned-to-due : closes t k ≡ true → turned_to t k ≡ moved (turned t k) t.mode t.position.0 t.passes.0 DUE
    unfolding turned_to
    turned-to-due h = simp (ne_eqb _ _ n, h)

    turned-to-alone : closes t k ≡ false → turned_to t k ≡ turned t k
    unfolding turned_to
    turned-to-alone h = simp (ne_eqb _ _ n, h)

-- ---- a flip exchanges home and far, and with them the distance from home

module _ (t : Track) (v : Valid t) (k : ℕ) (d : k ≤ BACKWARD) (flips : k ≡ t.direction → ⊥) where
  -- of the two directions one is backward
  flipped : (P : Bool → Bool → Type 0) → P true false → P false true → P (eqb k BACKWARD) (backward t)
  flipped P f g = go (eqb k BACKWARD) refl
    where
      go : (b : Bool) → eqb k BACKWARD ≡ b → P (eqb k BACKWARD) (backward t)
      go true e = let n : t.direction ≡ BACKWARD → ⊥ = λ h. flips (eqb-true _ _ e ∙ sym h) in simp (e, ne_eqb _ _ n) f
      go false e = let n : t.direction ≡ BACKWARD = omega (arith, eqb-false) in simp (e, eq-eqb _ _ n) g

  pub flip-ends : (far (turned t k) ≡ home t) × (home (turned t k) ≡ far t)
  flip-ends =
      flipped
      (λ x y. (cond x t.start.0 t.end.0 ≡ cond y t.end.0 t.start.0) × (cond x t.end.0 t.start.0 ≡ cond y t.start.0 t.end.0))
      (refl, refl) (refl, refl)

  pub flip-distance : distance (turned t k) + distance t + 1 ≡ span t
  flip-distance =
      let p = t.position.0 in
      flipped (λ x y. cond x (t.end.0 - p) (p - t.start.0) + cond y (t.end.0 - p) (p - t.start.0) + 1 ≡ span t) (omega arith) (omega arith)

-- ---- the call, by the mode

module _ (t : Track) (k : ℕ) where
  -- a playing or waiting track is not turned
  pub unsettled-refused : settled t.mode ≡ false → directed t k ≡ refused 2 t
  unfolding changed_by permits
  unsettled-refused s = simp s

  module _ (d : k ≤ BACKWARD) where
    set-direction : settled t.mode ≡ true → directed t k ≡ accepted (turned_to t k)
    unfolding changed_by set_by permits direction_set
    set-direction s = simp (s, natural-of k 0 1 (omega arith) d)

    -- a STOPPED one rewinds by the new direction, be it the old one or not
    pub stopped-rewinds : t.mode ≡ STOPPED → directed t k ≡ accepted (rewound (turned t k))
    stopped-rewinds e = set-direction (settled-stopped e) ∙ ap accepted (turned-to-rewound t k e)

    module _ (paused : t.mode ≡ PAUSED) where
      unstopped : t.mode ≡ STOPPED → ⊥
      unstopped e = omega (arith, sym paused ∙ e)

      settled-paused : settled t.mode ≡ true
      settled-paused = settled-else unstopped ∙ eq-eqb _ _ paused

      turned_by : (b : Bool) → closes t k ≡ b → directed t k ≡ accepted (cond b (moved (turned t k) t.mode t.position.0 t.passes.0 DUE) (turned t k))
      turned_by true e = set-direction settled-paused ∙ ap accepted (turned-to-due t k unstopped e)
      turned_by false e = set-direction settled-paused ∙ ap accepted (turned-to-alone t k unstopped e)

      module _ (v : Valid t) where
        -- the rule's test says just that
        closing-of : closes t k ≡ true → Closing t k
        unfolding closes
        closing-of e =
            let a = both (not (eqb k t.direction) && eqb t.mode PAUSED && eqb t.due VISITED) (eqb t.position.0 (far (turned t k))) e in
            let b = both (not (eqb k t.direction) && eqb t.mode PAUSED) (eqb t.due VISITED) a.0 in
            let flips : k ≡ t.direction → ⊥ = eqb-false _ _ (not-true _ (both (not (eqb k t.direction)) (eqb t.mode PAUSED) b.0).0) in
            record {
              valid = v;
              direction = d;
              flips = flips;
              paused = paused;
              visited = eqb-true _ _ b.1;
              at_far = eqb-true _ _ a.1;
            }

        -- every other turn changes the direction alone
        pub turned-alone : (Closing t k → ⊥) → directed t k ≡ accepted (turned t k)
        turned-alone n = turned_by false (sym (refuted (closes t k) (λ e. n (closing-of e))))

        -- the same value again, due already, elsewhere
        pub turned_same : k ≡ t.direction → directed t k ≡ accepted (turned t k)
        turned_same e = turned-alone (λ c. c.flips e)

        pub turned-due : t.due ≡ DUE → directed t k ≡ accepted (turned t k)
        turned-due e = turned-alone (λ c. omega (arith, sym e ∙ c.visited))

        pub turned-elsewhere : (t.position.0 ≡ far (turned t k) → ⊥) → directed t k ≡ accepted (turned t k)
        turned-elsewhere n = turned-alone (λ c. n c.at_far)

-- ---- the flip that leaves a pass to close

module _ (t : Track) (k : ℕ) (c : Closing t k) where
  -- its new far position is the home position that it had
  pub closing-home : t.position.0 ≡ home t
  closing-home = c.at_far ∙ (flip-ends t c.valid k c.direction c.flips).0

  -- it sets due, and changes the direction
  pub turned-closes : directed t k ≡ accepted (moved (turned t k) PAUSED t.position.0 t.passes.0 DUE)
  turned-closes =
      turned_by t k c.direction c.paused true
      (closes-far t k c.flips c.paused c.visited ∙ eq-eqb _ _ c.at_far)
      ∙ ap (λ (m : ℕ). accepted (moved (turned t k) m t.position.0 t.passes.0 DUE)) c.paused

  -- and stands due, as it stood, when it plays again
  pub resumed-is : resumed t k ≡ moved (turned t k) PLAYING t.position.0 t.passes.0 DUE
  unfolding entered
  resumed-is = ap (λ (r : Changed). entered r.track PLAYING) turned-closes

  -- it stood at home, and stands at the last distance from its new home
  pub closing-distance : (distance t ≡ 0) × (distance (directed t k).track + 1 ≡ span t)
  closing-distance =
      let d = flip-distance t c.valid k c.direction c.flips in
      let z : distance t ≡ 0 = at_zero (backward t) refl in
      (z, ap (λ (r : Changed). distance r.track + 1) turned-closes ∙ omega arith)
    where
      at_zero : (b : Bool) → backward t ≡ b → distance t ≡ 0
      at_zero true e = let h = closing-home in simp e (omega (arith, simp e at h))
      at_zero false e = let h = closing-home in simp e (omega (arith, simp e at h))

  -- resumed, it arrives where it stands
  pub closing-arrival : arrival (resumed t k) ≡ t.position.0
  unfolding arrival
  closing-arrival = ap arrival resumed-is

  -- a pass is counted there
  pub closing-passes : passes_at (resumed t k) (arrival (resumed t k)) ≡ t.passes.0 + 1
  unfolding arrival passes_at
  closing-passes = rw resumed-is (simp (eq-eqb _ _ c.at_far))

  -- and it stops there if repeat is off and that is the last pass
  pub closing-stops : stops (resumed t k) ≡ (not (repeats t) && leb t.loops (t.passes.0 + 1))
  unfolding stops arrival passes_at
  closing-stops = rw resumed-is (simp (eq-eqb _ _ c.at_far))

  -- with loops 1 and repeat off it does, whether the point has a wait flag or not, and rewinds by the new direction: home is the other end
  pub closing-once : t.loops ≡ 1 → repeats t ≡ false → (w : Bool) → step (resumed t k) w ≡ stopped (turned t k)
  unfolding step
  closing-once l r w =
      let last : stops (resumed t k) ≡ true = closing-stops ∙ simp (r, le-leb t.loops (t.passes.0 + 1) (omega arith)) in
      simp last (ap stopped resumed-is)

  -- else it is visited again, with a pass more
  pub closing-step : (w : Bool) → stops (resumed t k) ≡ false →
      step (resumed t k) w ≡ moved (turned t k) (cond w WAITING PLAYING) t.position.0 (t.passes.0 + 1) VISITED
  unfolding step visited arrival passes_at
  closing-step w n = let m = rw resumed-is at n in rw resumed-is (simp (m, eq-eqb _ _ c.at_far))

  directed-valid : Valid (directed t k).track
  directed-valid = (changed-keeps t c.valid (change.Direction (pos k))).valid

  resumed-valid : Valid (resumed t k)
  resumed-valid = entered-valid (directed t k).track directed-valid PLAYING (omega arith)

  -- and the arrival after that is the other end, where no pass is counted
  crosses : (m : ℕ) → m ≤ WAITING → (m ≡ STOPPED → ⊥) → (let u = moved (turned t k) m t.position.0 (t.passes.0 + 1) VISITED in
      (arrival u ≡ far t) × (passes_at u (arrival u) ≡ t.passes.0 + 1))
  crosses m l n =
      let v : Valid (moved (turned t k) PAUSED t.position.0 t.passes.0 DUE) = rw (ap (λ (r : Changed). r.track) turned-closes) at directed-valid in
      let h = far-home (moved (turned t k) m t.position.0 (t.passes.0 + 1) VISITED)
      (moved-valid (moved (turned t k) PAUSED t.position.0 t.passes.0 DUE) v m t.position.0 (t.passes.0 + 1) VISITED l (omega arith) (omega arith) (λ e. absurd (n e)))
      refl c.at_far in
      (h.0 ∙ (flip-ends t c.valid k c.direction c.flips).1, h.1)

  pub closing-next : (w : Bool) → stops (resumed t k) ≡ false →
      (arrival (step (resumed t k) w) ≡ far t) × (passes_at (step (resumed t k) w) (arrival (step (resumed t k) w)) ≡ t.passes.0 + 1)
  closing-next w n =
      rw (closing-step w n) (crosses (cond w WAITING PLAYING) (cond_cases (λ (m : ℕ). m ≤ WAITING) w (λ _. omega arith) (λ _. omega arith))
      (cond_cases (λ (m : ℕ). m ≡ STOPPED → ⊥) w (λ _. omega arith) (λ _. omega arith)))

  -- the stride knows it: its first step is on the spot and closes the pass, its second crosses
  pub closing-stride : stride (resumed t k) 1 ≡ moved (turned t k) PLAYING t.position.0 (t.passes.0 + 1) VISITED
  unfolding visited arrival passes_at
  closing-stride =
      stride-suc (resumed t k) resumed-valid 0
      ∙ ap₂ (λ (u r : Track). visited u r.mode) (stride-zero (resumed t k) resumed-valid ∙ resumed-is) resumed-is
      ∙ simp (eq-eqb _ _ c.at_far)

  pub closing-crosses : stride (resumed t k) 2 ≡ moved (turned t k) PLAYING (far t) (t.passes.0 + 1) VISITED
  unfolding visited
  closing-crosses =
      let x = crosses PLAYING (omega arith) (omega arith) in
      stride-suc (resumed t k) resumed-valid 1
      ∙ ap₂ (λ (u r : Track). visited u r.mode) closing-stride resumed-is
      ∙ ap₂ (λ (l p : ℕ). moved (turned t k) PLAYING l p VISITED) x.0 x.1
