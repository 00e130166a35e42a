-- A follower and its master in quiet ticks: how long the band stays.
use Prim.Native.Nat.{ℕ, suc, ◌+◌, ◌*◌, ◌≤◌, ◌<◌, min, max}
use mathlib.Core.Path.{◌≡◌, refl, sym, ap, ap₂, subst, ◌∙◌}
use mathlib.Core.Logic.{◌⊎◌, inl, inr, ⊎_elim}
use mathlib.Core.Bool.{Bool, true, false, cond, ◌||◌, false≢true}
use mathlib.Core.List.{List}
use native.Mathlib.Nat.{add-zero, zero-mul, mul-zero, mul-le-mul_right, mul-div_left}
use native.Mathlib.Omega.{arith}
use lib.Dec.{eqb}
use lib.ListN.{length}
use borrow.Author.Tests.{eq-eqb, ne_eqb}
use Rattle.track.specs.declared.Track.{Track}
use Rattle.track.specs.Rule.{STOPPED, clock_end, is_due, Valid}
use Rattle.track.specs.Stride.{span}
use Rattle.track.specs.Follow.{distance, thresholds_of, up_to_zero, band_of, low_of, high_of, judged, apart, pairs_test}
use Rattle.track.proofs.Tests.{refuted}
use Rattle.board.specs.Stay.{Between, Stays, Together, Rounds}
use Rattle.board.specs.Steady.{
  is_playing,
  goes,
  straight,
  still,
  fine,
  pace,
  least,
  width,
  drift_after,
  drift_in_range,
  fine_in_range,
  Drifts,
  LeavesWithin,
  Holds,
  Steadies,
}
use Rattle.board.proofs.steady.Going.{goes-mode, goes-thresholds, goes-ticks, goes-next}
use Rattle.board.proofs.steady.Lines.{fine-line, line_at, any_at, still-small, still-at, round-at, straight-turns, goes_small}
use Rattle.board.proofs.steady.Edges.{in-range-is, fine-in-range, edge-is}
use Rattle.board.proofs.stay.Staying.{between-apart, apart-between}
use Rattle.board.proofs.stay.Fine.{fine-apart, scaled-apart, scaled-rounds}
use Rattle.board.proofs.stay.Rounding.{lt-or}
use Rattle.board.proofs.stay.Bands.{band-is, band-within, pairs-rising}

-- ---- the stretches

-- n ticks of a line, counted in other parts
spread : (r x g k : ℕ) → x * k + suc r * (g * k) ≡ (x + suc r * g) * k
spread r x g k = omega arith

module _ (t m : Track) (vt : Valid t) (vm : Valid m) (lo hi : ℕ) where
  some : 0 < t.ticks
  some = omega (arith, vt.rate)

  some-master : 0 < m.ticks
  some-master = omega (arith, vm.rate)

  abbrev Inside : ℕ → Type 0
  Inside n = (lo ≤ drift_after n t m) × (drift_after n t m ≤ hi)

  -- the parts of both, n ticks on: the places that a line tells
  abbrev Lined : ℕ → Type 0
  Lined s =
      Stays (fine t * m.ticks) (fine m * t.ticks) 0 (pace t * m.ticks) (pace m * t.ticks) (lo * (t.ticks * m.ticks)) (hi * (t.ticks * m.ticks)) s

  -- each on its line
  line-within : (s r : ℕ) → Lined s → r ≤ s → r ≤ straight t → r ≤ straight m → Drifts lo hi t m r
  line-within s r f rs rt rm = record { small = omega (arith, f.small); within = λ n p l. go n p l }
    where
      go : (n : ℕ) → 0 < n → n ≤ r → Inside n
      go n p l =
          let g = between-apart _ _ _ _ _ ((fine t + n * pace t) * m.ticks) ((fine m + n * pace m) * t.ticks)
          (record { least = omega arith; most = omega arith }) (f.within n p (omega arith)) in
          rw (line_at t vt n (omega arith), line_at m vm n (omega arith))
          (scaled-apart t.ticks m.ticks some some-master lo hi (fine t + n * pace t) (fine m + n * pace m) g.0 g.1)

  -- each anywhere on its span
  pub any-within : (r : ℕ)
      → Together (least t * 1) ((least m + width m) * 1) (width t * 1 + width m * 1) (0 * 1) (0 * 1) (lo * (1 * 1)) (hi * (1 * 1)) clock_end clock_end r
      → Drifts lo hi t m r
  any-within r f = record { small = omega (arith, f.least); within = λ n p l. go n p l }
    where
      go : (n : ℕ) → 0 < n → n ≤ r → Inside n
      go n p l =
          let a = any_at t vt n in
          let b = any_at m vm n in
          let z = mul-zero n in
          let g = between-apart _ _ _ _ _ (distance (goes n t)) (distance (goes n m)) (record { least = omega arith; most = omega arith })
          (f.stays.within n p (omega (arith, f.least))) in
          (omega (arith, g.0), omega (arith, g.1))

  -- the first on its line, the second anywhere on its span
  pub first-within : (r : ℕ)
      → Together (fine t * 1) ((least m + width m) * t.ticks) (0 * 1 + width m * t.ticks) (pace t * 1) (0 * t.ticks) (lo * (t.ticks * 1)) (hi * (t.ticks * 1))
      (straight t) clock_end r
      → Drifts lo hi t m r
  first-within r f = record { small = omega (arith, f.least); within = λ n p l. go n p l }
    where
      go : (n : ℕ) → 0 < n → n ≤ r → Inside n
      go n p l =
          let b = any_at m vm n in
          let z = mul-zero n in
          let o = zero-mul t.ticks in
          let x = mul-le-mul_right {m = least m} {n = distance (goes n m)} t.ticks b.0 in
          let y = mul-le-mul_right {m = distance (goes n m)} {n = least m + width m} t.ticks b.1 in
          let g = between-apart _ _ _ _ _ (fine t + n * pace t) (distance (goes n m) * t.ticks)
          (record { least = omega arith; most = omega arith }) (f.stays.within n p (omega (arith, f.least))) in
          let h = fine-apart t.ticks lo hi some (fine t + n * pace t) (distance (goes n m) * t.ticks) (omega (arith, g.0)) (omega (arith, g.1)) in
          rw (line_at t vt n (omega (arith, f.least))) (rw (mul-div_left (distance (goes n m)) some) at h)

  -- both round their spans
  pub round-within : is_playing t ≡ true → is_playing m ≡ true → is_due t ≡ false → is_due m ≡ false → t.steps * m.ticks ≡ m.steps * t.ticks
      → (r : ℕ)
      → Rounds (fine t * m.ticks) (fine m * t.ticks) (span t * (t.ticks * m.ticks)) (span m * (t.ticks * m.ticks))
      (lo * (t.ticks * m.ticks)) (hi * (t.ticks * m.ticks)) r
      → Drifts lo hi t m r
  round-within et em dt dm same r f =
      record {
        small = f.small;
        within = λ n p l. rw (round-at t vt et dt n, round-at m vm em dm n)
            (scaled-rounds (fine t) (fine m) t.steps m.steps t.ticks m.ticks (span t) (span m) lo hi r some some-master (omega arith)
            (omega arith) same f (omega arith) n);
      }

  -- neither makes a step
  pub still-within : (r : ℕ) → lo ≤ apart (distance t) (distance m) → apart (distance t) (distance m) ≤ hi → r ≡ min (still t) (still m)
      → Drifts lo hi t m r
  still-within r a b e =
      record { small = omega (arith, still-small t vt); within = λ n p l. rw (still-at t vt n (omega arith), still-at m vm n (omega arith)) (a, b) }

  -- the line, and what ends it
  pub line-holds : (s r : ℕ) → Lined s → r ≡ min s (min (straight t) (straight m)) → Holds lo hi t m r
  line-holds s r f e =
      record {
        stretch = line-within s r f (omega arith) (omega arith) (omega arith);
        exact = λ h. ⊎_elim (λ (a : r < straight t). ⊎_elim (λ (b : r < straight m). on h a b)
            (λ (b : straight m ≤ r). inr (second h b)) (lt-or r (straight m)))
            (λ (a : straight t ≤ r). inr (first h a)) (lt-or r (straight t));
      }
    where
      -- the place in parts is out of the range
      beyond : r < clock_end → r < straight t → r < straight m → fine_in_range lo hi (goes (suc r) t) (goes (suc r) m) ≡ true → ⊥
      beyond h a b j =
          let q : r ≡ s = omega arith in
          let g = fine-in-range lo hi (goes (suc r) t) (goes (suc r) m) t.ticks m.ticks _ _ (goes-ticks (suc r) t) (goes-ticks (suc r) m)
          (fine-line t vt (suc r) (omega arith)) (fine-line m vm (suc r) (omega arith)) j in
          let w = apart-between _ _ _ _ g in
          subst
          (λ (k : ℕ). k < clock_end → Between (fine t * m.ticks + suc k * (pace t * m.ticks)) (fine m * t.ticks + suc k * (pace m * t.ticks)) 0 (lo * (t.ticks * m.ticks)) (hi * (t.ticks * m.ticks)) → ⊥)
          (sym q) f.exact h
          (rw (spread r (fine t) (pace t) m.ticks, spread r (fine m) (pace m) t.ticks) w)

      on : r < clock_end → r < straight t → r < straight m → (Inside (suc r) → ⊥) ⊎ LeavesWithin lo hi (suc r) t m
      on h a b = go (drift_in_range lo hi (drift_after (suc r) t m)) refl
        where
          go : (i : Bool) → drift_in_range lo hi (drift_after (suc r) t m) ≡ i → (Inside (suc r) → ⊥) ⊎ LeavesWithin lo hi (suc r) t m
          go false i = inl (λ w. false≢true (sym i ∙ in-range-is lo hi (drift_after (suc r) t m) w))
          go true i =
              inr
              (record {
                at = r;
                before = omega arith;
                which = inr (inr (edge-is lo hi (goes r t) (goes r m) (goes (suc r) t) (goes (suc r) m) (goes-next t vt r) (goes-next m vm r) i
                    (sym (refuted (fine_in_range lo hi (goes (suc r) t) (goes (suc r) m)) (beyond h a b)))));
              })

      first : r < clock_end → straight t ≤ r → LeavesWithin lo hi (suc r) t m
      first h a = record { at = straight t; before = omega arith; which = inl (straight-turns t vt (omega arith)) }

      second : r < clock_end → straight m ≤ r → LeavesWithin lo hi (suc r) t m
      second h b = record { at = straight m; before = omega arith; which = inr (inl (straight-turns m vm (omega arith))) }

  -- the same, as two paths tell it
  pub lines-hold : (r : ℕ)
      → Together (fine t * m.ticks) ((fine m + 0) * t.ticks) (0 * m.ticks + 0 * t.ticks) (pace t * m.ticks) (pace m * t.ticks)
      (lo * (t.ticks * m.ticks)) (hi * (t.ticks * m.ticks)) (straight t) (straight m) r
      → Holds lo hi t m r
  lines-hold r f = line-holds f.whole r (rw (add-zero (fine m), zero-mul m.ticks, zero-mul t.ticks) at f.stays) (omega (arith, f.least))

-- the other way round
pub within-turned : (t m : Track) (lo hi r : ℕ) → Drifts lo hi m t r → Drifts lo hi t m r
within-turned t m lo hi r f = record { small = f.small; within = λ n p l. let j = f.within n p l in (omega arith, omega arith) }

-- until the clock's end there is no next tick
pub ever-holds : (t m : Track) (lo hi r : ℕ) → Drifts lo hi t m r → r ≡ clock_end → Holds lo hi t m r
ever-holds t m lo hi r f e = record { stretch = f; exact = λ h. absurd (omega arith) }

-- the longer of two stretches
pub longer-holds : (t m : Track) (lo hi a b r : ℕ) → Holds lo hi t m a → Drifts lo hi t m b → r ≡ max a b → Holds lo hi t m r
longer-holds t m lo hi a b r f g e = ⊎_elim (λ (h : a < b). more h (omega arith)) (λ (h : b ≤ a). subst (Holds lo hi t m) (omega arith) f) (lt-or a b)
  where
    later : (j k : ℕ) → j ≤ k → LeavesWithin lo hi (suc j) t m → LeavesWithin lo hi (suc k) t m
    later j k h w = record { at = w.at; before = omega (arith, w.before); which = w.which }

    more : a < b → r ≡ b → Holds lo hi t m r
    more h q =
        subst (Holds lo hi t m) (sym q)
        (record {
          stretch = g;
          exact = λ k. ⊎_elim (λ (n : (lo ≤ drift_after (suc a) t m) × (drift_after (suc a) t m ≤ hi) → ⊥).
              absurd (n (g.within (suc a) (omega arith) (omega arith))))
              (λ (w : LeavesWithin lo hi (suc a) t m). inr (later a b (omega arith) w)) (f.exact (omega (arith, g.small)));
        })

-- ---- the band

-- a follower t of the master m, neither STOPPED, with rising thresholds, of which the band is one, or none
pub record Paired (t m : Track) : Type 0 where
  pub valid : Valid t
  pub master : Valid m
  pub runs : t.mode ≡ STOPPED → ⊥
  pub leads : m.mode ≡ STOPPED → ⊥
  pub pairs : pairs_test 0 t.thresholds t.events ≡ true
  pub band : t.band ≤ length (thresholds_of t)

-- either is STOPPED: the band is none
judged-none : (t m : Track) (n : ℕ) → (t.mode ≡ STOPPED) ⊎ (m.mode ≡ STOPPED) → judged (goes n t) (goes n m) ≡ 0
unfolding judged
judged-none t m n (inl e) = simp (eq-eqb (goes n t).mode STOPPED (goes-mode n t ∙ e))
judged-none t m n (inr e) = go (eqb (goes n t).mode STOPPED) _ _ (eq-eqb (goes n m).mode STOPPED (goes-mode n m ∙ e))
  where
    go : (a b : Bool) (x : ℕ) → b ≡ true → cond (a || b) 0 x ≡ 0
    go true b x e = refl
    go false b x e = simp e

pub stopped-ever : (t m : Track) → (t.mode ≡ STOPPED) ⊎ (m.mode ≡ STOPPED) → t.band ≡ 0 → Steadies t m clock_end
stopped-ever t m s e =
    record { small = omega arith; steady = λ n p l. judged-none t m n s ∙ sym e; exact = λ h. absurd (omega arith) }

pub stopped-now : (t m : Track) → (t.mode ≡ STOPPED) ⊎ (m.mode ≡ STOPPED) → (t.band ≡ 0 → ⊥) → Steadies t m 0
stopped-now t m s e =
    record {
      small = omega arith;
      steady = λ n p l. absurd (omega arith);
      exact = λ h. inl (λ (j : judged (goes 1 t) (goes 1 m) ≡ t.band). e (sym j ∙ judged-none t m 1 s));
    }

module _ (t m : Track) (c : Paired t m) where
  judged-band : (n : ℕ) → judged (goes n t) (goes n m) ≡ band_of (thresholds_of t) (drift_after n t m)
  unfolding judged
  judged-band n =
      let s : (eqb (goes n t).mode STOPPED || eqb (goes n m).mode STOPPED) ≡ false =
      ap₂ (λ (x y : ℕ). eqb x STOPPED || eqb y STOPPED) (goes-mode n t) (goes-mode n m)
      ∙ ap₂ (λ (x y : Bool). x || y) (ne_eqb t.mode STOPPED c.runs) (ne_eqb m.mode STOPPED c.leads) in
      simp s (ap (λ (xs : List ℕ). band_of (up_to_zero xs) (drift_after n t m)) (goes-thresholds n t))

  -- while the drift is one of the band, the band stays
  pub holds-steady : (r : ℕ) → Holds (low_of (thresholds_of t) t.band) (high_of (thresholds_of t) t.band) t m r → Steadies t m r
  holds-steady r f =
      record {
        small = f.stretch.small;
        steady = λ n p l.
            let j = f.stretch.within n p l in
            judged-band n
            ∙ band-is 0 (thresholds_of t) (pairs-rising 0 t.thresholds t.events c.pairs) t.band (drift_after n t m) c.band j.0 j.1;
        exact = λ h. ⊎_elim (λ n. inl (λ (e : judged (goes (suc r) t) (goes (suc r) m) ≡ t.band). n (inside (suc r) e))) inr (f.exact h);
      }
    where
      inside : (n : ℕ) → judged (goes n t) (goes n m) ≡ t.band
          → (low_of (thresholds_of t) t.band ≤ drift_after n t m) × (drift_after n t m ≤ high_of (thresholds_of t) t.band)
      inside n e =
          let a = goes_small t c.valid n in
          let b = goes_small m c.master n in
          subst (λ (k : ℕ). (low_of (thresholds_of t) k ≤ drift_after n t m) × (drift_after n t m ≤ high_of (thresholds_of t) k)) (sym (judged-band n) ∙ e)
          (band-within (thresholds_of t) (drift_after n t m) (omega arith))
