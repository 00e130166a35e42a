-- The steps of a track to the nearest of its points, and to the first that is loud; the ticks before that one.
use Rattle.std.specs.Prelude.{Option, Some, None}
use Prim.Native.Nat.{ℕ, suc, ◌+◌, ◌-◌, ◌%◌, ◌≤◌, ◌<◌, min, zero-le}
use mathlib.Core.Path.{◌≡◌, refl, sym, ap, ◌∙◌}
use mathlib.Core.Logic.{⊎_elim}
use mathlib.Core.Bool.{Bool, true, false, cond, or-true, ◌&&◌, ◌||◌, true≢false}
use mathlib.Core.List.{List}
use native.Mathlib.Nat.{mod-eq_of_lt, mod-lt, add-mod_right}
use native.Mathlib.Omega.{arith}
use borrow.Author.Tests.{le-leb, lt-leb}
use Rattle.track.specs.declared.Track.{Track}
use Rattle.track.specs.declared.Coordinate.{Coordinate}
use Rattle.track.specs.Rule.{clock_end, backward, Valid, home}
use Rattle.track.specs.Walk.{arrival, stops}
use Rattle.track.specs.Stride.{span, phase, place, next, stride, running, steps_to}
use Rattle.track.specs.Leap.{moves, steps_in, leap, ticks_before}
use Rattle.track.proofs.Tests.{refuted}
use Rattle.track.proofs.Arrivals.{next_small, place-next, home-inside}
use Rattle.track.proofs.Strides.{stride-arrival, stride-zero, stride-runs, stride-stops, phase-small, place-phase, first-arrival, steps-small, running-before, running-exact}
use Rattle.track.proofs.Leaps.{leap-arrival, leap-stops, steps-suc, before_small, before-none, before-made, before-moves, before-late}
use Rattle.board.specs.Points.{key, ascending_from, has_key, info_at, nearest, NonzeroInfos}
use Rattle.board.specs.Quiet.{reaches, loud_step, ends_quiet, ToPoint, QuietSteps, QuietTicks}
use Rattle.board.proofs.points.Keys.{lt-or-ge}
use Rattle.board.proofs.points.Table.{info-none}
use Rattle.board.proofs.points.Ranges.{Nearest, nearest-is}

-- ---- what an info and the nearest point say

-- a key stands where the info is not 0, and none where it is
pub info-some : (k : ℕ) (ks ds : List ℕ) {d : ℕ} → d ≡ info_at k ks ds → (d ≡ 0 → ⊥) → has_key k ks ≡ true
info-some k ks ds e n = go (has_key k ks) refl
  where
    go : (b : Bool) → has_key k ks ≡ b → b ≡ true
    go true h = refl
    go false h = absurd (n (e ∙ info-none k ks ds h))

pub info-zero : (k : ℕ) (ks ds : List ℕ) → NonzeroInfos ks ds → {d : ℕ} → d ≡ info_at k ks ds → d ≡ 0 → has_key k ks ≡ false
info-zero k ks ds tell e z = sym (refuted (has_key k ks) (λ h. tell k h (sym e ∙ z)))

-- the nearest point further on than the location p from home, counted from home
record Onward (ks : List ℕ) (i start end : ℕ) (backward : Bool) (p c : ℕ) : Type 0 where
  pub above : start ≤ c
  pub below : c ≤ end
  pub there : has_key (key i c) ks ≡ true
  pub on : p < cond backward (end - c) (c - start)
  pub none : (q : ℕ) → p < q → q < cond backward (end - c) (c - start) → has_key (key i (cond backward (end - q) (start + q))) ks ≡ false

module _ (ks : List ℕ) (i start end : ℕ) (order : start < end) (r : Option Coordinate) where
  onward : (b : Bool) (p l : ℕ) → p ≤ end - start → l ≡ cond b (end - p) (start + p) → Nearest b i l start end ks r → (c : Coordinate) → r ≡ Some c
      → Onward ks i start end b p c.0
  onward true p l s e n c q =
      let f = n.further c q in
      record {
        above = omega arith;
        below = omega arith;
        there = n.there c q;
        on = omega arith;
        none = λ x a b. n.passed c q (end - x) (omega arith, omega arith);
      }
  onward false p l s e n c q =
      let f = n.further c q in
      record {
        above = omega arith;
        below = omega arith;
        there = n.there c q;
        on = omega arith;
        none = λ x a b. n.passed c q (start + x) (omega arith, omega arith);
      }

  onward-none : (b : Bool) (p l : ℕ) → p ≤ end - start → l ≡ cond b (end - p) (start + p) → Nearest b i l start end ks r → r ≡ None
      → (q : ℕ) → p < q → q < end - start + 1 → has_key (key i (cond b (end - q) (start + q))) ks ≡ false
  onward-none true p l s e n z q a h = n.none z (end - q) (omega arith, omega arith)
  onward-none false p l s e n z q a h = n.none z (start + q) (omega arith, omega arith)

-- ---- the steps to a point

module _ (ks : List ℕ) (i : ℕ) (t : Track) (v : Valid t) where
  -- the track has a point on the location p from home
  abbrev at : ℕ → Bool
  at p = has_key (key i (place t p)) ks

  reach : (j : ℕ) → reaches ks i (stride t j) ≡ at ((next t + j) % span t)
  reach j = ap (λ (l : ℕ). has_key (key i l) ks) (stride-arrival t v j)

  reach-on : (j : ℕ) → next t + j < span t → reaches ks i (stride t j) ≡ at (next t + j)
  reach-on j h = reach j ∙ ap at (mod-eq_of_lt h)

  reach-round : (j : ℕ) → span t ≤ next t + j → j < span t → reaches ks i (stride t j) ≡ at (next t + j - span t)
  reach-round j h l =
      let s = next_small t v in
      let m : next t + j - span t < span t = omega (arith, s) in
      reach j
      ∙ ap at (ap (λ (x : ℕ). x % span t) (omega arith) ∙ add-mod_right (next t + j - span t) (span t) ∙ mod-eq_of_lt m)

  -- the next step reaches one
  to-here : reaches ks i t ≡ true → ToPoint ks i t 0
  to-here h = record { small = zero-le; none = λ j l. absurd (omega arith); exact = λ _. ap (reaches ks i) (stride-zero t v) ∙ h }

  module _ (c r : ℕ) (above : t.start.0 ≤ c) (below : c ≤ t.end.0) (there : has_key (key i c) ks ≡ true) (er : r ≡ steps_to t c) where
    small : r ≤ clock_end
    small = let s = steps-small t v c above below in omega arith

    arrives : reaches ks i (stride t r) ≡ true
    arrives = ap (λ (x : ℕ). reaches ks i (stride t x)) er ∙ ap (λ (l : ℕ). has_key (key i l) ks) (first-arrival t v c above below) ∙ there

    steps_up : next t ≤ phase t c → steps_to t c ≡ phase t c - next t
    unfolding steps_to
    steps_up h = simp (le-leb (next t) (phase t c) h)

    steps-round : phase t c < next t → steps_to t c ≡ phase t c + span t - next t
    unfolding steps_to
    steps-round h = simp (lt-leb (next t) (phase t c) h)

    to-on : next t ≤ phase t c → ((q : ℕ) → next t ≤ q → q < phase t c → at q ≡ false) → ToPoint ks i t r
    to-on h none =
        let e = steps_up h in
        let s = phase-small t v c above below in
        record {
          small = small;
          none = λ j l. reach-on j (omega arith) ∙ none (next t + j) (omega arith) (omega arith);
          exact = λ _. arrives;
        }

    to-round : phase t c < next t → ((q : ℕ) → next t ≤ q → q < span t → at q ≡ false) → ((q : ℕ) → q < phase t c → at q ≡ false)
        → ToPoint ks i t r
    to-round h none first =
        let e = steps-round h in
        let s = next_small t v in
        let k : r + next t ≡ phase t c + span t = omega arith in
        record {
          small = small;
          none = λ j l. ⊎_elim
              (λ (m : next t + j < span t). reach-on j m ∙ none (next t + j) (omega arith) m)
              (λ (m : span t ≤ next t + j). reach-round j m (omega arith) ∙ first (next t + j - span t) (omega arith))
              (lt-or-ge (next t + j) (span t));
          exact = λ _. arrives;
        }

-- ---- the ways out of to_point

-- what it starts from, and what a look-up at the location l tells
pub record Sought (ks ds : List ℕ) (t : Track) : Type 0 where
  pub valid : Valid t
  pub ascending : ascending_from 0 ks ≡ true
  pub telling : NonzeroInfos ks ds

pub record Looked (ks ds : List ℕ) (i : ℕ) (t : Track) (l d : ℕ) (r : Option Coordinate) : Type 0 where
  pub info : d ≡ info_at (key i l) ks ds
  pub near : r ≡ nearest (backward t) i l t.start.0 t.end.0 ks

module _ {ks ds : List ℕ} {t : Track} (s : Sought ks ds t) where
  v : Valid t
  v = s.valid

  home-place : home t ≡ place t 0
  home-place = go (backward t) refl
    where
      go : (b : Bool) → backward t ≡ b → home t ≡ place t 0
      go true e = simp e (omega arith)
      go false e = simp e (omega arith)

  module _ {i l d : ℕ} {near : Option Coordinate} (f : Looked ks ds i t l d near) (p : ℕ) (ep : p < span t) (el : l ≡ place t p) where
    near-is : Nearest (backward t) i l t.start.0 t.end.0 ks near
    near-is = rw f.near (nearest-is (backward t) i l t.start.0 t.end.0 ks s.ascending)

    near-at : (c : Coordinate) → near ≡ Some c → Onward ks i t.start.0 t.end.0 (backward t) p c.0
    near-at = onward ks i t.start.0 t.end.0 v.ordered.span near (backward t) p l (omega arith) el near-is

    near_none : near ≡ None → (q : ℕ) → p < q → q < span t → at ks i t v q ≡ false
    near_none = onward-none ks i t.start.0 t.end.0 v.ordered.span near (backward t) p l (omega arith) el near-is

  module _ {i l d : ℕ} {near : Option Coordinate} (f : Looked ks ds i t l d near) (el : l ≡ arrival t) where
    at_next : l ≡ place t (next t)
    at_next = el ∙ sym (place-next t v)

    -- the next step reaches a point
    pub found_here : (d ≡ 0 → ⊥) → ToPoint ks i t 0
    found_here n = to-here ks i t v (ap (λ (x : ℕ). has_key (key i x) ks) (sym el) ∙ info-some (key i l) ks ds f.info n)

    module _ (z : d ≡ 0) where
      bare : (q : ℕ) → q ≡ next t → at ks i t v q ≡ false
      bare q e =
          ap (at ks i t v) e ∙ ap (λ (x : ℕ). has_key (key i x) ks) (sym at_next) ∙ info-zero (key i l) ks ds s.telling f.info z

      near_on : (c : Coordinate) → near ≡ Some c → Onward ks i t.start.0 t.end.0 (backward t) (next t) c.0
      near_on = near-at f (next t) (next_small t v) at_next

      -- the point found lies on the span
      pub near-inside : (c : Coordinate) → near ≡ Some c → (t.start.0 ≤ c.0) × (c.0 ≤ t.end.0)
      near-inside c q = let o = near_on c q in (o.above, o.below)

      -- it is the first on the way
      pub found-near : (c : Coordinate) → near ≡ Some c → {r : ℕ} → r ≡ steps_to t c.0 → ToPoint ks i t r
      found-near c q {r} e =
          let o = near_on c q in
          to-on ks i t v c.0 r o.above o.below o.there e (omega (arith, o.on))
          (λ x a b. ⊎_elim (λ (m : next t < x). o.none x m b) (λ (m : x ≤ next t). bare x (omega arith)) (lt-or-ge (next t) x))

      module _ (none : near ≡ None) where
        bare-on : (q : ℕ) → next t ≤ q → q < span t → at ks i t v q ≡ false
        bare-on q a b =
            ⊎_elim
            (λ (m : next t < q). near_none f (next t) (next_small t v) at_next none q m b)
            (λ (m : q ≤ next t). bare q (omega arith))
            (lt-or-ge (next t) q)

        round : (c r : ℕ) → t.start.0 ≤ c → c ≤ t.end.0 → has_key (key i c) ks ≡ true → ((q : ℕ) → q < phase t c → at ks i t v q ≡ false)
            → r ≡ steps_to t c → ToPoint ks i t r
        round c r above below there first e =
            ⊎_elim
            (λ (m : phase t c < next t). to-round ks i t v c r above below there e m bare-on first)
            (λ (m : next t ≤ phase t c).
            absurd
            (true≢false
            (sym there
            ∙ ap (λ (x : ℕ). has_key (key i x) ks) (sym (place-phase t v c above below))
            ∙ bare-on (phase t c) m (phase-small t v c above below))))
            (lt-or-ge (phase t c) (next t))

        module _ {h d' : ℕ} {near' : Option Coordinate} (f' : Looked ks ds i t h d' near') (eh : h ≡ home t) where
          at_home : h ≡ place t 0
          at_home = eh ∙ home-place

          home-first : phase t h ≡ 0
          home-first = go (backward t) refl
            where
              go : (b : Bool) → backward t ≡ b → phase t h ≡ 0
              go true e = simp e (omega (arith, simp e at eh))
              go false e = simp e (omega (arith, simp e at eh))

          -- no point lies further on, and home has one
          pub found-home : (d' ≡ 0 → ⊥) → {r : ℕ} → r ≡ steps_to t h → ToPoint ks i t r
          found-home n {r} e =
              let w = home-inside t v in
              let g = home-first in
              round h r (omega arith) (omega arith) (info-some (key i h) ks ds f'.info n) (λ q m. absurd (omega arith)) e

          module _ (z' : d' ≡ 0) where
            bare-home : (q : ℕ) → q ≤ 0 → at ks i t v q ≡ false
            bare-home q m =
                ap (at ks i t v) (omega arith)
                ∙ ap (λ (x : ℕ). has_key (key i x) ks) (sym at_home)
                ∙ info-zero (key i h) ks ds s.telling f'.info z'

            home-on : (c : Coordinate) → near' ≡ Some c → Onward ks i t.start.0 t.end.0 (backward t) 0 c.0
            home-on = near-at f' 0 (omega arith) at_home

            -- home has none either; the point found from there lies on the span and is the first on the way
            pub again-inside : (c : Coordinate) → near' ≡ Some c → (t.start.0 ≤ c.0) × (c.0 ≤ t.end.0)
            again-inside c q = let o = home-on c q in (o.above, o.below)

            pub found-again : (c : Coordinate) → near' ≡ Some c → {r : ℕ} → r ≡ steps_to t c.0 → ToPoint ks i t r
            found-again c q {r} e =
                let o = home-on c q in
                round c.0 r o.above o.below o.there
                (λ x m. ⊎_elim (λ (a : 0 < x). o.none x a m) (λ (a : x ≤ 0). bare-home x a) (lt-or-ge 0 x)) e

            -- the span has no point
            pub found_none : near' ≡ None → ToPoint ks i t clock_end
            found_none q =
                record {
                  small = omega arith;
                  none =
                      λ j l. reach ks i t v j ∙ ⊎_elim
                      (λ (a : 0 < (next t + j) % span t). near_none f' 0 (omega arith) at_home q _ a (mod-lt (next t + j) (omega arith)))
                      (λ (a : (next t + j) % span t ≤ 0). bare-home _ a)
                      (lt-or-ge 0 ((next t + j) % span t));
                  exact = λ l. absurd (omega arith);
                }

-- ---- the quiet steps: to the point or to the stop, whichever is sooner

module _ (ks : List ℕ) (i : ℕ) (t : Track) (v : Valid t) (s p : ℕ) (es : s ≡ running t) (to : ToPoint ks i t p) where
  runs : (j : ℕ) → j < s → stops (stride t j) ≡ false
  runs j l = stride-runs t v j (λ e. omega (arith, running-before t v e))

  loud-stop : s < clock_end → loud_step ks i (stride t s) ≡ true
  unfolding loud_step
  loud-stop h =
      let e = running-exact t v (omega arith) in
      rw (stride-stops t v s e.0 (omega arith))

  loud-point : p < clock_end → loud_step ks i (stride t p) ≡ true
  unfolding loud_step
  loud-point h = rw (to.exact h) (or-true (stops (stride t p)))

  -- the lesser of the two is the number of quiet steps
  pub sooner : {r : ℕ} → r ≡ min s p → QuietSteps ks i t r
  unfolding loud_step
  sooner {r} e =
      record {
        small = omega (arith, to.small);
        quiet = λ j l. rw (runs j (omega arith), to.none j (omega arith));
        exact =
            λ h. ⊎_elim
            (λ (m : s < p). let q : r ≡ s = omega arith in rw q (loud-stop (omega (arith, to.small))))
            (λ (m : p ≤ s). let q : r ≡ p = omega arith in rw q (loud-point (omega arith)))
            (lt-or-ge s p);
      }

-- ---- the quiet ticks: those before the one that makes the loud step

module _ (ks : List ℕ) (i : ℕ) (t : Track) (v : Valid t) (s : ℕ) (q : QuietSteps ks i t s) where
  -- the step that a tick makes, n ticks on
  loud-leap : (n : ℕ) → loud_step ks i (leap t n) ≡ loud_step ks i (stride t (steps_in t n))
  unfolding loud_step
  loud-leap n = λ j. leap-stops t n j || has_key (key i (leap-arrival t n j)) ks

  pub ticked : {r : ℕ} → r ≡ ticks_before t s → QuietTicks ks i t r
  unfolding ends_quiet
  ticked {r} e =
      record {
        small = omega (arith, before_small t v s);
        quiet = λ j l. calm j l (moves (leap t j)) refl;
        exact = λ h. loud (omega arith);
      }
    where
      calm : (j : ℕ) → j < r → (b : Bool) → moves (leap t j) ≡ b → (moves (leap t j) && loud_step ks i (leap t j)) ≡ false
      calm j l true m =
          rw m (loud-leap j ∙ q.quiet (steps_in t j) (omega (arith, steps-suc t v j m, before-none t v s (suc j) (omega arith))))
      calm j l false m = rw m refl

      loud : ticks_before t s < clock_end → (moves (leap t r) && loud_step ks i (leap t r)) ≡ true
      loud h =
          rw e
          (rw (before-moves t v s h)
          (loud-leap (ticks_before t s) ∙ ap (λ (k : ℕ). loud_step ks i (stride t k)) (before-made t v s h) ∙ q.exact (omega (arith, before-late t v s h))))
