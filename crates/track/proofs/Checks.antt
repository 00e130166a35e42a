-- The tests of a track's ranges and rules say whether the track keeps them.
use Prim.Native.Nat.{ℕ, zero, suc, ◌≤◌, ◌<◌}
use mathlib.Core.Path.{◌≡◌, refl, sym}
use mathlib.Core.Bool.{Bool, true, false, not, ◌||◌}
use mathlib.Core.List.{List, [], ◌∷◌}
use lib.Dec.{ltb, leb, eqb}
use lib.ListN.{length, get_or}
use native.Mathlib.Omega.{arith}
use mir.Syntax.{w8}
use mir.Val.{Val}
use denote.Shadow.{shadow}
use denote.Laws.{Is}
use denote.Plain.{UInt}
use denote.Array.{Array, each}
use borrow.Author.Tests.{eqb-true, ltb-true, leb-true, lt-ltb, le-leb, eq-eqb}
use Rattle.track.specs.declared.Track.{Track}
use Rattle.track.specs.declared.Ticks.{Ticks}
use Rattle.track.specs.Rule.{Ordered, ordered_test, Cells, events_test, cells_test, Rated, rated_test, Valid, valid_test, Sound, sound_test, STOPPED, WAITING, BACKWARD, REPEATING, DUE, loops_most, cell_count, cell_most, rate_most, coordinate_last}
use Rattle.track.proofs.Tests.{every_of, every-is, both, both_is, refuted}

module _ (min max start end position : ℕ) where
  tests : List Bool
  tests = ltb min max ∷ leb max coordinate_last ∷ leb min start ∷ ltb start end ∷ leb end max ∷ leb start position ∷ leb position end ∷ []

  pub ordered_of : ordered_test min max start end position ≡ true → Ordered min max start end position
  unfolding ordered_test tests
  ordered_of h = let e = every_of tests h in omega (arith, ltb-true, leb-true)

  pub ordered-is : Ordered min max start end position → true ≡ ordered_test min max start end position
  unfolding ordered_test tests
  ordered-is o = sym (every-is tests (omega (arith, lt-ltb, le-leb)))

-- every event is at most 255 exactly if the test says so
pub events-of : (l : List ℕ) → events_test l ≡ true → (k : ℕ) → get_or l k 0 ≤ cell_most
unfolding events_test
events-of [] h k = omega arith
events-of (e ∷ l) h zero = leb-true _ _ (both (leb e cell_most) (events_test l) h).0
events-of (e ∷ l) h (suc k) = events-of l (both (leb e cell_most) (events_test l) h).1 k

pub events-is : (l : List ℕ) → ((k : ℕ) → get_or l k 0 ≤ cell_most) → events_test l ≡ true
unfolding events_test
events-is [] h = refl
events-is (e ∷ l) h = both_is (le-leb e cell_most (h zero)) (events-is l (λ k. h (suc k)))

-- what the type `[u8; 16]` says of its values
bytes_fit : (l : List ℕ) (us : List Val) → shadow (each ℕ (UInt w8).own_val l us) → (k : ℕ) → get_or l k 0 ≤ cell_most
bytes_fit [] [] s k = omega arith
bytes_fit [] (u ∷ us) s k = absurd s
bytes_fit (e ∷ l) [] s k = absurd s
bytes_fit (e ∷ l) (u ∷ us) s zero = omega (arith, s.0.1)
bytes_fit (e ∷ l) (u ∷ us) s (suc k) = bytes_fit l us s.1 k

pub cells-number : (l : List ℕ) (vs : List Val) → Is (Array (UInt w8) cell_count) l vs → length l ≡ cell_count
cells-number l vs p = p.1.0.1

pub cells-event : (l : List ℕ) (vs : List Val) → Is (Array (UInt w8) cell_count) l vs → (k : ℕ) → get_or l k 0 ≤ cell_most
cells-event l vs p = bytes_fit l p.0 p.1.1

module _ (cells : List ℕ) where
  sixteen : List Bool
  sixteen =
      eqb (length cells) cell_count
      ∷ events_test cells
      ∷ eqb (get_or cells 0 0) 0
      ∷ eqb (get_or cells 5 0) 0
      ∷ eqb (get_or cells 10 0) 0
      ∷ eqb (get_or cells 15 0) 0
      ∷ []

  pub cells_of : cells_test cells ≡ true → Cells cells
  unfolding cells_test sixteen
  cells_of h =
      let e = every_of sixteen h in
      record {
        number = eqb-true _ _ e.0;
        event = events-of cells e.1.0;
        stopped = eqb-true _ _ e.1.1.0;
        playing = eqb-true _ _ e.1.1.1.0;
        paused = eqb-true _ _ e.1.1.1.1.0;
        waiting = eqb-true _ _ e.1.1.1.1.1.0;
      }

  pub cells_is : Cells cells → true ≡ cells_test cells
  unfolding cells_test sixteen
  cells_is d =
      sym (every-is sixteen (
        eq-eqb _ _ d.number,
        (
          events-is cells d.event,
          (eq-eqb _ _ d.stopped, (eq-eqb _ _ d.playing, (eq-eqb _ _ d.paused, (eq-eqb _ _ d.waiting, tt)))),
        ),
      ))

module _ (steps ticks remainder mode : ℕ) where
  rates : List Bool
  rates = leb 1 steps ∷ leb steps ticks ∷ leb ticks rate_most ∷ ltb remainder ticks ∷ (not (eqb mode STOPPED) || eqb remainder 0) ∷ []

  pub rated-of : rated_test steps ticks remainder mode ≡ true → Rated steps ticks remainder mode
  unfolding rated_test rates
  rated-of h =
      let e = every_of rates h in
      record {
        some = leb-true _ _ e.0;
        most = leb-true _ _ e.1.0;
        last = leb-true _ _ e.1.1.0;
        below = ltb-true _ _ e.1.1.1.0;
        stands = λ m. eqb-true _ _ (simp (eq-eqb mode STOPPED m) at e.1.1.1.1.0);
      }

  pub rated-is : Rated steps ticks remainder mode → true ≡ rated_test steps ticks remainder mode
  unfolding rated_test rates
  rated-is r =
      sym (every-is rates
      (le-leb _ _ r.some, (le-leb _ _ r.most, (le-leb _ _ r.last, (lt-ltb _ _ r.below, (at_rest (eqb mode STOPPED) refl, tt))))))
    where
      at_rest : (b : Bool) → eqb mode STOPPED ≡ b → (not (eqb mode STOPPED) || eqb remainder 0) ≡ true
      at_rest true e = simp e (eq-eqb _ _ (r.stands (eqb-true _ _ e)))
      at_rest false e = simp e

module _ (t : Track) where
  rules : List Bool
  rules =
      ordered_test t.min.0 t.max.0 t.start.0 t.end.0 t.position.0
      ∷ leb 1 t.loops
      ∷ leb t.loops loops_most
      ∷ leb t.mode WAITING
      ∷ leb t.direction BACKWARD
      ∷ leb t.repeat REPEATING
      ∷ leb t.due DUE
      ∷ cells_test t.actions
      ∷ rated_test t.steps t.ticks t.remainder t.mode
      ∷ []

  pub valid-of : valid_test t ≡ true → Valid t
  unfolding valid_test rules
  valid-of h =
      let e = every_of rules h in
      record {
        ordered = ordered_of _ _ _ _ _ e.0;
        loops = (leb-true _ _ e.1.0, leb-true _ _ e.1.1.0);
        mode = leb-true _ _ e.1.1.1.0;
        direction = leb-true _ _ e.1.1.1.1.0;
        repeat = leb-true _ _ e.1.1.1.1.1.0;
        due = leb-true _ _ e.1.1.1.1.1.1.0;
        cells = cells_of _ e.1.1.1.1.1.1.1.0;
        rate = rated-of _ _ _ _ e.1.1.1.1.1.1.1.1.0;
      }

  pub valid-is : Valid t → true ≡ valid_test t
  unfolding valid_test rules
  valid-is v =
      sym (every-is rules (
        sym (ordered-is _ _ _ _ _ v.ordered),
        (
          le-leb _ _ v.loops.0,
          (
            le-leb _ _ v.loops.1,
            (
              le-leb _ _ v.mode,
              (le-leb _ _ v.direction, (le-leb _ _ v.repeat, (le-leb _ _ v.due, (sym (cells_is _ v.cells), (sym (rated-is _ _ _ _ v.rate), tt))))),
            ),
          ),
        ),
      ))

  pub valid-not-repeat : REPEATING < t.repeat → false ≡ valid_test t
  valid-not-repeat h = refuted _ (λ g. omega (arith, valid-of g))

  pub sound-of : {clock : Ticks} → sound_test t clock ≡ true → Sound t clock
  unfolding sound_test
  sound-of {clock} h =
      let e = both (valid_test t) (leb t.passes.0 clock.0) h in
      record { valid = valid-of e.0; passes = leb-true _ _ e.1 }

  pub sound-is : {clock : Ticks} → Sound t clock → true ≡ sound_test t clock
  unfolding sound_test
  sound-is s = simp (← valid-is s.valid, le-leb _ _ s.passes)
