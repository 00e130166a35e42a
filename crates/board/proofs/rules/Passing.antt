-- What the rules' definitions come to on each way through the functions that test them.
use Prim.Native.Nat.{ℕ, suc, ◌+◌, ◌/◌, ◌%◌, ◌≤◌, ◌<◌}
use mathlib.Core.Path.{◌≡◌, refl, sym, ◌∙◌, ap}
use mathlib.Core.Bool.{Bool, true, false, cond, not, ◌&&◌, ◌||◌, and-false, and-true, false≢true}
use mathlib.Core.Logic.{⊎_elim}
use mathlib.Core.List.{List, [], ◌∷◌, map}
use native.Mathlib.Numerals.{add-one}
use native.Mathlib.Omega.{arith}
use lib.Dec.{leb, eqb}
use lib.ListN.{length, get_or, take, drop, drop_of_length-le, length-map}
use lib.Seq.{drop-cons, length-take-le, get_or-take}
use borrow.Author.Tests.{le-leb, lt-leb, eq-eqb, ne_eqb, eqb-true}
use Rattle.track.specs.declared.Track.{Track}
use Rattle.track.proofs.Tests.{both}
use Rattle.board.proofs.points.Keys.{lt-or-ge}
use Rattle.track.specs.declared.Ticks.{Ticks}
use Rattle.track.specs.Rule.{clock_end, event_most}
use Rattle.board.specs.Points.{point_most, stride, point_of, event_of, wait_of, command_of, target_of, key_end, info_end}
use Rattle.board.specs.Board.{no_track, track_at, track_test, tracks_test, place_test, allowed_test, point_test, points_test, shape_test, unbroken_parts}
use Rattle.board.proofs.rules.Broken.{present-not}

-- the length of an array of structs, from what its row tells
pub length-mapped : {X Y : Type 0} (f : X → Y) (l : List X) (n : ℕ) → length (map f l) ≡ n → length l ≡ n
length-mapped f l n e = sym (length-map l f) ∙ e

-- ---- a pass over the first n elements of a row

module _ (xs : List ℕ) (n i : ℕ) (l : n ≤ length xs) where
  pub row_next : i < n → drop i (take n xs) ≡ get_or xs i 0 ∷ drop (i + 1) (take n xs)
  row_next h =
      let long = length-take-le n xs l in
      rw (add-one, drop-cons (take n xs) i 0 (omega arith), get_or-take n xs i 0 h)

  pub row-end : n ≤ i → drop i (take n xs) ≡ []
  row-end h = let long = length-take-le n xs l in drop_of_length-le (take n xs) {i = i} (omega arith)

-- ---- the tracks

module _ (present word : ℕ) (ts : List Track) (i : ℕ) (clock : Ticks) where
  abbrev Keeps : Bool
  Keeps = track_test present i (track_at ts i) clock

  if-there : (word % 2 ≡ 1 → Keeps ≡ true) → (not (eqb (word % 2) 1) || Keeps) ≡ true
  if-there h = go (eqb (word % 2) 1) refl
    where
      go : (b : Bool) → eqb (word % 2) 1 ≡ b → (not b || Keeps) ≡ true
      go true e = h (eqb-true _ _ e)
      go false e = refl

  pub tracks-next : i < length ts → (word % 2 ≡ 1 → Keeps ≡ true) →
      tracks_test present (word / 2) (i + 1) (drop (i + 1) ts) clock ≡ tracks_test present word i (drop i ts) clock
  unfolding tracks_test
  tracks-next l h = rw (add-one, drop-cons ts i no_track l, if-there h)

  pub tracks-bad : i < length ts → word % 2 ≡ 1 → Keeps ≡ false → false ≡ tracks_test present word i (drop i ts) clock
  unfolding tracks_test
  tracks-bad l w h = rw (drop-cons ts i no_track l, eq-eqb _ _ w, h)

  pub tracks-end : length ts ≤ i → true ≡ tracks_test present word i (drop i ts) clock
  unfolding tracks_test
  tracks-end l = rw (drop_of_length-le ts {i = i} l)

-- ---- the points

module _ (present : ℕ) (ts : List Track) (k d : ℕ) where
  -- a key past the sixteenth track, or an info past the sixteenth target, breaks the rules
  pub point-track : key_end ≤ k → false ≡ point_test present ts k d
  unfolding place_test point_of
  point-track h = simp (← present-not present (k / stride) (omega arith))

  pub point-target : info_end ≤ d → false ≡ point_test present ts k d
  unfolding allowed_test point_of
  point-target h =
      simp (← present-not present (target_of d) (omega arith), ne_eqb (target_of d) 0 (omega arith), either (eqb (command_of d) 0), and-false)
    where
      either : (b : Bool) →
          (leb 1 (event_of d) && (leb (event_of d) event_most && (leb (wait_of d) 1 && (leb (command_of d) 4 && cond b false false)))) ≡ false
      either true = simp and-false
      either false = simp and-false

  pub point-key : point_test present ts k d ≡ true → k < key_end
  unfolding place_test point_of
  point-key h =
      ⊎_elim (λ l. l) (λ (l : key_end ≤ k). absurd (false≢true (point-track l ∙ h))) (lt-or-ge k key_end)

  module _ (lo : ℕ) (ks ds : List ℕ) where
    abbrev All : Bool
    All = points_test present ts lo (k ∷ ks) (d ∷ ds)

    pub points-low : k < lo → false ≡ All
    unfolding points_test
    points-low h = simp (lt-leb lo k h)

    pub points-bad : point_test present ts k d ≡ false → false ≡ All
    unfolding points_test
    points-bad h = go (place_test present (track_at ts (point_of k d).track) (point_of k d)) (allowed_test present (point_of k d)) h
      where
        go : (p a : Bool) → (p && a) ≡ false → false ≡ (leb lo k && (p && (a && points_test present ts (suc k) ks ds)))
        go true a e = simp (e, and-false)
        go false a e = simp and-false

    pub points-next : lo ≤ k → point_test present ts k d ≡ true → points_test present ts (k + 1) ks ds ≡ All
    unfolding points_test
    points-next l h =
        let b = both (place_test present (track_at ts (point_of k d).track) (point_of k d)) (allowed_test present (point_of k d)) h in
        simp (le-leb lo k l, b.0, b.1, add-one)

pub points-end : (present : ℕ) (ts : List Track) (lo : ℕ) (ds : List ℕ) → true ≡ points_test present ts lo [] ds
unfolding points_test
points-end present ts lo ds = refl

-- ---- the board by its parts

-- the value of `a && b`, where b is asked behind a, and where it is not
pub asked : {v a b : Bool} → a ≡ true → v ≡ b → v ≡ (a && b)
asked {b = b} ea ev = ev ∙ sym (ap (λ (x : Bool). x && b) ea)

pub not-asked : {v a : Bool} (b : Bool) → a ≡ false → v ≡ a → v ≡ (a && b)
not-asked b ea ev = ev ∙ ea ∙ sym (ap (λ (x : Bool). x && b) ea)

-- each part asked behind those before it
pub parts-kept : (present : ℕ) (ts : List Track) (clock : Ticks) (keys infos : List ℕ) (n : ℕ) {u v w : Bool}
    → u ≡ (leb clock.0 clock_end && leb n point_most) → v ≡ (u && tracks_test present present 0 ts clock)
    → w ≡ (v && points_test present ts 0 (take n keys) (take n infos)) → (v ≡ true → shape_test present ts keys infos ≡ true)
    → w ≡ unbroken_parts present ts clock keys infos n
unfolding unbroken_parts
parts-kept present ts clock keys infos n eu ev ew s =
    ew
    ∙ rw (ev, eu)
    (nested (leb clock.0 clock_end) (leb n point_most) (tracks_test present present 0 ts clock) (points_test present ts 0 (take n keys) (take n infos))
    (shape_test present ts keys infos) (λ h. s (rw (ev, eu) h)))
  where
    nested : (a b c d s : Bool) → (((a && b) && c) ≡ true → s ≡ true) → (((a && b) && c) && d) ≡ (a && (b && (c && (d && s))))
    nested true true true d s h = sym (and-true d) ∙ ap (λ (x : Bool). d && x) (sym (h refl))
    nested true true false d s h = refl
    nested true false c d s h = refl
    nested false b c d s h = refl
