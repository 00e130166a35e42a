-- The infos that the steps of a tick find keep their rules, so that the commands can rely on them.
use mathlib.Core.Path.{◌≡◌, refl, subst}
use mathlib.Core.Bool.{Bool, true, cond, ◌&&◌}
use mathlib.Core.List.{List, [], ◌∷◌, ◌++◌}
use Prim.Native.Nat.{ℕ, zero, suc, ◌<◌}
use native.Mathlib.Omega.{arith}
use lib.Dec.{eqb, leb}
use lib.ListN.{length, set, get_or}
use borrow.Author.Tests.{ne_eqb, leb-true}
use Rattle.track.specs.declared.Track.{Track}
use Rattle.track.specs.Rule.{PLAYING, Valid, event_most}
use Rattle.track.specs.Leap.{played}
use Rattle.track.proofs.Tests.{cond_cases, both}
use Rattle.track.proofs.Leaps.{played-valid}
use Rattle.board.specs.Points.{info_at, point_of, event_of, wait_of, command_of, target_of, InfoRule}
use Rattle.board.specs.Board.{track_at, is_present, place_test, allowed_test, points_test}
use Rattle.board.specs.Tick.{reached_by, TracksRule}
use Rattle.board.proofs.rules.Present.{target_below}
use Rattle.board.proofs.tick.Commands.{at_set}

-- ---- the infos that are found

module _ (present : ℕ) where
  -- an info that keeps its rule, and whose target is present, if it has a command
  abbrev pub Allowed : ℕ → Type 0
  Allowed d = InfoRule d × ((command_of d ≡ 0 → ⊥) → is_present present (target_of d) ≡ true)

  info-allowed : (k d : ℕ) → allowed_test present (point_of k d) ≡ true → Allowed d
  unfolding allowed_test point_of
  info-allowed k d e =
      let target = cond (eqb (command_of d) 0) (eqb (target_of d) 0) (is_present present (target_of d)) in
      let a = both (leb 1 (event_of d)) (leb (event_of d) event_most && (leb (wait_of d) 1 && (leb (command_of d) 4 && target))) e in
      let b = both (leb (event_of d) event_most) (leb (wait_of d) 1 && (leb (command_of d) 4 && target)) a.1 in
      let w = both (leb (wait_of d) 1) (leb (command_of d) 4 && target) b.1 in
      let c = both (leb (command_of d) 4) target w.1 in (
        record { event = leb-true _ _ b.0; command = leb-true _ _ c.0; target = target_below present (command_of d) (target_of d) c.1 },
        λ n. rw (ne_eqb (command_of d) 0 n) at c.1,
      )

  none_allowed : Allowed 0
  none_allowed = (record { event = omega arith; command = omega arith; target = omega arith }, λ n. absurd (n refl))

  -- an info that is found, or 0, is one
  found-allowed : (ts : List Track) (k lo : ℕ) (ks ds : List ℕ) → points_test present ts lo ks ds ≡ true → Allowed (info_at k ks ds)
  unfolding points_test info_at
  found-allowed ts k lo [] ds h = none_allowed
  found-allowed ts k lo (x ∷ ks) [] h = none_allowed
  found-allowed ts k lo (x ∷ ks) (d ∷ ds) h =
      let p = point_of x d in
      let place = place_test present (track_at ts p.track) p in
      let rest = points_test present ts (suc x) ks ds in
      let a = both (leb lo x) (place && (allowed_test present p && rest)) h in
      let b = both place (allowed_test present p && rest) a.1 in
      let c = both (allowed_test present p) rest b.1 in
      cond_cases Allowed (eqb x k) (λ e. info-allowed x d c.0) (λ e. found-allowed ts k (suc x) ks ds c.1)

  -- the same where it is looked for only if a step is made
  module _ (ts : List Track) (ks ds : List ℕ) (h : points_test present ts 0 ks ds ≡ true) (made : Bool) (k : ℕ) where
    pub met-allowed : Allowed (cond made (info_at k ks ds) 0)
    met-allowed = cond_cases Allowed made (λ _. found-allowed ts k 0 ks ds h) (λ _. none_allowed)

    -- it keeps its rule
    pub found-rule : InfoRule (cond made (info_at k ks ds) 0)
    found-rule = met-allowed.0

    -- and its target is present, if it has a command
    pub found_target : (command_of (cond made (info_at k ks ds) 0) ≡ 0 → ⊥) → is_present present (target_of (cond made (info_at k ks ds) 0)) ≡ true
    found_target = met-allowed.1

-- ---- the rules that the commands rely on

module _ (P : ℕ → Type 0) where
  each_append : (xs ys : List ℕ) → ((j : ℕ) → j < length xs → P (get_or xs j 0)) → ((j : ℕ) → j < length ys → P (get_or ys j 0))
      → (j : ℕ) → j < length (xs ++ ys) → P (get_or (xs ++ ys) j 0)
  each_append [] ys f g j l = g j l
  each_append (x ∷ xs) ys f g zero l = f zero (omega arith)
  each_append (x ∷ xs) ys f g (suc j) l = each_append xs ys (λ j l. f (suc j) (omega arith)) g j (omega arith)

  each-reached : (d : ℕ) → P d → (j : ℕ) → j < length (reached_by d) → P (get_or (reached_by d) j 0)
  each-reached d p j = cond_cases (λ (l : List ℕ). j < length l → P (get_or l j 0)) (eqb d 0) (λ e h. absurd (omega arith)) (λ e. one j)
    where
      one : (j : ℕ) → j < length (d ∷ []) → P (get_or (d ∷ []) j 0)
      one zero h = p
      one (suc j) h = absurd (omega arith)

-- a tick of a playing track keeps them, where the info that it finds keeps its rule and has a present target, if any
pub step-rule : (present : ℕ) (ts : List Track) (ds : List ℕ) (i : ℕ) (w : Bool) (d : ℕ) → TracksRule present ts ds → InfoRule d
    → ((command_of d ≡ 0 → ⊥) → is_present present (target_of d) ≡ true) → (track_at ts i).mode ≡ PLAYING
    → TracksRule present (set ts i (played (track_at ts i) w)) (ds ++ reached_by d)
step-rule present ts ds i w d r k g m =
    record {
      tracks = λ j h. at_set Valid ts i j (played (track_at ts i) w) (r.tracks j h)
          (λ e. played-valid (track_at ts i) (subst (λ (n : ℕ). Valid (track_at ts n)) e (r.tracks j h)) w (λ z. omega (arith, m, z)));
      infos = each_append InfoRule ds (reached_by d) r.infos (each-reached InfoRule d k);
      targets =
          each_append (λ (n : ℕ). (command_of n ≡ 0 → ⊥) → is_present present (target_of n) ≡ true) ds (reached_by d) r.targets
          (each-reached (λ (n : ℕ). (command_of n ≡ 0 → ⊥) → is_present present (target_of n) ≡ true) d g);
    }
