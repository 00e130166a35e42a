-- The ways of each call: what holds of its refusals and of what it accepts holds of its outcome.
use Rattle.std.specs.Prelude.{Option, Some, None}
use Prim.Native.Nat.{ℕ, ◌+◌, ◌^◌, ◌≤◌, ◌<◌}
use mathlib.Core.Path.{◌≡◌, refl}
use mathlib.Core.Bool.{true, false}
use native.Mathlib.Omega.{arith}
use lib.Dec.{ltb, eqb}
use lib.IntN.{ℤ}
use lib.ListN.{set}
use mathlib.Core.List.{List}
use mathlib.Core.Bool.{not, ◌&&◌}
use borrow.Author.Tests.{ltb-true, eqb-true, eqb-false, not-true}
use Rattle.track.specs.declared.Track.{Track}
use Rattle.track.specs.declared.Coordinate.{Coordinate}
use Rattle.track.specs.declared.refusal.Refusal.{Refusal}
use Rattle.track.specs.declared.refusal.Refusal.TheVariants as refusal
use Rattle.track.specs.Refusal.{Refused, number_of}
use Rattle.track.specs.declared.setup.Change.{Change}
use Rattle.track.specs.declared.setup.Change.TheVariants as change
use Rattle.track.specs.Setup.{Changed}
use Rattle.track.specs.Rule.{STOPPED, coordinate_last, rate_most, new_track}
use Rattle.track.specs.Follow.{following}
use Rattle.track.specs.Number.{natural_of, coordinate_of, within, on_some}
use Rattle.track.specs.Setup.{settled, permits, start_set, end_set, loops_set, repeat_set, direction_set, action_set, jump_to, rate_set, set_by, changed_by}
use Rattle.track.proofs.Tests.{cond_cases, both}
use Rattle.track.proofs.Numbers.{natural-in, value-coordinate}
use Rattle.board.specs.declared.Board.{Board}
use Rattle.board.specs.declared.call.PointNumbers.{PointNumbers}
use Rattle.board.specs.declared.points.Point.{Point}
use Rattle.board.specs.Points.{Stored}
use Rattle.board.specs.Setup.{Outcome}
use Rattle.board.specs.Points.{key, key_of, info_of, stored_in, dropped_from, track_count}
use Rattle.board.specs.Board.{track_at, is_present, PointRule, unbroken_test, found_in}
use Rattle.board.specs.Setup.{accepted, refused, board_with, on_unbroken, on_track, put_track, put_points, on_described, described_by, set_up, add_track, set_point, drop_point, clear_board}
use Rattle.board.specs.Setup.{ranged_test, thresholds_in, events_in, rising_test, row_of, master_named, put_master, set_master}
use Rattle.board.proofs.rules.Present.{found_in_lem}
use Rattle.board.proofs.setup.Guards.{described-rule}

-- ---- a number or a position

-- what is done with a number in its range, and what with one outside
pub by-natural : {A : Type 0} (P : A → Type 0) (n : Option ℕ) (f : ℕ → A) (x : A) → ((k : ℕ) → n ≡ Some k → P (f k)) → P x →
    P (on_some n f x)
by-natural P (Some k) f x does other = does k refl
by-natural P None f x does other = other

pub by_place : {A : Type 0} (P : A → Type 0) (p : Option Coordinate) (f : Coordinate → A) (x : A) → ((c : Coordinate) → p ≡ Some c → P (f c)) → P x →
    P (on_some p f x)
by_place P (Some c) f x does other = does c refl
by_place P None f x does other = other

-- ---- the six calls

module _ (b : Board) (P : Outcome → Type 0) (declines : (e : Refusal) → P (refused (number_of e) b)) where
  on-board : {o : Outcome} → P o → P (on_unbroken b o)
  on-board h = cond_cases P (unbroken_test b) (λ _. h) (λ _. declines refusal.Value)

  on-track : (track : ℤ) (f : ℕ → Outcome) → ((i : ℕ) → is_present b.present i ≡ true → P (f i)) → P (on_track b track f)
  on-track track f does =
      by-natural P (found_in b.present track) f (refused 1 b) (λ i e. does i (found_in_lem b.present track e)) (declines refusal.Track)

  on-points : (e : Refusal) (s : Stored) →
      (s.done ≡ true → P (accepted (board_with b b.tracks b.present s.points b.held))) → P (put_points b (number_of e) s)
  on-points e s does = cond_cases P s.done does (λ _. declines e)

  -- a set-up call is refused, or puts a changed track in the place of a present one
  pub set-up-ways : (track : ℤ) (c : Change) →
      ((i : ℕ) → is_present b.present i ≡ true → P (put_track b i (changed_by (track_at b.tracks i) c))) → P (set_up b track c)
  unfolding set_up
  set-up-ways track c does = on-board (on-track track (λ i. put_track b i (changed_by (track_at b.tracks i) c)) does)

  -- a track is refused, or put in the place of an absent one, with bounds in order
  pub add-track-ways : (number min max : ℤ) →
      ((i : ℕ) (low high : Coordinate) → i < track_count → is_present b.present i ≡ false → low.0 < high.0 → high.0 ≤ coordinate_last →
      P (accepted (board_with b (set b.tracks i (new_track low high)) (b.present + 2 ^ i) b.points b.held))) →
      P (add_track b number min max)
  unfolding add_track
  add-track-ways number min max does =
      on-board
      (by-natural P (natural_of number 0 15) _ (refused 1 b)
      (λ i ei. cond_cases P (is_present b.present i) (λ _. declines refusal.Present)
      (λ absent. by_place P (coordinate_of min) _ (refused 3 b)
      (λ low el. by_place P (coordinate_of max) _ (refused 3 b)
      (λ high eh. cond_cases P (ltb low.0 high.0)
      (λ l. does i low high (omega (arith, natural-in number 0 15 ei)) absent (ltb-true _ _ l) (value-coordinate max eh).1)
      (λ _. declines refusal.Value)) (declines refusal.Value)) (declines refusal.Value))) (declines refusal.Track))

  -- a point is refused, or stored with every rule kept
  pub set-point-ways : (track : ℤ) (given : PointNumbers) →
      ((p : Point) → PointRule b.present b.tracks p → (stored_in b.points (key_of p) (info_of p)).done ≡ true →
      P (accepted (board_with b b.tracks b.present (stored_in b.points (key_of p) (info_of p)).points b.held))) →
      P (set_point b track given)
  unfolding set_point
  set-point-ways track given does =
      on-board
      (on-track track _
      (λ i present. cond_cases P (settled (track_at b.tracks i).mode)
      (λ _. go (described_by b.present i (track_at b.tracks i) given)
      (λ p e. described-rule b.present i b.tracks given present e)) (λ _. declines refusal.Mode)))
    where
      go : (d : Option Point) → ((p : Point) → d ≡ Some p → PointRule b.present b.tracks p) → P (on_described b d)
      go (Some p) rule = on-points refusal.Full (stored_in b.points (key_of p) (info_of p)) (does p (rule p refl))
      go None rule = declines refusal.Value

  -- a drop is refused, or takes a point out
  pub drop-point-ways : (track position : ℤ) →
      ((k : ℕ) → (dropped_from b.points k).done ≡ true →
      P (accepted (board_with b b.tracks b.present (dropped_from b.points k).points b.held))) → P (drop_point b track position)
  unfolding drop_point
  drop-point-ways track position does =
      on-board
      (on-track track _
      (λ i _. cond_cases P (settled (track_at b.tracks i).mode)
      (λ _. by_place P (coordinate_of position) _ (refused 4 b)
      (λ l _. on-points refusal.Point (dropped_from b.points (key i l.0)) (does (key i l.0))) (declines refusal.Point)) (λ _. declines refusal.Mode)))

  -- a master is refused, or is another present track, with pairs in their ranges that rise
  pub set-master-ways : (track master : ℤ) (zs : List ℤ) →
      ((i m : ℕ) → is_present b.present i ≡ true → is_present b.present m ≡ true → (track_at b.tracks i).mode ≡ STOPPED → (i ≡ m → ⊥) →
      ranged_test zs ≡ true → rising_test (thresholds_in zs) ≡ true →
      P (accepted (board_with b
      (set b.tracks i (following (track_at b.tracks i) (master_named m zs) (row_of (thresholds_in zs)) (row_of (events_in zs))))
      b.present b.points b.held))) → P (set_master b track master zs)
  unfolding set_master put_master
  set-master-ways track master zs does =
      on-board
      (on-track track _
      (λ i here. on-track master _
      (λ m there. cond_cases P (eqb (track_at b.tracks i).mode STOPPED)
      (λ mode. cond_cases P (not (eqb i m) && ranged_test zs)
      (λ h.
      let q = both (not (eqb i m)) (ranged_test zs) h in
      cond_cases P (rising_test (thresholds_in zs))
      (does i m here there (eqb-true _ _ mode) (eqb-false i m (not-true _ q.0)) q.1) (λ _. declines refusal.Rising)) (λ _. declines refusal.Value)) (λ _. declines refusal.Mode))))

  -- a clear is refused, or sets held to 0
  pub clear-ways : P (accepted (board_with b b.tracks b.present b.points 0)) → P (clear_board b)
  unfolding clear_board
  clear-ways does = on-board does

-- a master that is refused leaves the board equal
pub set-master-refused : (b : Board) (track master : ℤ) (zs : List ℤ) {n : ℕ} → (set_master b track master zs).answer ≡ Refused n →
    (set_master b track master zs).board ≡ b
set-master-refused b track master zs {n} =
    set-master-ways b (λ (o : Outcome). o.answer ≡ Refused n → o.board ≡ b) (λ k e. refl) track master zs (λ i m _ _ _ _ _ _ e. cc)

-- a change that is refused leaves the track equal
pub changed-refused : (t : Track) (c : Change) {n : ℕ} → (changed_by t c).answer ≡ Refused n → (changed_by t c).track ≡ t
unfolding changed_by set_by start_set end_set loops_set repeat_set direction_set action_set jump_to rate_set
changed-refused t c {n} = cond_cases Kept (permits c t.mode) (λ _. by c) (λ _ e. refl)
  where
    Kept : Changed → Type 0
    Kept r = r.answer ≡ Refused n → r.track ≡ t

    by : (c : Change) → Kept (set_by t c)
    by (change.Start p) =
        by_place Kept (within t.min.0 t.max.0 (coordinate_of p)) _ _
        (λ c _. cond_cases Kept (ltb c.0 t.end.0) (λ _ e. cc) (λ _ e. refl)) (λ e. refl)
    by (change.End p) =
        by_place Kept (within t.min.0 t.max.0 (coordinate_of p)) _ _
        (λ c _. cond_cases Kept (ltb t.start.0 c.0) (λ _ e. cc) (λ _ e. refl)) (λ e. refl)
    by (change.Loops k) = by-natural Kept (natural_of k 1 65535) _ _ (λ _ _ e. cc) (λ e. refl)
    by (change.Repeat f) = by-natural Kept (natural_of f 0 1) _ _ (λ _ _ e. cc) (λ e. refl)
    by (change.Direction d) = by-natural Kept (natural_of d 0 1) _ _ (λ _ _ e. cc) (λ e. refl)
    by (change.Action from to event) =
        by-natural Kept (natural_of from 0 3) _ _
        (λ x _. by-natural Kept (natural_of to 0 3) _ _
        (λ y _. by-natural Kept (natural_of event 0 255) _ _
        (λ _ _. cond_cases Kept (eqb x y) (λ _ e. refl) (λ _ e. cc)) (λ e. refl)) (λ e. refl)) (λ e. refl)
    by (change.Jump p) = by_place Kept (within t.start.0 t.end.0 (coordinate_of p)) _ _ (λ _ _ e. cc) (λ e. refl)
    by (change.Rate p q) =
        by-natural Kept (natural_of p 1 rate_most) _ _
        (λ x _. by-natural Kept (natural_of q 1 rate_most) _ _
        (λ y _. cond_cases Kept (ltb y x) (λ _ e. refl) (λ _ e. cc)) (λ e. refl)) (λ e. refl)
