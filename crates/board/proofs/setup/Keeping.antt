-- No call makes a broken board.
use Prim.Native.Nat.{ℕ, zero, suc, ◌+◌, ◌/◌, ◌%◌, ◌^◌, ◌<◌}
use native.Mathlib.Nat.{not-suc-le-zero, pow-suc, zero-div}
use native.Mathlib.Omega.{arith}
use mathlib.Core.Path.{◌≡◌, refl, sym, ap, ◌∙◌}
use mathlib.Core.Logic.{⊎_elim}
use mathlib.Core.Bool.{Bool, true, false, cond, ◌&&◌, true≢false}
use mathlib.Core.List.{List}
use lib.Dec.{ltb, eqb}
use lib.IntN.{ℤ}
use lib.ListN.{set, length-set}
use lib.Seq.{get_or-set_same, get_or-set_other}
use borrow.Author.Tests.{eqb-false, eq-eqb}
use Rattle.track.specs.declared.Track.{Track}
use Rattle.track.specs.declared.setup.Change.{Change}
use Rattle.track.specs.Rule.{Sound, new_track}
use Rattle.track.specs.Setup.{changed_by}
use Rattle.track.specs.Follow.{Follower, following}
use Rattle.track.proofs.Setups.{changed-keeps, new-valid, new-follower}
use Rattle.track.proofs.Follows.{SameFollower, follower-same, follower-sound}
use Rattle.board.specs.declared.Board.{Board}
use Rattle.board.specs.declared.call.PointNumbers.{PointNumbers}
use Rattle.board.specs.declared.points.Point.{Point}
use Rattle.board.specs.declared.points.Points.{Points}
use Rattle.board.specs.Setup.{Outcome}
use Rattle.board.specs.Points.{ascending_from, no_points, point_of, key_of, info_of, stored_in, dropped_from, track_count}
use Rattle.board.specs.Board.{track_at, no_track, is_present, master_test, PointRule, Unbroken, fresh_board}
use Rattle.board.specs.Setup.{board_with, set_up, add_track, set_point, drop_point, clear_board}
use Rattle.board.specs.Setup.{thresholds_in, events_in, row_of, master_named, set_master}
use Rattle.board.proofs.rules.Broken.{present-small, present-set, present-bit, half-bit, master-same, master-still}
use Rattle.board.proofs.rules.Present.{with-track-fits}
use Rattle.board.proofs.points.Keys.{same_or_not}
use Rattle.board.proofs.points.Packing.{point-back}
use Rattle.board.proofs.points.Table.{Sorted, EachPoint}
use Rattle.board.proofs.points.Storing.{stored-sorted, stored-each, dropped-sorted, dropped-each}
use Rattle.board.proofs.setup.Ways.{set-up-ways, add-track-ways, set-point-ways, drop-point-ways, set-master-ways, clear-ways}
use Rattle.board.proofs.master.Pairs.{pairs-rising, rising-few, master-kept}

-- ---- the word with one track more

bit-on : (i word : ℕ) → word / 2 ^ i % 2 ≡ 0 → (word + 2 ^ i) / 2 ^ i % 2 ≡ 1
bit-on zero word e = let w : word % 2 ≡ 0 = omega (arith, e) in omega arith
bit-on (suc i) word e =
    let p = pow-suc 2 i in
    let h : (word + 2 ^ suc i) / 2 ≡ word / 2 + 2 ^ i = omega arith in
    ap (λ (m : ℕ). m % 2) (sym (half-bit (word + 2 ^ suc i) i) ∙ ap (λ (m : ℕ). m / 2 ^ i) h)
    ∙ bit-on i (word / 2) (ap (λ (m : ℕ). m % 2) (half-bit word i) ∙ e)

bit_kept : (i j word : ℕ) → (j ≡ i → ⊥) → word / 2 ^ i % 2 ≡ 0 → (word + 2 ^ i) / 2 ^ j % 2 ≡ word / 2 ^ j % 2
bit_kept zero zero word n e = absurd (n refl)
bit_kept (suc i) zero word n e = let p = pow-suc 2 i in omega arith
bit_kept zero (suc j) word n e =
    let w : word % 2 ≡ 0 = omega (arith, e) in
    let h : (word + 1) / 2 ≡ word / 2 = omega arith in
    ap (λ (m : ℕ). m % 2) (sym (half-bit (word + 1) j) ∙ ap (λ (m : ℕ). m / 2 ^ j) h ∙ half-bit word j)
bit_kept (suc i) (suc j) word n e =
    let p = pow-suc 2 i in
    let h : (word + 2 ^ suc i) / 2 ≡ word / 2 + 2 ^ i = omega arith in
    ap (λ (m : ℕ). m % 2) (sym (half-bit (word + 2 ^ suc i) j) ∙ ap (λ (m : ℕ). m / 2 ^ j) h)
    ∙ bit_kept i j (word / 2) (λ q. n (ap suc q)) (ap (λ (m : ℕ). m % 2) (half-bit word i) ∙ e)
    ∙ ap (λ (m : ℕ). m % 2) (half-bit word j)

module _ (word i : ℕ) (l : i < track_count) (absent : is_present word i ≡ false) where
  clear-bit : word / 2 ^ i % 2 ≡ 0
  clear-bit = let n = eqb-false (word / 2 ^ i % 2) 1 (present-bit word i l ∙ absent) in omega arith

  -- a track that is added is present
  pub present-added : is_present (word + 2 ^ i) i ≡ true
  present-added = sym (present-bit (word + 2 ^ i) i l) ∙ eq-eqb _ _ (bit-on i word clear-bit)

  -- and every other track is present as it was
  pub present-others : (j : ℕ) → (j ≡ i → ⊥) → is_present (word + 2 ^ i) j ≡ is_present word j
  unfolding is_present
  present-others j n = ap (λ (m : ℕ). ltb j track_count && eqb m 1) (bit_kept i j word n clear-bit)

  -- so a track that was present stays so
  pub present-still : (j : ℕ) → is_present word j ≡ true → is_present (word + 2 ^ i) j ≡ true
  present-still j h = present-others j (λ e. true≢false (sym h ∙ ap (is_present word) e ∙ absent)) ∙ h

-- ---- a track put in its place

abbrev SameBounds : Track → Track → Type 0
SameBounds u t = (u.min ≡ t.min) × (u.max ≡ t.max)

-- a point keeps its rules where the tracks present stay so, in their bounds
rule-kept : (word word' : ℕ) (ts ts' : List Track) (p : Point) → ((j : ℕ) → is_present word j ≡ true → is_present word' j ≡ true) →
    ((j : ℕ) → is_present word j ≡ true → SameBounds (track_at ts' j) (track_at ts j)) → PointRule word ts p → PointRule word' ts' p
rule-kept word word' ts ts' p still same r = record {
  track = still p.track r.track;
  low = rw (same p.track r.track).0 r.low;
  high = rw (same p.track r.track).1 r.high;
  event = r.event;
  wait = r.wait;
  command = r.command;
  target = go (eqb p.command 0) r.target;
}
  where
    go : (z : Bool) → cond z (eqb p.target 0) (is_present word p.target) ≡ true →
        cond z (eqb p.target 0) (is_present word' p.target) ≡ true
    go true e = e
    go false e = still p.target e

-- the rules of the point that a key and an info stand for
abbrev pub EntryRule : ℕ → List Track → ℕ → ℕ → Type 0
EntryRule word ts k d = PointRule word ts (point_of k d)

module _ (b : Board) (w : Unbroken b) where
  -- a track put in the place i, present beside those that were, whose bounds are not moved
  placed : (i : ℕ) (u : Track) (word : ℕ) → i < track_count → word < 2 ^ track_count → Sound u b.clock →
      Follower u b.clock → master_test word i u ≡ true →
      ((j : ℕ) → is_present word j ≡ true → (j ≡ i → ⊥) → is_present b.present j ≡ true) →
      ((j : ℕ) → is_present b.present j ≡ true → is_present word j ≡ true) →
      (is_present b.present i ≡ true → SameBounds u (track_at b.tracks i)) →
      Unbroken (board_with b (set b.tracks i u) word b.points b.held)
  placed i u word l fits sound follower master was still bounds = record {
    shape = record { tracks = length-set b.tracks i u ∙ w.shape.tracks; present = fits; keys = w.shape.keys; infos = w.shape.infos };
    clock = w.clock;
    tracks = λ j h.
        ⊎_elim (λ (e : j ≡ i). rw (e, here) sound)
        (λ (n : j ≡ i → ⊥). rw (there j n) (w.tracks j (was j h n)))
        (same_or_not j i);
    followers = λ j h.
        ⊎_elim (λ (e : j ≡ i). rw (e, here) follower)
        (λ (n : j ≡ i → ⊥). rw (there j n) (w.followers j (was j h n)))
        (same_or_not j i);
    masters = λ j h.
        ⊎_elim (λ (e : j ≡ i). rw (e, here) master)
        (λ (n : j ≡ i → ⊥). rw (there j n) (master-still b.present word j (track_at b.tracks j) still (w.masters j (was j h n))))
        (same_or_not j i);
    count = w.count;
    points = λ j m. rule-kept b.present word b.tracks (set b.tracks i u) _ still same (w.points j m);
    order = w.order;
  }
    where
      here : track_at (set b.tracks i u) i ≡ u
      here = get_or-set_same b.tracks i u no_track (omega (arith, w.shape.tracks))

      there : (j : ℕ) → (j ≡ i → ⊥) → track_at (set b.tracks i u) j ≡ track_at b.tracks j
      there j n = get_or-set_other b.tracks i j u no_track n

      same : (j : ℕ) → is_present b.present j ≡ true → SameBounds (track_at (set b.tracks i u) j) (track_at b.tracks j)
      same j h =
          ⊎_elim (λ (e : j ≡ i). rw (e, here) (bounds (rw e at h)))
          (λ (n : j ≡ i → ⊥). rw (there j n) (refl, refl))
          (same_or_not j i)

  -- a board stays unbroken with a sound track in the place of a present one with the same bounds, a follower as that is
  pub put-track-whole : (i : ℕ) (u : Track) → is_present b.present i ≡ true → Sound u b.clock → SameFollower (track_at b.tracks i) u →
      u.min ≡ (track_at b.tracks i).min → u.max ≡ (track_at b.tracks i).max →
      Unbroken (board_with b (set b.tracks i u) b.present b.points b.held)
  put-track-whole i u h sound same low high =
      placed i u b.present (present-small b.present i h) w.shape.present sound (follower-same same (w.followers i h))
      (master-same b.present i same ∙ w.masters i h) (λ j k n. k) (λ j k. k) (λ _. (low, high))

  -- a board stays unbroken with any number of records held
  pub held_whole : (held : ℕ) → Unbroken (board_with b b.tracks b.present b.points held)
  held_whole held = record {
    shape = record { tracks = w.shape.tracks; present = w.shape.present; keys = w.shape.keys; infos = w.shape.infos };
    clock = w.clock;
    tracks = w.tracks;
    followers = w.followers;
    masters = w.masters;
    count = w.count;
    points = w.points;
    order = w.order;
  }

  -- ---- the points

  sorted : Sorted b.points
  sorted = record {
    most = w.count;
    keys_long = w.shape.keys;
    infos_long = w.shape.infos;
    ascending = w.order;
  }

  -- a board stays unbroken with another table of points that keep their rules
  pub put-points-whole : (t : Points) → Sorted t → EachPoint (EntryRule b.present b.tracks) t →
      Unbroken (board_with b b.tracks b.present t b.held)
  put-points-whole t s each = record {
    shape = record { tracks = w.shape.tracks; present = w.shape.present; keys = s.keys_long; infos = s.infos_long };
    clock = w.clock;
    tracks = w.tracks;
    followers = w.followers;
    masters = w.masters;
    count = s.most;
    points = each;
    order = s.ascending;
  }

  -- ---- the calls

  -- no change of a track breaks a board
  pub set-up-whole : (track : ℤ) (c : Change) → Unbroken (set_up b track c).board
  set-up-whole track c =
      set-up-ways b (λ (o : Outcome). Unbroken o.board) (λ n. w) track c
      (λ i h.
      let s = w.tracks i h in
      let k = changed-keeps (track_at b.tracks i) s.valid c in
      put-track-whole i (changed_by (track_at b.tracks i) c).track h (record { valid = k.valid; passes = omega arith }) k.follower k.min k.max)

  -- no track that is added breaks a board
  pub add-track-whole : (number min max : ℤ) → Unbroken (add_track b number min max).board
  unfolding new_track master_test
  add-track-whole number min max =
      add-track-ways b (λ (o : Outcome). Unbroken o.board) (λ n. w) number min max
      (λ i low high l absent order last.
      placed i (new_track low high) (b.present + 2 ^ i) l (with-track-fits b.present i w.shape.present l absent) (record { valid = new-valid low high order last; passes = omega arith })
      (new-follower low high b.clock) refl
      (λ j h n. sym (present-others b.present i l absent j n) ∙ h)
      (present-still b.present i l absent)
      (λ h. absurd (true≢false (sym h ∙ absent))))

  -- no point that is set breaks a board
  pub set-point-whole : (track : ℤ) (given : PointNumbers) → Unbroken (set_point b track given).board
  set-point-whole track given =
      set-point-ways b (λ (o : Outcome). Unbroken o.board) (λ n. w) track given
      (λ p r _.
      let v = (w.tracks p.track r.track).valid.ordered in
      let back = point-back p (omega (arith, r.high)) (omega (arith, r.event)) r.wait r.command in
      put-points-whole (stored_in b.points (key_of p) (info_of p)).points (stored-sorted b.points (key_of p) sorted (info_of p))
      (stored-each (EntryRule b.present b.tracks) b.points (key_of p) sorted w.points (info_of p) (rw back r)))

  -- no point that is dropped breaks a board
  pub drop-point-whole : (track position : ℤ) → Unbroken (drop_point b track position).board
  drop-point-whole track position =
      drop-point-ways b (λ (o : Outcome). Unbroken o.board) (λ n. w) track position
      (λ k _. put-points-whole (dropped_from b.points k).points (dropped-sorted b.points k sorted)
      (dropped-each (EntryRule b.present b.tracks) b.points k sorted w.points))

  -- no master that is set breaks a board
  pub set-master-whole : (track master : ℤ) (zs : List ℤ) → Unbroken (set_master b track master zs).board
  set-master-whole track master zs =
      set-master-ways b (λ (o : Outcome). Unbroken o.board) (λ n. w) track master zs
      (λ i m here there _ other ranged rises.
      let xs = row_of (thresholds_in zs) in
      let es = row_of (events_in zs) in
      let t = track_at b.tracks i in
      placed i (following t (master_named m zs) xs es) b.present (present-small b.present i here) w.shape.present
      (follower-sound (w.tracks i here))
      (record {
        thresholds = refl;
        events = refl;
        pairs = pairs-rising zs ranged (rising-few zs ranged rises) ∙ rises;
        band = omega arith;
        start = λ z. refl;
      })
      (master-kept b.present i m t zs there other ranged) (λ j k n. k) (λ j k. k) (λ _. (refl, refl)))

  -- clearing breaks no board
  pub clear_whole : Unbroken (clear_board b).board
  clear_whole = clear-ways b (λ (o : Outcome). Unbroken o.board) (λ n. w) (held_whole 0)

-- the fresh board is unbroken
pub fresh-whole : Unbroken fresh_board
unfolding fresh_board no_points ascending_from
fresh-whole = record {
  shape = record { tracks = refl; present = omega arith; keys = refl; infos = refl };
  clock = omega arith;
  tracks = λ i h. absurd (omega (arith, present-set 0 i h, zero-div (2 ^ i)));
  followers = λ i h. absurd (omega (arith, present-set 0 i h, zero-div (2 ^ i)));
  masters = λ i h. absurd (omega (arith, present-set 0 i h, zero-div (2 ^ i)));
  count = omega arith;
  points = λ j l. absurd (not-suc-le-zero l);
  order = refl;
}
