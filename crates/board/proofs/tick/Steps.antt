-- A whole tick: what it does at every index, how much it writes, and that it keeps the rules of a board.
use mathlib.Core.Path.{◌≡◌, refl, sym, ap, subst, ◌∙◌}
use mathlib.Core.Bool.{Bool, true, false, ◌&&◌}
use mathlib.Core.List.{List, [], ◌∷◌, ◌++◌, append-nil, append_assoc}
use Prim.Native.Nat.{ℕ, zero, suc, ◌+◌, ◌*◌, ◌/◌, ◌%◌, ◌≤◌, ◌<◌}
use native.Mathlib.Omega.{arith}
use lib.Dec.{eqb, leb}
use lib.ListN.{length, set, length-append, length-set}
use borrow.Author.Tests.{eqb-true, eqb-false, le-leb}
use Rattle.track.specs.declared.Track.{Track}
use Rattle.track.specs.declared.Ticks.{Ticks}
use Rattle.track.specs.declared.Coordinate.{Coordinate}
use Rattle.track.specs.Rule.{STOPPED, PLAYING, WAITING, clock_end, Sound, with_remainder, entered}
use Rattle.track.specs.Follow.{judged, banded}
use Rattle.track.specs.Walk.{stops, visited, step}
use Rattle.track.specs.Leap.{moves, remainder_left, played}
use Rattle.track.proofs.Tests.{cond_cases, both, both_is}
use Rattle.track.proofs.Arrivals.{entered-valid, entered-passes}
use Rattle.track.proofs.Leaps.{played-valid, played-passes}
use Rattle.track.proofs.Follows.{SameFollower, same-follower, then-follower, played-follower, entered-follower, follower-sound, judged-most}
use Rattle.board.specs.declared.Board.{Board}
use Rattle.board.specs.declared.log.Record.{Record}
use Rattle.board.specs.Points.{point_most, ascending_from, keys_of, infos_of, point_of, waits, track_count}
use Rattle.board.specs.Board.{track_at, is_present, place_test, allowed_test, tracks_test, points_test, shape_test, unbroken_parts, unbroken_test}
use Rattle.board.specs.Replay.{Each}
use Rattle.board.specs.Tick.{keep, members_from, members, follow_word, band_count, play_from, tick_most}
use Rattle.board.specs.Tick.{Stage, staged, found_by, step_records, reached_by, step_member, step_all, playing_word, tick_from, tick_of}
use Rattle.board.proofs.rules.Broken.{Kept, kept_same, kept-banded, tracks-at, tracks-are, shape_same}
use Rattle.board.proofs.points.Keys.{ascending-head, ascending-rest, ascending-cons}
use Rattle.board.proofs.tick.Staging.{step-most, reached-most}
use Rattle.board.proofs.tick.PlayingLaws.{players-play}
use Rattle.board.proofs.tick.Commands.{at_set, each_set, run-adds, run_long, run_at}
use Rattle.board.proofs.follow.Following.{Still, followed_from, follow-apart, follow-adds, follow-long, follow-keeps, following-same, bands-same, follow-word, follower-set, follow-bands, follow-fewer}

-- ---- the members of a word

ascending-later : (lo : ℕ) (xs : List ℕ) → ascending_from (suc lo) xs ≡ true → ascending_from lo xs ≡ true
unfolding ascending_from
ascending-later lo [] h = refl
ascending-later lo (x ∷ xs) h =
    let l = ascending-head (suc lo) x xs h in ascending-cons lo x xs (omega arith) (ascending-rest (suc lo) x xs h)

-- they ascend
pub members-ascend : (k t word : ℕ) → ascending_from t (members_from k t word) ≡ true
unfolding members_from ascending_from
members-ascend zero t word = refl
members-ascend (suc k) t word = go (word % 2) (members_from k (suc t) (word / 2)) (members-ascend k (suc t) (word / 2))
  where
    go : (bit : ℕ) (rest : List ℕ) → ascending_from (suc t) rest ≡ true → ascending_from t (keep bit t rest) ≡ true
    go zero rest h = ascending-later t rest h
    go (suc bit) rest h = ascending-cons t t rest (omega arith) h

-- and are no more than the bits
pub members-most : (k t word : ℕ) → length (members_from k t word) ≤ k
unfolding members_from
members-most zero t word = omega arith
members-most (suc k) t word = go (word % 2) (members_from k (suc t) (word / 2)) (members-most k (suc t) (word / 2))
  where
    go : (bit : ℕ) (rest : List ℕ) → length rest ≤ k → length (keep bit t rest) ≤ suc k
    go zero rest h = omega arith
    go (suc bit) rest h = omega arith

-- ---- the steps

module _ (keys infos : List ℕ) (clock : ℕ) where
  -- the info that a member finds, the tracks after its step, and what it writes
  abbrev pub found_at : ℕ → List Track → ℕ
  found_at i ts = found_by keys infos i (track_at ts i)

  abbrev pub stepped_in : ℕ → List Track → List Track
  stepped_in i ts = set ts i (played (track_at ts i) (waits (found_at i ts)))

  abbrev pub written_by : ℕ → List Track → List Record
  written_by i ts = step_records clock i (track_at ts i) (found_at i ts)

  -- the same of all members
  abbrev pub steps_from : List ℕ → List Track → Stage
  steps_from is ts = step_all keys infos clock is (staged ts [] [])

  -- from any stage the members are stepped as from an empty one, and what they write and reach comes behind
  pub steps_apart : (is : List ℕ) (ts : List Track) (rs : List Record) (ds : List ℕ)
      → step_all keys infos clock is (staged ts rs ds) ≡ staged (steps_from is ts).tracks (rs ++ (steps_from is ts).records) (ds ++ (steps_from is ts).reached)
  unfolding step_all step_member
  steps_apart [] ts rs ds = λ j. staged ts (sym (append-nil rs) j) (sym (append-nil ds) j)
  steps_apart (i ∷ is) ts rs ds =
      let us = stepped_in i ts in
      let os = written_by i ts in
      let ps = reached_by (found_at i ts) in
      let f = steps_from is us in
      let from : (rs : List Record) (ds : List ℕ) → step_all keys infos clock is (staged us (rs ++ os) (ds ++ ps)) ≡ staged f.tracks (rs ++ (os ++ f.records)) (ds ++ (ps ++ f.reached)) =
      λ rs ds. steps_apart is us (rs ++ os) (ds ++ ps)
      ∙ (λ j. staged f.tracks (append_assoc rs os f.records j) (append_assoc ds ps f.reached j)) in
      from rs ds ∙ sym (ap (λ (s : Stage). staged s.tracks (rs ++ s.records) (ds ++ s.reached)) (from [] []))

  -- steps only add records
  pub steps-more : (is : List ℕ) (s : Stage) → length s.records ≤ length (step_all keys infos clock is s).records
  steps-more is s =
      let e = ap (λ (x : Stage). length x.records) (steps_apart is s.tracks s.records s.reached) in
      let l = length-append s.records (steps_from is s.tracks).records in
      omega arith

  -- each member writes at most two records
  pub steps-most : (is : List ℕ) (s : Stage) → length (step_all keys infos clock is s).records ≤ length s.records + 2 * length is
  unfolding step_all step_member
  steps-most [] s = omega arith
  steps-most (i ∷ is) s =
      let l = length-append s.records (written_by i s.tracks) in
      let m = step-most clock i (track_at s.tracks i) (found_at i s.tracks) in
      omega (arith, steps-most is (step_member keys infos clock i s))

  -- and reaches at most one point
  pub steps-reach : (is : List ℕ) (s : Stage) → length (step_all keys infos clock is s).reached ≤ length s.reached + length is
  unfolding step_all step_member
  steps-reach [] s = omega arith
  steps-reach (i ∷ is) s =
      let l = length-append s.reached (reached_by (found_at i s.tracks)) in
      let m = reached-most (found_at i s.tracks) in
      omega (arith, steps-reach is (step_member keys infos clock i s))

  -- the members of a word write at most two records for each track, and reach at most one point
  pub steps-few : (word : ℕ) (ts : List Track) → (length (steps_from (members word) ts).records ≤ 2 * track_count) × (length (steps_from (members word) ts).reached ≤ track_count)
  steps-few word ts =
      let m = members-most track_count 0 word in
      (omega (arith, steps-most (members word) (staged ts [] [])), omega (arith, steps-reach (members word) (staged ts [] [])))

  -- steps leave as many tracks
  pub steps-long : (is : List ℕ) (s : Stage) → length (step_all keys infos clock is s).tracks ≡ length s.tracks
  unfolding step_all step_member
  steps-long [] s = refl
  steps-long (i ∷ is) s =
      steps-long is (step_member keys infos clock i s) ∙ length-set s.tracks i (played (track_at s.tracks i) (waits (found_at i s.tracks)))

  -- what holds of a track below the members, their steps keep
  pub steps-below : (P : Track → Type 0) (i lo : ℕ) (is : List ℕ) (s : Stage) → ascending_from lo is ≡ true → i < lo
      → P (track_at s.tracks i) → P (track_at (step_all keys infos clock is s).tracks i)
  unfolding step_all step_member
  steps-below P i lo [] s a l p = p
  steps-below P i lo (k ∷ is) s a l p =
      let m = ascending-head lo k is a in
      steps-below P i (suc k) is (step_member keys infos clock k s) (ascending-rest lo k is a) (omega arith)
      (at_set P s.tracks k i (played (track_at s.tracks k) (waits (found_at k s.tracks))) p (λ e. absurd (omega arith)))

  -- each playing track is stepped at most once: what holds of it before and of it one tick on holds after the steps
  module _ (P Q : Track → Type 0) (f : (t : Track) → P t → Q t) (g : (t : Track) → P t → t.mode ≡ PLAYING → (w : Bool) → Q (played t w)) where
    pub steps-at : (i lo : ℕ) (is : List ℕ) (s : Stage) → ascending_from lo is ≡ true → Each (λ j. (track_at s.tracks j).mode ≡ PLAYING) is →
        P (track_at s.tracks i) → Q (track_at (step_all keys infos clock is s).tracks i)
    unfolding step_all step_member Each
    steps-at i lo [] s a m p = f (track_at s.tracks i) p
    steps-at i lo (k ∷ is) s a m p =
        let b = ascending-rest lo k is a in
        let n = each_set (λ t. t.mode ≡ PLAYING) ts k (played (track_at ts k) w) is b m.1 in
        go b (steps-at i (suc k) is (step_member keys infos clock k s) b n) (eqb i k) refl
      where
        ts : List Track
        ts = s.tracks

        w : Bool
        w = waits (found_at k ts)

        go : ascending_from (suc k) is ≡ true → (P (track_at (set ts k (played (track_at ts k) w)) i) → Q (track_at (step_all keys infos clock is (step_member keys infos clock k s)).tracks i))
            → (b : Bool) → eqb i k ≡ b → Q (track_at (step_all keys infos clock is (step_member keys infos clock k s)).tracks i)
        go a ih true e =
            let q = eqb-true i k e in
            steps-below Q i (suc k) is (step_member keys infos clock k s) a (omega arith)
            (at_set Q ts k i (played (track_at ts k) w) (f (track_at ts i) p) (λ e. g (track_at ts k) (subst (λ (j : ℕ). P (track_at ts j)) e p) m.0 w))
        go a ih false e = ih (at_set P ts k i (played (track_at ts k) w) p (λ q. absurd (eqb-false i k e q)))

-- ---- the bounds of a track

module _ (low high : Coordinate) where
  -- a track with these bounds
  abbrev pub Bounded : Track → Type 0
  Bounded t = (t.min ≡ low) × (t.max ≡ high)

  step-bounded : (t : Track) → Bounded t → (w : Bool) → Bounded (step t w)
  unfolding step visited
  step-bounded t b w = cond_cases Bounded (stops t) (λ e. b) (λ e. b)

  played-bounded : (t : Track) → Bounded t → t.mode ≡ PLAYING → (w : Bool) → Bounded (played t w)
  unfolding played
  played-bounded t b m w = cond_cases Bounded (moves t) (λ e. step-bounded (with_remainder t (remainder_left t)) b w) (λ e. b)

  -- a change of mode keeps them
  pub entered-bounded : (t : Track) → Bounded t → (m : ℕ) → Bounded (entered t m)
  unfolding entered
  entered-bounded t b m = cond_cases Bounded (eqb m STOPPED) (λ e. b) (λ e. b)

-- ---- a sound track

module _ (t : Track) (now : Ticks) (s : Sound t now) where
  -- is sound in every mode
  pub entered-sound : (m : ℕ) → m ≤ WAITING → Sound (entered t m) now
  entered-sound m l = record { valid = entered-valid t s.valid m l; passes = omega (arith, s.passes, entered-passes t m) }

  -- one tick later
  pub later-sound : Sound t (record { 0 = now.0 + 1 })
  later-sound = record { valid = s.valid; passes = omega (arith, s.passes) }

  -- and played till then
  pub played-sound : t.mode ≡ PLAYING → (w : Bool) → Sound (played t w) (record { 0 = now.0 + 1 })
  played-sound m w = record { valid = played-valid t s.valid w (λ e. omega (arith, m, e)); passes = omega (arith, s.passes, played-passes t s.valid w) }

-- ---- a tick

module _ (keys infos : List ℕ) (clock present : ℕ) (ts : List Track) where
  abbrev playing : List ℕ
  playing = members (playing_word present ts)

  abbrev stepped : Stage
  stepped = step_all keys infos clock playing (staged ts [] [])

  abbrev after_play : Stage
  after_play = play_from keys infos clock present ts

  -- the steps and the commands write at most three records for each track
  pub play-few : length after_play.records ≤ 3 * track_count
  unfolding play_from
  play-few = omega (arith, steps-few keys infos clock (playing_word present ts) ts, run-adds clock stepped.reached stepped)

  -- and leave as many tracks
  pub play-long : length after_play.tracks ≡ length ts
  unfolding play_from
  play-long = run_long clock stepped.reached stepped ∙ steps-long keys infos clock playing (staged ts [] [])

  -- what holds of a track before, of it one tick on where it plays, and of that in every other mode, holds of it after them
  pub play-at : (P Q : Track → Type 0) → ((t : Track) → P t → Q t) → ((t : Track) → P t → t.mode ≡ PLAYING → (w : Bool) → Q (played t w))
      → ((t : Track) → Q t → (m : ℕ) → m ≤ WAITING → Q (entered t m)) → (i : ℕ) → P (track_at ts i) → Q (track_at after_play.tracks i)
  unfolding play_from
  play-at P Q f g h i p =
      run_at clock Q h i stepped.reached stepped
      (steps-at keys infos clock P Q f g i 0 playing (staged ts [] []) (members-ascend track_count 0 (playing_word present ts)) (players-play present ts) p)

  -- no step and no command changes a master, thresholds, events or a band
  pub play-follower : (i : ℕ) → SameFollower (track_at ts i) (track_at after_play.tracks i)
  play-follower i =
      let t = track_at ts i in
      play-at (SameFollower t) (SameFollower t) (λ u e. e) (λ u e _ w. then-follower e (played-follower u w))
      (λ u e m _. then-follower e (entered-follower u m)) i (same-follower t)

  -- a track that kept the rules of a board with those present keeps them
  pub play-kept : (before : Ticks) (i j : ℕ) → Kept present j (track_at ts i) before
      → Kept present j (track_at after_play.tracks i) (record { 0 = before.0 + 1 })
  play-kept before i j =
      let after : Ticks = record { 0 = before.0 + 1 } in
      play-at (λ t. Kept present j t before) (λ t. Kept present j t after)
      (λ t k. kept_same k (omega arith) (same-follower t) (later-sound t before k.sound))
      (λ t k p w. kept_same k (omega arith) (played-follower t w) (played-sound t before k.sound p w))
      (λ t k m l. kept_same k (omega arith) (entered-follower t m) (entered-sound t after k.sound m l)) i

  -- the same tracks follow then
  pub play-follow-word : follow_word present after_play.tracks ≡ follow_word present ts
  play-follow-word = following-same present ts after_play.tracks play-long (λ i. (play-follower i).thresholds)

  -- and the same bands are held
  pub play-bands : band_count present after_play.tracks ≡ band_count present ts
  play-bands = bands-same present ts after_play.tracks play-long (λ i. (play-follower i).band)

  abbrev led : List ℕ
  led = members (follow_word present ts)

  -- a tick: what the steps and the commands leave, with the bands judged then, and what they write, the bands' records behind it
  pub tick-apart : tick_from keys infos clock present ts
      ≡ staged (followed_from clock led after_play.tracks).tracks (after_play.records ++ (followed_from clock led after_play.tracks).records) after_play.reached
  unfolding tick_from
  tick-apart = follow-apart clock led after_play.tracks after_play.records after_play.reached

  -- a tick writes at most so many records
  pub tick-few : length (tick_from keys infos clock present ts).records ≤ tick_most
  unfolding tick_from
  tick-few = omega (arith, play-few, follow-adds clock led after_play, members-most track_count 0 (follow_word present ts))

  -- and leaves as many tracks
  pub tick-long : length (tick_from keys infos clock present ts).tracks ≡ length ts
  unfolding tick_from
  tick-long = follow-long clock led after_play ∙ play-long

  -- what holds of a track before, of it one tick on where it plays, of that in every other mode and of that in any band that it is judged to be in, holds of
  -- it after the tick
  pub tick-at : (P Q : Track → Type 0) → ((t : Track) → P t → Q t) → ((t : Track) → P t → t.mode ≡ PLAYING → (w : Bool) → Q (played t w))
      → ((t : Track) → Q t → (m : ℕ) → m ≤ WAITING → Q (entered t m)) → ((t m : Track) → Q t → Q (banded t (judged t m)))
      → (i : ℕ) → P (track_at ts i) → Q (track_at (tick_from keys infos clock present ts).tracks i)
  unfolding tick_from
  tick-at P Q f g h k i p = follow-keeps clock Q k i led after_play (play-at P Q f g h i p)

  -- the same tracks follow after it
  pub tick-follow-word : follow_word present (tick_from keys infos clock present ts).tracks ≡ follow_word present ts
  unfolding tick_from
  tick-follow-word = follow-word clock present led after_play ∙ play-follow-word

  -- no more bands are entered than records written
  pub tick-bands : band_count present (tick_from keys infos clock present ts).tracks ≤ band_count present ts + length (tick_from keys infos clock present ts).records
  tick-bands =
      let e = ap (λ (s : Stage). band_count present s.tracks) tick-apart in
      let r = ap (λ (s : Stage). length s.records) tick-apart ∙ length-append after_play.records (followed_from clock led after_play.tracks).records in
      omega (arith, play-bands, follow-bands clock present led after_play.tracks)

  -- where no record is written and a band changes, fewer are held
  pub tick-bands-fewer : length (tick_from keys infos clock present ts).records ≤ 0 → (Each (Still after_play.tracks) led → ⊥)
      → band_count present (tick_from keys infos clock present ts).tracks < band_count present ts
  tick-bands-fewer h n =
      let e = ap (λ (s : Stage). band_count present s.tracks) tick-apart in
      let r = ap (λ (s : Stage). length s.records) tick-apart ∙ length-append after_play.records (followed_from clock led after_play.tracks).records in
      omega (arith, play-bands, follow-fewer clock present led after_play.tracks (follower-set present ts) (omega arith) n)

  -- a track that was sound is sound one tick later
  pub tick-sound : (before : Ticks) (i : ℕ) → Sound (track_at ts i) before → Sound (track_at (tick_from keys infos clock present ts).tracks i) (record { 0 = before.0 + 1 })
  tick-sound before =
      let after : Ticks = record { 0 = before.0 + 1 } in
      tick-at (λ t. Sound t before) (λ t. Sound t after) (λ t s. later-sound t before s) (λ t s p w. played-sound t before s p w)
      (λ t s m l. entered-sound t after s m l) (λ t m s. follower-sound s)

  -- and one that kept the rules of a board with those present keeps them
  pub tick-kept : (before : Ticks) (i j : ℕ) → Kept present j (track_at ts i) before
      → Kept present j (track_at (tick_from keys infos clock present ts).tracks i) (record { 0 = before.0 + 1 })
  unfolding tick_from
  tick-kept before i j k =
      let after : Ticks = record { 0 = before.0 + 1 } in
      follow-keeps clock (λ t. Kept present j t after) (λ t m h. kept-banded (judged t m) (omega arith) (judged-most t m) h) i led after_play
      (play-kept before i j k)

  -- and has the bounds that it had
  pub tick-bounds : (i : ℕ) → Bounded (track_at ts i).min (track_at ts i).max (track_at (tick_from keys infos clock present ts).tracks i)
  tick-bounds i =
      let low = (track_at ts i).min in
      let high = (track_at ts i).max in
      tick-at (Bounded low high) (Bounded low high) (λ t b. b) (played-bounded low high) (λ t b m l. entered-bounded low high t b m) (λ t m b. b) i (refl, refl)

-- ---- the rules of a board

-- tracks with the same bounds have the same points
pub points-same : (present : ℕ) (ts us : List Track) → ((i : ℕ) → Bounded (track_at ts i).min (track_at ts i).max (track_at us i))
    → (lo : ℕ) (ks ds : List ℕ) → points_test present us lo ks ds ≡ points_test present ts lo ks ds
unfolding points_test place_test
points-same present ts us h lo [] ds = refl
points-same present ts us h lo (k ∷ ks) [] = refl
points-same present ts us h lo (k ∷ ks) (d ∷ ds) =
    let p = point_of k d in
    let b = h p.track in
    λ i. leb lo k
    && ((is_present present p.track && (leb (b.0 i).0 p.position.0 && leb p.position.0 (b.1 i).0))
    && (allowed_test present p && points-same present ts us h (suc k) ks ds i))

module _ (keys infos : List ℕ) (clock present : ℕ) (ts : List Track) where
  -- a tick keeps the rules of the present tracks
  pub tick-tracks : (before : Ticks) → tracks_test present present 0 ts before ≡ true
      → tracks_test present present 0 (tick_from keys infos clock present ts).tracks (record { 0 = before.0 + 1 }) ≡ true
  tick-tracks before h =
      let long = tick-long keys infos clock present ts in
      tracks-are (tick_from keys infos clock present ts).tracks present present 0 (record { 0 = before.0 + 1 })
      (λ i j q l e. tick-kept keys infos clock present ts before i j (tracks-at ts present present 0 before h i j q (omega arith) e))

  -- and the points on their tracks
  pub tick-points : (lo : ℕ) (ks ds : List ℕ) → points_test present (tick_from keys infos clock present ts).tracks lo ks ds ≡ points_test present ts lo ks ds
  tick-points = points-same present ts (tick_from keys infos clock present ts).tracks (tick-bounds keys infos clock present ts)

-- a tick keeps a board unbroken
pub tick-keeps : (b : Board) (held : ℕ) → unbroken_test b ≡ true → b.clock.0 < clock_end
    → unbroken_test (record { tracks = (tick_of b).tracks; present = b.present; points = b.points; clock = record { 0 = b.clock.0 + 1 }; held = held }) ≡ true
unfolding unbroken_parts
tick-keeps b held h l =
    let keys = keys_of b.points in
    let infos = infos_of b.points in
    let present = b.present in
    let ts = b.tracks in
    let tests = points_test present ts 0 keys infos in
    let whole = tracks_test present present 0 ts b.clock in
    let shape = shape_test present ts b.points.keys b.points.infos in
    let p = both (leb b.clock.0 clock_end) (leb b.points.count point_most && (whole && (tests && shape))) h in
    let q = both (leb b.points.count point_most) (whole && (tests && shape)) p.1 in
    let r = both whole (tests && shape) q.1 in
    let t = both tests shape r.1 in
    let after = b.clock.0 + 1 in
    both_is (le-leb after clock_end (omega arith))
    (both_is q.0
    (both_is (tick-tracks keys infos after present ts b.clock r.0)
    (both_is (tick-points keys infos after present ts 0 keys infos ∙ t.0)
    (shape_same present ts (tick_of b).tracks b.points.keys b.points.infos (tick-long keys infos after present ts) ∙ t.1))))
