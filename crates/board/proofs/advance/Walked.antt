-- A tick that is not quiet: no more tracks begin to play and bands are entered than it writes records, and if it writes none, fewer play
-- or fewer bands are held after it, or a track of a follower's pair has left its line or the pair has been at an edge by then.
use Prim.Native.Nat.{ℕ, zero, suc, ◌+◌, ◌/◌, ◌%◌, ◌≤◌, ◌<◌}
use mathlib.Core.Path.{◌≡◌, refl, sym, ap, ◌∙◌}
use mathlib.Core.Logic.{◌⊎◌, inl, inr, ⊎_elim}
use mathlib.Core.Bool.{Bool, true, false, cond}
use mathlib.Core.List.{List, [], ◌∷◌, ◌++◌}
use native.Mathlib.Omega.{arith}
use lib.Dec.{eqb}
use lib.ListN.{length, set, length-append}
use lib.Seq.{get_or_at, set_at, append_snoc}
use Rattle.track.specs.declared.Track.{Track}
use Rattle.track.specs.Rule.{WAITING, stopped, with_remainder}
use Rattle.track.specs.Walk.{arrival, stops, visited, step}
use Rattle.track.specs.Leap.{moves, remainder_left, played}
use Rattle.track.proofs.Tests.{cond_cases, both}
use Rattle.track.proofs.Leaps.{remainder-stops}
use Rattle.board.specs.declared.log.Record.{Record}
use Rattle.board.specs.Board.{no_track, track_at}
use Rattle.board.specs.Tick.{keep, members}
use Rattle.board.specs.Tick.{point_records, play_bit, playing_word, Stage, staged, found_by, step_records, reached_by, step_member, step_all, obeyed, run_command, run_all, play_from, follow_word, band_count, tick_from}
use Rattle.board.specs.Points.{key, info_at, waits, target_of, track_count, NonzeroInfos}
use Rattle.board.specs.Replay.{Each}
use Rattle.board.specs.Steady.{PairLeaves}
use Rattle.board.specs.Quiet.{AnyOf, stops_next, master_of, Fewest, Leapable, where_set, leap_tracks}
use Rattle.board.proofs.points.Keys.{lt-or-ge}
use Rattle.board.proofs.tick.PlayingLaws.{bit-small}
use Rattle.board.proofs.quiet.Players.{SomePlaying, players, members-playing, longer, some-playing}
use Rattle.board.proofs.tick.Commands.{run-obeyed, run_more}
use Rattle.board.proofs.tick.Steps.{play-long, play-bands, tick-apart, tick-bands-fewer}
use Rattle.board.proofs.follow.Following.{Still, followed_from, follow-playing, follow-bands}
use Rattle.board.proofs.quiet.Leaps.{leap-tracks-long, leap-tracks-word}
use Rattle.board.proofs.quiet.Bands.{leap-follow-word, leap-bands}
use Rattle.board.proofs.quiet.Pairs.{Mastered}
use Rattle.board.proofs.quiet.Stretches.{maximal}

-- ---- how many tracks play

-- the playing tracks of ts, counted; `present` is the word of those present
unfoldable play_count : ℕ → List Track → ℕ
play_count present [] = 0
play_count present (t ∷ ts) = play_bit (present % 2) t + play_count (present / 2) ts

players-count : (n present : ℕ) (ts : List Track) → length (players n present ts) ≡ play_count present ts
unfolding players play_count
players-count n present [] = refl
players-count n present (t ∷ ts) =
    go (play_bit (present % 2) t) (bit-small (present % 2) t (omega arith)) (players (suc n) (present / 2) ts) (players-count (suc n) (present / 2) ts)
  where
    go : (d : ℕ) → d ≤ 1 → (is : List ℕ) → length is ≡ play_count (present / 2) ts → length (keep d n is) ≡ d + play_count (present / 2) ts
    go zero h is e = omega arith
    go (suc d) h is e = omega arith

-- there are as many as the playing word has members
members-play_count : (present : ℕ) (ts : List Track) → length ts ≡ track_count → length (members (playing_word present ts)) ≡ play_count present ts
members-play_count present ts l = ap length (members-playing present ts l) ∙ players-count 0 present ts

-- one track more at most plays, whatever is put in a track's place
count_set : (present : ℕ) (ts : List Track) (i : ℕ) (x : Track) → play_count present (set ts i x) ≤ play_count present ts + 1
unfolding play_count
count_set present [] i x = omega arith
count_set present (t ∷ ts) zero x = let b = bit-small (present % 2) x (omega arith) in omega arith
count_set present (t ∷ ts) (suc i) x = let h = count_set (present / 2) ts i x in omega arith

-- ---- a step starts no track, and one that stops a playing track ends its playing

module _ (d : ℕ) (t : Track) (w : Bool) where
  step-bit : play_bit d (step t w) ≤ play_bit d t
  unfolding step visited
  step-bit = go (stops t) w
    where
      go : (s w : Bool) → play_bit d (cond s (stopped t) (visited t (cond w WAITING t.mode))) ≤ play_bit d t
      go true w = omega arith
      go false true = omega arith
      go false false = omega arith

  stop-bit : stops t ≡ true → 0 < play_bit d t → play_bit d (step t w) < play_bit d t
  unfolding step
  stop-bit e h = rw e h

-- nor does a tick, and one that stops a playing track ends its playing
module _ (d : ℕ) (t : Track) (w : Bool) where
  abbrev on : Track
  on = with_remainder t (remainder_left t)

  played-bit : play_bit d (played t w) ≤ play_bit d t
  unfolding played
  played-bit = cond_cases (λ (u : Track). play_bit d u ≤ play_bit d t) (moves t) (λ _. step-bit d on w) (λ _. omega arith)

  played-stop : stops_next t ≡ true → 0 < play_bit d t → play_bit d (played t w) < play_bit d t
  unfolding stops_next played
  played-stop e h =
      let b = both (moves t) (stops t) e in
      rw b.0 (stop-bit d on w (remainder-stops t (remainder_left t) ∙ b.1) h)

-- a track that its next tick stops
abbrev Stops : ℕ → Track → Type 0
Stops n t = stops_next t ≡ true

module _ (ks ds : List ℕ) where
  -- the playing tracks one tick on, the first having the number n
  unfoldable step_tracks : ℕ → ℕ → List Track → List Track
  step_tracks n present [] = []
  step_tracks n present (t ∷ ts) =
      where_set (play_bit (present % 2) t) (played t (waits (found_by ks ds n t))) t ∷ step_tracks (suc n) (present / 2) ts

  head-bit : (n d : ℕ) (t : Track) → play_bit d (where_set (play_bit d t) (played t (waits (found_by ks ds n t))) t) ≤ play_bit d t
  head-bit n d t = go (play_bit d t)
    where
      go : (m : ℕ) → play_bit d (where_set m (played t (waits (found_by ks ds n t))) t) ≤ play_bit d t
      go zero = omega arith
      go (suc m) = played-bit d t (waits (found_by ks ds n t))

  head-stop : (n d : ℕ) (t : Track) → 0 < play_bit d t → stops_next t ≡ true
      → play_bit d (where_set (play_bit d t) (played t (waits (found_by ks ds n t))) t) < play_bit d t
  head-stop n d t h e = go (play_bit d t) h
    where
      go : (m : ℕ) → 0 < m → play_bit d (where_set m (played t (waits (found_by ks ds n t))) t) < play_bit d t
      go zero p = absurd (omega arith)
      go (suc m) p = played-stop d t (waits (found_by ks ds n t)) e h

  -- no more tracks play after the steps
  no_more : (n present : ℕ) (ts : List Track) → play_count present (step_tracks n present ts) ≤ play_count present ts
  unfolding play_count step_tracks
  no_more n present [] = omega arith
  no_more n present (t ∷ ts) =
      let a = head-bit n (present % 2) t in
      let b = no_more (suc n) (present / 2) ts in
      omega arith

  -- fewer, if one of them stops
  fewer : (n present : ℕ) (ts : List Track) → SomePlaying Stops n present ts → play_count present (step_tracks n present ts) < play_count present ts
  unfolding play_count step_tracks SomePlaying
  fewer n present [] s = absurd s
  fewer n present (t ∷ ts) (inl s) =
      let a = head-stop n (present % 2) t s.0 s.1 in
      let b = no_more (suc n) (present / 2) ts in
      omega arith
  fewer n present (t ∷ ts) (inr s) =
      let a = head-bit n (present % 2) t in
      let b = fewer (suc n) (present / 2) ts s in
      omega arith

  -- ---- the members of the playing word stepped are the playing tracks one tick on

  module _ (clock : ℕ) where
    abbrev after : List ℕ → List Track → List Record → List ℕ → List Track
    after is ts rs qs = (step_all ks ds clock is (staged ts rs qs)).tracks

    module _ (n present : ℕ) (pre : List Track) (t : Track) (ts : List Track) (l : length pre ≡ n)
        (ih : (y : Track) (rs : List Record) (qs : List ℕ)
        → after (players (suc n) (present / 2) ts) (pre ++ y ∷ ts) rs qs ≡ pre ++ y ∷ step_tracks (suc n) (present / 2) ts) where
      stepped-head : (d : ℕ) → play_bit (present % 2) t ≡ d → (rs : List Record) (qs : List ℕ)
          → after (players n present (t ∷ ts)) (pre ++ t ∷ ts) rs qs ≡ pre ++ step_tracks n present (t ∷ ts)
      unfolding players step_all step_tracks step_member
      stepped-head zero e rs qs = rw e (ih t rs qs)
      stepped-head (suc d) e rs qs =
          let r = get_or_at pre t ts no_track n l in
          let f = found_by ks ds n t in
          rw e
          (ap
          (λ (x : Track).
          after (players (suc n) (present / 2) ts) (set (pre ++ t ∷ ts) n (played x (waits (found_by ks ds n x))))
          (rs ++ step_records clock n x (found_by ks ds n x)) (qs ++ reached_by (found_by ks ds n x)))
          r
          ∙ ap
          (λ (us : List Track). after (players (suc n) (present / 2) ts) us (rs ++ step_records clock n t f) (qs ++ reached_by f))
          (set_at pre t ts (played t (waits f)) n l)
          ∙ ih (played t (waits f)) (rs ++ step_records clock n t f) (qs ++ reached_by f))

    stepped-list : (n present : ℕ) (pre ts : List Track) → length pre ≡ n → (rs : List Record) (qs : List ℕ)
        → after (players n present ts) (pre ++ ts) rs qs ≡ pre ++ step_tracks n present ts
    unfolding players step_all step_tracks
    stepped-list n present pre [] l rs qs = refl
    stepped-list n present pre (t ∷ ts) l rs qs =
        stepped-head n present pre t ts l
        (λ y rs' qs'.
        ap (λ (us : List Track). after (players (suc n) (present / 2) ts) us rs' qs') (sym (append_snoc pre y ts))
        ∙ stepped-list (suc n) (present / 2) (pre ++ (y ∷ [])) ts (longer pre y l) rs' qs'
        ∙ append_snoc pre y (step_tracks (suc n) (present / 2) ts))
        (play_bit (present % 2) t) refl rs qs

    -- ---- each point reached writes a record

    one-reached : (i : ℕ) (t : Track) → length (reached_by (found_by ks ds i t)) ≤ length (step_records clock i t (found_by ks ds i t))
    unfolding step_records point_records found_by
    one-reached i t = by (moves t) refl
      where
        d : ℕ
        d = info_at (key i (arrival t)) ks ds

        go : (r : Record) (rs : List Record) (b : Bool) → length (cond b [] (d ∷ [])) ≤ length (cond b [] (r ∷ []) ++ rs)
        go r rs true = omega arith
        go r rs false = omega arith

        by : (b : Bool) → moves t ≡ b → length (reached_by (found_by ks ds i t)) ≤ length (step_records clock i t (found_by ks ds i t))
        by true e = rw e (go _ _ (eqb d 0))
        by false e = rw e (omega arith)

    all-reached : (is : List ℕ) (s : Stage) → length s.reached ≤ length s.records
        → length (step_all ks ds clock is s).reached ≤ length (step_all ks ds clock is s).records
    unfolding step_all step_member
    all-reached [] s h = h
    all-reached (i ∷ is) s h =
        let t = track_at s.tracks i in
        let d = found_by ks ds i t in
        let a = length-append s.reached (reached_by d) in
        let b = length-append s.records (step_records clock i t d) in
        let c = one-reached i t in
        all-reached is (step_member ks ds clock i s) (omega arith)

-- ---- commands

-- a command starts one track at most
run-count : (clock present : ℕ) (ds : List ℕ) (s : Stage) → play_count present (run_all clock ds s).tracks ≤ play_count present s.tracks + length ds
unfolding run_all
run-count clock present [] s = omega arith
run-count clock present (d ∷ ds) s =
    let e = ap (λ (x : Stage). play_count present x.tracks) (run-obeyed clock d s) in
    let c = count_set present s.tracks (target_of d) (obeyed d (track_at s.tracks (target_of d))) in
    omega (arith, run-count clock present ds (run_command clock d s))

-- ---- a tick

module _ (ks ds : List ℕ) (clock present : ℕ) (ts : List Track) (l : length ts ≡ track_count) where
  abbrev stepped : Stage
  stepped = step_all ks ds clock (members (playing_word present ts)) (staged ts [] [])

  abbrev after_play : Stage
  after_play = play_from ks ds clock present ts

  abbrev tick : Stage
  tick = tick_from ks ds clock present ts

  stepped-tracks : stepped.tracks ≡ step_tracks ks ds 0 present ts
  stepped-tracks =
      ap (λ (is : List ℕ). after ks ds clock is ts [] []) (members-playing present ts l) ∙ stepped-list ks ds clock 0 present [] ts refl [] []

  stepped-reached : length stepped.reached ≤ length stepped.records
  stepped-reached = all-reached ks ds clock (members (playing_word present ts)) (staged ts [] []) (omega arith)

  count-starts : play_count present after_play.tracks ≤ play_count present ts + length after_play.records
  unfolding play_from
  count-starts =
      let a = run-count clock present stepped.reached stepped in
      let b = ap (play_count present) stepped-tracks in
      let c = no_more ks ds 0 present ts in
      let d = stepped-reached in
      let e = run_more clock stepped.reached stepped in
      omega arith

  count-fewer : length after_play.records ≤ 0 → SomePlaying Stops 0 present ts → play_count present after_play.tracks < play_count present ts
  unfolding play_from
  count-fewer h s =
      let a = run-count clock present stepped.reached stepped in
      let b = ap (play_count present) stepped-tracks in
      let c = fewer ks ds 0 present ts s in
      let d = stepped-reached in
      let e = run_more clock stepped.reached stepped in
      omega arith

  -- the tracks that play
  abbrev plays : List Track → List ℕ
  plays us = members (playing_word present us)

  before : length (plays ts) ≡ play_count present ts
  before = members-play_count present ts l

  -- the third part changes no mode
  behind : length (plays tick.tracks) ≡ play_count present after_play.tracks
  unfolding tick_from
  behind =
      ap (λ (w : ℕ). length (members w)) (follow-playing clock present (members (follow_word present ts)) after_play)
      ∙ members-play_count present after_play.tracks (play-long ks ds clock present ts ∙ l)

  -- the bands judged, from what the steps and the commands leave
  abbrev judging : Stage
  judging = followed_from clock (members (follow_word present ts)) after_play.tracks

  records-are : length tick.records ≡ length after_play.records + length judging.records
  records-are = ap (λ (s : Stage). length s.records) (tick-apart ks ds clock present ts) ∙ length-append after_play.records judging.records

  bands-are : band_count present tick.tracks ≤ band_count present ts + length judging.records
  bands-are =
      let e = ap (λ (s : Stage). band_count present s.tracks) (tick-apart ks ds clock present ts) in
      omega (arith, play-bands ks ds clock present ts, follow-bands clock present (members (follow_word present ts)) after_play.tracks)

  -- no more tracks begin to play and bands are entered than the tick writes records
  pub tick-starts : length (plays tick.tracks) + band_count present tick.tracks ≤ length (plays ts) + band_count present ts + length tick.records
  tick-starts = omega (arith, before, behind, count-starts, bands-are, records-are)

  module _ (h : length tick.records ≤ 0) where
    -- a tick that writes no record, and in which a playing track stops, leaves fewer playing
    pub tick-fewer : AnyOf (λ i. stops_next (track_at ts i) ≡ true) (plays ts)
        → length (plays tick.tracks) + band_count present tick.tracks < length (plays ts) + band_count present ts
    tick-fewer s =
        let f = count-fewer (omega (arith, records-are)) (some-playing Stops present ts l s) in
        omega (arith, before, behind, bands-are, records-are)

    -- one that writes no record, and in which a band changes, leaves fewer held
    pub tick-lower : (Each (Still after_play.tracks) (members (follow_word present ts)) → ⊥)
        → length (plays tick.tracks) + band_count present tick.tracks < length (plays ts) + band_count present ts
    tick-lower n = omega (arith, before, behind, count-starts, records-are, tick-bands-fewer ks ds clock present ts h n)

-- ---- the tick after all quiet ones

module _ (ks ds : List ℕ) (clock present : ℕ) (ts : List Track) (l : length ts ≡ track_count) (leapable : Leapable ts (members (playing_word present ts)))
    (mastered : Mastered present ts (members (follow_word present ts))) (tell : NonzeroInfos ks ds) (r : ℕ) where
  abbrev us : List Track
  us = leap_tracks r present ts

  -- the tracks that play and the bands held
  abbrev busy : List Track → ℕ
  busy xs = length (members (playing_word present xs)) + band_count present xs

  abbrev next : Stage
  next = tick_from ks ds clock present us

  leapt-busy : busy us ≡ busy ts
  leapt-busy = λ j. length (members (leap-tracks-word r present ts j)) + leap-bands r present ts j

  -- it writes a record, or leaves fewer playing or fewer bands held, or a track of a follower's pair has left its line by then
  pub walked-tick : (a : ℕ) → Fewest ks ts (members (playing_word present ts)) (members (follow_word present ts)) a r → r < a
      → (0 < length next.records) ⊎ ((busy next.tracks < busy ts)
      ⊎ AnyOf (λ i. PairLeaves (suc r) (track_at ts i) (master_of ts i)) (members (follow_word present ts)))
  walked-tick a f p =
      ⊎_elim (λ w. inl w)
      (λ e. ⊎_elim (λ (w : 0 < length next.records). inl w) (λ (w : length next.records ≤ 0). inr (quiet w e)) (lt-or-ge 0 (length next.records)))
      (maximal ks ds present ts l leapable mastered clock r tell a f p)
    where
      lu : length us ≡ track_count
      lu = leap-tracks-long r present ts ∙ l

      quiet : length next.records ≤ 0
          → AnyOf (λ i. stops_next (track_at us i) ≡ true) (members (playing_word present ts))
          ⊎ ((Each (Still (play_from ks ds clock present us).tracks) (members (follow_word present ts)) → ⊥)
          ⊎ AnyOf (λ i. PairLeaves (suc r) (track_at ts i) (master_of ts i)) (members (follow_word present ts)))
          → (busy next.tracks < busy ts) ⊎ AnyOf (λ i. PairLeaves (suc r) (track_at ts i) (master_of ts i)) (members (follow_word present ts))
      quiet w (inl s) = inl (rw leapt-busy at (tick-fewer ks ds clock present us lu w (rw (leap-tracks-word r present ts) s)))
      quiet w (inr (inl n)) = inl (rw leapt-busy at (tick-lower ks ds clock present us lu w (rw (leap-follow-word r present ts) n)))
      quiet w (inr (inr s)) = inr s
