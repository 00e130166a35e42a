-- Quiet ticks are a leap, and the tick after the longest leap writes a record, stops a track or changes a band, or behind it lies a tick in
-- which a track of a follower's pair leaves its line or the pair is at an edge.
use Prim.Native.Nat.{ℕ, zero, suc, ◌+◌, ◌/◌, ◌%◌, ◌≤◌, ◌<◌}
use mathlib.Core.Path.{◌≡◌, refl, sym, ap, subst, ◌∙◌}
use mathlib.Core.Logic.{◌⊎◌, inl, inr, ⊎_elim}
use mathlib.Core.Bool.{Bool, true, false, ◌&&◌, ◌||◌, true≢false}
use mathlib.Core.List.{List, [], ◌∷◌, ◌++◌}
use native.Mathlib.Omega.{arith}
use lib.ListN.{length, set, length-append}
use lib.Seq.{get_or_at, set_at, append_snoc}
use borrow.Author.Tests.{ne_eqb}
use Rattle.track.specs.declared.Track.{Track}
use Rattle.track.specs.Rule.{PLAYING, Valid}
use Rattle.track.specs.Walk.{arrival, passes_at, stops}
use Rattle.track.specs.Stride.{stride}
use Rattle.track.specs.Leap.{moves, played, leap}
use Rattle.track.specs.Follow.{judged}
use Rattle.track.proofs.Tests.{cond_cases, both}
use Rattle.track.proofs.Leaps.{leap-zero, leap-played, leap-valid}
use Rattle.board.specs.declared.log.Record.{Record}
use Rattle.board.specs.Points.{key, info_at, waits, track_count, NonzeroInfos}
use Rattle.board.specs.Board.{no_track, track_at}
use Rattle.board.specs.Tick.{keep, members}
use Rattle.board.specs.Tick.{point_records, change_records, play_bit, playing_word, Stage, staged, found_by, step_records, reached_by, step_member, step_all, run_all, play_from, follow_word, follow_all, tick_from}
use Rattle.board.specs.Replay.{Each}
use Rattle.board.specs.Steady.{SteadyFor, PairLeaves, goes}
use Rattle.board.specs.Quiet.{AnyOf, reaches, loud_step, stops_next, ends_quiet, QuietFor, master_of, Fewest, CanLeap, Leapable, leap_tracks}
use Rattle.board.proofs.points.Keys.{lt-or-ge}
use Rattle.board.proofs.points.Table.{info-none}
use Rattle.board.proofs.tick.Commands.{run_more}
use Rattle.board.proofs.tick.Steps.{steps-more}
use Rattle.board.proofs.follow.Following.{Still, follow-still, follow-adds}
use Rattle.board.proofs.quiet.Players.{EachPlaying, SomePlaying, players, bit-plays, members-playing, longer, each-implies, each_both, each-playing, some-playing, some-member}
use Rattle.board.proofs.quiet.Leaps.{leap-tracks-long, leap-tracks-word, leap-tracks-zero, leap-tracks-add, each-leapt, some-leapt}
use Rattle.board.proofs.quiet.Bands.{leap-follow-word}
use Rattle.board.proofs.quiet.Pairs.{Mastered, steady-still, unsteady-changes, all-or-one, some-either}

-- ---- one track

or_left : (a b : Bool) → (a || b) ≡ false → a ≡ false
or_left true b h = h
or_left false b h = refl

or_right : (a b : Bool) → (a || b) ≡ false → b ≡ false
or_right true b h = absurd (true≢false h)
or_right false b h = h

or-other : (a b : Bool) → a ≡ false → (a || b) ≡ true → b ≡ true
or-other true b e h = absurd (true≢false e)
or-other false b e h = h

and_second : (a b : Bool) → (a && b) ≡ false → a ≡ true → b ≡ false
and_second true b h e = h
and_second false b h e = absurd (true≢false (sym e))

-- a tick that neither finds a wait flag nor stops the track is a leap of one
tick-quiet : (t : Track) → Valid t → (moves t ≡ true → stops t ≡ false) → played t false ≡ leap t 1
tick-quiet t v s =
    let z = leap-zero t v in
    ap (λ (u : Track). played u false) (sym z) ∙ leap-played t v 0 (λ m. rw z (s (rw z at m)))

-- a track that stays PLAYING writes no mode change
changes-none : (clock i l passes : ℕ) (t : Track) {m : ℕ} → Valid t → t.mode ≡ PLAYING → m ≡ PLAYING → change_records clock i t m l passes ≡ []
unfolding change_records
changes-none clock i l passes t v e em = rw (e, em) (rw v.cells.playing refl)

module _ (ks ds : List ℕ) (clock : ℕ) where
  -- what a tick of track t, number i, leaves of a stage
  abbrev after : ℕ → Stage → Track → Stage
  after i s t =
      let d = found_by ks ds i t in
      staged (set s.tracks i (played t (waits d))) (s.records ++ step_records clock i t d) (s.reached ++ reached_by d)

  member_is : (i : ℕ) (s : Stage) {t : Track} → track_at s.tracks i ≡ t → step_member ks ds clock i s ≡ after i s t
  unfolding step_member
  member_is i s e = ap (after i s) e

  module _ (i : ℕ) (t : Track) (q : ends_quiet ks i t ≡ false) where
    -- a quiet tick does not stop the track, and finds no point
    quiet_step : moves t ≡ true → (stops t || reaches ks i t) ≡ false
    unfolding ends_quiet loud_step
    quiet_step m = and_second (moves t) (stops t || reaches ks i t) q m

    quiet-found : found_by ks ds i t ≡ 0
    unfolding found_by
    quiet-found =
        cond_cases (λ (d : ℕ). d ≡ 0) (moves t)
        (λ m. info-none (key i (arrival t)) ks ds (or_right (stops t) (reaches ks i t) (quiet_step m))) (λ _. refl)

    quiet-leap : Valid t → played t false ≡ leap t 1
    quiet-leap v = tick-quiet t v (λ m. or_left (stops t) (reaches ks i t) (quiet_step m))

    -- and writes no record
    quiet-records : Valid t → t.mode ≡ PLAYING → step_records clock i t 0 ≡ []
    unfolding step_records point_records waits leap stride
    quiet-records v e =
        cond_cases (λ (rs : List Record). rs ≡ []) (moves t)
        (λ _. changes-none clock i (arrival t) (passes_at t (arrival t)) t v e (ap (λ (u : Track). u.mode) (quiet-leap v) ∙ e)) (λ _. refl)

  -- a quiet tick writes no record and reaches no point
  after-quiet : (i : ℕ) (us : List Track) (t : Track) → Valid t → t.mode ≡ PLAYING → ends_quiet ks i t ≡ false
      → after i (staged us [] []) t ≡ staged (set us i (leap t 1)) [] []
  unfolding waits
  after-quiet i us t v e q =
      ap (λ (d : ℕ). staged (set us i (played t (waits d))) (step_records clock i t d) (reached_by d)) (quiet-found i t q)
      ∙ (λ j. staged (set us i (quiet-leap i t q v j)) (quiet-records i t q v e j) [])

  -- ---- a quiet tick

  abbrev Calm : ℕ → Track → Type 0
  Calm n t = Valid t × (ends_quiet ks n t ≡ false)

  module _ (n present : ℕ) (pre : List Track) (t : Track) (ts : List Track) (l : length pre ≡ n)
      (ih : (y : Track) → step_all ks ds clock (players (suc n) (present / 2) ts) (staged (pre ++ y ∷ ts) [] [])
      ≡ staged (pre ++ y ∷ leap_tracks 1 (present / 2) ts) [] []) where
    quiet-head : (d : ℕ) → play_bit (present % 2) t ≡ d → (0 < play_bit (present % 2) t → Calm n t)
        → step_all ks ds clock (players n present (t ∷ ts)) (staged (pre ++ t ∷ ts) [] []) ≡ staged (pre ++ leap_tracks 1 present (t ∷ ts)) [] []
    unfolding players step_all leap_tracks
    quiet-head zero e q = rw e (ih t)
    quiet-head (suc d) e q =
        let h : 0 < play_bit (present % 2) t = omega arith in
        let m = (bit-plays (present % 2) t h).0 in
        let s = q h in
        rw e
        (ap (step_all ks ds clock (players (suc n) (present / 2) ts))
        (member_is n (staged (pre ++ t ∷ ts) [] []) (get_or_at pre t ts no_track n l)
        ∙ after-quiet n (pre ++ t ∷ ts) t s.0 m s.1
        ∙ ap (λ (us : List Track). staged us [] []) (set_at pre t ts (leap t 1) n l))
        ∙ ih (leap t 1))

  quiet-list : (n present : ℕ) (pre ts : List Track) → length pre ≡ n → EachPlaying Calm n present ts
      → step_all ks ds clock (players n present ts) (staged (pre ++ ts) [] []) ≡ staged (pre ++ leap_tracks 1 present ts) [] []
  unfolding players EachPlaying step_all leap_tracks
  quiet-list n present pre [] l a = refl
  quiet-list n present pre (t ∷ ts) l a =
      quiet-head n present pre t ts l
      (λ y.
      ap (λ (us : List Track). step_all ks ds clock (players (suc n) (present / 2) ts) (staged us [] [])) (sym (append_snoc pre y ts))
      ∙ quiet-list (suc n) (present / 2) (pre ++ (y ∷ [])) ts (longer pre y l) a.1
      ∙ ap (λ (us : List Track). staged us [] []) (append_snoc pre y (leap_tracks 1 (present / 2) ts)))
      (play_bit (present % 2) t) refl a.0

  play-list : (present : ℕ) (ts : List Track) → length ts ≡ track_count → EachPlaying Calm 0 present ts
      → play_from ks ds clock present ts ≡ staged (leap_tracks 1 present ts) [] []
  unfolding play_from run_all
  play-list present ts l a =
      ap (λ (s : Stage). run_all clock s.reached s)
      (ap (λ (ms : List ℕ). step_all ks ds clock ms (staged ts [] [])) (members-playing present ts l) ∙ quiet-list 0 present [] ts refl a)

  -- ---- a tick that is not quiet

  module _ (tell : NonzeroInfos ks ds) where
    -- a step that reaches a point writes a record
    point-written : (i : ℕ) (t : Track) → moves t ≡ true → reaches ks i t ≡ true → 0 < length (step_records clock i t (found_by ks ds i t))
    unfolding step_records point_records found_by
    point-written i t m h = rw (m, ne_eqb (info_at (key i (arrival t)) ks ds) 0 (tell (key i (arrival t)) h)) (omega arith)

    ends-quiet-written : (i : ℕ) (s : Stage) {t : Track} → track_at s.tracks i ≡ t → stops_next t ≡ false → ends_quiet ks i t ≡ true
        → 0 < length (step_member ks ds clock i s).records
    unfolding ends_quiet loud_step stops_next
    ends-quiet-written i s {t} e r h =
        let p = both (moves t) (stops t || reaches ks i t) h in
        let w = point-written i t p.0 (or-other (stops t) (reaches ks i t) (and_second (moves t) (stops t) r p.0) p.1) in
        rw (member_is i s e)
        (rw (length-append s.records (step_records clock i t (found_by ks ds i t))) (omega arith))

    abbrev EndsQuiet : ℕ → Track → Type 0
    EndsQuiet n t = ends_quiet ks n t ≡ true

    abbrev Stops : ℕ → Track → Type 0
    Stops n t = stops_next t ≡ true

    module _ (n present : ℕ) (pre : List Track) (t : Track) (ts : List Track) (l : length pre ≡ n) (rs : List Record) (qs : List ℕ)
        (ih : (y : Track) (rs : List Record) (qs : List ℕ) → SomePlaying EndsQuiet (suc n) (present / 2) ts
        → (0 < length (step_all ks ds clock (players (suc n) (present / 2) ts) (staged (pre ++ y ∷ ts) rs qs)).records)
        ⊎ SomePlaying Stops (suc n) (present / 2) ts) where
      abbrev stage : Stage
      stage = staged (pre ++ t ∷ ts) rs qs

      read : track_at (pre ++ t ∷ ts) n ≡ t
      read = get_or_at pre t ts no_track n l

      abbrev Then : ℕ → Type 0
      Then d =
          (0 < length (step_all ks ds clock (keep d n (players (suc n) (present / 2) ts)) stage).records) ⊎ SomePlaying Stops n present (t ∷ ts)

      ends-quiet-here : (d : ℕ) → 0 < play_bit (present % 2) t → ends_quiet ks n t ≡ true → (b : Bool) → stops_next t ≡ b → Then (suc d)
      unfolding SomePlaying step_all
      ends-quiet-here d p h true e = inr (inl (p, e))
      ends-quiet-here d p h false e =
          let w = ends-quiet-written n stage read e h in
          inl (omega (arith, steps-more ks ds clock (players (suc n) (present / 2) ts) (step_member ks ds clock n stage)))

      ends-quiet-head : (d : ℕ) → play_bit (present % 2) t ≡ d → SomePlaying EndsQuiet n present (t ∷ ts) → Then d
      unfolding SomePlaying step_all
      ends-quiet-head zero e (inl a) = absurd (omega arith)
      ends-quiet-head (suc d) e (inl a) = ends-quiet-here d a.0 a.1 (stops_next t) refl
      ends-quiet-head zero e (inr a) = ⊎_elim inl (λ b. inr (inr b)) (ih t rs qs a)
      ends-quiet-head (suc d) e (inr a) =
          let y = played t (waits (found_by ks ds n t)) in
          let rs' = rs ++ step_records clock n t (found_by ks ds n t) in
          let qs' = qs ++ reached_by (found_by ks ds n t) in
          let s : step_member ks ds clock n stage ≡ staged (pre ++ y ∷ ts) rs' qs' =
          member_is n stage read ∙ ap (λ (us : List Track). staged us rs' qs') (set_at pre t ts y n l) in
          subst
          (λ (v : Stage).
          (0 < length (step_all ks ds clock (players (suc n) (present / 2) ts) v).records) ⊎ SomePlaying Stops n present (t ∷ ts))
          (sym s) (⊎_elim inl (λ b. inr (inr b)) (ih y rs' qs' a))

    ends-quiet-list : (n present : ℕ) (pre ts : List Track) → length pre ≡ n → (rs : List Record) (qs : List ℕ) → SomePlaying EndsQuiet n present ts
        → (0 < length (step_all ks ds clock (players n present ts) (staged (pre ++ ts) rs qs)).records) ⊎ SomePlaying Stops n present ts
    unfolding players SomePlaying
    ends-quiet-list n present pre [] l rs qs a = absurd a
    ends-quiet-list n present pre (t ∷ ts) l rs qs a =
        ends-quiet-head n present pre t ts l rs qs
        (λ y rs' qs' b. rw (append_snoc pre y ts) at (ends-quiet-list (suc n) (present / 2) (pre ++ (y ∷ [])) ts (longer pre y l) rs' qs' b))
        (play_bit (present % 2) t) refl a

    play-ends-quiet : (present : ℕ) (ts : List Track) → length ts ≡ track_count → SomePlaying EndsQuiet 0 present ts
        → (0 < length (play_from ks ds clock present ts).records) ⊎ SomePlaying Stops 0 present ts
    unfolding play_from
    play-ends-quiet present ts l a =
        let s = step_all ks ds clock (members (playing_word present ts)) (staged ts [] []) in
        let g = run_more clock s.reached s in
        ⊎_elim (λ (w : 0 < length s.records). inl (omega arith)) inr
        (rw (members-playing present ts l) (ends-quiet-list 0 present [] ts refl [] [] a))

-- ---- the tracks of a list of numbers

-- one tick more is quiet
longer-quiet : (ks : List ℕ) (r : ℕ) (ts : List Track) (is : List ℕ) → Each (λ i. QuietFor ks r i (track_at ts i)) is
    → Each (λ i. ends_quiet ks i (leap (track_at ts i) r) ≡ false) is → Each (λ i. QuietFor ks (suc r) i (track_at ts i)) is
unfolding Each
longer-quiet ks r ts [] q e = tt
longer-quiet ks r ts (i ∷ is) q e = (
  λ j h. ⊎_elim (λ (l : j < r). q.0 j l)
      (λ (l : r ≤ j). let k : j ≡ r = omega arith in subst (λ (n : ℕ). ends_quiet ks i (leap (track_at ts i) n) ≡ false) (sym k) e.0)
      (lt-or-ge j r),
  longer-quiet ks r ts is q.1 e.1,
)

-- if one changes its band, not all are still
none-still : (ts : List Track) (is : List ℕ) → AnyOf (λ i. Still ts i → ⊥) is → Each (Still ts) is → ⊥
unfolding Each AnyOf
none-still ts [] s e = s
none-still ts (i ∷ is) (inl s) e = s e.0
none-still ts (i ∷ is) (inr s) e = none-still ts is s e.1

-- ---- the laws that an advance uses

module _ (ks ds : List ℕ) (present : ℕ) (ts : List Track) (l : length ts ≡ track_count) (leapable : Leapable ts (members (playing_word present ts)))
    (mastered : Mastered present ts (members (follow_word present ts))) where
  abbrev word : ℕ
  word = playing_word present ts

  abbrev led : ℕ
  led = follow_word present ts

  -- the followers keep their bands in the next r ticks, if these are quiet
  abbrev Steady : ℕ → Type 0
  Steady r = Each (λ i. SteadyFor r (track_at ts i) (master_of ts i)) (members led)

  quiet-playing : (r : ℕ) → Each (λ i. QuietFor ks r i (track_at ts i)) (members word)
      → EachPlaying (λ n t. CanLeap t × QuietFor ks r n t) 0 present ts
  quiet-playing r q =
      each_both (λ n t. CanLeap t) (QuietFor ks r) 0 present ts (each-playing (λ n t. CanLeap t) present ts l leapable) (each-playing (QuietFor ks r) present ts l q)

  -- the steps of r quiet ticks
  stretch-plays : (r : ℕ) → Each (λ i. QuietFor ks r i (track_at ts i)) (members word) → (clock j : ℕ) → j < r
      → play_from ks ds clock present (leap_tracks j present ts) ≡ staged (leap_tracks (suc j) present ts) [] []
  stretch-plays r q clock j h =
      let e : j + 1 ≡ suc j = omega arith in
      play-list ks ds clock present (leap_tracks j present ts) (leap-tracks-long j present ts ∙ l)
      (each-leapt (Calm ks ds clock) j 0 present ts
      (each-implies (λ n t. CanLeap t × QuietFor ks r n t) (λ n t. Calm ks ds clock n (leap t j))
      (λ n t p. (leap-valid t p.0.valid (λ e. omega (arith, p.0.plays, e)) j, p.1 j h)) 0 present ts (quiet-playing r q)))
      ∙ ap (λ (us : List Track). staged us [] []) (leap-tracks-add present ts l leapable j 1 ∙ ap (λ (k : ℕ). leap_tracks k present ts) e)

  -- each of r quiet ticks writes no record, reaches no point, and is one tick more of the leap
  pub stretch-ticks : (r : ℕ) → Each (λ i. QuietFor ks r i (track_at ts i)) (members word) → Steady r → (clock j : ℕ) → j < r
      → tick_from ks ds clock present (leap_tracks j present ts) ≡ staged (leap_tracks (suc j) present ts) [] []
  unfolding tick_from
  stretch-ticks r q s clock j h =
      (λ i. follow_all clock (members (leap-follow-word j present ts i)) (stretch-plays r q clock j h i))
      ∙ follow-still clock (members led) (staged (leap_tracks (suc j) present ts) [] [])
      (steady-still present ts r (suc j) (omega arith) h (members led) mastered s)

  -- one quiet tick is a tick of each
  pub quiet-tick : (clock : ℕ) → Each (λ i. QuietFor ks 1 i (track_at ts i)) (members word) → Steady 1
      → tick_from ks ds clock present ts ≡ staged (leap_tracks 1 present ts) [] []
  quiet-tick clock q s =
      ap (λ (us : List Track). tick_from ks ds clock present us) (sym (leap-tracks-zero present ts l leapable)) ∙ stretch-ticks 1 q s clock 0 (omega arith)

  -- ---- after the fewest quiet ticks

  module _ (clock r : ℕ) where
    -- the tracks then, and the steps and the commands of the next tick
    abbrev pub leapt : List Track
    leapt = leap_tracks r present ts

    abbrev pub stepped : Stage
    stepped = play_from ks ds clock present leapt

    -- why they end: the next tick writes a record, a playing track stops in it, a follower's band changes in it, or in one of the ticks up to it
    -- a track of a follower's pair leaves its line or the pair is at an edge
    abbrev pub Ending : Type 0
    Ending =
        (0 < length (tick_from ks ds clock present leapt).records)
        ⊎ (AnyOf (λ i. stops_next (track_at leapt i) ≡ true) (members word)
        ⊎ ((Each (Still stepped.tracks) (members led) → ⊥)
        ⊎ AnyOf (λ i. PairLeaves (suc r) (track_at ts i) (master_of ts i)) (members led)))

    -- the third part takes no record back
    play-written : 0 < length stepped.records → 0 < length (tick_from ks ds clock present leapt).records
    unfolding tick_from
    play-written h = omega (arith, follow-adds clock (members (follow_word present leapt)) stepped)

    module _ (tell : NonzeroInfos ks ds) where
      -- a loud step is made
      loud-ending : AnyOf (λ i. ends_quiet ks i (leap (track_at ts i) r) ≡ true) (members word) → Ending
      loud-ending s =
          let ls = leap-tracks-long r present ts ∙ l in
          ⊎_elim (λ w. inl (play-written w))
          (λ s.
          inr (inl
          (rw (leap-tracks-word r present ts) at (some-member (λ n t. stops_next t ≡ true) present leapt ls s))))
          (play-ends-quiet ks ds clock tell present leapt ls
          (some-leapt (λ n t. ends_quiet ks n t ≡ true) r 0 present ts (some-playing (λ n t. ends_quiet ks n (leap t r) ≡ true) present ts l s)))

      -- one tick more would be quiet but for a band
      calm-ending : Each (λ i. QuietFor ks r i (track_at ts i)) (members word) → Each (λ i. ends_quiet ks i (leap (track_at ts i) r) ≡ false) (members word)
          → AnyOf (λ i. judged (goes (suc r) (track_at ts i)) (goes (suc r) (master_of ts i)) ≡ (track_at ts i).band → ⊥) (members led) → Ending
      calm-ending q e s =
          let p = stretch-plays (suc r) (longer-quiet ks r ts (members word) q e) clock r (omega arith) in
          inr (inr (inl
          (subst (λ (x : Stage). Each (Still x.tracks) (members led) → ⊥) (sym p)
          (none-still (leap_tracks (suc r) present ts) (members led) (unsteady-changes present ts (suc r) (members led) mastered s)))))

      -- after the fewest quiet ticks, unless they are all that were asked for
      pub maximal : (a : ℕ) → Fewest ks ts (members word) (members led) a r → r < a → Ending
      maximal a f h =
          ⊎_elim loud-ending
          (λ u.
          ⊎_elim
          (λ s.
          ⊎_elim (λ e. calm-ending f.quiet e s) loud-ending (all-or-one (λ i. ends_quiet ks i (leap (track_at ts i) r)) (members word)))
          (λ s. inr (inr (inr s)))
          (some-either _ _ (members led) u))
          (f.exact h)
