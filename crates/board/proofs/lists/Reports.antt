-- The records of kind 1: a tick writes one for each arrival and no other, and no other call writes one.
use Rattle.std.specs.Prelude.{Option, Some, None}
use Prim.Native.Nat.{ℕ, suc, ◌+◌, ◌≤◌}
use mathlib.Core.Path.{◌≡◌, refl, sym, ◌∙◌, ap}
use mathlib.Core.Bool.{Bool, true, false, cond, ◌||◌}
use mathlib.Core.List.{List, [], ◌∷◌, ◌++◌, map, map-append, append-nil}
use native.Mathlib.Omega.{arith}
use lib.Dec.{eqb}
use lib.IntN.{ℤ}
use lib.Seq.{get_or-set_other}
use Rattle.track.specs.declared.Track.{Track}
use Rattle.track.specs.Rule.{action_cell}
use Rattle.track.specs.Grid.{PLAY, PAUSE, RESUME, STOP, grid_of}
use Rattle.track.specs.Walk.{arrival, passes_at}
use Rattle.track.specs.Leap.{moves, played}
use Rattle.track.proofs.Tests.{cond_cases}
use Rattle.board.specs.declared.Board.{Board}
use Rattle.board.specs.declared.log.Record.{Record}
use Rattle.board.specs.declared.call.Call.{Call}
use Rattle.board.specs.declared.call.Call.TheVariants as call
use Rattle.board.specs.Points.{ascending_from, key, keys_of, infos_of, info_at, waits, command_of, target_of, track_count}
use Rattle.board.specs.Board.{track_at, no_track}
use Rattle.board.specs.Tick.{members}
use Rattle.board.specs.Tick.{Stage, point_records, change_records, found_by, step_records, reached_by, step_member}
use Rattle.board.specs.Tick.{step_all, command_records, obeyed_records, run_all, playing_word, band_records, follow_word, follow_all, play_from, tick_of}
use Rattle.board.specs.Mode.{ModeResult, mode_result}
use Rattle.board.specs.Replay.{only}
use Rattle.board.specs.Call.{makes_of}
use Rattle.board.specs.Arrivals.{Arrival, arrival_at, arrival_next, arrivals_of, arrival_record, arrival_records, is_point}
use Rattle.board.proofs.points.Keys.{ascending-head, ascending-rest}
use Rattle.board.proofs.tick.Commands.{records_run, records_in, obeyed_in, run-apart, records-first}
use Rattle.board.proofs.tick.Steps.{members-ascend, found_at, stepped_in, written_by, steps_from, steps_apart, tick-apart}
use Rattle.board.proofs.follow.Following.{band_at, banded_in, entered_by, followed_from, followed-records}
use Rattle.board.proofs.replay.Kinds.{only-append}
use Rattle.board.proofs.call.Machine.{result-ways}

-- ---- records of another kind

-- a mode change is of kind 2
change-none : (clock i : ℕ) (t : Track) (new l passes : ℕ) → only is_point (change_records clock i t new l passes) ≡ []
unfolding change_records
change-none clock i t new l passes =
    cond_cases (λ (rs : List Record). only is_point rs ≡ []) (eqb (action_cell t t.mode new) 0) (λ _. refl) (λ _. refl)

-- a command's record is of kind 2 or 3
obeyed-none : (clock d : ℕ) (t : Track) → only is_point (obeyed_records clock d t) ≡ []
unfolding command_records
obeyed-none clock d t =
    cond_cases (λ (rs : List Record). only is_point rs ≡ []) (eqb (command_of d) 0) (λ _. refl) (λ _. ruled (grid_of t.mode (command_of d)))
  where
    ruled : (r : Option ℕ) → only is_point (command_records clock d t r) ≡ []
    ruled (Some m) = change-none clock (target_of d) t m t.position.0 t.passes.0
    ruled None = refl

commands-none : (clock : ℕ) (ds : List ℕ) (ts : List Track) → only is_point (records_run clock ds ts) ≡ []
unfolding run_all
commands-none clock [] ts = refl
commands-none clock (d ∷ ds) ts =
    ap (only is_point) (records-first clock d ds ts) ∙ only-append is_point (records_in clock d ts) (records_run clock ds (obeyed_in d ts))
    ∙ (λ j. obeyed-none clock d (track_at ts (target_of d)) j ++ commands-none clock ds (obeyed_in d ts) j)

-- a band's record is of kind 4
band-none : (clock i : ℕ) (t : Track) (band : ℕ) → only is_point (band_records clock i t band) ≡ []
unfolding band_records
band-none clock i t band = cond_cases (λ (rs : List Record). only is_point rs ≡ []) (eqb band t.band || eqb band 0) (λ _. refl) (λ _. refl)

followers-none : (clock : ℕ) (is : List ℕ) (ts : List Track) → only is_point (followed_from clock is ts).records ≡ []
unfolding follow_all
followers-none clock [] ts = refl
followers-none clock (i ∷ is) ts =
    ap (only is_point) (followed-records clock i is ts) ∙ only-append is_point (entered_by clock i ts) (followed_from clock is (banded_in i ts)).records
    ∙ (λ j. band-none clock i (track_at ts i) (band_at i ts) j ++ followers-none clock is (banded_in i ts) j)

-- ---- the steps

module _ (b : Board) where
  abbrev ks : List ℕ
  ks = keys_of b.points

  abbrev ps : List ℕ
  ps = infos_of b.points

  abbrev clock : ℕ
  clock = b.clock.0 + 1

  -- the records of kind 1 of a tick of track i are those of its arrival, if it makes a step
  step-points : (i : ℕ) → only is_point (written_by ks ps clock i b.tracks) ≡ map (arrival_record b) (arrival_next b i)
  unfolding step_records found_by point_records arrival_at
  step-points i = by (moves t) refl
    where
      t : Track
      t = track_at b.tracks i

      d : ℕ
      d = info_at (key i (arrival t)) ks ps

      a : Arrival
      a = record { track = i; location = arrival t; info = d }

      go : (z : Bool) → only is_point (cond z [] (arrival_record b a ∷ [])) ≡ map (arrival_record b) (cond z [] (a ∷ []))
      go true = refl
      go false = refl

      made : (new : ℕ) →
          only is_point (point_records clock i (arrival t) t.passes.0 d ++ change_records clock i t new (arrival t) (passes_at t (arrival t)))
          ≡ map (arrival_record b) (arrival_at b i (arrival t))
      made new =
          let ds = point_records clock i (arrival t) t.passes.0 d in
          only-append is_point ds (change_records clock i t new (arrival t) (passes_at t (arrival t)))
          ∙ ap (λ (l : List Record). only is_point ds ++ l) (change-none clock i t new (arrival t) (passes_at t (arrival t)))
          ∙ append-nil (only is_point ds)
          ∙ go (eqb d 0)

      by : (m : Bool) → moves t ≡ m → only is_point (written_by ks ps clock i b.tracks) ≡ map (arrival_record b) (arrival_next b i)
      by true e = rw e (made (played t (waits d)).mode)
      by false e = rw e refl

  -- as long as the tracks from lo on are as they were, so are the reports of members from lo on
  steps-points : (lo : ℕ) (is : List ℕ) (ts : List Track) → ascending_from lo is ≡ true → ((j : ℕ) → lo ≤ j → track_at ts j ≡ track_at b.tracks j) →
      only is_point (steps_from ks ps clock is ts).records ≡ map (arrival_record b) (arrivals_of b is)
  unfolding step_all step_member arrivals_of
  steps-points lo [] ts a same = refl
  steps-points lo (i ∷ is) ts a same =
      let us = stepped_in ks ps clock i ts in
      let os = written_by ks ps clock i ts in
      let l = ascending-head lo i is a in
      let e : track_at ts i ≡ track_at b.tracks i = same i l in
      let rest = steps-points (suc i) is us (ascending-rest lo i is a) (λ j h. get_or-set_other ts i j _ no_track (λ q. absurd (omega arith)) ∙ same j (omega arith)) in
      ap (λ (s : Stage). only is_point s.records) (steps_apart ks ps clock is us os (reached_by (found_at ks ps clock i ts)))
      ∙ only-append is_point os (steps_from ks ps clock is us).records
      ∙ (λ j. (ap (λ (t : Track). only is_point (step_records clock i t (found_by ks ps i t))) e ∙ step-points i) j ++ rest j)
      ∙ sym (map-append (arrival_record b) (arrival_next b i) (arrivals_of b is))

-- ---- the laws

-- the records of kind 1 of the steps and the commands are one for each arrival
play-points : (b : Board) → only is_point (play_from (ks b) (ps b) (clock b) b.present b.tracks).records ≡ arrival_records b
unfolding play_from
play-points b =
    let word = playing_word b.present b.tracks in
    let s = steps_from (ks b) (ps b) (clock b) (members word) b.tracks in
    ap (λ (x : Stage). only is_point x.records) (run-apart (clock b) s.reached s.tracks s.records s.reached)
    ∙ only-append is_point s.records (records_run (clock b) s.reached s.tracks)
    ∙ ap (λ (l : List Record). only is_point s.records ++ l) (commands-none (clock b) s.reached s.tracks)
    ∙ append-nil (only is_point s.records)
    ∙ steps-points b 0 (members word) b.tracks (members-ascend track_count 0 word) (λ j _. refl)

-- and so are those of the tick
pub tick-points : (b : Board) → only is_point (tick_of b).records ≡ arrival_records b
tick-points b =
    let s = play_from (ks b) (ps b) (clock b) b.present b.tracks in
    let is = members (follow_word b.present b.tracks) in
    ap (λ (x : Stage). only is_point x.records) (tick-apart (ks b) (ps b) (clock b) b.present b.tracks)
    ∙ only-append is_point s.records (followed_from (clock b) is s.tracks).records
    ∙ ap (λ (l : List Record). only is_point s.records ++ l) (followers-none (clock b) is s.tracks)
    ∙ append-nil (only is_point s.records)
    ∙ play-points b

mode-none : (b : Board) (n : ℕ) (track : ℤ) (code : ℕ) → only is_point (mode_result b n track code).records ≡ []
mode-none b n =
    result-ways b n (λ (m : ModeResult). only is_point m.records ≡ []) (λ k. refl)
    (λ i mode _ _ _. let t = track_at b.tracks i in change-none b.clock.0 i t mode t.position.0 t.passes.0)

-- no call but an advance writes one
pub call-points : (c : Call) (n : ℕ) (b : Board) → only is_point (makes_of c n b).records ≡ []
unfolding makes_of
call-points (call.AddTrack i lo hi) n b = refl
call-points (call.SetUp i c) n b = refl
call-points (call.SetPoint i p) n b = refl
call-points (call.DropPoint i p) n b = refl
call-points (call.Play i) n b = mode-none b n i PLAY
call-points (call.Pause i) n b = mode-none b n i PAUSE
call-points (call.Resume i) n b = mode-none b n i RESUME
call-points (call.Stop i) n b = mode-none b n i STOP
call-points (call.Advance k) n b = refl
call-points call.Clear n b = refl
call-points call.Clock n b = refl
call-points (call.Track i) n b = refl
call-points (call.Point i p) n b = refl
call-points (call.PointCount i from to) n b = refl
call-points (call.Master i m ps) n b = refl
