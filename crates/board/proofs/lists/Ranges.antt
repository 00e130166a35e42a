-- Every record of the row has its fields in their ranges, and so is that record when it is unpacked from its bytes.
use Rattle.std.specs.Prelude.{Option, Some, None}
use Prim.Native.Nat.{ℕ, suc, ◌+◌, ◌-◌, ◌*◌, ◌≤◌, ◌<◌}
use mathlib.Core.Path.{◌≡◌, refl, sym, ◌∙◌, subst}
use mathlib.Core.Bool.{true, ◌||◌}
use mathlib.Core.List.{List, [], ◌∷◌}
use native.Mathlib.Omega.{arith}
use lib.Dec.{eqb}
use lib.IntN.{ℤ}
use lib.Seq.{get_or-set_other}
use borrow.Author.Tests.{eqb-false, le-leb}
use Rattle.track.specs.declared.Track.{Track}
use Rattle.track.specs.declared.Ticks.{Ticks}
use Rattle.track.specs.Rule.{PLAYING, WAITING, far, coordinate_last, clock_end, action_cell, Valid, Sound, event_most}
use Rattle.track.specs.Follow.{banded}
use Rattle.track.specs.Grid.{PLAY, PAUSE, RESUME, STOP, grid_of}
use Rattle.track.specs.Walk.{arrival, passes_at}
use Rattle.track.specs.Leap.{moves, played}
use Rattle.track.proofs.Tests.{cond_cases, both_is}
use Rattle.track.proofs.Arrivals.{arrival-inside}
use Rattle.track.proofs.Leaps.{played-mode}
use Rattle.track.proofs.Follows.{judged-most}
use Rattle.board.specs.declared.Board.{Board}
use Rattle.board.specs.declared.log.Record.{Record}
use Rattle.board.specs.declared.call.Call.{Call}
use Rattle.board.specs.declared.call.Call.TheVariants as call
use Rattle.board.specs.Log.{kind_test, record_bytes, unpack_of, record_is, record_values}
use Rattle.board.specs.Points.{ascending_from, key, keys_of, infos_of, track_count, waits, command_of, target_of, InfoRule}
use Rattle.board.specs.Board.{no_track, track_at, is_present, Unbroken}
use Rattle.board.specs.Tick.{members, Stage, staged, point_records, change_records, found_by, step_records, reached_by}
use Rattle.board.specs.Tick.{step_member, step_all, command_records, obeyed, obeyed_records, run_all, playing_word, band_records, follow_word, follow_all, play_from, tick_of}
use Rattle.board.specs.Mode.{ModeResult, mode_result}
use Rattle.board.specs.Replay.{Each}
use Rattle.board.specs.Call.{makes_of, gridstep}
use Rattle.board.specs.Lists.{cut_up, start, replayed}
use Rattle.board.proofs.log.Records.{unpack-pack}
use Rattle.board.proofs.points.Keys.{ascending-head, ascending-rest}
use Rattle.board.proofs.rules.Broken.{Kept, kept-banded, kept_at, present-small, unbroken-is}
use Rattle.board.proofs.setup.Keeping.{fresh-whole}
use Rattle.board.proofs.tick.Commands.{Goes?, grid-goes, obeyed-keeps, at_set, records_run, records_in, obeyed_in, run-apart, records-first}
use Rattle.board.proofs.tick.Steps.{members-ascend, found_at, stepped_in, written_by, steps_from, steps_apart, steps-at, play-kept, tick-apart, entered-sound, later-sound, played-sound}
use Rattle.board.proofs.tick.Found.{Allowed, met-allowed}
use Rattle.board.proofs.tick.PlayingLaws.{players-play}
use Rattle.board.proofs.follow.Following.{band_at, banded_in, entered_by, followed_from, followed-records, each-follower}
use Rattle.board.proofs.follow.Rules.{kept-number, kept-event}
use Rattle.board.proofs.quiet.Players.{members-present}
use Rattle.board.proofs.replay.Kinds.{each_append, each-follows, list-keeps}
use Rattle.board.proofs.call.Machine.{counts, result-ways, halt-none, tick-whole, made-whole}
use Rattle.board.proofs.advance.Advancing.{whole-points}

-- A record whose every field is in its range: kinds 1 to 4, and a byte for event and detail.
pub record Ranged (r : Record) : Type 0 where
  pub clock : r.clock.0 ≤ clock_end
  pub track : r.track < track_count
  pub kind : (1 ≤ r.kind) × (r.kind ≤ 4)
  pub event : r.event ≤ event_most
  pub detail : r.detail < 256
  pub position : r.position.0 ≤ coordinate_last
  pub passes : r.passes.0 ≤ clock_end

-- such a record, unpacked from its bytes, is that record
pub ranged-unpacks : (r : Record) → Ranged r → unpack_of (record_bytes r) ≡ record_is (record_values r)
unfolding kind_test
ranged-unpacks r h =
    unpack-pack r (both_is (le-leb _ _ h.kind.0) (le-leb _ _ h.kind.1)) (omega (arith, h.clock)) (omega (arith, h.position)) (omega (arith, h.passes))

-- ---- what a change of mode, a point and a command write

module _ (clock : ℕ) (c : clock ≤ clock_end) where
  -- a mode change's record
  change-ranged : (i : ℕ) (t : Track) (new l passes : ℕ) → i < track_count → Valid t → new ≤ WAITING → l ≤ coordinate_last → passes ≤ clock_end
      → Each Ranged (change_records clock i t new l passes)
  unfolding change_records Each
  change-ranged i t new l passes hi v hn hl hp =
      cond_cases (Each Ranged) (eqb (action_cell t t.mode new) 0) (λ _. tt)
      (λ _. (
        record {
          clock = c;
          track = hi;
          kind = omega arith;
          event = v.cells.event (t.mode * 4 + new);
          detail = omega (arith, v.mode);
          position = hl;
          passes = hp;
        },
        tt,
      ))

  -- a point's record
  point-ranged : (i l passes d : ℕ) → i < track_count → InfoRule d → l ≤ coordinate_last → passes ≤ clock_end
      → Each Ranged (point_records clock i l passes d)
  unfolding point_records Each
  point-ranged i l passes d hi r hl hp =
      cond_cases (Each Ranged) (eqb d 0) (λ _. tt)
      (λ _. (
        record {
          clock = c;
          track = hi;
          kind = omega arith;
          event = r.event;
          detail = omega (arith, r.command, r.target);
          position = hl;
          passes = hp;
        },
        tt,
      ))

  -- a command's record, on a target that is sound at that clock
  obeyed-ranged : (d : ℕ) (t : Track) → InfoRule d → ((command_of d ≡ 0 → ⊥) → Sound t (record { 0 = clock })) → Each Ranged (obeyed_records clock d t)
  unfolding command_records Each
  obeyed-ranged d t r sound =
      cond_cases (Each Ranged) (eqb (command_of d) 0) (λ _. tt)
      (λ e. ruled (sound (eqb-false (command_of d) 0 e)) (grid_of t.mode (command_of d)) (grid-goes t.mode (command_of d)))
    where
      ruled : Sound t (record { 0 = clock }) → (x : Option ℕ) → Goes? x → Each Ranged (command_records clock d t x)
      ruled s (Some m) g =
          change-ranged (target_of d) t m t.position.0 t.passes.0 r.target s.valid g (omega (arith, s.valid.ordered)) (omega (arith, s.passes))
      ruled s None g = (
        record {
          clock = c;
          track = r.target;
          kind = omega arith;
          event = r.event;
          detail = omega (arith, r.command, s.valid.mode);
          position = omega (arith, s.valid.ordered);
          passes = omega (arith, s.passes);
        },
        tt,
      )

-- ---- a tick

-- passes grow by at most 1 on an arrival
passes-most : (t : Track) (l : ℕ) → passes_at t l ≤ t.passes.0 + 1
unfolding passes_at
passes-most t l = cond_cases (λ (k : ℕ). k ≤ t.passes.0 + 1) (eqb l (far t)) (λ _. omega arith) (λ _. omega arith)

module _ (b : Board) (w : Unbroken b) (below : b.clock.0 < clock_end) where
  abbrev ks : List ℕ
  ks = keys_of b.points

  abbrev ps : List ℕ
  ps = infos_of b.points

  -- the clock after the tick
  abbrev clock : ℕ
  clock = b.clock.0 + 1

  abbrev after : Ticks
  after = record { 0 = b.clock.0 + 1 }

  -- it is in its range
  here : clock ≤ clock_end
  here = omega arith

  -- what a tick of a track finds
  found : (i : ℕ) (t : Track) → Allowed b.present (found_by ks ps i t)
  unfolding found_by
  found i t = met-allowed b.present b.tracks ks ps (whole-points b (unbroken-is b w)) (moves t) (key i (arrival t))

  -- a tick of a present track
  step-ranged : (i : ℕ) → is_present b.present i ≡ true → Each Ranged (written_by ks ps clock i b.tracks)
  unfolding step_records Each
  step-ranged i p =
      let t = track_at b.tracks i in
      let d = found_by ks ps i t in
      let s = w.tracks i p in
      let o = s.valid.ordered in
      let a = arrival-inside t s.valid in
      let m = passes-most t (arrival t) in
      let small = present-small b.present i p in
      cond_cases (Each Ranged) (moves t)
      (λ _. each_append Ranged (point_records clock i (arrival t) t.passes.0 d) _
      (point-ranged clock here i (arrival t) t.passes.0 d small (found i t).0 (omega arith) (omega (arith, s.passes)))
      (change-ranged clock here i t (played t (waits d)).mode (arrival t) (passes_at t (arrival t)) small s.valid
      (played-mode t s.valid (waits d)) (omega arith) (omega (arith, s.passes)))) (λ _. tt)

  -- as long as the tracks from lo on are as they were, the steps of members from lo on
  steps-ranged : (lo : ℕ) (is : List ℕ) (ts : List Track) → ascending_from lo is ≡ true → ((j : ℕ) → lo ≤ j → track_at ts j ≡ track_at b.tracks j)
      → Each (λ i. ((track_at b.tracks i).mode ≡ PLAYING) × (is_present b.present i ≡ true)) is
      → Each Ranged (steps_from ks ps clock is ts).records × Each (Allowed b.present) (steps_from ks ps clock is ts).reached
  unfolding step_all step_member Each
  steps-ranged lo [] ts a same p = (tt, tt)
  steps-ranged lo (i ∷ is) ts a same p =
      let us = stepped_in ks ps clock i ts in
      let os = written_by ks ps clock i ts in
      let d = found_at ks ps clock i ts in
      let l = ascending-head lo i is a in
      let e : track_at ts i ≡ track_at b.tracks i = same i l in
      let rest = steps-ranged (suc i) is us (ascending-rest lo i is a)
      (λ j h. get_or-set_other ts i j _ no_track (λ q. absurd (omega arith)) ∙ same j (omega arith)) p.1 in
      let first : Each Ranged os = subst (λ (t : Track). Each Ranged (step_records clock i t (found_by ks ps i t))) (sym e) (step-ranged i p.0.1) in
      subst (λ (s : Stage). Each Ranged s.records × Each (Allowed b.present) s.reached) (sym (steps_apart ks ps clock is us os (reached_by d))) (
        each_append Ranged os (steps_from ks ps clock is us).records first rest.0,
        each_append (Allowed b.present) (reached_by d) (steps_from ks ps clock is us).reached
            (cond_cases (Each (Allowed b.present)) (eqb d 0) (λ _. tt) (λ _. (found i (track_at ts i), tt))) rest.1,
      )

  -- the commands, on tracks that are sound at the clock after the tick
  commands-ranged : (ds : List ℕ) (ts : List Track) → Each (Allowed b.present) ds → ((i : ℕ) → is_present b.present i ≡ true → Sound (track_at ts i) after)
      → Each Ranged (records_run clock ds ts)
  unfolding run_all Each
  commands-ranged [] ts a sound = tt
  commands-ranged (d ∷ ds) ts a sound =
      let t = track_at ts (target_of d) in
      subst (Each Ranged) (sym (records-first clock d ds ts))
      (each_append Ranged (records_in clock d ts) (records_run clock ds (obeyed_in d ts))
      (obeyed-ranged clock here d t a.0.0 (λ z. sound (target_of d) (a.0.1 z)))
      (commands-ranged ds (obeyed_in d ts) a.1
      (λ i p. at_set (λ t. Sound t after) ts (target_of d) i (obeyed d t) (sound i p)
      (λ e.
      let s = subst (λ (k : ℕ). Sound (track_at ts k) after) e (sound i p) in
      obeyed-keeps (λ t. Sound t after) t s (entered-sound t after s) d))))

  -- every record of the steps and the commands
  play-ranged : Each Ranged (play_from ks ps clock b.present b.tracks).records
  unfolding play_from
  play-ranged =
      let is = members (playing_word b.present b.tracks) in
      let rises = members-ascend 16 0 (playing_word b.present b.tracks) in
      let s = steps_from ks ps clock is b.tracks in
      let r = steps-ranged 0 is b.tracks rises (λ j _. refl) (members-present b.present b.tracks w.shape.tracks) in
      subst (λ (x : Stage). Each Ranged x.records) (sym (run-apart clock s.reached s.tracks s.records s.reached))
      (each_append Ranged s.records (records_run clock s.reached s.tracks) r.0
      (commands-ranged s.reached s.tracks r.1
      (λ i p. steps-at ks ps clock (λ t. Sound t b.clock) (λ t. Sound t after) (λ t h. later-sound t b.clock h) (λ t h. played-sound t b.clock h)
      i 0 is (staged b.tracks [] []) rises (players-play b.present b.tracks) (w.tracks i p))))

  -- a band's record
  band-ranged : (i : ℕ) (t : Track) (k : ℕ) → i < track_count → Kept b.present i t after → Each Ranged (band_records clock i t k)
  unfolding band_records Each
  band-ranged i t k hi j =
      cond_cases (Each Ranged) (eqb k t.band || eqb k 0) (λ _. tt)
      (λ _. (
        record {
          clock = here;
          track = hi;
          kind = omega arith;
          event = kept-event j (k - 1);
          detail = omega (arith, kept-number j);
          position = omega (arith, j.sound.valid.ordered);
          passes = omega (arith, j.sound.passes);
        },
        tt,
      ))

  -- the followers, on tracks that keep the rules at the clock after the tick
  followers-ranged : (is : List ℕ) (ts : List Track) → Each (λ i. (i < track_count) × Kept b.present i (track_at ts i) after) is
      → Each Ranged (followed_from clock is ts).records
  unfolding follow_all Each
  followers-ranged [] ts p = tt
  followers-ranged (i ∷ is) ts p =
      let t = track_at ts i in
      let k = band_at i ts in
      subst (Each Ranged) (sym (followed-records clock i is ts))
      (each_append Ranged (entered_by clock i ts) (followed_from clock is (banded_in i ts)).records (band-ranged i t k p.0.0 p.0.1)
      (followers-ranged is (banded_in i ts)
      (each-follows
      (λ n q. (
        q.0,
        at_set (λ t. Kept b.present n t after) ts i n (banded t k) q.1
            (λ e. kept-banded k (omega arith) (judged-most t (track_at ts t.master)) (subst (λ (m : ℕ). Kept b.present n (track_at ts m) after) e q.1)),
      ))
      is p.1)))

  -- every record of a tick
  tick-ranged : Each Ranged (tick_of b).records
  tick-ranged =
      let s = play_from ks ps clock b.present b.tracks in
      let is = members (follow_word b.present b.tracks) in
      subst (λ (x : Stage). Each Ranged x.records) (sym (tick-apart ks ps clock b.present b.tracks))
      (each_append Ranged s.records (followed_from clock is s.tracks).records play-ranged
      (followers-ranged is s.tracks
      (each-follower b.present b.tracks (λ i. (i < track_count) × Kept b.present i (track_at s.tracks i) after)
      (λ i p _. (present-small b.present i p, play-kept ks ps clock b.present b.tracks b.clock i i (kept_at b w i p))))))

-- ---- every other call

module _ (n : ℕ) (b : Board) (w : Unbroken b) where
  -- a mode call's record
  mode-ranged : (track : ℤ) (code : ℕ) → Each Ranged (mode_result b n track code).records
  unfolding Each
  mode-ranged =
      result-ways b n (λ (m : ModeResult). Each Ranged m.records) (λ k. tt)
      (λ i mode h l _.
      let t = track_at b.tracks i in
      let s = w.tracks i h in
      change-ranged b.clock.0 w.clock i t mode t.position.0 t.passes.0 (present-small b.present i h) s.valid l
      (omega (arith, s.valid.ordered)) (omega (arith, s.passes, w.clock)))

  -- no other call writes one
  call-ranged : (c : Call) → Each Ranged (makes_of c n b).records
  unfolding makes_of Each
  call-ranged (call.AddTrack i lo hi) = tt
  call-ranged (call.SetUp i c) = tt
  call-ranged (call.SetPoint i p) = tt
  call-ranged (call.DropPoint i p) = tt
  call-ranged (call.Play i) = mode-ranged i PLAY
  call-ranged (call.Pause i) = mode-ranged i PAUSE
  call-ranged (call.Resume i) = mode-ranged i RESUME
  call-ranged (call.Stop i) = mode-ranged i STOP
  call-ranged (call.Advance k) = tt
  call-ranged call.Clear = tt
  call-ranged call.Clock = tt
  call-ranged (call.Track i) = tt
  call-ranged (call.Point i p) = tt
  call-ranged (call.PointCount i from to) = tt
  call-ranged (call.Master i m ps) = tt

-- ---- the row

-- every record of the row has its fields in their ranges
pub row-ranged : (cs : List Call) (log : List ℕ) → Each Ranged (replayed cs log).last.row
unfolding Each
row-ranged cs log =
    (list-keeps gridstep counts Unbroken Ranged
    (λ n b w e. let l = (halt-none n b e).0 in (tick-ranged b w l, tick-whole b w _ l)) (λ c n b w. (call-ranged n b w c, made-whole b w _ c n))
    (cut_up cs) (start log) (fresh-whole, tt)).1

-- each record of the row, unpacked from its bytes, is that record
pub row-unpacks : (cs : List Call) (log : List ℕ) → Each (λ r. unpack_of (record_bytes r) ≡ record_is (record_values r)) (replayed cs log).last.row
row-unpacks cs log = each-follows ranged-unpacks (replayed cs log).last.row (row-ranged cs log)
