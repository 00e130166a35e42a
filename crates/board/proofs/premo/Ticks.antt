-- The acts of a track in a tick are a path of the automaton.
use Rattle.std.specs.Prelude.{Option, Some, None}
use Prim.Native.Nat.{ℕ, suc, ◌+◌, ◌≤◌, ◌<◌}
use mathlib.Core.Path.{◌≡◌, refl, sym, ◌∙◌, ap, subst}
use mathlib.Core.Bool.{Bool, true, false, cond, ◌&&◌, ◌||◌, true≢false, false≢true}
use mathlib.Core.Logic.{⊎_elim}
use mathlib.Core.List.{List, [], ◌∷◌, ◌++◌, map, map-append}
use native.Mathlib.Omega.{arith}
use lib.Dec.{eqb, leb}
use lib.ListN.{length, set, length-set}
use lib.Seq.{get_or-set_same, get_or-set_other}
use borrow.Author.Tests.{eqb-true, eqb-false, eq-eqb}
use Rattle.track.specs.declared.Track.{Track}
use Rattle.track.specs.Rule.{STOPPED, PLAYING, PAUSED, WAITING, stopped, with_remainder, entered}
use Rattle.track.specs.Grid.{PLAY, PAUSE, RESUME, STOP, grid_of}
use Rattle.track.specs.Walk.{arrival, stops, visited, step}
use Rattle.track.specs.Leap.{moves, remainder_left, played}
use Rattle.track.proofs.Leaps.{remainder-stops}
use Rattle.track.proofs.Tests.{cond_cases, both, refuted}
use Rattle.board.specs.Points.{ascending_from, key, keys_of, infos_of, info_at, has_key, waits, command_of, target_of, track_count}
use Rattle.board.proofs.points.Keys.{same_or_not, ascending-head, ascending-rest}
use Rattle.board.specs.declared.Board.{Board}
use Rattle.board.specs.Board.{track_at, no_track, is_present, Unbroken}
use Rattle.board.proofs.rules.Broken.{present-small, unbroken-is}
use Rattle.board.specs.Tick.{members}
use Rattle.board.specs.Replay.{Each}
use Rattle.board.specs.Tick.{Stage, staged, reached_by, playing_word, found_by, step_member, step_all, commanded, obeyed, run_all, follow_word, play_from, tick_from, tick_of}
use Rattle.board.proofs.tick.Commands.{obeyed_in, tracks_run, run-apart, tracks-first}
use Rattle.board.proofs.follow.Following.{follow-keeps}
use Rattle.board.proofs.quiet.Players.{members-present}
use Rattle.board.proofs.tick.Steps.{members-ascend, found_at, stepped_in, written_by, steps_from, steps_apart, steps-below, steps-long}
use Rattle.board.proofs.tick.Found.{found_target}
use Rattle.board.specs.Call.{ticked}
use Rattle.board.proofs.advance.Advancing.{whole-points}
use Rattle.board.specs.Arrivals.{Arrival, arrival_at, arrival_next, arrivals_of}
use Rattle.board.specs.premo.Automaton.{Act, do_play, do_pause, do_resume, do_stop, do_wait, done_play, offers, after, Path}
use Rattle.board.specs.premo.Acts.{mode_of, step_acts, act_of, ruled, obey_acts, command_acts, reached_in, plays, info_met, tick_acts}
use Rattle.board.proofs.premo.Paths.{path-append}

-- ---- the mode grid

-- what the grid lets act is offered, and leads where the grid says
abbrev pub Led : ℕ → ℕ → Option ℕ → Type 0
Led mode c (Some m) = (offers mode (act_of c) ≡ true) × (after mode (act_of c) ≡ m)
Led mode c None = Unit {0}

pub grid-led : (mode c : ℕ) → Led mode c (grid_of mode c)
unfolding grid_of offers after act_of
grid-led mode c =
    cond_cases (Led mode c) (eqb c PLAY && eqb mode STOPPED) (at PLAY do_play PLAYING refl refl)
    (λ _. cond_cases (Led mode c) (eqb c PAUSE && (eqb mode PLAYING || eqb mode WAITING)) (at PAUSE do_pause PAUSED refl refl)
    (λ _. cond_cases (Led mode c) (eqb c RESUME && (eqb mode PAUSED || eqb mode WAITING)) (at RESUME do_resume PLAYING refl refl)
    (λ _. cond_cases (Led mode c) (eqb c STOP && leb mode WAITING) (at STOP do_stop STOPPED refl refl) (λ _. tt))))
  where
    at : (k : ℕ) (a : Act) (m : ℕ) → act_of k ≡ a → after mode a ≡ m → (eqb c k && offers mode a) ≡ true → Led mode c (Some m)
    at k a m ea em e =
        let h = both (eqb c k) (offers mode a) e in
        let is : act_of c ≡ a = ap act_of (eqb-true c k h.0) ∙ ea in
        (ap (offers mode) is ∙ h.1, ap (after mode) is ∙ em)

-- a track that is taken to a mode is in that mode
pub entered-mode : (t : Track) (m : ℕ) → (entered t m).mode ≡ m
unfolding entered
entered-mode t m = cond_cases (λ (u : Track). u.mode ≡ m) (eqb m STOPPED) (λ e. sym (eqb-true m STOPPED e)) (λ _. refl)

-- ---- the steps

module _ (keys infos : List ℕ) (clock : ℕ) where
  -- each member is stepped once, and no other track
  steps-at : (i lo : ℕ) (is : List ℕ) (s : Stage) → ascending_from lo is ≡ true → i < length s.tracks →
      let t = track_at s.tracks i in
      track_at (step_all keys infos clock is s).tracks i ≡ cond (has_key i is) (played t (waits (found_by keys infos i t))) t
  unfolding has_key step_all step_member
  steps-at i lo [] s a l = refl
  steps-at i lo (k ∷ is) s a l =
      let rest = ascending-rest lo k is a in
      go (steps-at i (suc k) is (step_member keys infos clock k s) rest (rw (length-set s.tracks k (after k)) l)) rest (eqb k i) refl
    where
      ts : List Track
      ts = s.tracks

      after : ℕ → Track
      after j = played (track_at ts j) (waits (found_by keys infos j (track_at ts j)))

      next : Stage
      next = step_member keys infos clock k s

      other : Track → Track
      other t = cond (has_key i is) (played t (waits (found_by keys infos i t))) t

      go : track_at (step_all keys infos clock is next).tracks i ≡ other (track_at next.tracks i) → ascending_from (suc k) is ≡ true
          → (b : Bool) → eqb k i ≡ b
          → track_at (step_all keys infos clock is next).tracks i ≡ cond (b || has_key i is) (after i) (track_at ts i)
      go ih rest true e =
          let q = eqb-true k i e in
          steps-below keys infos clock (λ (t : Track). t ≡ track_at next.tracks i) i (suc k) is next rest (omega arith) refl
          ∙ ap (λ (j : ℕ). track_at (set ts j (after j)) i) q ∙ get_or-set_same ts i (after i) no_track l
      go ih rest false e = ih ∙ ap other (get_or-set_other ts k i (after k) no_track (λ q. eqb-false k i e (sym q)))

-- what holds of each of some numbers holds of one of them
each-has : (P : ℕ → Type 0) (i : ℕ) (is : List ℕ) → Each P is → has_key i is ≡ true → P i
unfolding Each has_key
each-has P i [] p h = absurd (false≢true h)
each-has P i (k ∷ is) p h = go (eqb k i) refl h (each-has P i is p.1)
  where
    go : (b : Bool) → eqb k i ≡ b → (b || has_key i is) ≡ true → (has_key i is ≡ true → P i) → P i
    go true e h ih = subst P (eqb-true k i e) p.0
    go false e h ih = ih h

-- a member of the playing word is PLAYING, and present
plays-is : (b : Board) (i : ℕ) → length b.tracks ≡ track_count → plays b i ≡ true
    → ((track_at b.tracks i).mode ≡ PLAYING) × (is_present b.present i ≡ true)
plays-is b i l =
    each-has (λ k. ((track_at b.tracks k).mode ≡ PLAYING) × (is_present b.present k ≡ true)) i (members (playing_word b.present b.tracks))
    (members-present b.present b.tracks l)

-- a tick of its own
step-path : (t : Track) (d : ℕ) → t.mode ≡ PLAYING → Path t.mode (step_acts t d) (played t (waits d)).mode
unfolding step_acts played step visited offers after Path
step-path t d h = by (moves t)
  where
    on : Track
    on = with_remainder t (remainder_left t)

    go : (a w : Bool) → Path t.mode (cond a (done_play ∷ []) (cond w (do_wait ∷ []) [])) (cond a (stopped on) (visited on (cond w WAITING on.mode))).mode
    go true w = (eq-eqb t.mode PLAYING h, refl)
    go false true = (eq-eqb t.mode PLAYING h, refl)
    go false false = refl

    by : (m : Bool) → Path t.mode (cond m (cond (stops t) (done_play ∷ []) (cond (waits d) (do_wait ∷ []) [])) [])
        (cond m (cond (stops on) (stopped on) (visited on (cond (waits d) WAITING on.mode))) on).mode
    by true = rw (remainder-stops t (remainder_left t)) (go (stops t) (waits d))
    by false = refl

-- ---- the points reached

module _ (b : Board) where
  abbrev ks : List ℕ
  ks = keys_of b.points

  abbrev ps : List ℕ
  ps = infos_of b.points

  abbrev clock : ℕ
  clock = b.clock.0 + 1

  reached-at : (i l : ℕ) → reached_by (info_at (key i l) ks ps) ≡ map (λ (a : Arrival). a.info) (arrival_at b i l)
  unfolding arrival_at
  reached-at i l = go (eqb (info_at (key i l) ks ps) 0)
    where
      a : Arrival
      a = record { track = i; location = l; info = info_at (key i l) ks ps }

      go : (z : Bool) → cond z [] (a.info ∷ []) ≡ map (λ (a : Arrival). a.info) (cond z [] (a ∷ []))
      go true = refl
      go false = refl

  reached-next : (i : ℕ) → reached_by (found_by ks ps i (track_at b.tracks i)) ≡ map (λ (a : Arrival). a.info) (arrival_next b i)
  unfolding found_by
  reached-next i = go (moves t)
    where
      t : Track
      t = track_at b.tracks i

      go : (m : Bool) → reached_by (cond m (info_at (key i (arrival t)) ks ps) 0) ≡ map (λ (a : Arrival). a.info) (cond m (arrival_at b i (arrival t)) [])
      go true = reached-at i (arrival t)
      go false = refl

  -- as long as the tracks from lo on are as they were, so are the points that members from lo on reach
  steps-reached : (lo : ℕ) (is : List ℕ) (ts : List Track) → ascending_from lo is ≡ true → ((j : ℕ) → lo ≤ j → track_at ts j ≡ track_at b.tracks j)
      → (steps_from ks ps clock is ts).reached ≡ map (λ (a : Arrival). a.info) (arrivals_of b is)
  unfolding step_all step_member arrivals_of
  steps-reached lo [] ts a same = refl
  steps-reached lo (i ∷ is) ts a same =
      let us = stepped_in ks ps clock i ts in
      let l = ascending-head lo i is a in
      let rest = steps-reached (suc i) is us (ascending-rest lo i is a)
      (λ j h. get_or-set_other ts i j _ no_track (λ q. absurd (omega arith)) ∙ same j (omega arith)) in
      ap (λ (s : Stage). s.reached) (steps_apart ks ps clock is us (written_by ks ps clock i ts) (reached_by (found_at ks ps clock i ts)))
      ∙ (λ j. (ap (λ (t : Track). reached_by (found_by ks ps i t)) (same i l) ∙ reached-next i) j ++ rest j)
      ∙ sym (map-append (λ (a : Arrival). a.info) (arrival_next b i) (arrivals_of b is))

-- ---- the commands

ruled-path : (t : Track) (c : ℕ) (r : Option ℕ) → Led t.mode c r → Path t.mode (ruled c r ∷ []) (commanded t r).mode
unfolding commanded offers after Path
ruled-path t c (Some m) h = (h.0, h.1 ∙ sym (entered-mode t m))
ruled-path t c None h = (refl, refl)

obey-path : (d : ℕ) (t : Track) → Path t.mode (obey_acts d t) (obeyed d t).mode
unfolding obey_acts Path
obey-path d t = go (eqb (command_of d) 0)
  where
    r : Option ℕ
    r = grid_of t.mode (command_of d)

    go : (b : Bool) → Path t.mode (cond b [] (ruled (command_of d) r ∷ [])) (cond b t (commanded t r)).mode
    go true = refl
    go false = ruled-path t (command_of d) r (grid-led t.mode (command_of d))

commands-path : (clock i : ℕ) (ds : List ℕ) (ts : List Track) → i < length ts
    → Path (track_at ts i).mode (command_acts i ds (track_at ts i)) (track_at (tracks_run clock ds ts) i).mode
unfolding command_acts run_all Path
commands-path clock i [] ts l = refl
commands-path clock i (d ∷ ds) ts l =
    subst (λ (us : List Track). Path t.mode (command_acts i (d ∷ ds) t) (track_at us i).mode) (sym (tracks-first clock d ds ts))
    (go (commands-path clock i ds (obeyed_in d ts) (rw (length-set ts (target_of d) (obeyed d (track_at ts (target_of d)))) l)) (eqb (target_of d) i) refl)
  where
    t : Track
    t = track_at ts i

    Rest : Track → Type 0
    Rest u = Path u.mode (command_acts i ds u) (track_at (tracks_run clock ds (obeyed_in d ts)) i).mode

    go : Rest (track_at (obeyed_in d ts) i) → (b : Bool) → eqb (target_of d) i ≡ b
        → Path t.mode (cond b (obey_acts d t ++ command_acts i ds (obeyed d t)) (command_acts i ds t)) (track_at (tracks_run clock ds (obeyed_in d ts)) i).mode
    go ih true e =
        let q = eqb-true (target_of d) i e in
        let h = ap (λ (k : ℕ). track_at (set ts k (obeyed d (track_at ts k))) i) q ∙ get_or-set_same ts i (obeyed d t) no_track l in
        path-append t.mode (obeyed d t).mode _ (obey_acts d t) (command_acts i ds (obeyed d t)) (obey-path d t) (subst Rest h ih)
    go ih false e = subst Rest (get_or-set_other ts (target_of d) i _ no_track (λ q. eqb-false (target_of d) i e (sym q))) ih

-- ---- an absent track

-- a command of each of these infos is on another track
abbrev Elsewhere : ℕ → ℕ → Type 0
Elsewhere i d = eqb (target_of d) i ≡ true → command_of d ≡ 0

no-commands : (i : ℕ) (ds : List ℕ) (t : Track) → Each (Elsewhere i) ds → command_acts i ds t ≡ []
unfolding Each command_acts obey_acts
no-commands i [] t p = refl
no-commands i (d ∷ ds) t p = go (no-commands i ds t p.1) (eqb (target_of d) i) refl
  where
    go : command_acts i ds t ≡ [] → (b : Bool) → eqb (target_of d) i ≡ b
        → cond b (obey_acts d t ++ command_acts i ds (obeyed d t)) (command_acts i ds t) ≡ []
    go rest true e = rw (eq-eqb (command_of d) 0 (p.0 e)) rest
    go rest false e = rest

-- with a command the target is present
module _ (b : Board) (whole : Unbroken b) (i : ℕ) (absent : is_present b.present i ≡ false) where
  info-elsewhere : (k : ℕ) → Elsewhere i (info_at k (ks b) (ps b))
  info-elsewhere k e =
      let d = info_at k (ks b) (ps b) in
      ⊎_elim (λ (z : command_of d ≡ 0). z)
      (λ (n : command_of d ≡ 0 → ⊥).
      let target = found_target b.present b.tracks (ks b) (ps b) (whole-points b (unbroken-is b whole)) true k n in
      absurd (true≢false (sym target ∙ ap (is_present b.present) (eqb-true (target_of d) i e) ∙ absent)))
      (same_or_not (command_of d) 0)

  reached-elsewhere : (is : List ℕ) → Each (Elsewhere i) (map (λ (a : Arrival). a.info) (arrivals_of b is))
  unfolding Each arrivals_of arrival_at
  reached-elsewhere [] = tt
  reached-elsewhere (j ∷ is) = by (moves (track_at b.tracks j)) (reached-elsewhere is)
    where
      l : ℕ
      l = arrival (track_at b.tracks j)

      d : ℕ
      d = info_at (key j l) (ks b) (ps b)

      go : (z : Bool) → Each (Elsewhere i) (map (λ (a : Arrival). a.info) (arrivals_of b is))
          → Each (Elsewhere i) (map (λ (a : Arrival). a.info) (cond z [] (record { track = j; location = l; info = d } ∷ []) ++ arrivals_of b is))
      go true rest = rest
      go false rest = (info-elsewhere (key j l), rest)

      by : (m : Bool) → Each (Elsewhere i) (map (λ (a : Arrival). a.info) (arrivals_of b is))
          → Each (Elsewhere i) (map (λ (a : Arrival). a.info) (cond m (arrival_at b j l) [] ++ arrivals_of b is))
      by true rest = go (eqb d 0) rest
      by false rest = rest

-- ---- the tick

module _ (b : Board) (whole : Unbroken b) (i : ℕ) where
  abbrev before : Track
  before = track_at b.tracks i

  abbrev stepped : Track
  stepped = cond (plays b i) (played before (waits (info_met b i))) before

  own-path : Path before.mode (cond (plays b i) (step_acts before (info_met b i)) []) stepped.mode
  unfolding Path
  own-path = go (plays b i) refl
    where
      go : (p : Bool) → plays b i ≡ p
          → Path before.mode (cond p (step_acts before (info_met b i)) []) (cond p (played before (waits (info_met b i))) before).mode
      go true e = step-path before (info_met b i) (plays-is b i whole.shape.tracks e).0
      go false e = refl

  abbrev after_play : Stage
  after_play = play_from (ks b) (ps b) (clock b) b.present b.tracks

  -- the third part leaves every mode
  after-mode : (track_at (tick_of b).tracks i).mode ≡ (track_at after_play.tracks i).mode
  unfolding tick_from
  after-mode =
      follow-keeps (clock b) (λ t. t.mode ≡ (track_at after_play.tracks i).mode) (λ t m e. e) i (members (follow_word b.present b.tracks)) after_play refl

  present-path : is_present b.present i ≡ true
      → Path before.mode (cond (plays b i) (step_acts before (info_met b i)) [] ++ command_acts i (reached_in b) stepped) (track_at after_play.tracks i).mode
  unfolding play_from
  present-path h =
      let word = playing_word b.present b.tracks in
      let s = steps_from (ks b) (ps b) (clock b) (members word) b.tracks in
      let l : i < length b.tracks = omega (arith, present-small b.present i h, whole.shape.tracks) in
      let m : i < length s.tracks = rw (steps-long (ks b) (ps b) (clock b) (members word) (staged b.tracks [] [])) l in
      let own = steps-at (ks b) (ps b) (clock b) i 0 (members word) (staged b.tracks [] []) (members-ascend track_count 0 word) l in
      let reached = steps-reached b 0 (members word) b.tracks (members-ascend track_count 0 word) (λ j _. refl) in
      let end = ap (λ (x : Stage). (track_at x.tracks i).mode) (run-apart (clock b) s.reached s.tracks s.records s.reached) in
      path-append before.mode stepped.mode _ (cond (plays b i) (step_acts before (info_met b i)) []) (command_acts i (reached_in b) stepped) own-path
      (subst (Path stepped.mode (command_acts i (reached_in b) stepped)) (sym end)
      (subst (λ (t : Track). Path t.mode (command_acts i (reached_in b) t) (track_at (tracks_run (clock b) s.reached s.tracks) i).mode) own
      (subst (λ (ds : List ℕ). Path (track_at s.tracks i).mode (command_acts i ds (track_at s.tracks i)) (track_at (tracks_run (clock b) s.reached s.tracks) i).mode) reached
      (commands-path (clock b) i s.reached s.tracks m))))

  absent-acts : is_present b.present i ≡ false → tick_acts i b ≡ []
  unfolding tick_acts
  absent-acts h =
      let off = refuted (plays b i) (λ e. true≢false (sym (plays-is b i whole.shape.tracks e).1 ∙ h)) in
      rw (sym off) (no-commands i (reached_in b) before (reached-elsewhere b whole i h (members (playing_word b.present b.tracks))))

  -- the acts of a track in a tick lead from its mode before to its mode after
  pub tick-path : Path (mode_of b i) (tick_acts i b) (mode_of (ticked b) i)
  unfolding tick_acts Path
  tick-path = go (is_present b.present i) refl
    where
      go : (p : Bool) → is_present b.present i ≡ p → Path (cond p before.mode STOPPED) (tick_acts i b) (cond p (track_at (tick_of b).tracks i).mode STOPPED)
      go true e = subst (Path before.mode (tick_acts i b)) (sym after-mode) (present-path e)
      go false e = rw (absent-acts e) refl
