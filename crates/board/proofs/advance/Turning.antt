-- The laws of a turn of the tick loop: quiet ticks leapt and one tick walked, in one pass over the members of the playing word.
use Prim.Native.Nat.{ℕ, zero, suc, ◌+◌, ◌*◌, ◌/◌, ◌%◌, ◌≤◌, ◌<◌}
use mathlib.Core.Path.{◌≡◌, refl, sym, ◌∙◌, ap, ap₂, subst}
use mathlib.Core.Bool.{Bool, true, false, cond, not, ◌||◌, true≢false}
use mathlib.Core.List.{List, [], ◌∷◌, ◌++◌}
use native.Mathlib.Omega.{arith}
use lib.Dec.{eqb}
use lib.ListN.{length, set, length-set}
use lib.Seq.{get_or-set_same, get_or-set_other, set-set, set_comm}
use borrow.Author.Tests.{eq-eqb, eqb-true}
use Rattle.track.specs.declared.Track.{Track}
use Rattle.track.specs.Rule.{PLAYING, Valid, moved, with_remainder}
use Rattle.track.specs.Walk.{step, stops, visited}
use Rattle.track.specs.Stride.{stride}
use Rattle.track.specs.Leap.{moves, remainder_left, played, leap}
use Rattle.track.proofs.Tests.{cond_cases}
use Rattle.board.specs.declared.Board.{Board}
use Rattle.board.specs.declared.tick.Stepped.{Stepped}
use Rattle.board.specs.Log.{record_width, log_bytes}
use Rattle.board.specs.Points.{ascending_from, keys_of, infos_of, waits, command_of, track_count}
use Rattle.board.specs.Board.{no_track, track_at, is_present, points_test}
use Rattle.board.specs.Tick.{Room, Stage, staged, stepped, needs_more, step_records, reached_by, found_by, run_command, run_all, play_from, follow_word, tick_from, play_bit, playing_word, TracksRule}
use Rattle.board.specs.Tick.{members}
use Rattle.board.specs.Replay.{Each}
use Rattle.board.specs.Quiet.{CanLeap, Leapable, leap_into, leap_tracks}
use Rattle.board.proofs.points.Keys.{ascending-head, ascending-rest}
use Rattle.board.proofs.points.Rows.{ascending-weaken}
use Rattle.board.proofs.tick.Bits.{first_inside}
use Rattle.board.proofs.tick.Commands.{each_set, tracks_run, records_run}
use Rattle.board.proofs.quiet.Leaps.{leap-into, leap-tracks-long, leap-tracks-word, leap-tracks-zero}
use Rattle.board.proofs.advance.Members.{Stepping, stepping-start, stepping-step, stepping-room, stepping-over, stepping-done}
use Rattle.board.proofs.tick.Staging.{length-log, staged-none}
use Rattle.board.proofs.tick.Steps.{members-ascend}
use Rattle.board.proofs.follow.Following.{follow-adds}

-- ---- tracks leapt in their places, and another track

module _ (k i : ℕ) where
  -- a track below those leapt is as it was
  into-at : (ts : List Track) (is : List ℕ) (us : List Track) → ascending_from (suc i) is ≡ true → track_at (leap_into k ts is us) i ≡ track_at us i
  unfolding leap_into
  into-at ts [] us a = refl
  into-at ts (j ∷ js) us a =
      let l : i < j = ascending-head (suc i) j js a in
      into-at ts js (set us j (leap (track_at ts j) k)) (ascending-weaken (suc i) (suc j) js (omega arith) (ascending-rest (suc i) j js a))
      ∙ get_or-set_other us j i (leap (track_at ts j) k) no_track (λ q. omega arith)

  -- it can be put before the leaps or after them
  into-set : (ts : List Track) (is : List ℕ) (us : List Track) (u : Track) → ascending_from (suc i) is ≡ true
      → set (leap_into k ts is us) i u ≡ leap_into k ts is (set us i u)
  unfolding leap_into
  into-set ts [] us u a = refl
  into-set ts (j ∷ js) us u a =
      let l : i < j = ascending-head (suc i) j js a in
      into-set ts js (set us j (leap (track_at ts j) k)) u (ascending-weaken (suc i) (suc j) js (omega arith) (ascending-rest (suc i) j js a))
      ∙ ap (leap_into k ts js) (set_comm us j i (leap (track_at ts j) k) u (λ q. omega arith))

  -- and is not among those that are read
  into-from : (ts : List Track) (is : List ℕ) (us : List Track) (u : Track) → ascending_from (suc i) is ≡ true
      → leap_into k (set ts i u) is us ≡ leap_into k ts is us
  unfolding leap_into
  into-from ts [] us u a = refl
  into-from ts (j ∷ js) us u a =
      let l : i < j = ascending-head (suc i) j js a in
      into-from ts js (set us j (leap (track_at (set ts i u) j) k)) u (ascending-weaken (suc i) (suc j) js (omega arith) (ascending-rest (suc i) j js a))
      ∙ ap (λ (t : Track). leap_into k ts js (set us j (leap t k))) (get_or-set_other ts i j u no_track (λ q. omega arith))

-- ---- what a tick changes of a track, stored in its place, one field after the other

-- the five stores
abbrev in_mode : List Track → ℕ → ℕ → List Track
in_mode ts i v = let t = track_at ts i in set ts i (moved t v t.position.0 t.passes.0 t.due)

abbrev in_position : List Track → ℕ → ℕ → List Track
in_position ts i v = let t = track_at ts i in set ts i (moved t t.mode v t.passes.0 t.due)

abbrev in_passes : List Track → ℕ → ℕ → List Track
in_passes ts i v = let t = track_at ts i in set ts i (moved t t.mode t.position.0 v t.due)

abbrev in_due : List Track → ℕ → ℕ → List Track
in_due ts i v = let t = track_at ts i in set ts i (moved t t.mode t.position.0 t.passes.0 v)

abbrev in_remainder : List Track → ℕ → ℕ → List Track
in_remainder ts i v = set ts i (with_remainder (track_at ts i) v)

abbrev pub stored : List Track → ℕ → Stepped → List Track
stored ts i r =
    in_remainder (in_due (in_passes (in_position (in_mode ts i r.mode) i r.position.0) i r.passes.0) i r.due) i r.remainder

-- the track that they leave
abbrev stored_track : Track → Stepped → Track
stored_track t r = with_remainder (moved t r.mode r.position.0 r.passes.0 r.due) r.remainder

-- a track put in its place and changed there
set-again : (f : Track → Track) (ts : List Track) (i : ℕ) (u : Track) → i < length ts → set (set ts i u) i (f (track_at (set ts i u) i)) ≡ set ts i (f u)
set-again f ts i u h = set-set ts i u (f (track_at (set ts i u) i)) ∙ ap (λ (t : Track). set ts i (f t)) (get_or-set_same ts i u no_track h)

stored_is : (ts : List Track) (i : ℕ) (r : Stepped) → i < length ts → stored ts i r ≡ set ts i (stored_track (track_at ts i) r)
stored_is ts i r h =
    let t = track_at ts i in
    let a = set-again (λ u. moved u u.mode r.position.0 u.passes.0 u.due) ts i (moved t r.mode t.position.0 t.passes.0 t.due) h in
    let b = set-again (λ u. moved u u.mode u.position.0 r.passes.0 u.due) ts i (moved t r.mode r.position.0 t.passes.0 t.due) h in
    let c = set-again (λ u. moved u u.mode u.position.0 u.passes.0 r.due) ts i (moved t r.mode r.position.0 r.passes.0 t.due) h in
    let d = set-again (λ u. with_remainder u r.remainder) ts i (moved t r.mode r.position.0 r.passes.0 r.due) h in
    ap (λ (us : List Track). in_remainder (in_due (in_passes us i r.passes.0) i r.due) i r.remainder) a
    ∙ ap (λ (us : List Track). in_remainder (in_due us i r.due) i r.remainder) b
    ∙ ap (λ (us : List Track). in_remainder us i r.remainder) c
    ∙ d

-- a tick changes no other field, nor does a leap
step-moves : (t x : Track) (k : ℕ) (w : Bool) → x ≡ leap t k → stored_track t (stepped (played x w)) ≡ played x w
unfolding played step visited leap stride
step-moves t x k w e =
    subst (λ (x : Track). stored_track t (stepped (played x w)) ≡ played x w) (sym e)
    (cond_cases (λ (u : Track). stored_track t (stepped u) ≡ u) (moves (leap t k))
    (λ q. cond_cases (λ (u : Track). stored_track t (stepped u) ≡ u) (stops (with_remainder (leap t k) (remainder_left (leap t k)))) (λ q. refl) (λ q. refl))
    (λ q. refl))

-- ---- what a tick of a track that needs no more keeps

-- the playing word, where a track is replaced by one of its mode
word_set : (present : ℕ) (ts : List Track) (i : ℕ) (u : Track) → u.mode ≡ (track_at ts i).mode → playing_word present (set ts i u) ≡ playing_word present ts
unfolding playing_word
word_set present [] i u e = refl
word_set present (t ∷ ts) zero u e = ap (λ (m : ℕ). cond (eqb m PLAYING) (present % 2) 0 + playing_word (present / 2) ts * 2) e
word_set present (t ∷ ts) (suc i) u e = ap (λ (w : ℕ). play_bit (present % 2) t + w * 2) (word_set (present / 2) ts i u e)

-- points without a command do nothing
run_none : (clock : ℕ) (ds : List ℕ) (s : Stage) → Each (λ d. command_of d ≡ 0) ds → run_all clock ds s ≡ s
unfolding run_all run_command Each
run_none clock [] s e = refl
run_none clock (d ∷ ds) s e = rw (eq-eqb (command_of d) 0 e.0) (run_none clock ds s e.1)

-- one more of them
each_more : (ds : List ℕ) (d : ℕ) → command_of d ≡ 0 → Each (λ d. command_of d ≡ 0) ds → Each (λ d. command_of d ≡ 0) (ds ++ reached_by d)
unfolding Each
each_more [] d e a = go (eqb d 0)
  where
    go : (b : Bool) → Each (λ d. command_of d ≡ 0) (cond b [] (d ∷ []))
    go true = tt
    go false = (e, tt)
each_more (x ∷ xs) d e a = (a.0, each_more xs d e a.1)

-- ---- what needs more than the steps

-- nothing more is needed: nothing was, the point has no command, and the track plays
needs-more-not : (before : Bool) (d mode : ℕ) → (before || needs_more d mode) ≡ false → (before ≡ false) × (command_of d ≡ 0) × (mode ≡ PLAYING)
needs-more-not before d mode = go before (eqb (command_of d) 0) (eqb mode PLAYING) (eqb-true (command_of d) 0) (eqb-true mode PLAYING)
  where
    go : (a b c : Bool) → (b ≡ true → command_of d ≡ 0) → (c ≡ true → mode ≡ PLAYING) → (a || (not b || not c)) ≡ false
        → (a ≡ false) × (command_of d ≡ 0) × (mode ≡ PLAYING)
    go true b c f g e = absurd (true≢false e)
    go false false c f g e = absurd (true≢false e)
    go false true false f g e = absurd (true≢false e)
    go false true true f g e = (refl, f refl, g refl)

-- ---- where the pass begins

-- The pass begins with the tracks `ts` and has `unleapt` ticks still to leap. That leads to the same tracks as `skipped` ticks on from the
-- tracks `before`, and the same tracks play.
pub record Begins (present skipped : ℕ) (before : List Track) (unleapt : ℕ) (ts : List Track) : Type 0 where
  pub leaps : leap_tracks unleapt present ts ≡ leap_tracks skipped present before
  pub few : unleapt ≤ skipped
  pub word : playing_word present ts ≡ playing_word present before
  pub long : length ts ≡ track_count
  pub leapable : Leapable ts (members (playing_word present ts))

module _ (present skipped : ℕ) (before : List Track) (l : length before ≡ track_count) {unleapt : ℕ} {ts : List Track} where
  -- no tick is leapt before the pass
  pub begins-before : ts ≡ before → unleapt ≡ skipped → Leapable before (members (playing_word present before)) → Begins present skipped before unleapt ts
  begins-before et el a =
      record {
        leaps = ap₂ (λ (k : ℕ) (us : List Track). leap_tracks k present us) el et;
        few = omega (arith, el);
        word = ap (playing_word present) et;
        long = ap length et ∙ l;
        leapable = subst (λ (us : List Track). Leapable us (members (playing_word present us))) (sym et) a;
      }

  -- every tick is leapt before the pass, and none in it
  pub begins-leapt : ts ≡ leap_tracks skipped present before → unleapt ≡ 0 →
      Leapable (leap_tracks skipped present before) (members (playing_word present (leap_tracks skipped present before))) → Begins present skipped before unleapt ts
  begins-leapt et el a =
      let after = leap_tracks skipped present before in
      let l' : length after ≡ track_count = leap-tracks-long skipped present before ∙ l in
      record {
        leaps = ap₂ (λ (k : ℕ) (us : List Track). leap_tracks k present us) el et ∙ leap-tracks-zero present after l' a;
        few = omega (arith, el);
        word = ap (playing_word present) et ∙ leap-tracks-word skipped present before;
        long = ap length et ∙ l';
        leapable = subst (λ (us : List Track). Leapable us (members (playing_word present us))) (sym et) a;
      }

-- ---- a turn, as far as it has gone

-- `skipped` ticks leapt and one walked, of the members of `word` but for those of `rest`; so far `more` says whether a step needs more
pub record Turning (b : Board) (ts : List Track) (clock word skipped : ℕ) (stage reached : List ℕ) (next : List Track) (rest : ℕ) (more : Bool) : Type 0 where
  pub steps : Stepping b (leap_tracks skipped b.present ts) clock word stage reached (leap_into skipped next (members rest) next) rest
  pub ready : Leapable next (members rest)
  pub long : length next ≡ track_count
  pub same_word : more ≡ false → word ≡ playing_word b.present next
  pub no_command : more ≡ false → Each (λ d. command_of d ≡ 0) reached

pub turning-start : (b : Board) (ts : List Track) (clock word skipped : ℕ) → word ≡ playing_word b.present ts → length ts ≡ track_count →
    Leapable ts (members word) → Leapable (leap_tracks skipped b.present ts) (members (playing_word b.present (leap_tracks skipped b.present ts))) →
    ((i : ℕ) → is_present b.present i ≡ true → Valid (track_at (leap_tracks skipped b.present ts) i)) →
    Turning b ts clock word skipped [] [] ts word false
unfolding Each
turning-start b ts clock word skipped ew l leapable leapable' valid =
    let after = leap_tracks skipped b.present ts in
    let w = leap-tracks-word skipped b.present ts ∙ sym ew in
    record {
      steps = subst (λ (us : List Track). Stepping b after clock word [] [] us word)
          (sym (leap-into skipped b.present ts l) ∙ ap (λ (v : ℕ). leap_into skipped ts (members v) ts) (sym ew))
          (stepping-start b after clock word
          (subst (λ (v : ℕ). Leapable after (members v)) w leapable') valid (leap-tracks-long skipped b.present ts ∙ l));
      ready = leapable;
      long = l;
      same_word = λ e. ew;
      no_command = λ e. tt;
    }

module _ {b : Board} {ts : List Track} {clock word skipped : ℕ} {stage reached : List ℕ} {next : List Track} {rest : ℕ} {more : Bool}
    (s : Turning b ts clock word skipped stage reached next rest more) where
  -- where there is a member left
  module _ (i rest' : ℕ) (h : members rest ≡ i ∷ members rest') where
    above : ascending_from (suc i) (members rest') ≡ true
    above =
        ascending-rest 0 i (members rest')
        (subst (λ (is : List ℕ). ascending_from 0 is ≡ true) h (members-ascend track_count 0 rest))

    readies : Leapable next (i ∷ members rest')
    readies = subst (Leapable next) h s.ready

    -- it can be leapt
    pub turning-leapable : CanLeap (track_at next i)
    unfolding Each
    turning-leapable = readies.0

    -- its leap is the one that stands in its place
    ahead : leap_into skipped next (members rest) next ≡ leap_into skipped next (members rest') (set next i (leap (track_at next i) skipped))
    unfolding leap_into
    ahead = ap (λ (is : List ℕ). leap_into skipped next is next) h

    its-leap : track_at (leap_into skipped next (members rest) next) i ≡ leap (track_at next i) skipped
    its-leap =
        ap (λ (us : List Track). track_at us i) ahead
        ∙ into-at skipped i next (members rest') (set next i (leap (track_at next i) skipped)) above
        ∙ get_or-set_same next i (leap (track_at next i) skipped) no_track (omega (arith, s.long, first_inside rest i (members rest') h))

    -- the leapt track can step
    pub turning-leapt : CanLeap (leap (track_at next i) skipped)
    unfolding Each
    turning-leapt =
        subst CanLeap its-leap (subst (λ (is : List ℕ). Leapable (leap_into skipped next (members rest) next) is) h s.steps.leapable).0

    put : (u : Track) → set (leap_into skipped next (members rest) next) i u ≡ leap_into skipped (set next i u) (members rest') (set next i u)
    put u =
        ap (λ (us : List Track). set us i u) ahead
        ∙ into-set skipped i next (members rest') (set next i (leap (track_at next i) skipped)) u above
        ∙ ap (leap_into skipped next (members rest')) (set-set next i (leap (track_at next i) skipped) u)
        ∙ sym (into-from skipped i next (members rest') (set next i u) u above)

    -- there is room for its records
    pub turning-room : Room 2 stage
    turning-room = stepping-room _ _ _ _ _ _ _ _ s.steps i rest' h

    -- one member leapt and stepped: its records staged, its point noted
    turning-step : (us : List Track) → points_test b.present us 0 (keys_of b.points) (infos_of b.points) ≡ true →
        {x u : Track} {d : ℕ} {stage' reached' : List ℕ} {more' : Bool} → x ≡ leap (track_at next i) skipped →
        d ≡ found_by (keys_of b.points) (infos_of b.points) i x → u ≡ played x (waits d) →
        stage' ≡ stage ++ log_bytes (step_records (clock + 1) i x d) → reached' ≡ reached ++ reached_by d → more' ≡ (more || needs_more d u.mode) →
        Turning b ts clock word skipped stage' reached' (set next i u) rest' more'
    unfolding Each
    turning-step us p {x} {u} {d} {stage'} {reached'} {more'} ex ed eu es er et =
        record {
          steps = subst (λ (ns : List Track). Stepping b (leap_tracks skipped b.present ts) clock word stage' reached' ns rest') (put u)
              (subst (λ (t : Track). d ≡ found_by (keys_of b.points) (infos_of b.points) i t → u ≡ played t (waits d) → stage' ≡ stage ++ log_bytes (step_records (clock + 1) i t d) → Stepping b (leap_tracks skipped b.present ts) clock word stage' reached' (set (leap_into skipped next (members rest) next) i u) rest')
              (its-leap ∙ sym ex)
              (λ ed eu es. stepping-step _ _ _ _ _ _ _ _ s.steps i rest' h us p ed eu es er) ed eu es);
          ready = each_set CanLeap next i u (members rest') above readies.1;
          long = length-set next i u ∙ s.long;
          same_word = λ e.
              let n = needs-more-not more d u.mode (sym et ∙ e) in
              s.same_word n.0 ∙ sym (word_set b.present next i u (n.2 ∙ sym turning-leapable.plays));
          no_command = λ e.
              let n = needs-more-not more d u.mode (sym et ∙ e) in
              subst (Each (λ d. command_of d ≡ 0)) (sym er) (each_more reached d n.1 (s.no_command n.0));
        }

    -- the same, where the step's fields are stored one after the other
    pub turning-store : (us : List Track) → points_test b.present us 0 (keys_of b.points) (infos_of b.points) ≡ true →
        {x : Track} {r : Stepped} {d : ℕ} {stage' reached' : List ℕ} {more' : Bool} → x ≡ leap (track_at next i) skipped →
        d ≡ found_by (keys_of b.points) (infos_of b.points) i x → r ≡ stepped (played x (waits d)) →
        stage' ≡ stage ++ log_bytes (step_records (clock + 1) i x d) → reached' ≡ reached ++ reached_by d → more' ≡ (more || needs_more d r.mode) →
        Turning b ts clock word skipped stage' reached' (stored next i r) rest' more'
    turning-store us p {x} {r} {d} {stage'} {reached'} {more'} ex ed e es er et =
        subst (λ (ns : List Track). Turning b ts clock word skipped stage' reached' ns rest' more')
        (sym (stored_is next i r (omega (arith, s.long, first_inside rest i (members rest') h))))
        (turning-step us p ex ed (ap (stored_track (track_at next i)) e ∙ step-moves (track_at next i) x skipped (waits d) ex) es er et)

-- ---- the ways out

-- the steps and the commands of a tick from the tracks ts are worked out: the tracks after them, their records in the stage, the playing word
pub record Played (b : Board) (ts : List Track) (clock : ℕ) (after : List Track) (stage : List ℕ) (word : ℕ) : Type 0 where
  pub tracks : after ≡ (play_from (keys_of b.points) (infos_of b.points) (clock + 1) b.present ts).tracks
  pub bytes : stage ≡ log_bytes (play_from (keys_of b.points) (infos_of b.points) (clock + 1) b.present ts).records
  pub word_is : word ≡ playing_word b.present after

module _ {b : Board} {ts : List Track} {clock word skipped : ℕ} (ew : word ≡ playing_word b.present ts) {stage reached : List ℕ} {next : List Track}
    {rest : ℕ} {more : Bool} (s : Turning b ts clock word skipped stage reached next rest more) where
  abbrev leapt : List Track
  leapt = leap_tracks skipped b.present ts

  same : word ≡ playing_word b.present leapt
  same = ew ∙ sym (leap-tracks-word skipped b.present ts)

  -- records staged so far are part of the tick's
  pub turning-over : {n : ℕ} → length stage ≡ n * record_width → n ≤ length (tick_from (keys_of b.points) (infos_of b.points) (clock + 1) b.present leapt).records
  unfolding tick_from
  turning-over el =
      let all = play_from (keys_of b.points) (infos_of b.points) (clock + 1) b.present leapt in
      omega (
        arith,
        stepping-over b leapt clock word same stage reached _ rest s.steps el,
        follow-adds (clock + 1) (members (follow_word b.present leapt)) all,
      )

  module _ (h : members rest ≡ []) where
    over : leap_into skipped next (members rest) next ≡ next
    unfolding leap_into
    over = ap (λ (is : List ℕ). leap_into skipped next is next) h

    all-stepped : Stepping b leapt clock word stage reached next rest
    all-stepped = subst (λ (us : List Track). Stepping b leapt clock word stage reached us rest) over s.steps

    -- what the commands may rely on
    pub turning-rule : TracksRule b.present next reached
    turning-rule = all-stepped.rule

    pub turning-commands : Room (length reached) stage
    turning-commands =
        omega (arith, length-log all-stepped.records, ap length all-stepped.bytes_are, all-stepped.few_records, all-stepped.few_reached)

    -- a command to run, or a track that plays no more
    pub turning-more : {after : List Track} {stage' : List ℕ} {word' : ℕ} → after ≡ tracks_run (clock + 1) reached next →
        stage' ≡ stage ++ log_bytes (records_run (clock + 1) reached next) → word' ≡ playing_word b.present after → Played b leapt clock after stage' word'
    turning-more ea es eq =
        let d = stepping-done b leapt clock word same stage reached next rest all-stepped h ea es in
        record { tracks = d.0; bytes = d.1; word_is = eq }

    -- neither
    pub turning-still : more ≡ false → {after : List Track} {stage' : List ℕ} {word' : ℕ} → after ≡ next → stage' ≡ stage → word' ≡ word →
        Played b leapt clock after stage' word'
    turning-still e ea es eq =
        let none = run_none (clock + 1) reached (staged next [] []) (s.no_command e) in
        turning-more (ea ∙ sym (ap (λ (x : Stage). x.tracks) none)) (es ∙ staged-none stage (ap (λ (x : Stage). x.records) none))
        (eq ∙ s.same_word e ∙ ap (playing_word b.present) (sym ea))
