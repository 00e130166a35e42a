-- The commands of a tick: what each leaves and writes, and what all of them do.
use Rattle.std.specs.Prelude.{Option, Some, None}
use mathlib.Core.Path.{◌≡◌, refl, sym, ap, subst, ◌∙◌}
use mathlib.Core.Bool.{Bool, true, false, cond, ◌&&◌, ◌||◌}
use mathlib.Core.List.{List, [], ◌∷◌, ◌++◌, map, append-nil, append_assoc}
use Rattle.std.proofs.lemmas.List.{get_or-map}
use Prim.Native.Nat.{ℕ, zero, suc, ◌+◌, ◌-◌, ◌≤◌, ◌<◌}
use native.Mathlib.Omega.{arith}
use native.Mathlib.Numerals.{add-one}
use lib.Dec.{eqb, leb}
use lib.ListN.{length, drop, set, get_or, length-append, length-set, length-map, drop_of_length-le}
use lib.Seq.{set-get_or, drop-cons, get_or-set_other}
use Rattle.track.specs.declared.Track.{Track}
use Rattle.track.specs.Rule.{STOPPED, PLAYING, PAUSED, WAITING, Valid, entered}
use Rattle.track.specs.Grid.{PLAY, PAUSE, RESUME, STOP, grid_of}
use Rattle.track.proofs.Tests.{cond_cases}
use Rattle.track.proofs.Arrivals.{entered-valid}
use Rattle.board.specs.declared.info.Info.{Info}
use Rattle.board.specs.declared.log.Record.{Record}
use Rattle.board.specs.Log.{log_bytes}
use Rattle.board.specs.Board.{no_track, track_at, is_present}
use Rattle.board.specs.Tick.{Room, Stage, staged, command_records, commanded, obeyed, obeyed_records, run_command, run_all, TracksRule}
use Rattle.board.specs.Points.{ascending_from, command_of, target_of, track_count, InfoRule}
use Rattle.board.specs.Replay.{Each}
use Rattle.board.proofs.points.Keys.{ascending-head, ascending-rest}
use Rattle.board.proofs.points.Rows.{ascending-weaken}
use Rattle.board.proofs.tick.Staging.{obeyed-most, staged-none, staged-more, staged-long}

-- ---- one command

-- a mode that the grid takes a track to is a mode
abbrev pub Goes? : Option ℕ → Type 0
Goes? (Some m) = m ≤ WAITING
Goes? None = Unit {0}

pub grid-goes : (mode call : ℕ) → Goes? (grid_of mode call)
unfolding grid_of
grid-goes mode call =
    cond_cases Goes? (eqb call PLAY && eqb mode STOPPED) (λ e. omega arith)
    (λ e. cond_cases Goes? (eqb call PAUSE && (eqb mode PLAYING || eqb mode WAITING)) (λ e. omega arith)
    (λ e. cond_cases Goes? (eqb call RESUME && (eqb mode PAUSED || eqb mode WAITING)) (λ e. omega arith)
    (λ e. cond_cases Goes? (eqb call STOP && leb mode WAITING) (λ e. omega arith) (λ e. tt))))

module _ (P : Track → Type 0) (t : Track) (p : P t) (f : (m : ℕ) → m ≤ WAITING → P (entered t m)) where
  ruled-keeps : (r : Option ℕ) → Goes? r → P (commanded t r)
  unfolding commanded
  ruled-keeps (Some m) g = f m g
  ruled-keeps None g = p

  -- what holds of a track and of what it is in every other mode, a command keeps
  pub obeyed-keeps : (d : ℕ) → P (obeyed d t)
  obeyed-keeps d =
      cond_cases P (eqb (command_of d) 0) (λ e. p) (λ e. ruled-keeps (grid_of t.mode (command_of d)) (grid-goes t.mode (command_of d)))

-- tracks of higher numbers are as they were
pub each_set : (P : Track → Type 0) (ts : List Track) (i : ℕ) (t : Track) (is : List ℕ) → ascending_from (suc i) is ≡ true
    → Each (λ j. P (track_at ts j)) is → Each (λ j. P (track_at (set ts i t) j)) is
unfolding Each
each_set P ts i t [] a e = tt
each_set P ts i t (j ∷ js) a e =
    let l : i < j = ascending-head (suc i) j js a in
    let r : ascending_from (suc i) js ≡ true = ascending-weaken (suc i) (suc j) js (omega arith) (ascending-rest (suc i) j js a) in
    (subst P (sym (get_or-set_other ts i j t no_track (λ q. omega arith))) e.0, each_set P ts i t js r e.1)

-- what holds of a track as it was, and of the one put there, holds of it afterwards
pub at_set : (P : Track → Type 0) (ts : List Track) (k i : ℕ) (x : Track) → P (track_at ts i) → (i ≡ k → P x) → P (track_at (set ts k x) i)
at_set P [] k i x p q = p
at_set P (t ∷ ts) zero zero x p q = q refl
at_set P (t ∷ ts) zero (suc i) x p q = p
at_set P (t ∷ ts) (suc k) zero x p q = p
at_set P (t ∷ ts) (suc k) (suc i) x p q = at_set P ts k i x p (λ e. q (ap suc e))

-- the tracks after a command
abbrev pub obeyed_in : ℕ → List Track → List Track
obeyed_in d ts = set ts (target_of d) (obeyed d (track_at ts (target_of d)))

-- and what it writes
abbrev pub records_in : ℕ → ℕ → List Track → List Record
records_in clock d ts = obeyed_records clock d (track_at ts (target_of d))

-- a command changes the tracks, and writes behind the records
pub run-obeyed : (clock d : ℕ) (s : Stage) → run_command clock d s ≡ staged (obeyed_in d s.tracks) (s.records ++ records_in clock d s.tracks) s.reached
unfolding run_command
run-obeyed clock d s = go (eqb (command_of d) 0)
  where
    t : Track
    t = track_at s.tracks (target_of d)

    r : Option ℕ
    r = grid_of t.mode (command_of d)

    go : (b : Bool) → cond b s (staged (set s.tracks (target_of d) (commanded t r)) (s.records ++ command_records clock d t r) s.reached)
        ≡ staged (set s.tracks (target_of d) (cond b t (commanded t r))) (s.records ++ cond b [] (command_records clock d t r)) s.reached
    go true = λ i. staged (sym (set-get_or s.tracks (target_of d) no_track) i) (sym (append-nil s.records) i) s.reached
    go false = refl

-- ---- all commands

-- the tracks after commands, and what they write
abbrev pub tracks_run : ℕ → List ℕ → List Track → List Track
tracks_run clock ds ts = (run_all clock ds (staged ts [] [])).tracks

abbrev pub records_run : ℕ → List ℕ → List Track → List Record
records_run clock ds ts = (run_all clock ds (staged ts [] [])).records

module _ (clock : ℕ) where
  -- from any stage the commands change the tracks as they do from an empty one, write behind the records, and leave the points reached
  pub run-apart : (ds : List ℕ) (ts : List Track) (rs : List Record) (qs : List ℕ)
      → run_all clock ds (staged ts rs qs) ≡ staged (tracks_run clock ds ts) (rs ++ records_run clock ds ts) qs
  unfolding run_all
  run-apart [] ts rs qs = λ i. staged ts (sym (append-nil rs) i) qs
  run-apart (d ∷ ds) ts rs qs =
      let us = obeyed_in d ts in
      let os = records_in clock d ts in
      let from : (rs : List Record) (qs : List ℕ) → run_all clock ds (run_command clock d (staged ts rs qs)) ≡ staged (tracks_run clock ds us) (rs ++ (os ++ records_run clock ds us)) qs =
      λ rs qs. ap (run_all clock ds) (run-obeyed clock d (staged ts rs qs)) ∙ run-apart ds us (rs ++ os) qs
      ∙ (λ i. staged (tracks_run clock ds us) (append_assoc rs os (records_run clock ds us) i) qs) in
      from rs qs ∙ sym (ap (λ (s : Stage). staged s.tracks (rs ++ s.records) qs) (from [] []))

  module _ (d : ℕ) (ds : List ℕ) (ts : List Track) where
    run-first : run_all clock (d ∷ ds) (staged ts [] []) ≡ staged (tracks_run clock ds (obeyed_in d ts)) (records_in clock d ts ++ records_run clock ds (obeyed_in d ts)) []
    unfolding run_all
    run-first = ap (run_all clock ds) (run-obeyed clock d (staged ts [] [])) ∙ run-apart ds (obeyed_in d ts) (records_in clock d ts) []

    -- the first command, then the others
    pub tracks-first : tracks_run clock (d ∷ ds) ts ≡ tracks_run clock ds (obeyed_in d ts)
    tracks-first = ap (λ (s : Stage). s.tracks) run-first

    pub records-first : records_run clock (d ∷ ds) ts ≡ records_in clock d ts ++ records_run clock ds (obeyed_in d ts)
    records-first = ap (λ (s : Stage). s.records) run-first

  -- each command writes at most one record
  pub run-most : (ds : List ℕ) (ts : List Track) → length (records_run clock ds ts) ≤ length ds
  unfolding run_all
  run-most [] ts = omega arith
  run-most (d ∷ ds) ts =
      let e = ap length (records-first d ds ts) ∙ length-append (records_in clock d ts) (records_run clock ds (obeyed_in d ts)) in
      omega (arith, run-most ds (obeyed_in d ts), obeyed-most clock d (track_at ts (target_of d)))

  -- commands leave as many tracks
  pub run_long : (ds : List ℕ) (s : Stage) → length (run_all clock ds s).tracks ≡ length s.tracks
  unfolding run_all
  run_long [] s = refl
  run_long (d ∷ ds) s =
      run_long ds (run_command clock d s) ∙ ap (λ (s : Stage). length s.tracks) (run-obeyed clock d s)
      ∙ length-set s.tracks (target_of d) (obeyed d (track_at s.tracks (target_of d)))

  -- what a change of mode keeps, commands keep at every index
  pub run_at : (P : Track → Type 0) → ((t : Track) → P t → (m : ℕ) → m ≤ WAITING → P (entered t m)) → (i : ℕ) (ds : List ℕ) (s : Stage)
      → P (track_at s.tracks i) → P (track_at (run_all clock ds s).tracks i)
  unfolding run_all
  run_at P f i [] s p = p
  run_at P f i (d ∷ ds) s p =
      let ts = s.tracks in
      let g = target_of d in
      let q : P (track_at (obeyed_in d ts) i) = at_set P ts g i (obeyed d (track_at ts g)) p
      (λ e. let h = subst (λ (j : ℕ). P (track_at ts j)) e p in obeyed-keeps P (track_at ts g) h (f (track_at ts g) h) d) in
      run_at P f i ds (run_command clock d s) (subst (λ (s : Stage). P (track_at s.tracks i)) (sym (run-obeyed clock d s)) q)

-- ---- the records only grow

-- all commands
pub run_more : (clock : ℕ) (ds : List ℕ) (s : Stage) → length s.records ≤ length (run_all clock ds s).records
run_more clock ds s =
    let e = ap (λ (x : Stage). length x.records) (run-apart clock ds s.tracks s.records s.reached) in
    let l = length-append s.records (records_run clock ds s.tracks) in
    omega arith

-- by at most one for each command
pub run-adds : (clock : ℕ) (ds : List ℕ) (s : Stage) → length (run_all clock ds s).records ≤ length s.records + length ds
run-adds clock ds s =
    let e = ap (λ (x : Stage). length x.records) (run-apart clock ds s.tracks s.records s.reached) in
    let l = length-append s.records (records_run clock ds s.tracks) in
    omega (arith, run-most clock ds s.tracks)

-- ---- the rules are kept

-- a command on a present track keeps the rules
pub rule-kept : (present : ℕ) (ts : List Track) (ds : List ℕ) (j : ℕ) → TracksRule present ts ds → j < length ds
    → TracksRule present (obeyed_in (get_or ds j 0) ts) ds
rule-kept present ts ds j r l =
    let d = get_or ds j 0 in
    let t = track_at ts (target_of d) in
    record {
      tracks = λ i h. at_set Valid ts (target_of d) i (obeyed d t) (r.tracks i h)
          (λ e. let v = subst (λ (k : ℕ). Valid (track_at ts k)) e (r.tracks i h) in obeyed-keeps Valid t v (entered-valid t v) d);
      infos = r.infos;
      targets = r.targets;
    }

-- ---- the turns of the loop over the commands

-- an info of a list, by the list of their numbers
pub number-at : (ds : List Info) {ns : List ℕ} (j : ℕ) {d : Info} → map (λ (d : Info). d.number) ds ≡ ns → j < length ds → d ≡ get_or ds j d
    → (j < length ns) × (get_or ns j 0 ≡ d.number)
number-at ds {ns} j {d} e l is =
    let long = length-map ds (λ (d : Info). d.number) in (
      omega (arith, ap length e),
      ap (λ (ns : List ℕ). get_or ns j 0) (sym e) ∙ get_or-map (λ (d : Info). d.number) ds j d 0 l ∙ ap (λ (d : Info). d.number) (sym is),
    )

-- Before turn j: the commands left do from here what all of them do from the start.
pub record Turns (present clock : ℕ) (ds : List ℕ) (ts₀ : List Track) (xs₀ : List ℕ) (ts : List Track) (xs : List ℕ) (j : ℕ) : Type 0 where
  pub rule : TracksRule present ts ds
  pub long : length ts ≡ track_count
  pub room : Room (length ds - j) xs
  pub tracks : tracks_run clock (drop j ds) ts ≡ tracks_run clock ds ts₀
  pub bytes : xs ++ log_bytes (records_run clock (drop j ds) ts) ≡ xs₀ ++ log_bytes (records_run clock ds ts₀)

module _ (present clock : ℕ) (ds : List ℕ) (ts₀ : List Track) (xs₀ : List ℕ) where
  -- at first
  pub turns-start : TracksRule present ts₀ ds → length ts₀ ≡ track_count → Room (length ds) xs₀ → Turns present clock ds ts₀ xs₀ ts₀ xs₀ 0
  turns-start r l h = record { rule = r; long = l; room = omega arith; tracks = refl; bytes = refl }

  module _ (ts : List Track) (xs : List ℕ) (j : ℕ) (t : Turns present clock ds ts₀ xs₀ ts xs j) where
    -- at the end
    pub turns-end : length ds ≤ j → (ts ≡ tracks_run clock ds ts₀) × (xs ≡ xs₀ ++ log_bytes (records_run clock ds ts₀))
    unfolding run_all
    turns-end h =
        let e = drop_of_length-le ds {i = j} h in (
          sym (ap (λ (l : List ℕ). tracks_run clock l ts) e) ∙ t.tracks,
          staged-none xs (ap (λ (l : List ℕ). records_run clock l ts) e) ∙ t.bytes,
        )

    module _ (l : j < length ds) (d : ℕ) (ed : get_or ds j 0 ≡ d) where
      -- the info of a turn keeps its rule
      pub turn-rule : InfoRule d
      turn-rule = subst InfoRule ed (t.rule.infos j l)

      -- its target is valid, if it has a command
      pub turn-valid : (command_of d ≡ 0 → ⊥) → Valid (track_at ts (target_of d))
      turn-valid z =
          t.rule.tracks (target_of d)
          (subst (λ (d : ℕ). (command_of d ≡ 0 → ⊥) → is_present present (target_of d) ≡ true) ed (t.rule.targets j l) z)

      -- after a turn
      pub turn : {ys : List ℕ} {u : Track} → u ≡ obeyed d (track_at ts (target_of d)) → ys ≡ xs ++ log_bytes (records_in clock d ts)
          → Turns present clock ds ts₀ xs₀ (set ts (target_of d) u) ys (j + 1)
      turn {ys} {u} eo es =
          let os = records_in clock d ts in
          let us = obeyed_in d ts in
          let rest = records_run clock (drop (j + 1) ds) us in
          let e : drop j ds ≡ d ∷ drop (j + 1) ds = drop-cons ds j 0 l ∙ (λ i. ed i ∷ drop (sym (add-one j) i) ds) in
          let et : set ts (target_of d) u ≡ us = ap (set ts (target_of d)) eo in
          let er : records_run clock (drop j ds) ts ≡ os ++ rest = ap (λ (l : List ℕ). records_run clock l ts) e ∙ records-first clock d (drop (j + 1) ds) ts in
          let eu : tracks_run clock (drop j ds) ts ≡ tracks_run clock (drop (j + 1) ds) us = ap (λ (l : List ℕ). tracks_run clock l ts) e ∙ tracks-first clock d (drop (j + 1) ds) ts in
          let most : length os ≤ 1 = obeyed-most clock d (track_at ts (target_of d)) in
          record {
            rule = subst (λ (us : List Track). TracksRule present us ds) (sym et)
                (subst (λ (d : ℕ). TracksRule present (obeyed_in d ts) ds) ed (rule-kept present ts ds j t.rule l));
            long = length-set ts (target_of d) u ∙ t.long;
            room = omega (arith, t.room, most, staged-long xs os es);
            tracks = ap (tracks_run clock (drop (j + 1) ds)) et ∙ sym eu ∙ t.tracks;
            bytes = ap (λ (us : List Track). ys ++ log_bytes (records_run clock (drop (j + 1) ds) us)) et
                ∙ staged-more xs os rest es refl ∙ ap (λ (rs : List Record). xs ++ log_bytes rs) (sym er) ∙ t.bytes;
          }
