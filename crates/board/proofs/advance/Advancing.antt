-- The laws of the tick loop: what is left to do from where it stands is what was to do at the start.
use Rattle.std.specs.Prelude.{Option, Some, None}
use Prim.Native.Nat.{ℕ, zero, suc, ◌+◌, ◌-◌, ◌*◌, ◌≤◌, ◌<◌}
use mathlib.Core.Path.{◌≡◌, refl, sym, ◌∙◌, ap, subst}
use mathlib.Core.Bool.{true, false, ◌&&◌}
use mathlib.Core.List.{List, [], ◌∷◌}
use native.Mathlib.Nat.{add-zero, zero-add, mul_comm}
use native.Mathlib.Omega.{arith}
use lib.Dec.{leb}
use lib.ListN.{length}
use lib.Seq.{sets}
use borrow.Author.Tests.{le-leb, lt-leb}
use Rattle.track.specs.declared.Track.{Track}
use Rattle.track.specs.Rule.{clock_end}
use Rattle.track.proofs.Tests.{both}
use Rattle.board.specs.declared.Board.{Board}
use lib.IntN.{ℤ}
use Rattle.track.specs.Number.{natural_of}
use Rattle.board.specs.Setup.{board_with}
use Rattle.board.specs.declared.call.Call.TheVariants as call
use Rattle.board.specs.declared.advance.Left.{Left}
use Rattle.board.specs.declared.call.Advanced.{Advanced}
use Rattle.board.specs.declared.call.Advanced.TheVariants as advanced
use Rattle.board.specs.Log.{write_at, record_width, log_bytes, capacity}
use Rattle.board.specs.Board.{unbroken_parts, unbroken_test, points_test, tracks_test, shape_test, track_at}
use Rattle.board.specs.Points.{point_most, keys_of, infos_of, track_count}
use Rattle.board.specs.Tick.{Stage, staged, tick_from, playing_word, follow_word, members}
use Rattle.board.specs.Replay.{Each}
use Rattle.board.specs.Steady.{SteadyFor}
use Rattle.board.specs.Quiet.{QuietFor, master_of, Leapable, leap_tracks, leap_into}
use Rattle.board.specs.Cut.{Ran, Did, ticks, counted, sorted}
use Rattle.board.specs.Replay.{World, w-halt, w-step, w-bar, perform}
use Rattle.board.specs.Call.{Reply, refused, Stop, ends, fills, gridstep, halt_of, bar_of, barred, says_of, makes_of, most, run_count, advance_by, does, Gives, world, stopped_by, advanced_said}
use Rattle.board.specs.Advance.{Ended, board_left}
use Rattle.board.proofs.replay.Cuts.{ticks-on, advance-in, advance-out, later, later-on, later-off, later-done, later-leap}
use Rattle.board.proofs.replay.Replays.{sets-write}
use Rattle.board.proofs.tick.Staging.{length-log, write-none}
use Rattle.board.proofs.call.Machine.{flat-is}
use Rattle.board.proofs.tick.Steps.{tick-keeps}
use Rattle.board.proofs.quiet.Leaps.{leap-tracks-zero, leap-tracks-long, leap-into}
use Rattle.board.proofs.quiet.Pairs.{Mastered}
use Rattle.board.proofs.quiet.Stretches.{stretch-ticks}

-- b with other tracks, another clock and another number of records held
abbrev pub board_at : Board → List Track → ℕ → ℕ → Board
board_at b ts clock held = record { tracks = ts; present = b.present; points = b.points; clock = record { 0 = clock }; held = held }

abbrev halt : World Board → Option Stop
halt = w-halt gridstep

abbrev step : World Board → World Board
step = w-step gridstep

abbrev pub go : ℕ → World Board → Ran Stop (World Board)
go = ticks (w-halt gridstep) (w-step gridstep)

-- the points of a board that passes the test keep their rules
pub whole-points : (b : Board) → unbroken_test b ≡ true → points_test b.present b.tracks 0 (keys_of b.points) (infos_of b.points) ≡ true
unfolding unbroken_parts
whole-points b h =
    let n = b.points.count in
    let points = points_test b.present b.tracks 0 (keys_of b.points) (infos_of b.points) in
    let tracks = tracks_test b.present b.present 0 b.tracks b.clock in
    let rest = points && shape_test b.present b.tracks b.points.keys b.points.infos in
    let p = both (leb b.clock.0 clock_end) (leb n point_most && (tracks && rest)) h in
    (both points _ (both tracks rest (both (leb n point_most) (tracks && rest) p.1).1).1).0

-- where the tick loop stands: `taken` ticks done of `count`, on a log of the length it had
pub record Going (b : Board) (count : ℕ) (log₀ log : List ℕ) (ts : List Track) (clock held taken : ℕ) (answer : Advanced) : Type 0 where
  pub taken_le : taken ≤ count
  pub answer_is : answer ≡ advanced.Done (record { 0 = taken })
  pub so_far : go count (world b log₀) ≡ later taken (go (count - taken) (world (board_at b ts clock held) log))
  pub whole : unbroken_test (board_at b ts clock held) ≡ true
  pub fits : held ≤ capacity (length log₀)
  pub long : length log ≡ length log₀
  pub tracks_long : length ts ≡ track_count

pub going_start : (b : Board) (count : ℕ) (log : List ℕ) → unbroken_test b ≡ true → b.held ≤ capacity (length log) → length b.tracks ≡ track_count →
    Going b count log log b.tracks b.clock.0 b.held 0 (advanced.Done (record { 0 = 0 }))
going_start b count log h f l =
    record {
      taken_le = omega arith;
      answer_is = refl;
      so_far = let e : count - 0 ≡ count = omega arith in rw e (rw (zero-add (go count (world b log)).taken));
      whole = h;
      fits = f;
      long = refl;
      tracks_long = l;
    }

-- ---- what a tick meets

module _ (b : Board) (log : List ℕ) (ts : List Track) (clock held : ℕ) where
  abbrev here : World Board
  here = world (board_at b ts clock held) log

  abbrev pub stage_of : Stage
  stage_of = tick_from (keys_of b.points) (infos_of b.points) (clock + 1) b.present ts

  pub halt-ends : clock_end ≤ clock → halt here ≡ Some ends
  unfolding halt_of
  halt-ends h = simp (le-leb clock_end clock h)

  pub halt-fills : clock < clock_end → capacity (length log) < held + length stage_of.records → halt here ≡ Some fills
  unfolding halt_of
  halt-fills h l = simp (lt-leb clock_end clock h, lt-leb (held + length stage_of.records) (capacity (length log)) l)

  pub halt-none : clock < clock_end → held + length stage_of.records ≤ capacity (length log) → halt here ≡ None
  unfolding halt_of
  halt-none h l = simp (lt-leb clock_end clock h, le-leb (held + length stage_of.records) (capacity (length log)) l)

  -- a tick taken: its records behind the held ones
  pub step_is : held + length stage_of.records ≤ capacity (length log) →
      step here ≡ world (board_at b stage_of.tracks (clock + 1) (held + length stage_of.records)) (write_at log (held * record_width) (log_bytes stage_of.records))
  step_is l =
      ap (λ (bs : List ℕ). world (board_at b stage_of.tracks (clock + 1) (held + length stage_of.records)) bs)
      (ap (λ (bs : List ℕ). sets log (record_width * held) bs) (flat-is stage_of.records)
      ∙ ap (λ (k : ℕ). sets log k (log_bytes stage_of.records)) (mul_comm record_width held)
      ∙ sets-write log (log_bytes stage_of.records) (held * record_width) (omega (arith, length-log stage_of.records)))

-- ---- the ways out

module _ (b : Board) (count : ℕ) (log₀ log : List ℕ) (ts : List Track) (clock held taken : ℕ) (answer : Advanced)
    (g : Going b count log₀ log ts clock held taken answer) where
  abbrev Out : Advanced → Type 0
  Out a = Ended b (go count (world b log₀)) (record { answer = a; tracks = ts; clock = record { 0 = clock }; held = held }) log

  stopped : (e : Stop) (a : Advanced) → advanced_said a ≡ stopped_by taken (Some e) → taken < count →
      halt (world (board_at b ts clock held) log) ≡ Some e → Out a
  stopped e a s l h =
      let q = g.so_far ∙ later-off halt step count taken (world (board_at b ts clock held) log) e l h in
      record {
        answer_is = s ∙ sym (ap (λ (r : Ran Stop (World Board)). stopped_by r.taken r.why) q);
        board_is = sym (ap (λ (r : Ran Stop (World Board)). r.end.board) q);
        log_is = sym (ap (λ (r : Ran Stop (World Board)). r.end.log) q);
      }

  -- the clock's end
  pub going-ends : taken < count → clock ≡ clock_end → Out (advanced.ClockEnd (record { 0 = taken }))
  going-ends l e = stopped ends _ refl l (halt-ends b log ts clock held (omega arith))

  -- no room
  pub going-full : taken < count → clock < clock_end → capacity (length log₀) - held < length (stage_of b log ts clock held).records →
      Out (advanced.LogFull (record { 0 = taken }))
  going-full l c r = stopped fills _ refl l (halt-fills b log ts clock held c (rw g.long (omega (arith, g.fits))))

  -- the count is reached
  pub going_done : count ≤ taken → Out answer
  going_done l =
      let q = g.so_far ∙ later-done halt step count taken (world (board_at b ts clock held) log) l in
      record {
        answer_is = ap advanced_said g.answer_is ∙ sym (ap (λ (r : Ran Stop (World Board)). stopped_by r.taken r.why) q);
        board_is = sym (ap (λ (r : Ran Stop (World Board)). r.end.board) q);
        log_is = sym (ap (λ (r : Ran Stop (World Board)). r.end.log) q);
      }

  -- ---- one tick more
  pub going-tick : taken < count → clock < clock_end → {next : List Track} {total : ℕ} {log' : List ℕ} →
      next ≡ (stage_of b log ts clock held).tracks → total ≡ length (stage_of b log ts clock held).records →
      total ≤ capacity (length log₀) - held → log' ≡ write_at log (held * record_width) (log_bytes (stage_of b log ts clock held).records) →
      length log' ≡ length log → length next ≡ track_count →
      Going b count log₀ log' next (clock + 1) (held + total) (taken + 1) (advanced.Done (record { 0 = taken + 1 }))
  going-tick l c {next} {total} {log'} en et room el long16 ln =
      let fit : held + length (stage_of b log ts clock held).records ≤ capacity (length log) = rw g.long (omega (arith, g.fits)) in
      let w = world (board_at b ts clock held) log in
      let after : step w ≡ world (board_at b next (clock + 1) (held + total)) log' =
      step_is b log ts clock held fit
      ∙ (λ j. world (board_at b (sym en j) (clock + 1) (held + sym et j)) (sym el j)) in
      record {
        taken_le = omega arith;
        answer_is = refl;
        so_far = g.so_far ∙ later-on halt step count taken w l (halt-none b log ts clock held c fit)
            ∙ ap (λ (s : World Board). later (taken + 1) (go (count - (taken + 1)) s)) after;
        whole = subst (λ (ns : List Track). unbroken_test (board_at b ns (clock + 1) (held + total)) ≡ true) (sym en)
            (tick-keeps (board_at b ts clock held) (held + total) g.whole c);
        fits = omega (arith, g.fits);
        long = long16 ∙ g.long;
        tracks_long = ln;
      }

-- ---- a leap over quiet ticks

module _ (b : Board) (log : List ℕ) (ts : List Track) (clock held r : ℕ) (l : length ts ≡ track_count)
    (leapable : Leapable ts (members (playing_word b.present ts)))
    (skipped : Each (λ i. QuietFor (keys_of b.points) r i (track_at ts i)) (members (playing_word b.present ts)))
    (mastered : Mastered b.present ts (members (follow_word b.present ts)))
    (steady : Each (λ i. SteadyFor r (track_at ts i) (master_of ts i)) (members (follow_word b.present ts)))
    (fit : held ≤ capacity (length log)) where
  abbrev leapt : ℕ → List Track
  leapt j = leap_tracks j b.present ts

  -- where j of them lead
  abbrev pub at : ℕ → World Board
  at j = world (board_at b (leapt j) (clock + j) held) log

  quiet-stage : (j : ℕ) → j < r → stage_of b log (leapt j) (clock + j) held ≡ staged (leapt (suc j)) [] []
  quiet-stage j h = stretch-ticks (keys_of b.points) (infos_of b.points) b.present ts l leapable mastered r skipped steady (clock + j + 1) j h

  none_written : (j : ℕ) → j < r → held + length (stage_of b log (leapt j) (clock + j) held).records ≤ capacity (length log)
  none_written j h = omega (arith, ap (λ (s : Stage). length s.records) (quiet-stage j h))

  -- each is taken
  pub halt-at : (j : ℕ) → j < r → clock + j < clock_end → halt (at j) ≡ None
  halt-at j h c = halt-none b log (leapt j) (clock + j) held c (none_written j h)

  pub step-at : (j : ℕ) → j < r → step (at j) ≡ at (suc j)
  unfolding log_bytes
  step-at j h =
      let e : clock + j + 1 ≡ clock + suc j = omega arith in
      step_is b log (leapt j) (clock + j) held (none_written j h)
      ∙ ap (λ (s : Stage). world (board_at b s.tracks (clock + j + 1) (held + length s.records)) (write_at log (held * record_width) (log_bytes s.records))) (quiet-stage j h)
      ∙ (λ k. world (board_at b (leapt (suc j)) (e k) (add-zero held k)) (write-none log (held * record_width) k))

  ticks-at : (k j : ℕ) → j + k ≤ r → clock + (j + k) ≤ clock_end → go k (at j) ≡ record { taken = k; why = None; end = at (j + k) }
  unfolding ticks
  ticks-at zero j h c = ap (λ (m : ℕ). record { taken = 0; why = None; end = at m }) (sym (add-zero j))
  ticks-at (suc k) j h c =
      let e : suc j + k ≡ j + suc k = omega arith in
      ticks-on halt step k (at j) (halt-at j (omega arith) (omega arith))
      ∙ ap (λ (w : World Board). counted (go k w)) (step-at j (omega arith))
      ∙ ap counted (ticks-at k (suc j) (omega arith) (omega arith))
      ∙ ap (λ (m : ℕ). record { taken = suc k; why = None; end = at m }) e

  keeps-at : unbroken_test (board_at b ts clock held) ≡ true → (k : ℕ) → k ≤ r → clock + k ≤ clock_end → unbroken_test (board_at b (leapt k) (clock + k) held) ≡ true
  keeps-at u zero h c =
      subst (λ (w : World Board). unbroken_test w.board ≡ true)
      (λ j. world (board_at b (sym (leap-tracks-zero b.present ts l leapable) j) (sym (add-zero clock) j) held) log) u
  keeps-at u (suc k) h c =
      let e : clock + k + 1 ≡ clock + suc k = omega arith in
      subst (λ (w : World Board). unbroken_test w.board ≡ true)
      (λ j. world (board_at b (quiet-stage k (omega arith) j).tracks (e j) held) log)
      (tick-keeps (board_at b (leapt k) (clock + k) held) held (keeps-at u k (omega arith) (omega arith)) (omega arith))

-- none are quiet, if nothing is known
pub quiet_none : (ks : List ℕ) (ts : List Track) (is : List ℕ) → Each (λ i. QuietFor ks 0 i (track_at ts i)) is
unfolding Each
quiet_none ks ts [] = tt
quiet_none ks ts (i ∷ is) = (λ j h. absurd (omega arith), quiet_none ks ts is)

pub steady-none : (ts : List Track) (is : List ℕ) → Each (λ i. SteadyFor 0 (track_at ts i) (master_of ts i)) is
unfolding Each
steady-none ts [] = tt
steady-none ts (i ∷ is) = (λ n p h. absurd (omega arith), steady-none ts is)

-- what the code leaps, by the word that it keeps
pub leap-is : (k present word : ℕ) (ts : List Track) → word ≡ playing_word present ts → length ts ≡ track_count
    → leap_into k ts (members word) ts ≡ leap_tracks k present ts
leap-is k present word ts e l = ap (λ (w : ℕ). leap_into k ts (members w) ts) e ∙ leap-into k present ts l

-- as many quiet ticks as are leapt are taken
pub going-leap : (b : Board) (count : ℕ) (log₀ log : List ℕ) (ts : List Track) (clock held taken : ℕ) (answer : Advanced) →
    Going b count log₀ log ts clock held taken answer → (word r k : ℕ) → word ≡ playing_word b.present ts →
    Leapable ts (members word) → Each (λ i. QuietFor (keys_of b.points) r i (track_at ts i)) (members word) →
    Mastered b.present ts (members (follow_word b.present ts)) →
    Each (λ i. SteadyFor r (track_at ts i) (master_of ts i)) (members (follow_word b.present ts)) → k ≤ r → k ≤ count - taken →
    k ≤ clock_end - clock → {next : List Track} → next ≡ leap_into k ts (members word) ts → clock ≤ clock_end →
    Going b count log₀ log next (clock + k) held (taken + k) (advanced.Done (record { 0 = taken + k }))
going-leap b count log₀ log ts clock held taken answer g word r k ew leapable skipped mastered steady kr kc ke {next} en c =
    let leapable' = subst (λ (w : ℕ). Leapable ts (members w)) ew leapable in
    let skipped' = subst (λ (w : ℕ). Each (λ i. QuietFor (keys_of b.points) r i (track_at ts i)) (members w)) ew skipped in
    let fit : held ≤ capacity (length log) = rw g.long g.fits in
    let e : next ≡ leap_tracks k b.present ts =
    en ∙ ap (λ (w : ℕ). leap_into k ts (members w) ts) ew ∙ leap-into k b.present ts g.tracks_long in
    let run = ticks-at b log ts clock held r g.tracks_long leapable' skipped' mastered steady fit k 0 (omega arith) (omega arith) in
    let z : 0 + k ≡ k = omega arith in
    let run' : go k (world (board_at b ts clock held) log) ≡ record { taken = k; why = None; end = world (board_at b next (clock + k) held) log } =
    (λ j. go k (world (board_at b (sym (leap-tracks-zero b.present ts g.tracks_long leapable') j) (sym (add-zero clock) j) held) log))
    ∙ run
    ∙ (λ j. record { taken = k; why = None; end = world (board_at b (leap_tracks (z j) b.present ts) (clock + z j) held) log })
    ∙ (λ j. record { taken = k; why = None; end = world (board_at b (sym e j) (clock + k) held) log }) in
    record {
      taken_le = omega (arith, g.taken_le);
      answer_is = refl;
      so_far = g.so_far ∙ later-leap halt step count taken (world (board_at b ts clock held) log) k (world (board_at b next (clock + k) held) log) (omega (arith, g.taken_le)) run';
      whole = subst (λ (ns : List Track). unbroken_test (board_at b ns (clock + k) held) ≡ true) (sym e)
          (keeps-at b log ts clock held r g.tracks_long leapable' skipped' mastered steady fit g.whole k kr (omega arith));
      fits = g.fits;
      long = g.long;
      tracks_long = ap length e ∙ leap-tracks-long k b.present ts ∙ g.tracks_long;
    }

-- ---- the ways out of `proceed` and `advance`

module _ (b : Board) (log : List ℕ) (count : ℤ) where
  abbrev given : Did Reply (World Board)
  given = does (call.Advance count) (world b log)

  -- a refusal ahead of the count, whatever the count
  barred-gives : (k : ℕ) → bar_of (length log) b ≡ Some k → Gives given (refused k) b log
  unfolding run_count says_of makes_of
  barred-gives k e = at (natural_of count 0 most) refl
    where
      at : (n : Option ℕ) → natural_of count 0 most ≡ n → Gives (perform gridstep (sorted most run_count advance_by (call.Advance count) n) (world b log)) (refused k) b log
      at None q =
          record {
            answer_is = sym (ap barred e);
            board_is = ap (λ (h : ℕ). board_with b b.tracks b.present b.points h) (sym (add-zero b.held));
            log_is = refl;
          }
      at (Some n) q =
          let o = advance-out halt step (w-bar gridstep) stopped_by refused n (world b log) k e in
          record {
            answer_is = sym (ap (λ (d : Did Reply (World Board)). d.answer) o);
            board_is = sym (ap (λ (d : Did Reply (World Board)). d.left.board) o);
            log_is = sym (ap (λ (d : Did Reply (World Board)). d.left.log) o);
          }

  pub advance-broken : unbroken_test b ≡ false → Gives given (refused 3) b log
  advance-broken h = barred-gives 3 (bar-broken h)
    where
      bar-broken : unbroken_test b ≡ false → bar_of (length log) b ≡ Some 3
      bar-broken h = unfold bar_of in simp h

  pub advance-short : unbroken_test b ≡ true → capacity (length log) < b.held → Gives given (refused 7) b log
  advance-short u h = barred-gives 7 (unfold bar_of in simp (u, lt-leb b.held (capacity (length log)) h))

  module _ (u : unbroken_test b ≡ true) (h : b.held ≤ capacity (length log)) where
    pub open-bar : bar_of (length log) b ≡ None
    unfolding bar_of
    open-bar = simp (u, le-leb b.held (capacity (length log)) h)

    -- a count outside its range
    pub advance-outside : natural_of count 0 most ≡ None → Gives given (refused 3) b log
    unfolding run_count says_of makes_of
    advance-outside q =
        subst (λ (n : Option ℕ). Gives (perform gridstep (sorted most run_count advance_by (call.Advance count) n) (world b log)) (refused 3) b log) (sym q)
        (record {
          answer_is = sym (ap barred open-bar);
          board_is = ap (λ (k : ℕ). board_with b b.tracks b.present b.points k) (sym (add-zero b.held));
          log_is = refl;
        })

    -- so many ticks
    pub advance-runs : {n : ℕ} → natural_of count 0 most ≡ Some n → {r : Left} {log' : List ℕ} → Ended b (go n (world b log)) r log' →
        Gives given (advanced_said r.answer) (board_left b r) log'
    unfolding run_count
    advance-runs {n} q {r} {log'} e =
        let o = advance-in halt step (w-bar gridstep) stopped_by refused n (world b log) open-bar in
        subst (λ (m : Option ℕ). Gives (perform gridstep (sorted most run_count advance_by (call.Advance count) m) (world b log)) (advanced_said r.answer) (board_left b r) log') (sym q)
        (record {
          answer_is = e.answer_is ∙ sym (ap (λ (d : Did Reply (World Board)). d.answer) o);
          board_is = e.board_is ∙ sym (ap (λ (d : Did Reply (World Board)). d.left.board) o);
          log_is = e.log_is ∙ sym (ap (λ (d : Did Reply (World Board)). d.left.log) o);
        })
