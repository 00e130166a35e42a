-- Demand 3: for every list of calls from a fresh board, what the functions' own contracts say of it is the replay's.
use Rattle.std.specs.Prelude.{Result, Ok, Err}
use Rattle.track.specs.declared.refusal.Refusal.{Refusal}
use Rattle.std.specs.Prelude.{Option, Some, None}
use mathlib.Core.Path.{◌≡◌, refl, sym, ◌∙◌, ap, subst}
use mathlib.Core.List.{List, [], ◌∷◌, ◌++◌}
use Prim.Native.Nat.{ℕ, ◌≤◌, zero-le}
use lib.IntN.{ℤ}
use lib.ListN.{length, length-map}
use contract.Lifetimes.{Lfts}
use denote.Ref.{Bor, MutBor}
use Rattle.track.specs.declared.refusal.Refusal.TheVariants as refusal
use Rattle.track.specs.Refusal.{Answer, Accepted, Refused, number_of}
use Rattle.track.specs.Grid.{PLAY, PAUSE, RESUME, STOP}
use Rattle.track.proofs.Numbers.{natural-of}
use Rattle.board.specs.declared.Board.{Board}
use Rattle.board.specs.declared.log.Record.{Record}
use Rattle.track.specs.declared.Track.{Track}
use Rattle.track.specs.declared.Ticks.{Ticks}
use Rattle.board.specs.declared.points.Point.{Point}
use Rattle.board.specs.declared.advance.Progress.{Progress}
use Rattle.board.specs.declared.call.Advanced.{Advanced}
use Rattle.board.specs.declared.call.Advanced.TheVariants as advanced
use Rattle.board.specs.declared.call.Call.{Call}
use Rattle.board.specs.declared.call.Call.TheVariants as call
use Rattle.board.specs.Board.{fresh_board, Unbroken}
use Rattle.board.specs.Setup.{Outcome, outcome}
use Rattle.board.specs.Query.{clock_of, track_of, point_in, count_in}
use Rattle.board.specs.Mode.{mode_result}
use Rattle.board.specs.Cut.{Ran, ticks, Did, All, run, sorted, part, performs, Recut, observe}
use Rattle.board.specs.Replay.{World, State, perform, w-bar, w-halt, w-step, replay, r-bar, r-halt, r-step, written, writtens, flat}
use Rattle.board.specs.Replay.{shown, only, gathered, ticked, total}
use Rattle.board.specs.Call.{Reply, refused, answered, said_by, clock_said, track_said, point_said, count_said, advanced_said, Stop, ends, fills, stopped_by}
use Rattle.board.specs.Call.{taken_in, why_not, bar_of, barred, pair_numbers, says_of, makes_of, gridstep, most, run_count, advance_by, does}
use Rattle.board.specs.Call.{world, Gives}
use Rattle.board.specs.Lists.{cut_up, start, replayed}
use Rattle.board.specs.Arrivals.{arrivals_in, arrival_record, arrival_records, is_point}
use Rattle.board.proofs.replay.Cuts.{recut, cut, advance-add, advance-in, advance-out}
use Rattle.board.proofs.replay.Replays.{shown-takes, w_kept, agrees, rows, cuts}
use Rattle.board.proofs.replay.Kinds.{kinds, gathered-length, total-same}
use Rattle.board.proofs.call.Given.{Given, Bars, bars, set-up-given, add-track-given, set-point-given, drop-point-given, set-master-given, clear-given, mode-given}
use Rattle.board.proofs.call.Refusals.{refused-equal}
use Rattle.board.proofs.call.Machine.{counts, room, kept, read, call-whole}
use Rattle.board.proofs.call.Enough.{SameMaster, pairs_of, pairs-enough}
use Rattle.board.proofs.lists.Reports.{tick-points, call-points}
use Rattle.board.proofs.call.Leaving.{add-track-leaves, set-up-leaves, set-point-leaves, drop-point-leaves, set-master-leaves, clear-leaves}
use Rattle.board.proofs.call.Leaving.{clock-leaves, track-leaves, point-leaves, point-count-leaves}
use Rattle.board.proofs.Board.add_track.Reads as add-track-says
use Rattle.board.proofs.Board.set_up.Reads as set-up-says
use Rattle.board.proofs.Board.set_point.Reads as set-point-says
use Rattle.board.proofs.Board.drop_point.Reads as drop-point-says
use Rattle.board.proofs.Board.set_master.Reads as set-master-says
use Rattle.board.proofs.mode.play.Reads as play-says
use Rattle.board.proofs.mode.pause.Reads as pause-says
use Rattle.board.proofs.mode.resume.Reads as resume-says
use Rattle.board.proofs.mode.stop.Reads as stop-says
use Rattle.board.proofs.advance.advance.Reads as advance-says
use Rattle.board.proofs.Board.clear.Reads as clear-says
use Rattle.board.proofs.Board.clock_and_held.Reads as clock-says
use Rattle.board.proofs.Board.track.Reads as track-says
use Rattle.board.proofs.Board.point.Reads as point-says
use Rattle.board.proofs.Board.point_count.Reads as point-count-says

-- ---- calls as their contracts have them

-- an answer and a world are what was said, a board and a log
abbrev pub Left : Reply → Board → List ℕ → Reply → World Board → Type 0
Left said b log a v = (a ≡ said) × (v ≡ world b log)

-- so does the result of a call on a board: the board that it gives, or the board as it was
abbrev pub LeftAs : Result Board Refusal → Board → List ℕ → Reply → World Board → Type 0
LeftAs r b log a v = Left (answered (outcome b r).answer) (outcome b r).board log a v

-- A call, as its function's contract has it: the function is lent the board and, where it takes one, the log, and leaves them.
-- `Learnt` is what its `ensures` tells a caller, of the lifetimes, the arguments, the result and the arguments at exit. A master call
-- is lent any numbers with which it comes to the same as with its own.
abbrev pub Step : Call → World Board → Reply → World Board → Type 0
Step (call.AddTrack i lo hi) w a v =
    (r : Result Board Refusal) × add-track-says.Learnt tt (w.board, (i, (lo, (hi, tt)))) r (w.board, (i, (lo, (hi, tt)))) × LeftAs r w.board w.log a v
Step (call.SetUp i c) w a v =
    (r : Result Board Refusal) × set-up-says.Learnt tt (w.board, (i, (c, tt))) r (w.board, (i, (c, tt))) × LeftAs r w.board w.log a v
Step (call.SetPoint i p) w a v =
    (r : Result Board Refusal)
    × set-point-says.Learnt tt (w.board, (i, (p, tt))) r (w.board, (i, (p, tt)))
    × LeftAs r w.board w.log a v
Step (call.DropPoint i p) w a v =
    (r : Result Board Refusal) × drop-point-says.Learnt tt (w.board, (i, (p, tt))) r (w.board, (i, (p, tt))) × LeftAs r w.board w.log a v
Step (call.Play i) w a v =
    (κs : Lfts 1) × (x : MutBor (List ℕ)) × (y : MutBor (List ℕ)) × (r : Result Board Refusal)
    × play-says.Learnt κs (w.board, (i, (x, tt))) r (w.board, (i, (y, tt)))
    × (x.now ≡ w.log) × LeftAs r w.board y.now a v
Step (call.Pause i) w a v =
    (κs : Lfts 1) × (x : MutBor (List ℕ)) × (y : MutBor (List ℕ)) × (r : Result Board Refusal)
    × pause-says.Learnt κs (w.board, (i, (x, tt))) r (w.board, (i, (y, tt)))
    × (x.now ≡ w.log) × LeftAs r w.board y.now a v
Step (call.Resume i) w a v =
    (κs : Lfts 1) × (x : MutBor (List ℕ)) × (y : MutBor (List ℕ)) × (r : Result Board Refusal)
    × resume-says.Learnt κs (w.board, (i, (x, tt))) r (w.board, (i, (y, tt)))
    × (x.now ≡ w.log) × LeftAs r w.board y.now a v
Step (call.Stop i) w a v =
    (κs : Lfts 1) × (x : MutBor (List ℕ)) × (y : MutBor (List ℕ)) × (r : Result Board Refusal)
    × stop-says.Learnt κs (w.board, (i, (x, tt))) r (w.board, (i, (y, tt)))
    × (x.now ≡ w.log) × LeftAs r w.board y.now a v
Step (call.Advance n) w a v =
    (κs : Lfts 1) × (x : MutBor (List ℕ)) × (y : MutBor (List ℕ)) × (r : Progress)
    × advance-says.Learnt κs (w.board, (n, (x, tt))) r (w.board, (n, (y, tt)))
    × (x.now ≡ w.log) × Left (advanced_said r.answer) r.board y.now a v
Step call.Clear w a v = (r : Result Board Refusal) × clear-says.Learnt tt (w.board, tt) r (w.board, tt) × LeftAs r w.board w.log a v
Step call.Clock w a v = (r : Result (Ticks × ℕ) Refusal) × clock-says.Learnt tt (w.board, tt) r (w.board, tt) × Left (clock_said r) w.board w.log a v
Step (call.Track i) w a v =
    (r : Result Track Refusal) × track-says.Learnt tt (w.board, (i, tt)) r (w.board, (i, tt)) × Left (track_said r) w.board w.log a v
Step (call.Point i p) w a v =
    (r : Result Point Refusal) × point-says.Learnt tt (w.board, (i, (p, tt))) r (w.board, (i, (p, tt))) × Left (point_said r) w.board w.log a v
Step (call.PointCount i from to) w a v =
    (r : Result ℕ Refusal) × point-count-says.Learnt tt (w.board, (i, (from, (to, tt)))) r (w.board, (i, (from, (to, tt))))
    × Left (count_said r) w.board w.log a v
Step (call.Master i m ps) w a v =
    (κs : Lfts 1) × (x : Bor (List ℤ)) × (y : Bor (List ℤ)) × (r : Result Board Refusal)
    × set-master-says.Learnt κs (w.board, (i, (m, (x, tt)))) r (w.board, (i, (m, (y, tt))))
    × SameMaster x.now (pair_numbers ps) × LeftAs r w.board w.log a v

-- So every call of set_master is a step, whatever the numbers of its slice: however many, an odd number of them, out of range.
pub every-master : (κs : Lfts 1) (track master : ℤ) (zs : List ℤ) (w : World Board) (x y : Bor (List ℤ)) (r : Result Board Refusal) → x.now ≡ zs →
    set-master-says.Learnt κs (w.board, (track, (master, (x, tt)))) r (w.board, (track, (master, (y, tt)))) →
    Step (call.Master track master (pairs_of zs)) w (answered (outcome w.board r).answer) (world (outcome w.board r).board w.log)
every-master κs track master zs w x y r e h =
    (κs, x, y, r, h, subst (λ (ys : List ℤ). SameMaster ys (pair_numbers (pairs_of zs))) (sym e) (pairs-enough zs), (refl, refl))

abbrev did : Reply → World Board → Did Reply (World Board)
did a v = record { answer = a; left = v }

-- what a call gives is what it does
gives-is : {d : Did Reply (World Board)} {said a : Reply} {b : Board} {l : List ℕ} {v : World Board} → Gives d said b l → Left said b l a v → d ≡ did a v
gives-is g (p, q) = λ j. did ((sym g.answer_is ∙ sym p) j) (((λ i. world (sym g.board_is i) (sym g.log_is i)) ∙ sym q) j)

lent_is : (c : Call) (w : World Board) (x y : MutBor (List ℕ)) (b : Board) {said a : Reply} {v : World Board}
    → Gives (does c (world w.board x.now)) said b y.now → x.now ≡ w.log → Left said b y.now a v → does c w ≡ did a v
lent_is c w x y b {said} g e = gives-is (subst (λ (l : List ℕ). Gives (does c (world w.board l)) said b y.now) e g)

-- what each contract says is the rule
step_is : (c : Call) (w : World Board) {a : Reply} {v : World Board} → Step c w a v → does c w ≡ did a v
step_is (call.AddTrack i lo hi) w s = gives-is (s.1 w.log) s.2
step_is (call.SetUp i c) w s = gives-is (s.1 w.log) s.2
step_is (call.SetPoint i p) w s = gives-is (s.1 w.log) s.2
step_is (call.DropPoint i p) w s = gives-is (s.1 w.log) s.2
step_is (call.Play i) w s = lent_is (call.Play i) w s.1 s.2 (outcome w.board s.3).board s.4 s.5 s.6
step_is (call.Pause i) w s = lent_is (call.Pause i) w s.1 s.2 (outcome w.board s.3).board s.4 s.5 s.6
step_is (call.Resume i) w s = lent_is (call.Resume i) w s.1 s.2 (outcome w.board s.3).board s.4 s.5 s.6
step_is (call.Stop i) w s = lent_is (call.Stop i) w s.1 s.2 (outcome w.board s.3).board s.4 s.5 s.6
step_is (call.Advance n) w s = lent_is (call.Advance n) w s.1 s.2 s.3.board s.4 s.5 s.6
step_is call.Clear w s = gives-is (s.1 w.log) s.2
step_is call.Clock w s = gives-is (s.1 w.log) s.2
step_is (call.Track i) w s = gives-is (s.1 w.log) s.2
step_is (call.Point i p) w s = gives-is (s.1 w.log) s.2
step_is (call.PointCount i from to) w s = gives-is (s.1 w.log) s.2
step_is (call.Master i m ps) w s =
    gives-is (set-master-leaves w.board i m ps (s.4 ∙ s.5 w.board i m) w.log) s.6

-- A list of calls, one after the other: each gets the board and the log as the one before it left them.
pub data Trace : List Call → World Board → List Reply → World Board → Type 0 where
  nothing : {w : World Board} → Trace [] w [] w
  then : {c : Call} {cs : List Call} {w v u : World Board} {a : Reply} {xs : List Reply}
      → Step c w a v → Trace cs v xs u → Trace (c ∷ cs) w (a ∷ xs) u

-- the bytes of the records that the calls write, call after call
abbrev pub all_written : {cs : List Call} {w u : World Board} {xs : List Reply} → Trace cs w xs u → List ℕ
all_written nothing = []
all_written (then {w = w} {v = v} s t) = written gridstep w v ++ all_written t

-- the answers and the end of a trace are those of the calls, performed
pub trace-is : {cs : List Call} {w u : World Board} {xs : List Reply} → Trace cs w xs u
    → performs (perform gridstep) (cut_up cs) w ≡ record { answers = xs; last = u }
trace-is nothing = refl
trace-is (then {c = c} {cs = cs} {w = w} {v = v} s t) = rw (step_is c w s, trace-is t)

trace-written : {cs : List Call} {w u : World Board} {xs : List Reply} (t : Trace cs w xs u) → writtens gridstep (cut_up cs) w ≡ all_written t
trace-written nothing = refl
trace-written (then {c = c} {w = w} s t) = rw (step_is c w s, trace-written t)

-- ---- the cut

count-advance : (n : ℕ) → n ≤ most → run_count (advance_by n) ≡ Some n
unfolding run_count
count-advance n h = rw (natural-of n 0 most zero-le h)

-- two lists that differ only in the cut, from one board and log: of each run the ticks taken and what first stopped it, of any
-- other call its answer, and the end board and log are equal
recuts : {cs ds : List Call} {w u v : World Board} {xs ys : List Reply} → Recut most run_count advance_by cs ds
    → Trace cs w xs u → Trace ds w ys v
    → (observe taken_in why_not (cut_up cs) xs ≡ observe taken_in why_not (cut_up ds) ys) × (u ≡ v)
unfolding read
recuts {cs} {ds} {w} r s t =
    let c = cuts gridstep read kept (cut_up cs) (cut_up ds) w (recut most run_count advance_by count-advance cs ds r) in
    (rw (trace-is s, trace-is t) at c.0, rw (trace-is s, trace-is t) at c.1)

-- the replay's bar, after a tick that it takes
r-kept : (s : State Board Record) → r-bar gridstep s ≡ None → r-halt gridstep s ≡ None → r-bar gridstep (r-step gridstep s) ≡ None
r-kept s h e =
    ap (w-bar gridstep) (sym (shown-takes gridstep counts (gridstep.tick s.board) s)) ∙ w_kept gridstep read kept (shown gridstep s) h e

-- they have one replay, its row included, but for the answers within a run
replays-recut : {cs ds : List Call} (log : List ℕ) → Recut most run_count advance_by cs ds
    → (observe taken_in why_not (cut_up cs) (replayed cs log).answers ≡ observe taken_in why_not (cut_up ds) (replayed ds log).answers)
    × ((replayed cs log).last ≡ (replayed ds log).last)
unfolding read
replays-recut {cs} {ds} log r =
    cut (replay gridstep) taken_in why_not (advance-add (r-halt gridstep) (r-step gridstep) (r-bar gridstep) stopped_by refused r-kept read)
    (cut_up cs) (cut_up ds) (start log) (recut most run_count advance_by count-advance cs ds r)

-- ---- the theorem

-- Demand 3, whole: what is claimed of a list of calls from a fresh board, on any log.
pub record Demand3 {cs : List Call} {log : List ℕ} {xs : List Reply} {u : World Board} (t : Trace cs (world fresh_board log) xs u) : Type 0 where
  -- (a) each answer, the end board and every log byte equal the replay's
  pub answers_are : xs ≡ (replayed cs log).answers
  pub board_is : u.board ≡ (replayed cs log).last.board
  pub log_is : u.log ≡ (replayed cs log).last.log
  -- (b) the records that the calls write, call after call, are the row
  pub row_is : all_written t ≡ flat gridstep (replayed cs log).last.row
  -- (c) the row's records of kind 1 are those of the arrivals in the ticks taken, one for each, and no more
  pub points_are : only is_point (replayed cs log).last.row ≡ gathered gridstep arrival_records (ticked gridstep (cut_up cs) (start log))
  pub points_count : length (only is_point (replayed cs log).last.row) ≡ total (λ b. length (arrivals_in b)) (ticked gridstep (cut_up cs) (start log))
  -- (d) a list that differs only in the cut, on a log equal at the start: of each run the ticks taken and what first stopped it,
  -- of any other call its answer, and the end board and log are equal
  pub recut_alike : {ds : List Call} {ys : List Reply} {v : World Board} → Recut most run_count advance_by cs ds
      → Trace ds (world fresh_board log) ys v
      → (observe taken_in why_not (cut_up cs) xs ≡ observe taken_in why_not (cut_up ds) ys) × (u ≡ v)
  -- and so are the rows
  pub recut_row : {ds : List Call} → Recut most run_count advance_by cs ds → (replayed cs log).last.row ≡ (replayed ds log).last.row

-- every list of calls from a fresh board, on any log
pub demand-3 : {cs : List Call} {log : List ℕ} {xs : List Reply} {u : World Board} (t : Trace cs (world fresh_board log) xs u) → Demand3 t
unfolding fresh_board
demand-3 {cs} {log} t =
    let p = kinds gridstep counts is_point arrival_records tick-points call-points (cut_up cs) (start log) in
    let e = sym (trace-is t) ∙ agrees gridstep counts (cut_up cs) (start log) in
    record {
      answers_are = ap (λ (x : All Reply (World Board)). x.answers) e;
      board_is = ap (λ (x : All Reply (World Board)). x.last.board) e;
      log_is = ap (λ (x : All Reply (World Board)). x.last.log) e;
      row_is = sym (trace-written t) ∙ sym (rows gridstep counts room (cut_up cs) (start log) zero-le);
      points_are = p;
      points_count =
          ap length p ∙ gathered-length gridstep arrival_records (ticked gridstep (cut_up cs) (start log))
          ∙ total-same (λ b. length (arrival_records b)) (λ b. length (arrivals_in b)) (λ b. length-map (arrivals_in b) (arrival_record b)) (ticked gridstep (cut_up cs) (start log));
      recut_alike = λ r s. recuts r t s;
      recut_row = λ r. ap (λ (s : State Board Record). s.row) (replays-recut log r).1;
    }

-- ---- no list of calls makes a broken board

pub trace-whole : {cs : List Call} {w u : World Board} {xs : List Reply} → Trace cs w xs u → Unbroken w.board → Unbroken u.board
trace-whole nothing h = h
trace-whole (then {c = c} {w = w} s t) h =
    trace-whole t (subst (λ (d : Did Reply (World Board)). Unbroken d.left.board) (step_is c w s) (call-whole (part most run_count advance_by c) w h))

-- ---- the contracts can be met

lends : List ℕ → MutBor (List ℕ)
lends l = record { ref_ptr = (0, 0); ghost_name = 0; now = l }

-- what a call gives is an answer and a world that its function can leave
gives_left : {d : Did Reply (World Board)} {said : Reply} {b : Board} {l : List ℕ} → Gives d said b l → Left said b l d.answer d.left
gives_left g = (sym g.answer_is, λ i. world (sym g.board_is i) (sym g.log_is i))

-- what an advance answers is an answer that its function can give
pub record Said (a : Reply) : Type 0 where
  pub told : Advanced
  pub is : advanced_said told ≡ a

ticks-said : (t : ℕ) (o : Option Stop) → Said (stopped_by t o)
ticks-said t None = record { told = advanced.Done (record { 0 = t }); is = refl }
ticks-said t (Some ends) = record { told = advanced.ClockEnd (record { 0 = t }); is = refl }
ticks-said t (Some fills) = record { told = advanced.LogFull (record { 0 = t }); is = refl }

refusal-said : (e : Refusal) → Said (refused (number_of e))
refusal-said e = record { told = advanced.Refused e; is = refl }

barred-said : {k : ℕ} → Bars k → Said (refused k)
barred-said r = subst (λ (k : ℕ). Said (refused k)) r.is (refusal-said r.refusal)

pub advance-said : (n : ℤ) (w : World Board) → Said (does (call.Advance n) w).answer
unfolding says_of
advance-said n w = go (run_count (call.Advance n))
  where
    went : ℕ → Ran Stop (World Board)
    went k = ticks (w-halt gridstep) (w-step gridstep) k w

    runs : (k : ℕ) (o : Option ℕ) → w-bar gridstep w ≡ o → Said (perform gridstep (run k) w).answer
    runs k None e = rw (advance-in (w-halt gridstep) (w-step gridstep) (w-bar gridstep) stopped_by refused k w e) (ticks-said (went k).taken (went k).why)
    runs k (Some m) e = rw (advance-out (w-halt gridstep) (w-step gridstep) (w-bar gridstep) stopped_by refused k w m e) (barred-said (bars (length w.log) w.board e))

    outside : (o : Option ℕ) → bar_of (length w.log) w.board ≡ o → Said (barred o)
    outside None e = refusal-said refusal.Value
    outside (Some k) e = barred-said (bars (length w.log) w.board e)

    go : (o : Option ℕ) → Said (perform gridstep (sorted most run_count advance_by (call.Advance n) o) w).answer
    go None = outside (bar_of (length w.log) w.board) refl
    go (Some k) = runs k (w-bar gridstep w) refl

-- a number that a result gives as a refusal is one of the eleven
given-known : {b : Board} {o : Outcome} {n : ℕ} → Given b o → refused n ≡ answered o.answer → Bars n
given-known {b} {n = n} g e = go g.result (e ∙ ap (λ (o : Outcome). answered o.answer) (sym g.is))
  where
    go : (r : Result Board Refusal) → refused n ≡ answered (outcome b r).answer → Bars n
    go (Ok c) e = absurd (cc)
    go (Err x) e = record { refusal = x; is = cc }

-- so is one that a query gives, whose values are no refusals
said-known : {A : Type 0} {n : ℕ} (f : A → Reply) → ((x : A) → refused n ≡ f x → Bars n) → (r : Result A Refusal) → refused n ≡ said_by f r → Bars n
said-known f h (Ok x) e = h x e
said-known f h (Err x) e = record { refusal = x; is = cc }

-- and one that an advance gives
advanced-known : {n : ℕ} (a : Advanced) → refused n ≡ advanced_said a → Bars n
advanced-known (advanced.Done t) e = absurd (cc)
advanced-known (advanced.LogFull t) e = absurd (cc)
advanced-known (advanced.ClockEnd t) e = absurd (cc)
advanced-known (advanced.Refused x) e = record { refusal = x; is = cc }

-- every refusal, of any call, is one of the eleven
pub refused-known : (c : Call) (w : World Board) {n : ℕ} → refused n ≡ (does c w).answer → Bars n
unfolding run_count says_of
refused-known (call.AddTrack i lo hi) w e = given-known (add-track-given w.board i lo hi) e
refused-known (call.SetUp i c) w e = given-known (set-up-given w.board i c) e
refused-known (call.SetPoint i p) w e = given-known (set-point-given w.board i p) e
refused-known (call.DropPoint i p) w e = given-known (drop-point-given w.board i p) e
refused-known (call.Play i) w e = given-known (mode-given w i PLAY) e
refused-known (call.Pause i) w e = given-known (mode-given w i PAUSE) e
refused-known (call.Resume i) w e = given-known (mode-given w i RESUME) e
refused-known (call.Stop i) w e = given-known (mode-given w i STOP) e
refused-known (call.Advance k) w e = advanced-known (advance-said k w).told (e ∙ sym (advance-said k w).is)
refused-known call.Clear w e = given-known (clear-given w.board) e
refused-known call.Clock w e = said-known _ (λ x e. absurd (cc)) (clock_of w.board) e
refused-known (call.Track i) w e = said-known _ (λ x e. absurd (cc)) (track_of w.board i) e
refused-known (call.Point i p) w e = said-known _ (λ x e. absurd (cc)) (point_in w.board i p) e
refused-known (call.PointCount i from to) w e = said-known _ (λ x e. absurd (cc)) (count_in w.board i from to) e
refused-known (call.Master i m ps) w e = given-known (set-master-given w.board i m (pair_numbers ps)) e

-- what is accepted leaves the new board, and what is refused leaves the board as it was
left-given : (c : Call) (w : World Board) (a : Answer) → answered a ≡ (does c w).answer → Given w.board (record { answer = a; board = (does c w).left.board })
left-given c w Accepted e = record { result = Ok (does c w).left.board; is = refl }
left-given c w (Refused n) e = let k = refused-known c w e in record { result = Err k.refusal; is = rw (k.is, refused-equal c w n (sym e)) }

-- a call that is accepted or refused can be answered by a function that is lent board and log, and left as the call leaves them
mode-met : (κs : Lfts 1) (c : Call) (w : World Board) (a : Answer) → answered a ≡ (does c w).answer
    → (κs : Lfts 1) × (x : MutBor (List ℕ)) × (y : MutBor (List ℕ)) × (r : Result Board Refusal)
    × Gives (does c (world w.board x.now)) (answered (outcome w.board r).answer) (outcome w.board r).board y.now
    × (x.now ≡ w.log) × LeftAs r w.board y.now (does c w).answer (does c w).left
unfolding lends
mode-met κs c w a e =
    let d = does c w in
    let k = left-given c w a e in
    let o = outcome w.board k.result in
    let g : Gives d (answered o.answer) o.board d.left.log =
    record {
      answer_is = ap (λ (o : Outcome). answered o.answer) k.is ∙ e;
      board_is = ap (λ (o : Outcome). o.board) k.is;
      log_is = refl;
    } in
    (κs, lends w.log, lends d.left.log, k.result, g, refl, gives_left g)

numbered : List ℤ → Bor (List ℤ)
numbered l = record { ref_ptr = (0, 0); now = l }

step-met : (κs : Lfts 1) (c : Call) (w : World Board) → Step c w (does c w).answer (does c w).left
unfolding run_count says_of makes_of lends numbered
step-met κs (call.AddTrack i lo hi) w = let k = add-track-given w.board i lo hi in let l = add-track-leaves w.board i lo hi k.is in (k.result, l, gives_left (l w.log))
step-met κs (call.SetUp i c) w = let k = set-up-given w.board i c in let l = set-up-leaves w.board i c k.is in (k.result, l, gives_left (l w.log))
step-met κs (call.SetPoint i p) w = let k = set-point-given w.board i p in let l = set-point-leaves w.board i p k.is in (k.result, l, gives_left (l w.log))
step-met κs (call.DropPoint i p) w = let k = drop-point-given w.board i p in let l = drop-point-leaves w.board i p k.is in (k.result, l, gives_left (l w.log))
step-met κs (call.Play i) w = mode-met κs (call.Play i) w (mode_result w.board (length w.log) i PLAY).answer refl
step-met κs (call.Pause i) w = mode-met κs (call.Pause i) w (mode_result w.board (length w.log) i PAUSE).answer refl
step-met κs (call.Resume i) w = mode-met κs (call.Resume i) w (mode_result w.board (length w.log) i RESUME).answer refl
step-met κs (call.Stop i) w = mode-met κs (call.Stop i) w (mode_result w.board (length w.log) i STOP).answer refl
step-met κs (call.Advance n) w =
    let d = does (call.Advance n) w in
    let s = advance-said n w in
    let g : Gives d (advanced_said s.told) d.left.board d.left.log = record { answer_is = s.is; board_is = refl; log_is = refl } in
    (κs, lends w.log, lends d.left.log, record { answer = s.told; board = d.left.board }, g, refl, gives_left g)
step-met κs call.Clear w = let k = clear-given w.board in let l = clear-leaves w.board k.is in (k.result, l, gives_left (l w.log))
step-met κs call.Clock w = let l = clock-leaves w.board refl in (clock_of w.board, l, gives_left (l w.log))
step-met κs (call.Track i) w = let l = track-leaves w.board i refl in (track_of w.board i, l, gives_left (l w.log))
step-met κs (call.Point i p) w = let l = point-leaves w.board i p refl in (point_in w.board i p, l, gives_left (l w.log))
step-met κs (call.Master i m ps) w =
    let k = set-master-given w.board i m (pair_numbers ps) in
    let l = set-master-leaves w.board i m ps k.is in
    (κs, numbered (pair_numbers ps), numbered (pair_numbers ps), k.result, k.is, λ b t k. refl, gives_left (l w.log))
step-met κs (call.PointCount i from to) w = let l = point-count-leaves w.board i from to refl in (count_in w.board i from to, l, gives_left (l w.log))

-- what any function promises to give for a call is a step of it
pub gives-step : (κs : Lfts 1) (c : Call) (w : World Board) {a : Reply} {v : World Board} → Gives (does c w) a v.board v.log → Step c w a v
gives-step κs c w {a} {v} g =
    subst (λ (x : Reply). Step c w x v) (sym g.answer_is)
    (subst (λ (u : World Board). Step c w (does c w).answer u) (λ i. world (sym g.board_is i) (sym g.log_is i)) (step-met κs c w))

-- every list has a trace, on any board and log: no contract contradicts another
pub traces : (κs : Lfts 1) (cs : List Call) (w : World Board)
    → Trace cs w (performs (perform gridstep) (cut_up cs) w).answers (performs (perform gridstep) (cut_up cs) w).last
traces κs [] w = nothing
traces κs (c ∷ cs) w = then (step-met κs c w) (traces κs cs (does c w).left)
