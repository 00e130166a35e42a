-- The ticks taken that answers carry are the growth of the clock, of one call and of a list of calls.
use Rattle.std.specs.Prelude.{Result, Ok, Err}
use Rattle.track.specs.declared.refusal.Refusal.{Refusal}
use Rattle.std.specs.Prelude.{Option, Some, None}
use Prim.Native.Nat.{ℕ, zero, suc, ◌+◌, ◌-◌, ◌≤◌}
use mathlib.Core.Path.{◌≡◌, refl, sym, ◌∙◌}
use mathlib.Core.List.{List, [], ◌∷◌}
use native.Mathlib.Nat.{add-zero, zero-add}
use native.Mathlib.Omega.{arith}
use lib.IntN.{ℤ}
use lib.ListN.{length}
use Rattle.track.specs.Refusal.{Answer}
use Rattle.track.specs.Refusal as answer
use Rattle.track.specs.Grid.{PLAY, PAUSE, RESUME, STOP}
use Rattle.board.specs.declared.Board.{Board}
use Rattle.board.specs.Setup.{Outcome}
use Rattle.board.specs.declared.call.Call.{Call}
use Rattle.board.specs.declared.call.Call.TheVariants as call
use Rattle.board.specs.Board.{fresh_board}
use Rattle.board.specs.Setup.{set_up, add_track, set_point, drop_point, set_master, clear_board}
use Rattle.board.specs.Query.{clock_of, track_of, point_in, count_in}
use Rattle.board.specs.Mode.{ModeResult, mode_result}
use Rattle.board.specs.Cut.{Ran, ticks, Part, run, one, part, performs}
use Rattle.board.specs.Replay.{World, w-halt, w-bar, w-step, perform, total}
use Rattle.board.specs.Call.{said_by, Reply, refused, answered, Stop, stopped_by, taken_in, bar_of, barred, pair_numbers, says_of}
use Rattle.board.specs.Call.{makes_of, gridstep, most, run_count, advance_by, does, world}
use Rattle.board.specs.Lists.{cut_up}
use Rattle.board.proofs.setup.Ways.{set-up-ways, add-track-ways, set-point-ways, drop-point-ways, set-master-ways, clear-ways}
use Rattle.board.proofs.replay.Cuts.{ticks-on, ticks-off, advance-in, advance-out}
use Rattle.board.proofs.call.Machine.{result-ways, read}
use Rattle.board.proofs.lists.Replayed.{Trace, trace-is}

-- ---- a call that is no advance takes no tick, and leaves the clock

taken-answered : (a : Answer) → taken_in (answered a) ≡ 0
taken-answered answer.Accepted = refl
taken-answered (answer.Refused n) = refl

taken-said : {A : Type 0} (f : A → Reply) → ((x : A) → taken_in (f x) ≡ 0) → (r : Result A Refusal) → taken_in (said_by f r) ≡ 0
taken-said f h (Ok x) = h x
taken-said f h (Err e) = refl

taken-barred : (o : Option ℕ) → taken_in (barred o) ≡ 0
taken-barred None = refl
taken-barred (Some k) = refl

-- the answer of none of them carries ticks taken
no-ticks : (c : Call) (n : ℕ) (b : Board) → taken_in (says_of c n b) ≡ 0
unfolding says_of
no-ticks (call.AddTrack i lo hi) n b = taken-answered (add_track b i lo hi).answer
no-ticks (call.SetUp i c) n b = taken-answered (set_up b i c).answer
no-ticks (call.SetPoint i p) n b = taken-answered (set_point b i p).answer
no-ticks (call.DropPoint i p) n b = taken-answered (drop_point b i p).answer
no-ticks (call.Play i) n b = taken-answered (mode_result b n i PLAY).answer
no-ticks (call.Pause i) n b = taken-answered (mode_result b n i PAUSE).answer
no-ticks (call.Resume i) n b = taken-answered (mode_result b n i RESUME).answer
no-ticks (call.Stop i) n b = taken-answered (mode_result b n i STOP).answer
no-ticks (call.Advance k) n b = taken-barred (bar_of n b)
no-ticks call.Clear n b = taken-answered (clear_board b).answer
no-ticks call.Clock n b = taken-said _ (λ _. refl) (clock_of b)
no-ticks (call.Track i) n b = taken-said _ (λ _. refl) (track_of b i)
no-ticks (call.Point i p) n b = taken-said _ (λ _. refl) (point_in b i p)
no-ticks (call.PointCount i from to) n b = taken-said _ (λ _. refl) (count_in b i from to)
no-ticks (call.Master i m ps) n b = taken-answered (set_master b i m (pair_numbers ps)).answer

module _ (n : ℕ) (b : Board) where
  -- the clock is what it was
  abbrev Same : Outcome → Type 0
  Same o = o.board.clock.0 ≡ b.clock.0

  -- a mode call leaves it
  mode-clock : (track : ℤ) (code : ℕ) → (mode_result b n track code).board.clock.0 ≡ b.clock.0
  mode-clock = result-ways b n (λ (m : ModeResult). m.board.clock.0 ≡ b.clock.0) (λ k. refl) (λ i mode _ _ _. refl)

  -- and so does every other
  same-clock : (c : Call) → (makes_of c n b).board.clock.0 ≡ b.clock.0
  unfolding makes_of
  same-clock (call.AddTrack i lo hi) = add-track-ways b Same (λ k. refl) i lo hi (λ j low high _ _ _ _. refl)
  same-clock (call.SetUp i c) = set-up-ways b Same (λ k. refl) i c (λ j _. refl)
  same-clock (call.SetPoint i p) = set-point-ways b Same (λ k. refl) i p (λ q _ _. refl)
  same-clock (call.DropPoint i p) = drop-point-ways b Same (λ k. refl) i p (λ j _. refl)
  same-clock (call.Play i) = mode-clock i PLAY
  same-clock (call.Pause i) = mode-clock i PAUSE
  same-clock (call.Resume i) = mode-clock i RESUME
  same-clock (call.Stop i) = mode-clock i STOP
  same-clock (call.Advance k) = refl
  same-clock call.Clear = clear-ways b Same (λ k. refl) refl
  same-clock call.Clock = refl
  same-clock (call.Track i) = refl
  same-clock (call.Point i p) = refl
  same-clock (call.PointCount i from to) = refl
  same-clock (call.Master i m ps) = set-master-ways b Same (λ k. refl) i m (pair_numbers ps) (λ j l _ _ _ _ _ _. refl)

-- ---- the growth of the clock

-- each tick taken is one on the clock
ticks-clock : (n : ℕ) (w : World Board) →
    let r = ticks (w-halt gridstep) (w-step gridstep) n w in
    r.end.board.clock.0 ≡ w.board.clock.0 + r.taken
unfolding ticks
ticks-clock zero w = sym (add-zero w.board.clock.0)
ticks-clock (suc n) w = go (w-halt gridstep w) refl (ticks-clock n (w-step gridstep w))
  where
    went : ℕ → World Board → Ran Stop (World Board)
    went = ticks (w-halt gridstep) (w-step gridstep)

    go : (o : Option Stop) → w-halt gridstep w ≡ o →
        (went n (w-step gridstep w)).end.board.clock.0 ≡ w.board.clock.0 + 1 + (went n (w-step gridstep w)).taken →
        (went (suc n) w).end.board.clock.0 ≡ w.board.clock.0 + (went (suc n) w).taken
    go None e ih = rw (ticks-on (w-halt gridstep) (w-step gridstep) n w e) (omega arith)
    go (Some x) e ih = rw (ticks-off (w-halt gridstep) (w-step gridstep) n w x e) (sym (add-zero w.board.clock.0))

-- the clock after a call is the clock before it and the ticks taken
part-clock : (p : Part Call) (w : World Board) →
    (perform gridstep p w).left.board.clock.0 ≡ w.board.clock.0 + taken_in (perform gridstep p w).answer
unfolding read
part-clock (one c) w =
    same-clock (length w.log) w.board c ∙ rw (no-ticks c (length w.log) w.board) (sym (add-zero w.board.clock.0))
part-clock (run n) w = go (w-bar gridstep w) refl
  where
    go : (o : Option ℕ) → w-bar gridstep w ≡ o →
        (perform gridstep (run n) w).left.board.clock.0 ≡ w.board.clock.0 + taken_in (perform gridstep (run n) w).answer
    go None e =
        let r = ticks (w-halt gridstep) (w-step gridstep) n w in
        rw (advance-in (w-halt gridstep) (w-step gridstep) (w-bar gridstep) stopped_by refused n w e, read.taken_done r.taken r.why) (ticks-clock n w)
    go (Some k) e =
        rw (advance-out (w-halt gridstep) (w-step gridstep) (w-bar gridstep) stopped_by refused n w k e) (sym (add-zero w.board.clock.0))

-- the clock never falls, and the ticks taken that an answer carries are the clock after the call less the clock before it
pub taken-growth : (c : Call) (w : World Board) →
    let d = does c w in
    (w.board.clock.0 ≤ d.left.board.clock.0) × (taken_in d.answer ≡ d.left.board.clock.0 - w.board.clock.0)
taken-growth c w = let e = part-clock (part most run_count advance_by c) w in (omega arith, omega arith)

-- the clock after a list of calls
list-clock : (ps : List (Part Call)) (w : World Board) →
    let r = performs (perform gridstep) ps w in
    r.last.board.clock.0 ≡ w.board.clock.0 + total taken_in r.answers
list-clock [] w = sym (add-zero w.board.clock.0)
list-clock (p ∷ ps) w =
    let e = part-clock p w in
    let more = list-clock ps (perform gridstep p w).left in
    omega arith

-- after a list of calls from any board the clock has grown by all ticks taken
pub trace-clock : {cs : List Call} {w u : World Board} {xs : List Reply} → Trace cs w xs u →
    u.board.clock.0 ≡ w.board.clock.0 + total taken_in xs
trace-clock {cs} {w} t = rw (trace-is t) at (list-clock (cut_up cs) w)

-- from a fresh board the clock at the end is the sum of all ticks taken
pub clock-sum : {cs : List Call} {log : List ℕ} {xs : List Reply} {u : World Board} → Trace cs (world fresh_board log) xs u →
    u.board.clock.0 ≡ total taken_in xs
unfolding fresh_board
clock-sum t = trace-clock t ∙ zero-add _
