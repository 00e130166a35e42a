-- A refused call leaves board and log equal, whichever call it is.
use Rattle.std.specs.Prelude.{Option, Some, None}
use Prim.Native.Nat.{ℕ}
use mathlib.Core.Path.{◌≡◌, refl, ◌∙◌, ap}
use native.Mathlib.Omega.{arith}
use lib.IntN.{ℤ}
use lib.ListN.{length, set}
use lib.Seq.{set-get_or}
use Rattle.track.specs.declared.Track.{Track}
use Rattle.track.specs.Refusal.{Answer}
use Rattle.track.specs.Refusal as answer
use Rattle.track.specs.Grid.{PLAY, PAUSE, RESUME, STOP}
use Rattle.board.specs.declared.Board.{Board}
use Rattle.board.specs.Setup.{Outcome}
use Rattle.board.specs.declared.call.Call.{Call}
use Rattle.board.specs.declared.call.Call.TheVariants as call
use Rattle.board.specs.Board.{track_at}
use Rattle.board.specs.Setup.{board_with}
use Rattle.board.specs.Mode.{ModeResult, mode_result}
use Rattle.board.specs.Cut.{ticks, Part, run, one, part}
use Rattle.board.specs.Replay.{World, wrote, w-halt, w-bar, w-step, perform}
use Rattle.board.specs.Call.{refused, answered, Stop, ends, fills, stopped_by, untouched, made_of, made_by, pair_numbers, says_of, makes_of, gridstep, most, run_count}
use Rattle.board.specs.Call.{advance_by, does, world}
use Rattle.board.proofs.setup.Ways.{changed-refused, set-up-ways, add-track-ways, set-point-ways, drop-point-ways, set-master-ways, clear-ways}
use Rattle.board.proofs.replay.Cuts.{advance-in, advance-out}
use Rattle.board.proofs.call.Machine.{counts, result-ways}

-- a call that writes no record leaves the log
pub silent : (b : Board) (w : World Board) → wrote gridstep (untouched b) w ≡ world b w.log
silent b w = ap (λ (c : Board). world c w.log) (counts.grown_zero b)

-- the answer behind a refusal's reply
answered-refused : (a : Answer) {k : ℕ} → answered a ≡ refused k → a ≡ answer.Refused k
answered-refused answer.Accepted e = cc
answered-refused (answer.Refused n) e = cc

module _ (w : World Board) (k : ℕ) where
  abbrev b : Board
  b = w.board

  -- an outcome that leaves all equal if it is a refusal
  abbrev Equal : Outcome → Type 0
  Equal o = answered o.answer ≡ refused k → wrote gridstep (made_of o) w ≡ w

  -- so do the rulings of mode calls
  mode-equal : (track : ℤ) (code : ℕ) →
      let m = mode_result w.board (length w.log) track code in
      answered m.answer ≡ refused k → wrote gridstep (made_by m) w ≡ w
  mode-equal =
      result-ways w.board (length w.log) (λ (m : ModeResult). answered m.answer ≡ refused k → wrote gridstep (made_by m) w ≡ w)
      (λ _ _. silent b w) (λ i mode _ _ _ e. cc)

  -- and all calls but the advances of a run
  call-equal : (c : Call) → says_of c (length w.log) b ≡ refused k → wrote gridstep (makes_of c (length w.log) b) w ≡ w
  unfolding says_of makes_of
  call-equal (call.AddTrack i lo hi) = add-track-ways b Equal (λ _ _. silent b w) i lo hi (λ j low high _ _ _ _ e. cc)
  call-equal (call.SetUp i c) =
      set-up-ways b Equal (λ _ _. silent b w) i c
      (λ j _ e.
      silent _ w
      ∙ ap (λ (t : Track). world (board_with b (set b.tracks j t) b.present b.points b.held) w.log)
      (changed-refused (track_at b.tracks j) c (answered-refused _ e))
      ∙ rw (set-get_or b.tracks j))
  call-equal (call.SetPoint i p) = set-point-ways b Equal (λ _ _. silent b w) i p (λ q _ _ h. cc)
  call-equal (call.DropPoint i p) = drop-point-ways b Equal (λ _ _. silent b w) i p (λ j _ e. cc)
  call-equal (call.Play i) = mode-equal i PLAY
  call-equal (call.Pause i) = mode-equal i PAUSE
  call-equal (call.Resume i) = mode-equal i RESUME
  call-equal (call.Stop i) = mode-equal i STOP
  call-equal (call.Advance n) = λ e. silent b w
  call-equal call.Clear = clear-ways b Equal (λ _ _. silent b w) (λ e. cc)
  call-equal call.Clock = λ e. silent b w
  call-equal (call.Track i) = λ e. silent b w
  call-equal (call.Point i p) = λ e. silent b w
  call-equal (call.PointCount i from to) = λ e. silent b w
  call-equal (call.Master i m ps) = set-master-ways b Equal (λ _ _. silent b w) i m (pair_numbers ps) (λ j l _ _ _ _ _ _ e. cc)

  -- what stopped an advance, if anything did, is no refusal
  never-refused : (t : ℕ) (o : Option Stop) → stopped_by t o ≡ refused k → ⊥
  never-refused t None e = let z : ◌≡◌ {A = ℕ} 0 1 = cc in omega arith
  never-refused t (Some ends) e = let z : ◌≡◌ {A = ℕ} 0 1 = cc in omega arith
  never-refused t (Some fills) e = let z : ◌≡◌ {A = ℕ} 0 1 = cc in omega arith

  -- and these
  part-equal : (p : Part Call) → (perform gridstep p w).answer ≡ refused k → (perform gridstep p w).left ≡ w
  part-equal (one c) = call-equal c
  part-equal (run n) = go (w-bar gridstep w) refl
    where
      go : (o : Option ℕ) → w-bar gridstep w ≡ o → (perform gridstep (run n) w).answer ≡ refused k → (perform gridstep (run n) w).left ≡ w
      go None e h =
          let t = ticks (w-halt gridstep) (w-step gridstep) n w in
          absurd (never-refused t.taken t.why (rw (advance-in (w-halt gridstep) (w-step gridstep) (w-bar gridstep) stopped_by refused n w e) at h))
      go (Some x) e h = rw (advance-out (w-halt gridstep) (w-step gridstep) (w-bar gridstep) stopped_by refused n w x e)

-- a refused call leaves all equal: the board and every log byte
pub refused-equal : (c : Call) (w : World Board) (n : ℕ) → (does c w).answer ≡ refused n → (does c w).left ≡ w
refused-equal c w n = part-equal w n (part most run_count advance_by c)
