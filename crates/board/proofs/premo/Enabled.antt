-- The mode calls on a present track that act, and those that are refused.
use Rattle.std.specs.Prelude.{Some, None}
use Prim.Native.Nat.{ℕ, ◌+◌, zero-le}
use mathlib.Core.Path.{◌≡◌, refl, sym, ◌∙◌, ap}
use mathlib.Core.Bool.{true}
use native.Mathlib.Omega.{arith}
use lib.Dec.{eqb, leb}
use lib.IntN.{pos}
use lib.ListN.{length}
use lib.Seq.{get_or-set_same}
use borrow.Author.Tests.{eqb-true, eq-eqb, le-leb}
use Rattle.track.specs.declared.Track.{Track}
use Rattle.track.specs.Rule.{STOPPED, PLAYING, WAITING, stopped, entered}
use Rattle.track.specs.Grid.{PLAY, RESUME, STOP, grid_of}
use Rattle.track.specs.Number.{natural_of}
use Rattle.track.proofs.Tests.{cond_cases, cond_yes, cond_no}
use Rattle.track.proofs.Numbers.{natural-of}
use Rattle.board.specs.declared.Board.{Board}
use Rattle.board.specs.Board.{track_at, no_track, is_present, found_in, Unbroken}
use Rattle.board.proofs.rules.Broken.{present-small, unbroken-is}
use Rattle.board.specs.Mode.{ModeResult, call_records, changing, changes_to, decided, mode_result}
use Rattle.board.specs.Log.{capacity}
use Rattle.board.specs.declared.call.Call.{Call}
use Rattle.board.specs.declared.call.Call.TheVariants as call
use Rattle.board.specs.Replay.{World, wrote}
use Rattle.board.specs.Call.{refused, answered, made_by, says_of, makes_of, gridstep, run_count, does}
use Rattle.board.specs.premo.Automaton.{do_resume, do_stop, exc, offers}
use Rattle.board.specs.premo.Acts.{mode_of, is_number, is_on, deed_of, is_refusal, call_acts, Brings}
use Rattle.board.specs.premo.Published.{raises, Fits}
use Rattle.board.proofs.call.Refusals.{silent}
use Rattle.board.proofs.mode.Results.{mode-goes}
use Rattle.board.proofs.premo.Calls.{result-cases, present-mode}

-- ---- mode calls on a present track

module _ (w : World Board) (whole : Unbroken w.board) (i : ℕ) (present : is_present w.board.present i ≡ true) where
  abbrev b : Board
  b = w.board

  abbrev n : ℕ
  n = length w.log

  abbrev t : Track
  t = track_at w.board.tracks i

  abbrev chosen : ℕ → ModeResult
  chosen c = mode_result w.board (length w.log) (pos i) c

  number : natural_of (pos i) 0 15 ≡ Some i
  number = natural-of i 0 15 zero-le (omega (arith, present-small b.present i present))

  on : is_number i (pos i) ≡ true
  on = rw number (eq-eqb i i refl)

  found : found_in b.present (pos i) ≡ Some i
  unfolding found_in
  found = rw (number, present)

  -- what the grid lets act is accepted, if its record fits
  goes : (c m : ℕ) → grid_of t.mode c ≡ Some m → Fits i m w → chosen c ≡ changing b i m
  goes c m g fits = mode-goes b whole n (pos i) i c m found g fits

  -- and is not refused 2, whether it fits or not
  not-2 : (c m : ℕ) → grid_of t.mode c ≡ Some m → answered (chosen c).answer ≡ refused 2 → ⊥
  unfolding mode_result decided changes_to
  not-2 c m g =
      rw (unbroken-is b whole, found, g)
      (cond_cases Not2 (leb b.held (capacity n))
      (λ _. cond_cases Not2 (leb (b.held + length (call_records b i m)) (capacity n))
      (λ _ e. let z : ◌≡◌ {A = ℕ} 0 1 = cc in omega arith) (λ _ e. let z : ◌≡◌ {A = ℕ} 8 2 = cc in omega arith))
      (λ _ e. let z : ◌≡◌ {A = ℕ} 7 2 = cc in omega arith))
    where
      Not2 : ModeResult → Type 0
      Not2 r = answered r.answer ≡ refused 2 → ⊥

  -- what the grid does not let act is refused
  refuses : (c : ℕ) → grid_of t.mode c ≡ None
      → (is_refusal (answered (chosen c).answer) ≡ true) × (wrote gridstep (made_by (chosen c)) w ≡ w)
  refuses c g =
      result-cases b n (pos i) c (λ (m : ModeResult). (is_refusal (answered m.answer) ≡ true) × (wrote gridstep (made_by m) w ≡ w))
      (λ _. (refl, silent b w)) (λ j mode e _ h. absurd (let z : ◌≡◌ {A = ℕ} 0 1 = cc number in omega arith))

  -- in every mode a mode call is refused, and leaves all equal
  pub raised : Brings i (raises i (mode_of b i)) exc w × ((does (raises i (mode_of b i)) w).left ≡ w)
  unfolding grid_of run_count call_acts says_of makes_of is_on deed_of
  raised =
      cond_cases (λ (c : Call). Brings i c exc w × ((does c w).left ≡ w)) (eqb (mode_of b i) STOPPED)
      (λ e. let r = refuses RESUME (rw (present-mode b i present ∙ eqb-true (mode_of b i) STOPPED e)) in (rw (on, r.0), r.1))
      (λ e. let r = refuses PLAY (sym (cond_no _ _ (ap (λ (m : ℕ). eqb m STOPPED) (present-mode b i present) ∙ e) refl)) in (rw (on, r.0), r.1))

  -- a resume acts where it is offered
  pub resumes : offers t.mode do_resume ≡ true →
      ((does (call.Resume (pos i)) w).answer ≡ refused 2 → ⊥) × (Fits i PLAYING w → Brings i (call.Resume (pos i)) do_resume w)
  unfolding grid_of offers run_count call_acts says_of is_on deed_of
  resumes o =
      let g : grid_of t.mode RESUME ≡ Some PLAYING = sym (cond_yes _ _ o refl) in
      (not-2 RESUME PLAYING g, λ fits. rw (on, goes RESUME PLAYING g fits))

  -- a stop acts in every mode
  pub stops :
      ((does (call.Stop (pos i)) w).answer ≡ refused 2 → ⊥)
      × (Fits i STOPPED w → Brings i (call.Stop (pos i)) do_stop w × (track_at (does (call.Stop (pos i)) w).left.board.tracks i ≡ stopped t))
  unfolding grid_of entered run_count call_acts says_of makes_of is_on deed_of
  stops =
      let valid = (whole.tracks i present).valid in
      let g : grid_of t.mode STOP ≡ Some STOPPED = sym (cond_yes _ _ (le-leb t.mode WAITING valid.mode) refl) in
      let l = present-small b.present i present in (
        not-2 STOP STOPPED g,
        λ fits.
            let e = goes STOP STOPPED g fits in
            (rw (on, e), rw e (get_or-set_same b.tracks i (stopped t) no_track (omega (arith, whole.shape.tracks)))),
      )
