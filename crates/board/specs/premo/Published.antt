-- The properties that 001 publishes of a synchronizable object, claimed of every track in every list of calls.
use Rattle.std.specs.Prelude.{ℕ, ◌+◌, ◌≤◌, true, false, cond, ◌≡◌, List, [], ◌∷◌, ◌++◌, eqb, pos, length, replicate}
use Rattle.track.specs.declared.setup.Change.TheVariants as change
use Rattle.track.specs.Rule.{STOPPED, PLAYING, stopped}
use Rattle.board.specs.declared.Board.{Board}
use Rattle.board.specs.Board.{track_at, is_present}
use Rattle.board.specs.Log.{capacity}
use Rattle.board.specs.Setup.{given_point}
use Rattle.board.specs.Mode.{call_records}
use Rattle.board.specs.declared.call.Call.{Call}
use Rattle.board.specs.declared.call.Call.TheVariants as call
use Rattle.board.specs.Replay.{World}
use Rattle.board.specs.Call.{refused, does}
use Rattle.board.specs.premo.Automaton.{Act, do_play, do_pause, do_resume, do_stop, do_wait, done_play, jump, exc, offers, Path, one_of, none_before, after_each}
use Rattle.board.specs.premo.Acts.{mode_of, trace_of, end_of, Brings}

-- a mode call that the mode does not allow
abbrev pub raises : ℕ → ℕ → Call
raises i mode = cond (eqb mode STOPPED) (call.Resume (pos i)) (call.Play (pos i))

-- the record of track i's change to this mode, if any, fits
abbrev pub Fits : ℕ → ℕ → World Board → Type 0
Fits i mode w = w.board.held + length (call_records w.board i mode) ≤ capacity (length w.log)

-- `trace` are the acts of track i, and w is the board and the log that they leave.
pub record Published (i : ℕ) (trace : List Act) (w : World Board) : Type 0 where
  -- 4.1: they are a path of mode_transitions, from STOPPED to the mode at the end.
  pub modes : Path STOPPED trace (mode_of w.board i)
  -- 4.2, 1. In all states it is always possible to raise an exception: AG <exc> true. It leaves board and log equal,
  pub exceptions : is_present w.board.present i ≡ true →
      Brings i (raises i (mode_of w.board i)) exc w × ((does (raises i (mode_of w.board i)) w).left ≡ w)
  -- and so does every refused call.
  pub refusals : (c : Call) (k : ℕ) → (does c w).answer ≡ refused k → (does c w).left ≡ w
  -- 4.2, 2. A do_resume is preceded by a do_pause or a do_wait since the beginning of the trace
  -- (~E [true {~(do_pause | do_wait)} U {do_resume} true]),
  pub resume_first : none_before (do_pause ∷ do_wait ∷ []) (do_resume ∷ []) trace ≡ true
  -- and since the last do_resume (AG ([do_resume] ~E [true {~(do_pause | do_wait)} U {do_resume} true])); also since the last do_play,
  -- do_stop or done_play.
  pub resume_again : after_each (do_resume ∷ do_play ∷ do_stop ∷ done_play ∷ []) (none_before (do_pause ∷ do_wait ∷ []) (do_resume ∷ [])) trace ≡ true
  -- 4.2, 3. Whenever a do_pause or do_wait occurs a do_resume is enabled (AG [do_play] AG [do_pause | do_wait] AF <do_resume> true): the
  -- mode then offers it;
  pub resume_offered : (xs : List Act) (a : Act) → trace ≡ xs ++ (a ∷ []) → one_of (do_pause ∷ do_wait ∷ []) a ≡ true
      → offers (mode_of w.board i) do_resume ≡ true
  -- where a mode offers it, PAUSED or WAITING, a resume is never refused 2, and acts if its record fits.
  pub resume_enabled : offers (mode_of w.board i) do_resume ≡ true →
      ((does (call.Resume (pos i)) w).answer ≡ refused 2 → ⊥) × (Fits i PLAYING w → Brings i (call.Resume (pos i)) do_resume w)
  -- 4.1: do_stop in every mode: a stop is never refused 2, and acts if its record fits; it leaves the track STOPPED and rewound.
  pub stop_enabled : is_present w.board.present i ≡ true →
      ((does (call.Stop (pos i)) w).answer ≡ refused 2 → ⊥)
      × (Fits i STOPPED w → Brings i (call.Stop (pos i)) do_stop w
      × (track_at (does (call.Stop (pos i)) w).left.board.tracks i ≡ stopped (track_at w.board.tracks i)))
  -- 6. No jump between the calculation of a new target and the end of a stepping stage
  -- (AG [target] ~E [true {~(doneStage | done_play | do_stop | do_pause)} U {jump} true]): do_play and do_resume begin to step.
  pub jump_safe : after_each (do_play ∷ do_resume ∷ []) (none_before (done_play ∷ do_stop ∷ do_pause ∷ []) (jump ∷ [])) trace ≡ true

-- The claim: of every track, in every list of calls, refused ones included, from a fresh board and on any log.
abbrev pub OfEveryList : Type 0
OfEveryList = (i : ℕ) (cs : List Call) (log : List ℕ) → Published i (trace_of i cs log) (end_of cs log)

-- ---- examples, on a log of zeros

-- 4.2, 4. is not satisfied (~E [true {~do_play} U {do_pause | do_wait} true]
-- & AG ([do_pause | do_wait] ~E [true {~do_play} U {do_pause | do_wait} true])): 001's own counterexample, a pause of a waiting track.
abbrev pub waited_then_paused : List Call
waited_then_paused =
    call.AddTrack (pos 0) (pos 0) (pos 10)
    ∷ call.SetPoint (pos 0) (given_point (pos 0) (pos 7) (pos 1) (pos 0) (pos 0))
    ∷ call.Play (pos 0)
    ∷ call.Advance (pos 1)
    ∷ call.Pause (pos 0)
    ∷ []

pub record Counterexample : Type 0 where
  pub trace : trace_of 0 waited_then_paused (replicate 16 0) ≡ do_play ∷ do_wait ∷ do_pause ∷ []
  pub fails : after_each (do_pause ∷ do_wait ∷ []) (none_before (do_play ∷ []) (do_pause ∷ do_wait ∷ [])) (trace_of 0 waited_then_paused (replicate 16 0)) ≡ false

-- Every act occurs: track 1 has a wait flag on 1, and the points of track 0 command it to resume, and then to pause, in the tick
-- in which it stops.
abbrev pub every_act : List Call
every_act =
    call.AddTrack (pos 1) (pos 0) (pos 2)
    ∷ call.SetPoint (pos 1) (given_point (pos 1) (pos 7) (pos 1) (pos 0) (pos 0))
    ∷ call.AddTrack (pos 0) (pos 0) (pos 10)
    ∷ call.SetPoint (pos 0) (given_point (pos 0) (pos 8) (pos 0) (pos 3) (pos 1))
    ∷ call.SetPoint (pos 0) (given_point (pos 1) (pos 9) (pos 0) (pos 2) (pos 1))
    ∷ call.SetUp (pos 1) (change.Jump (pos 1))
    ∷ call.Resume (pos 1)
    ∷ call.Play (pos 1)
    ∷ call.Advance (pos 1)
    ∷ call.Play (pos 0)
    ∷ call.Advance (pos 2)
    ∷ call.Stop (pos 1)
    ∷ call.Play (pos 1)
    ∷ call.Pause (pos 1)
    ∷ []

abbrev pub AllOccur : Type 0
AllOccur =
    trace_of 1 every_act (replicate 64 0)
    ≡ jump ∷ exc ∷ do_play ∷ do_wait ∷ do_resume ∷ done_play ∷ exc ∷ do_stop ∷ do_play ∷ do_pause ∷ []
