-- The properties that 001 publishes, proved of every list of calls, and the examples computed.
use Prim.Native.Nat.{ℕ, ◌^◌}
use mathlib.Core.Path.{◌≡◌, refl, sym, ◌∙◌, ap}
use mathlib.Core.Bool.{Bool, true, false, cond, false≢true}
use mathlib.Core.List.{List, [], ◌∷◌}
use native.Mathlib.Nat.{zero-div}
use native.Mathlib.Omega.{arith}
use lib.IntN.{pos}
use Rattle.track.specs.Rule.{STOPPED, PLAYING}
use Rattle.track.proofs.Tests.{cond_cases}
use Rattle.board.specs.Points.{has_key}
use Rattle.board.specs.declared.Board.{Board}
use Rattle.board.specs.Board.{track_at, is_present, fresh_board, Unbroken}
use Rattle.board.proofs.rules.Broken.{present-set}
use Rattle.board.proofs.setup.Keeping.{fresh-whole}
use Rattle.board.specs.declared.call.Call.{Call}
use Rattle.board.specs.declared.call.Call.TheVariants as call
use Rattle.board.specs.Cut.{All, Part, performs, passed, crossed}
use Rattle.board.specs.Replay.{World, perform}
use Rattle.board.proofs.replay.Replays.{agrees}
use Rattle.board.specs.Call.{Reply, refused, gridstep, does, world}
use Rattle.board.proofs.call.Machine.{counts, call-whole}
use Rattle.board.specs.Lists.{cut_up, start}
use Rattle.board.specs.Arrivals.{arrival_at, arrivals_of}
use Rattle.board.proofs.lists.Runs.{ran}
use Rattle.board.proofs.lists.Replayed.{Trace, demand-3}
use Rattle.board.specs.premo.Automaton.{do_resume, offers, Path, one_of, none_before, after_each}
use Rattle.board.specs.premo.Acts.{mode_of, step_acts, act_of, obey_acts, command_acts, tick_acts, is_on, deed_of, ticks_acts, call_acts, list_acts, trace_of, end_of, Brings}
use Rattle.board.specs.premo.Published.{Fits, Published, OfEveryList, Counterexample, AllOccur}
use Rattle.board.proofs.premo.Paths.{path-ends, path-resume-first, path-resume-again, path-paused, path-jump}
use Rattle.board.proofs.premo.Calls.{list-path}
use Rattle.board.proofs.call.Refusals.{refused-equal}
use Rattle.board.proofs.premo.Enabled.{raised, resumes, stops}

list-whole : (ps : List (Part Call)) (w : World Board) → Unbroken w.board → Unbroken (performs (perform gridstep) ps w).last.board
list-whole [] w h = h
list-whole (p ∷ ps) w h = list-whole ps (perform gridstep p w).left (call-whole p w h)

fresh-mode : (i : ℕ) → mode_of fresh_board i ≡ STOPPED
unfolding fresh_board
fresh-mode i =
    cond_cases (λ (m : ℕ). m ≡ STOPPED) (is_present fresh_board.present i)
    (λ h. absurd (omega (arith, present-set 0 i h, zero-div (2 ^ i)))) (λ _. refl)

-- the key: the acts of a track are a path of the automaton from STOPPED to its mode at the end
pub modes : (i : ℕ) (cs : List Call) (log : List ℕ) → Path STOPPED (trace_of i cs log) (mode_of (end_of cs log).board i)
modes i cs log = path-ends (trace_of i cs log) (fresh-mode i) refl (list-path i (cut_up cs) (world fresh_board log) fresh-whole)

-- a mode that offers do_resume is that of a present track
resumes-present : (w : World Board) (i : ℕ) → Unbroken w.board → offers (mode_of w.board i) do_resume ≡ true →
    ((does (call.Resume (pos i)) w).answer ≡ refused 2 → ⊥) × (Fits i PLAYING w → Brings i (call.Resume (pos i)) do_resume w)
unfolding offers
resumes-present w i h = go (is_present w.board.present i) refl
  where
    go : (p : Bool) → is_present w.board.present i ≡ p → offers (cond p (track_at w.board.tracks i).mode STOPPED) do_resume ≡ true →
        ((does (call.Resume (pos i)) w).answer ≡ refused 2 → ⊥) × (Fits i PLAYING w → Brings i (call.Resume (pos i)) do_resume w)
    go true e o = resumes w h i e o
    go false e o = absurd (false≢true o)

-- the properties that 001 publishes hold
pub published : OfEveryList
published i cs log =
    let trace = trace_of i cs log in
    let w = end_of cs log in
    let path = modes i cs log in
    let whole = list-whole (cut_up cs) (world fresh_board log) fresh-whole in
    record {
      modes = path;
      exceptions = raised w whole i;
      refusals = λ c. refused-equal c w;
      resume_first = path-resume-first _ trace path;
      resume_again = path-resume-again _ _ trace path;
      resume_offered = λ xs a e h. path-paused STOPPED (mode_of w.board i) xs a h (rw e at path);
      resume_enabled = resumes-present w i whole;
      stop_enabled = stops w whole i;
      jump_safe = path-jump _ _ trace path;
    }

-- and so they do of what the functions leave, by their own contracts
pub published-left : (i : ℕ) {cs : List Call} {log : List ℕ} {xs : List Reply} {u : World Board} → Trace cs (world fresh_board log) xs u
    → Published i (trace_of i cs log) u
published-left i {cs} {log} {xs} {u} t =
    let d = demand-3 t in
    let e = ap (λ (x : All Reply (World Board)). x.last) (agrees gridstep counts (cut_up cs) (start log)) in
    let is : u ≡ end_of cs log = (λ j. world (d.board_is j) (d.log_is j)) ∙ sym e in
    rw is (published i cs log)

-- ---- examples

pub counterexample : Counterexample
unfolding ran list_acts call_acts ticks_acts tick_acts step_acts command_acts obey_acts act_of is_on deed_of passed crossed has_key arrival_at arrivals_of one_of none_before after_each
counterexample = record { trace = refl; fails = refl }

pub all-occur : AllOccur
unfolding ran list_acts call_acts ticks_acts tick_acts step_acts command_acts obey_acts act_of is_on deed_of passed crossed has_key arrival_at arrivals_of
all-occur = refl
