-- The row of numbers of every answer tells it, since a track that is told has its sixteen cells, its four thresholds and their events.
use Rattle.std.specs.Prelude.{Result, Ok, Err}
use Rattle.track.specs.declared.refusal.Refusal.{Refusal}
use Rattle.track.specs.declared.refusal.Refusal.TheVariants as refusal
use Rattle.track.specs.declared.Track.{Track}
use mathlib.Core.Path.{◌≡◌, subst, refl}
use lib.IntN.{ℤ}
use lib.ListN.{length}
use Rattle.track.specs.Refusal.{Answer}
use Rattle.track.specs.Refusal as answer
use Rattle.track.specs.Grid.{PLAY, PAUSE, RESUME, STOP}
use Rattle.track.proofs.Tests.{cond_cases}
use Rattle.board.specs.declared.Board.{Board}
use Rattle.board.specs.declared.call.Advanced.{Advanced}
use Rattle.board.specs.declared.call.Advanced.TheVariants as advanced
use Rattle.board.specs.declared.call.Call.{Call}
use Rattle.board.specs.declared.call.Call.TheVariants as call
use Rattle.board.specs.Board.{unbroken_test, found_in}
use Rattle.board.specs.Setup.{set_up, add_track, set_point, drop_point, set_master, clear_board}
use Rattle.board.specs.Query.{clock_of, track_of, point_in, count_in}
use Rattle.board.specs.Mode.{mode_result}
use Rattle.board.specs.Replay.{World}
use Rattle.board.specs.Call.{Reply, said_by, answered, track_said, advanced_said}
use Rattle.board.specs.Call.{pair_numbers, says_of, run_count, does}
use Rattle.board.specs.Row.{numbers_of}
use Rattle.board.proofs.rules.Present.{found_in_lem}
use Rattle.board.proofs.rules.Broken.{unbroken-of}
use Rattle.board.proofs.setup.Ways.{by-natural}
use Rattle.board.proofs.row.Replies.{Told, reply_in, reply-back}
use Rattle.board.proofs.lists.Replayed.{advance-said}

said-told : (a : Answer) → Told (answered a)
said-told answer.Accepted = tt
said-told (answer.Refused n) = tt

said-by-told : {A : Type 0} (f : A → Reply) → ((x : A) → Told (f x)) → (r : Result A Refusal) → Told (said_by f r)
said-by-told f h (Ok x) = h x
said-by-told f h (Err e) = tt

advance-told : (a : Advanced) → Told (advanced_said a)
advance-told (advanced.Done n) = tt
advance-told (advanced.LogFull n) = tt
advance-told (advanced.ClockEnd n) = tt
advance-told (advanced.Refused n) = tt

-- of a board that is not broken every track present has its cells, its thresholds and their events
track-told : (b : Board) (i : ℤ) → Told (track_said (track_of b i))
unfolding track_of
track-told b i =
    cond_cases P (unbroken_test b)
    (λ h. by-natural P (found_in b.present i) _ (Err refusal.Track)
    (λ j e.
    let here = found_in_lem b.present i e in
    let f = (unbroken-of b h).followers j here in
    (_, refl, (((unbroken-of b h).tracks j here).valid.cells.number, f.thresholds, f.events))) tt)
    (λ _. tt)
  where
    P : Result Track Refusal → Type 0
    P r = Told (track_said r)

told : (c : Call) (w : World Board) → Told (does c w).answer
unfolding run_count says_of
told (call.AddTrack i lo hi) w = said-told (add_track w.board i lo hi).answer
told (call.SetUp i c) w = said-told (set_up w.board i c).answer
told (call.SetPoint i p) w = said-told (set_point w.board i p).answer
told (call.DropPoint i p) w = said-told (drop_point w.board i p).answer
told (call.Play i) w = said-told (mode_result w.board (length w.log) i PLAY).answer
told (call.Pause i) w = said-told (mode_result w.board (length w.log) i PAUSE).answer
told (call.Resume i) w = said-told (mode_result w.board (length w.log) i RESUME).answer
told (call.Stop i) w = said-told (mode_result w.board (length w.log) i STOP).answer
told (call.Advance n) w = subst Told (advance-said n w).is (advance-told (advance-said n w).told)
told call.Clear w = said-told (clear_board w.board).answer
told call.Clock w = said-by-told _ (λ _. tt) (clock_of w.board)
told (call.Track i) w = track-told w.board i
told (call.Point i p) w = said-by-told _ (λ p. (p, refl)) (point_in w.board i p)
told (call.PointCount i from to) w = said-by-told _ (λ _. tt) (count_in w.board i from to)
told (call.Master i m ps) w = said-told (set_master w.board i m (pair_numbers ps)).answer

-- the row of a call's answer says that answer
pub answer-told : (c : Call) (w : World Board) → reply_in (numbers_of (does c w).answer) ≡ (does c w).answer
answer-told c w = reply-back (does c w).answer (told c w)
