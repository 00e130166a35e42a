-- What a call that takes no log comes to is what it gives, whatever the log.
use Rattle.std.specs.Prelude.{Result}
use Rattle.track.specs.declared.refusal.Refusal.{Refusal}
use Prim.Native.Nat.{ℕ}
use mathlib.Core.Path.{◌≡◌, refl, sym, ◌∙◌, ap}
use mathlib.Core.List.{List}
use lib.IntN.{ℤ}
use Rattle.track.specs.declared.setup.Change.{Change}
use Rattle.track.specs.declared.Track.{Track}
use Rattle.track.specs.declared.Ticks.{Ticks}
use Rattle.board.specs.declared.Board.{Board}
use Rattle.board.specs.declared.call.PointNumbers.{PointNumbers}
use Rattle.board.specs.declared.points.Point.{Point}
use Rattle.board.specs.Setup.{Outcome}
use Rattle.board.specs.declared.call.Call.TheVariants as call
use Rattle.board.specs.declared.call.Pairs.{Pairs}
use Rattle.board.specs.Setup.{set_up, add_track, set_point, drop_point, set_master, clear_board}
use Rattle.board.specs.Query.{clock_of, track_of, point_in, count_in}
use Rattle.board.specs.Replay.{wrote}
use Rattle.board.specs.Call.{Reply, answered, clock_said, track_said, point_said, count_said, made_of, untouched, pair_numbers, says_of, makes_of, gridstep, run_count}
use Rattle.board.specs.Call.{world, Gives, Leaves}
use Rattle.board.proofs.call.Machine.{counts}

module _ (b : Board) where
  -- a call that writes no record leaves the log
  outcome-gives : {r : Outcome} (o : Outcome) → r ≡ o → (log : List ℕ) →
      Gives (record { answer = answered o.answer; left = wrote gridstep (made_of o) (world b log) }) (answered r.answer) r.board log
  outcome-gives o e log =
      record {
        answer_is = ap (λ (o : Outcome). answered o.answer) e;
        board_is = ap (λ (o : Outcome). o.board) e ∙ sym (counts.grown_zero o.board);
        log_is = refl;
      }

  -- a query leaves the board too
  query-gives : {a : Reply} (said : Reply) → a ≡ said → (log : List ℕ) → Gives (record { answer = said; left = wrote gridstep (untouched b) (world b log) }) a b log
  query-gives said e log = record { answer_is = e; board_is = sym (counts.grown_zero b); log_is = refl }

  pub add-track-leaves : (i lo hi : ℤ) {r : Outcome} → r ≡ add_track b i lo hi → Leaves (call.AddTrack i lo hi) b (answered r.answer) r.board
  unfolding run_count says_of makes_of
  add-track-leaves i lo hi h = outcome-gives (add_track b i lo hi) h

  pub set-up-leaves : (i : ℤ) (c : Change) {r : Outcome} → r ≡ set_up b i c → Leaves (call.SetUp i c) b (answered r.answer) r.board
  unfolding run_count says_of makes_of
  set-up-leaves i c h = outcome-gives (set_up b i c) h

  pub set-point-leaves : (i : ℤ) (p : PointNumbers) {r : Outcome} → r ≡ set_point b i p → Leaves (call.SetPoint i p) b (answered r.answer) r.board
  unfolding run_count says_of makes_of
  set-point-leaves i p q = outcome-gives (set_point b i p) q

  pub drop-point-leaves : (i p : ℤ) {r : Outcome} → r ≡ drop_point b i p → Leaves (call.DropPoint i p) b (answered r.answer) r.board
  unfolding run_count says_of makes_of
  drop-point-leaves i p h = outcome-gives (drop_point b i p) h

  pub set-master-leaves : (i m : ℤ) (ps : Pairs) {r : Outcome} → r ≡ set_master b i m (pair_numbers ps) → Leaves (call.Master i m ps) b (answered r.answer) r.board
  unfolding run_count says_of makes_of
  set-master-leaves i m ps h = outcome-gives (set_master b i m (pair_numbers ps)) h

  pub clear-leaves : {r : Outcome} → r ≡ clear_board b → Leaves call.Clear b (answered r.answer) r.board
  unfolding run_count says_of makes_of
  clear-leaves h = outcome-gives (clear_board b) h

  pub clock-leaves : {r : Result (Ticks × ℕ) Refusal} → r ≡ clock_of b → Leaves call.Clock b (clock_said r) b
  unfolding run_count says_of makes_of
  clock-leaves h = query-gives (clock_said (clock_of b)) (ap clock_said h)

  pub track-leaves : (i : ℤ) {r : Result Track Refusal} → r ≡ track_of b i → Leaves (call.Track i) b (track_said r) b
  unfolding run_count says_of makes_of
  track-leaves i h = query-gives (track_said (track_of b i)) (ap track_said h)

  pub point-leaves : (i p : ℤ) {r : Result Point Refusal} → r ≡ point_in b i p → Leaves (call.Point i p) b (point_said r) b
  unfolding run_count says_of makes_of
  point-leaves i p h = query-gives (point_said (point_in b i p)) (ap point_said h)

  pub point-count-leaves : (i from to : ℤ) {r : Result ℕ Refusal} → r ≡ count_in b i from to → Leaves (call.PointCount i from to) b (count_said r) b
  unfolding run_count says_of makes_of
  point-count-leaves i from to h = query-gives (count_said (count_in b i from to)) (ap count_said h)
