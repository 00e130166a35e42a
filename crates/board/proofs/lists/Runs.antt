-- A list of calls on a board and a log, computed: what the rule says that they answer and leave.
use Prim.Native.Nat.{ℕ}
use mathlib.Core.Path.{◌≡◌, refl, sym, ap₂}
use mathlib.Core.Bool.{Bool, true, false, ◌&&◌, true≢false}
use mathlib.Core.List.{List, [], ◌∷◌, ◌++◌}
use lib.Dec.{eqb}
use borrow.Author.Tests.{eqb-true}
use Rattle.track.specs.declared.Track.{Track}
use Rattle.track.proofs.Tests.{both}
use Rattle.track.specs.Rule.{new_track, entered, every, ordered_test, events_test, cells_test, rated_test, valid_test, sound_test}
use Rattle.track.specs.Follow.{up_to_zero, zeros_test, pairs_test, band_of, judged, follower_test}
use Rattle.track.specs.Number.{coordinate_of, within, natural_of, value_of}
use Rattle.track.specs.Grid.{grid_of}
use Rattle.track.specs.Walk.{arrival, passes_at, stops, visited, step}
use Rattle.track.specs.Leap.{moves, remainder_left, played}
use Rattle.track.specs.Setup.{settled, permits, start_set, end_set, loops_set, repeat_set, closes, turned_to, direction_set, action_set, jump_to, rate_set, set_by, changed_by}
use Rattle.board.specs.declared.Board.{Board}
use Rattle.board.specs.declared.call.Call.{Call}
use Rattle.board.specs.Log.{le, twos_of, record_bytes, log_bytes, position_of, bytes_of}
use Rattle.board.specs.Points.{keys_of, infos_of, key_of, info_of, point_of, has_key, first_from, insert_at, insert_row, no_points, info_at, replaced, added, stored_in, waits, ascending_from}
use Rattle.board.specs.Board.{is_present, master_test, track_test, tracks_test, place_test, allowed_test, points_test, shape_test, unbroken_parts, fresh_board, found_in}
use Rattle.board.specs.Setup.{set_up, add_track, described_by, set_point, ranged_test, thresholds_in, events_in, rising_test, put_master, set_master}
use Rattle.board.specs.Tick.{members_from}
use Rattle.board.specs.Tick.{point_records, change_records, playing_word, found_by, step_records, step_member, step_all, command_records, commanded, run_command, run_all, play_from, follow_word, band_records, follow_member, follow_all, tick_from}
use Rattle.board.specs.Mode.{changes_to, decided, mode_result}
use Rattle.board.specs.Cut.{All, ticks, advance, performs}
use Rattle.board.specs.Replay.{World, perform}
use Rattle.board.specs.Call.{Reply, track_values, gridstep, halt_of, bar_of, says_of, makes_of, run_count}
use Rattle.board.specs.Row.{track_numbers, numbers_of}
use Rattle.board.specs.Lists.{cut_up}

-- to unfold it is to compute with the rule: all its definitions but those of drop point, clear and the queries
unfoldable pub ran : List Call → World Board → All Reply (World Board)
unfolding new_track entered every ordered_test events_test cells_test rated_test valid_test sound_test up_to_zero zeros_test pairs_test follower_test band_of judged coordinate_of within natural_of value_of grid_of arrival passes_at stops visited step moves remainder_left played found_by settled permits start_set end_set loops_set repeat_set closes turned_to direction_set action_set jump_to rate_set set_by changed_by le twos_of position_of bytes_of record_bytes log_bytes key_of info_of point_of has_key first_from insert_at insert_row no_points info_at replaced added stored_in is_present master_test track_test tracks_test place_test allowed_test points_test shape_test unbroken_parts fresh_board found_in set_up add_track described_by set_point ascending_from ranged_test thresholds_in events_in rising_test put_master set_master members_from waits point_records change_records playing_word step_records step_member step_all command_records commanded run_command run_all play_from follow_word band_records follow_member follow_all tick_from changes_to decided mode_result ticks advance halt_of bar_of says_of makes_of run_count
ran calls w = performs (perform gridstep) (cut_up calls) w

-- what is seen of it: all answers, and at the end the clock, the number of records held and the log
pub record Shown : Type 0 where
  pub answers : List Reply
  pub clock : ℕ
  pub held : ℕ
  pub log : List ℕ

abbrev pub seen : All Reply (World Board) → Shown
seen r = record { answers = r.answers; clock = r.last.board.clock.0; held = r.last.board.held; log = r.last.log }

abbrev pub shown : List Call → World Board → Shown
shown calls w = seen (ran calls w)

-- ---- what is computed, by its numbers

-- every number of these tracks
abbrev numbers : List Track → List ℕ
numbers [] = []
numbers (t ∷ ts) = track_numbers (track_values t) ++ numbers ts

-- every number of an answer, a board and a log, but for the empty places of the point table
abbrev pub all_of : Reply → Board → List ℕ → List ℕ
all_of a b log =
    numbers_of a
    ++ (b.clock.0 ∷ b.held ∷ b.present ∷ b.points.count ∷ log) ++ keys_of b.points ++ infos_of b.points ++ numbers b.tracks

-- whether two rows of numbers are the same
unfoldable pub alike : List ℕ → List ℕ → Bool
alike [] [] = true
alike [] (y ∷ ys) = false
alike (x ∷ xs) [] = false
alike (x ∷ xs) (y ∷ ys) = eqb x y && alike xs ys

-- they are equal then
pub alike_same : (xs ys : List ℕ) → alike xs ys ≡ true → xs ≡ ys
unfolding alike
alike_same [] [] h = refl
alike_same [] (y ∷ ys) h = absurd (true≢false (sym h))
alike_same (x ∷ xs) [] h = absurd (true≢false (sym h))
alike_same (x ∷ xs) (y ∷ ys) h =
    let b = both (eqb x y) (alike xs ys) h in
    ap₂ (λ (n : ℕ) (ns : List ℕ). n ∷ ns) (eqb-true x y b.0) (alike_same xs ys b.1)
