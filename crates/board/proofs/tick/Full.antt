-- The board whose next tick writes 64 records (02, 2.2), computed: it is unbroken, and what each part of its tick writes, in order.
use Prim.Native.Nat.{ℕ}
use mathlib.Core.Path.{◌≡◌, refl}
use mathlib.Core.Bool.{true}
use mathlib.Core.List.{List, ◌++◌, map}
use lib.ListN.{length}
use Rattle.track.specs.Rule.{new_track, entered, every, ordered_test, events_test, cells_test, rated_test, valid_test, sound_test}
use Rattle.track.specs.Follow.{up_to_zero, zeros_test, pairs_test, band_of, judged, follower_test}
use Rattle.track.specs.Number.{coordinate_at}
use Rattle.track.specs.Grid.{grid_of}
use Rattle.track.specs.Walk.{arrival, passes_at, stops, visited, step}
use Rattle.track.specs.Leap.{moves, remainder_left, played}
use Rattle.board.specs.Points.{keys_of, infos_of, key_of, info_of, point_of, info_at, waits}
use Rattle.board.specs.Board.{is_present, master_test, track_test, tracks_test, place_test, allowed_test, points_test, shape_test, unbroken_parts, unbroken_test}
use Rattle.board.specs.Tick.{members_from, members, point_records, change_records, playing_word, found_by, step_records, step_member, step_all, command_records, commanded, run_command, run_all, play_from}
use Rattle.board.specs.Tick.{follow_word, band_records, follow_member, follow_all, tick_most, tick_from, tick_of}
use Rattle.board.proofs.tick.Steps.{steps_from}
use Rattle.board.specs.Full.{all_tracks, partner, stands_on, full_track, full_point, full_row, full_board, of_steps, of_command, of_follower}

abbrev keys : List ℕ
keys = keys_of full_board.points

abbrev infos : List ℕ
infos = infos_of full_board.points

pub record FullTick : Type 0 where
  pub whole : unbroken_test full_board ≡ true
  -- 32 records of the steps, then 16 of the commands, then 16 of the followers
  pub of_steps_lem : (steps_from keys infos 1 (members (playing_word full_board.present full_board.tracks)) full_board.tracks).records ≡ of_steps all_tracks
  pub with_commands : (play_from keys infos 1 full_board.present full_board.tracks).records ≡ of_steps all_tracks ++ map of_command all_tracks
  pub with_followers : (tick_of full_board).records ≡ of_steps all_tracks ++ map of_command all_tracks ++ map of_follower all_tracks
  pub counts : (length (of_steps all_tracks) ≡ 32) × (length (map of_command all_tracks) ≡ 16) × (length (map of_follower all_tracks) ≡ 16)
  -- as many as a tick can write
  pub most : length (tick_of full_board).records ≡ tick_most

pub full-tick : FullTick
unfolding partner stands_on full_track full_point full_row full_board of_steps of_command of_follower new_track entered every ordered_test events_test cells_test rated_test valid_test sound_test up_to_zero zeros_test pairs_test band_of judged follower_test coordinate_at grid_of arrival passes_at stops visited step moves remainder_left played found_by key_of info_of point_of info_at waits is_present master_test track_test tracks_test place_test allowed_test points_test shape_test unbroken_parts members_from point_records change_records playing_word step_records step_member step_all command_records commanded run_command run_all play_from follow_word band_records follow_member follow_all tick_from
full-tick = record { whole = refl; of_steps_lem = refl; with_commands = refl; with_followers = refl; counts = (refl, refl, refl); most = refl }
