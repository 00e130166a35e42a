-- The acts of a track in a tick, a call, an advance and a list of calls, from the walk, the points and the mode grid: no record
-- is looked at.
use Rattle.std.specs.Prelude.{ℕ, Bool, true, false, cond, ◌≡◌, List, [], ◌∷◌, ◌++◌, map, eqb, ℤ, length, Option, Some, None}
use Rattle.track.specs.declared.Track.{Track}
use Rattle.track.specs.declared.setup.Change.{Change}
use Rattle.track.specs.declared.setup.Change.TheVariants as change
use Rattle.track.specs.Rule.{STOPPED}
use Rattle.track.specs.Grid.{PLAY, PAUSE, RESUME, grid_of}
use Rattle.track.specs.Number.{natural_of, on_some}
use Rattle.track.specs.Walk.{stops}
use Rattle.track.specs.Leap.{moves, played}
use Rattle.board.specs.Points.{keys_of, infos_of, has_key, waits, command_of, target_of}
use Rattle.board.specs.declared.Board.{Board}
use Rattle.board.specs.Board.{track_at, is_present, fresh_board}
use Rattle.board.specs.Tick.{members, playing_word, found_by, obeyed}
use Rattle.board.specs.declared.call.Call.{Call}
use Rattle.board.specs.declared.call.Call.TheVariants as call
use Rattle.board.specs.Cut.{crossed, Part, run, one, part, performs}
use Rattle.board.specs.Replay.{World, w-halt, w-bar, w-step, perform}
use Rattle.board.specs.Call.{Reply, accepted, refused, done, log_full, clock_ended, clock_is, track_is, point_is, count_is}
use Rattle.board.specs.Call.{stopped_by, says_of, gridstep, most, run_count, advance_by, world}
use Rattle.board.specs.Lists.{cut_up}
use Rattle.board.specs.Arrivals.{Arrival, arrivals_in}
use Rattle.board.specs.premo.Automaton.{Act, do_play, do_pause, do_resume, do_stop, do_wait, done_play, jump, exc}

-- the mode of track i; where it is absent, the mode that it will have when it is added
abbrev pub mode_of : Board → ℕ → ℕ
mode_of b i = cond (is_present b.present i) (track_at b.tracks i).mode STOPPED

-- ---- a tick

-- a tick of a PLAYING track that finds the info d: if it makes a step, it stops at far by itself; otherwise a wait flag takes it to WAITING
unfoldable pub step_acts : Track → ℕ → List Act
step_acts t d = cond (moves t) (cond (stops t) (done_play ∷ []) (cond (waits d) (do_wait ∷ []) [])) []

-- the four mode calls, by their numbers as commands
unfoldable pub act_of : ℕ → Act
act_of c = cond (eqb c PLAY) do_play (cond (eqb c PAUSE) do_pause (cond (eqb c RESUME) do_resume do_stop))

-- a command that the grid lets act, or refuses
abbrev pub ruled : ℕ → Option ℕ → Act
ruled c (Some m) = act_of c
ruled c None = exc

-- the command of a point, if it has one, on its target
unfoldable pub obey_acts : ℕ → Track → List Act
obey_acts d t = cond (eqb (command_of d) 0) [] (ruled (command_of d) (grid_of t.mode (command_of d)) ∷ [])

-- of these points' commands, in their order, those on track i
unfoldable pub command_acts : ℕ → List ℕ → Track → List Act
command_acts i [] t = []
command_acts i (d ∷ ds) t = cond (eqb (target_of d) i) (obey_acts d t ++ command_acts i ds (obeyed d t)) (command_acts i ds t)

-- the points reached in a tick
abbrev pub reached_in : Board → List ℕ
reached_in b = map (λ (a : Arrival). a.info) (arrivals_in b)

-- track i is a member of the playing word
abbrev pub plays : Board → ℕ → Bool
plays b i = has_key i (members (playing_word b.present b.tracks))

-- the info that its step meets, 0 where there is no point
abbrev pub info_met : Board → ℕ → ℕ
info_met b i = found_by (keys_of b.points) (infos_of b.points) i (track_at b.tracks i)

-- its own tick, if it is one; then the commands on it
unfoldable pub tick_acts : ℕ → Board → List Act
tick_acts i b =
    let t = track_at b.tracks i in
    let d = info_met b i in
    cond (plays b i) (step_acts t d) [] ++ command_acts i (reached_in b) (cond (plays b i) (played t (waits d)) t)

-- ---- a call

-- the number that a call gives is i
abbrev pub is_number : ℕ → ℤ → Bool
is_number i track = on_some (natural_of track 0 15) (λ k. eqb k i) false

-- a call on track i
unfoldable pub is_on : ℕ → Call → Bool
is_on i (call.AddTrack track lo hi) = is_number i track
is_on i (call.SetUp track c) = is_number i track
is_on i (call.SetPoint track p) = is_number i track
is_on i (call.DropPoint track p) = is_number i track
is_on i (call.Play track) = is_number i track
is_on i (call.Pause track) = is_number i track
is_on i (call.Resume track) = is_number i track
is_on i (call.Stop track) = is_number i track
is_on i (call.Advance n) = false
is_on i call.Clear = false
is_on i call.Clock = false
is_on i (call.Track track) = is_number i track
is_on i (call.Point track p) = is_number i track
is_on i (call.PointCount track from to) = is_number i track
is_on i (call.Master track master ps) = is_number i track

abbrev pub change_acts : Change → List Act
change_acts (change.Start p) = []
change_acts (change.End p) = []
change_acts (change.Loops n) = []
change_acts (change.Repeat f) = []
change_acts (change.Direction d) = []
change_acts (change.Action from to event) = []
change_acts (change.Jump p) = jump ∷ []
change_acts (change.Rate p q) = []

-- what it does with its track where it is not refused
unfoldable pub deed_of : Call → List Act
deed_of (call.AddTrack track lo hi) = []
deed_of (call.SetUp track c) = change_acts c
deed_of (call.SetPoint track p) = []
deed_of (call.DropPoint track p) = []
deed_of (call.Play track) = do_play ∷ []
deed_of (call.Pause track) = do_pause ∷ []
deed_of (call.Resume track) = do_resume ∷ []
deed_of (call.Stop track) = do_stop ∷ []
deed_of (call.Advance n) = []
deed_of call.Clear = []
deed_of call.Clock = []
deed_of (call.Track track) = []
deed_of (call.Point track p) = []
deed_of (call.PointCount track from to) = []
deed_of (call.Master track master ps) = []

abbrev pub is_refusal : Reply → Bool
is_refusal accepted = false
is_refusal (refused n) = true
is_refusal (done n) = false
is_refusal (log_full n) = false
is_refusal (clock_ended n) = false
is_refusal (clock_is c held) = false
is_refusal (track_is t) = false
is_refusal (point_is p) = false
is_refusal (count_is n) = false

-- a call on track i that is answered so
abbrev pub answered_acts : ℕ → Call → Reply → List Act
answered_acts i c reply = cond (is_on i c) (cond (is_refusal reply) (exc ∷ []) (deed_of c)) []

-- ---- an advance, and a list of calls

-- the ticks taken, from what is before each of them
unfoldable pub ticks_acts : ℕ → List (World Board) → List Act
ticks_acts i [] = []
ticks_acts i (w ∷ ws) = tick_acts i w.board ++ ticks_acts i ws

unfoldable pub call_acts : ℕ → Part Call → World Board → List Act
call_acts i (run n) w = ticks_acts i (crossed (w-halt gridstep) (w-step gridstep) (w-bar gridstep) stopped_by refused n w)
call_acts i (one c) w = answered_acts i c (says_of c (length w.log) w.board)

unfoldable pub list_acts : ℕ → List (Part Call) → World Board → List Act
list_acts i [] w = []
list_acts i (p ∷ ps) w = call_acts i p w ++ list_acts i ps (perform gridstep p w).left

-- the acts of track i in a list of calls, from a fresh board and any log
abbrev pub trace_of : ℕ → List Call → List ℕ → List Act
trace_of i cs log = list_acts i (cut_up cs) (world fresh_board log)

-- what the list leaves
abbrev pub end_of : List Call → List ℕ → World Board
end_of cs log = (performs (perform gridstep) (cut_up cs) (world fresh_board log)).last

-- <a> true: the call is act a of track i
abbrev pub Brings : ℕ → Call → Act → World Board → Type 0
Brings i c a w = call_acts i (part most run_count advance_by c) w ≡ a ∷ []
