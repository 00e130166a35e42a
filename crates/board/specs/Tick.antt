-- The tick of a board (01, "Tick of the board"), apart from the log and the number of records held.
use Rattle.std.specs.Prelude.{ℕ, zero, suc, ◌/◌, ◌%◌, ◌+◌, ◌-◌, ◌*◌, ◌≤◌, ◌<◌, List, [], ◌∷◌, ◌++◌, Bool, true, cond, not, ◌||◌, ◌≡◌, length, set, get_or, eqb, Option, Some, None}
use Rattle.track.specs.declared.Track.{Track}
use Rattle.track.specs.Rule.{PLAYING, Valid, action_cell, entered, threshold_count, event_most}
use Rattle.track.specs.Follow.{follows, judged, banded}
use Rattle.track.specs.Grid.{grid_of}
use Rattle.track.specs.Walk.{arrival, passes_at}
use Rattle.track.specs.Leap.{moves, played}
use Rattle.board.specs.declared.Board.{Board}
use Rattle.board.specs.declared.info.Info.{Info}
use Rattle.board.specs.declared.log.Record.{Record}
use Rattle.board.specs.declared.tick.Stepped.{Stepped}
use Rattle.board.specs.Points.{key, keys_of, infos_of, info_at, event_of, command_of, target_of, waits, track_count, InfoRule}
use Rattle.board.specs.Replay.{Each}
use Rattle.board.specs.Board.{track_at, is_present}
use Rattle.board.specs.Log.{detail_unit, record_width}

-- ---- the members of a word

-- t before the rest where its bit is set
abbrev pub keep : ℕ → ℕ → List ℕ → List ℕ
keep zero t rest = rest
keep (suc bit) t rest = t ∷ rest

-- the members among the k lowest bits, lowest first; the lowest bit has the number t
unfoldable pub members_from : ℕ → ℕ → ℕ → List ℕ
members_from zero t word = []
members_from (suc k) t word = keep (word % 2) t (members_from k (suc t) (word / 2))

-- the members of a 16-bit word, lowest first
abbrev pub members : ℕ → List ℕ
members word = members_from track_count 0 word

-- ---- records (01, "Log record")
abbrev pub record_of : ℕ → ℕ → ℕ → ℕ → ℕ → ℕ → ℕ → Record
record_of clock track kind event detail position passes =
    record {
      clock = record { 0 = clock };
      track = track;
      kind = kind;
      event = event;
      detail = detail;
      position = record { 0 = position };
      passes = record { 0 = passes };
    }

-- a record, if there is one
abbrev pub listed : Option Record → List Record
listed (Some r) = r ∷ []
listed None = []

-- kind 1, point: detail = command × 16 + target
unfoldable pub point_records : ℕ → ℕ → ℕ → ℕ → ℕ → List Record
point_records clock track l passes d =
    cond (eqb d 0) [] (record_of clock track 1 (event_of d) (command_of d * detail_unit + target_of d) l passes ∷ [])

-- kind 2, mode change: the action's event, old mode × 16 + new mode; written only if the action cell is not 0
unfoldable pub change_records : ℕ → ℕ → Track → ℕ → ℕ → ℕ → List Record
change_records clock track t new l passes =
    let event = action_cell t t.mode new in
    cond (eqb event 0) [] (record_of clock track 2 event (t.mode * detail_unit + new) l passes ∷ [])

-- kind 3: track = target, event = the point's, detail = command × 16 + the target's mode, the target's position and passes
abbrev pub refusal_record : ℕ → ℕ → Track → Record
refusal_record clock d t =
    record_of clock (target_of d) 3 (event_of d) (command_of d * detail_unit + t.mode) t.position.0 t.passes.0

-- ---- The tracks PLAYING at the start of a tick form a 16-bit word.
abbrev pub play_bit : ℕ → Track → ℕ
play_bit bit t = cond (eqb t.mode PLAYING) bit 0

-- the first track's bit is the lowest; `present` is the word of those present
unfoldable pub playing_word : ℕ → List Track → ℕ
playing_word present [] = 0
playing_word present (t ∷ ts) = play_bit (present % 2) t + playing_word (present / 2) ts * 2

-- the same of any test of a track
unfoldable pub word_by : (Track → Bool) → ℕ → List Track → ℕ
word_by holds present [] = 0
word_by holds present (t ∷ ts) = cond (holds t) (present % 2) 0 + word_by holds (present / 2) ts * 2

-- ---- a tick as far as it is worked out: the tracks, the records written, the infos of the points reached
pub record Stage : Type 0 where
  pub tracks : List Track
  pub records : List Record
  pub reached : List ℕ

abbrev pub staged : List Track → List Record → List ℕ → Stage
staged ts rs ds = record { tracks = ts; records = rs; reached = ds }

-- what a tick of the playing track t, number i, finds: the info of the point that its step reaches, 0 where there is none or no step is made
unfoldable pub found_by : List ℕ → List ℕ → ℕ → Track → ℕ
found_by keys infos i t = cond (moves t) (info_at (key i (arrival t)) keys infos) 0

-- and what it writes: its point's record, then its mode-change record; nothing where no step is made
unfoldable pub step_records : ℕ → ℕ → Track → ℕ → List Record
step_records clock i t d =
    cond (moves t)
    (point_records clock i (arrival t) t.passes.0 d
    ++ change_records clock i t (played t (waits d)).mode (arrival t) (passes_at t (arrival t))) []

-- what a tick changes of its track
abbrev pub stepped : Track → Stepped
stepped t = record { mode = t.mode; position = t.position; passes = t.passes; due = t.due; remainder = t.remainder }

-- the number of an info, 0 where there is none
abbrev pub info_number : Option Info → ℕ
info_number (Some d) = d.number
info_number None = 0

abbrev pub reached_by : ℕ → List ℕ
reached_by d = cond (eqb d 0) [] (d ∷ [])

-- a tick of a track after which a command is to run, or the word of playing tracks changes: its point has a command, or the track plays no more
abbrev pub needs_more : ℕ → ℕ → Bool
needs_more d mode = not (eqb (command_of d) 0) || not (eqb mode PLAYING)

unfoldable pub step_member : List ℕ → List ℕ → ℕ → ℕ → Stage → Stage
step_member keys infos clock i s =
    let t = track_at s.tracks i in
    let d = found_by keys infos i t in
    staged (set s.tracks i (played t (waits d))) (s.records ++ step_records clock i t d) (s.reached ++ reached_by d)

-- Its members are stepped lowest first.
unfoldable pub step_all : List ℕ → List ℕ → ℕ → List ℕ → Stage → Stage
step_all keys infos clock [] s = s
step_all keys infos clock (i ∷ is) s = step_all keys infos clock is (step_member keys infos clock i s)

-- Then the commands of those points run in that order on their targets by the mode grid: a change writes a mode-change
-- record, a refused command a record of kind 3.
unfoldable pub command_records : ℕ → ℕ → Track → Option ℕ → List Record
command_records clock d t (Some m) = change_records clock (target_of d) t m t.position.0 t.passes.0
command_records clock d t None = refusal_record clock d t ∷ []

unfoldable pub commanded : Track → Option ℕ → Track
commanded t (Some m) = entered t m
commanded t None = t

-- what a point's command, if it has one, leaves of its target, and writes
abbrev pub obeyed : ℕ → Track → Track
obeyed d t = cond (eqb (command_of d) 0) t (commanded t (grid_of t.mode (command_of d)))

abbrev pub obeyed_records : ℕ → ℕ → Track → List Record
obeyed_records clock d t = cond (eqb (command_of d) 0) [] (command_records clock d t (grid_of t.mode (command_of d)))

unfoldable pub run_command : ℕ → ℕ → Stage → Stage
run_command clock d s =
    let t = track_at s.tracks (target_of d) in
    let chosen = grid_of t.mode (command_of d) in
    cond (eqb (command_of d) 0) s
    (staged (set s.tracks (target_of d) (commanded t chosen)) (s.records ++ command_records clock d t chosen) s.reached)

unfoldable pub run_all : ℕ → List ℕ → Stage → Stage
run_all clock [] s = s
run_all clock (d ∷ ds) s = run_all clock ds (run_command clock d s)

-- ---- the playing tracks, then the commands of the points reached; `clock` is the clock after the tick
unfoldable pub play_from : List ℕ → List ℕ → ℕ → ℕ → List Track → Stage
play_from keys infos clock present ts =
    let s = step_all keys infos clock (members (playing_word present ts)) (staged ts [] []) in
    run_all clock s.reached s

-- ---- After a tick's commands, for each follower in ascending order (02, 2.1)

-- the followers form a 16-bit word, as the playing tracks do
abbrev pub follow_bit : ℕ → Track → ℕ
follow_bit bit t = cond (follows t) bit 0

unfoldable pub follow_word : ℕ → List Track → ℕ
follow_word present [] = 0
follow_word present (t ∷ ts) = follow_bit (present % 2) t + follow_word (present / 2) ts * 2

-- kind 4, "Entering a band other than the one held till then, and not none": the follower's number, position and passes, the
-- threshold's event, detail the master's number
unfoldable pub band_records : ℕ → ℕ → Track → ℕ → List Record
band_records clock i t band =
    cond (eqb band t.band || eqb band 0) []
    (record_of clock i 4 (get_or t.events (band - 1) 0) t.master t.position.0 t.passes.0 ∷ [])

unfoldable pub follow_member : ℕ → ℕ → Stage → Stage
follow_member clock i s =
    let t = track_at s.tracks i in
    let band = judged t (track_at s.tracks t.master) in
    staged (set s.tracks i (banded t band)) (s.records ++ band_records clock i t band) s.reached

unfoldable pub follow_all : ℕ → List ℕ → Stage → Stage
follow_all clock [] s = s
follow_all clock (i ∷ is) s = follow_all clock is (follow_member clock i s)

-- the number of present tracks that hold a band other than none
abbrev pub band_bit : ℕ → Track → ℕ
band_bit bit t = cond (eqb t.band 0) 0 bit

unfoldable pub band_count : ℕ → List Track → ℕ
band_count present [] = 0
band_count present (t ∷ ts) = band_bit (present % 2) t + band_count (present / 2) ts

-- the records of a tick at most: two of each step, one of each command and one of each follower
abbrev pub tick_most : ℕ
tick_most = 64

-- a stage that holds these bytes has room for n records more
abbrev pub Room : ℕ → List ℕ → Type 0
Room n bytes = length bytes + n * record_width ≤ tick_most * record_width

-- ---- the tick: the playing tracks, the commands of the points reached, the followers
unfoldable pub tick_from : List ℕ → List ℕ → ℕ → ℕ → List Track → Stage
tick_from keys infos clock present ts = follow_all clock (members (follow_word present ts)) (play_from keys infos clock present ts)

abbrev pub tick_of : Board → Stage
tick_of b = tick_from (keys_of b.points) (infos_of b.points) (b.clock.0 + 1) b.present b.tracks

-- ---- what the parts of a tick may rely on

-- the present tracks are valid, and every command's target is one of them
pub record TracksRule (present : ℕ) (ts : List Track) (ds : List ℕ) : Type 0 where
  pub tracks : (i : ℕ) → is_present present i ≡ true → Valid (track_at ts i)
  pub infos : (j : ℕ) → j < length ds → InfoRule (get_or ds j 0)
  pub targets : (j : ℕ) → j < length ds → (command_of (get_or ds j 0) ≡ 0 → ⊥) → is_present present (target_of (get_or ds j 0)) ≡ true

-- the follower t of the master m can be judged: both are valid, it has four thresholds, the master's number and each event are in their ranges
pub record FollowRule (t m : Track) : Type 0 where
  pub track : Valid t
  pub number : t.master < track_count
  pub master : Valid m
  pub thresholds : length t.thresholds ≡ threshold_count
  pub event : (j : ℕ) → get_or t.events j 0 ≤ event_most

-- the same of the tracks of these numbers
abbrev pub FollowRules : List Track → List ℕ → Type 0
FollowRules ts is = Each (λ i. FollowRule (track_at ts i) (track_at ts (track_at ts i).master)) is
