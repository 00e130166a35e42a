-- What every call does with a board and a log: the answers by 01's numbers, and the rules of the board, as lists of calls use them.
use Rattle.std.specs.Prelude.{ℕ, ◌+◌, ◌<◌, Bool, true, false, cond, ◌≡◌, List, [], ◌∷◌, length, ℤ, pos, leb, Option, Some, None, Result, Ok, Err, IfOk}
use Rattle.track.specs.declared.Track.{Track}
use Rattle.track.specs.declared.Ticks.{Ticks}
use Rattle.track.specs.declared.refusal.Refusal.{Refusal}
use Rattle.track.specs.Refusal.{Answer, number_of}
use Rattle.track.specs.Refusal as answer
use Rattle.track.specs.Rule.{clock_end}
use Rattle.track.specs.Grid.{PLAY, PAUSE, RESUME, STOP}
use Rattle.track.specs.Number.{natural_of, value_of}
use Rattle.board.specs.declared.Board.{Board}
use Rattle.board.specs.declared.log.Record.{Record}
use Rattle.board.specs.declared.points.Point.{Point}
use Rattle.board.specs.declared.call.Advanced.{Advanced}
use Rattle.board.specs.declared.call.Advanced.TheVariants as advanced
use Rattle.board.specs.declared.call.Call.{Call}
use Rattle.board.specs.declared.call.Call.TheVariants as call
use Rattle.board.specs.declared.call.Pairs.{Pairs}
use Rattle.board.specs.declared.call.Pairs.TheVariants as pairs
use Rattle.board.specs.Log.{record_width, record_bytes, capacity}
use Rattle.board.specs.Points.{track_count}
use Rattle.board.specs.Board.{unbroken_test}
use Rattle.board.specs.Setup.{Outcome, outcome, board_with, set_up, add_track, set_point, drop_point, set_master, clear_board}
use Rattle.board.specs.Query.{clock_of, track_of, point_in, count_in}
use Rattle.board.specs.Tick.{tick_of}
use Rattle.board.specs.Mode.{ModeResult, mode_result, outcome_of}
use Rattle.board.specs.declared.mode.ModeChange.{ModeChange}
use Rattle.board.specs.Cut.{Did, part}
use Rattle.board.specs.Replay.{Made, Rules, World, wrote, perform}
use Rattle.board.specs.declared.call.Told.{Told}
use Rattle.board.specs.declared.call.Told.TheVariants as told

-- Every field of a track, as 01 and 02 have it: positions signed, the sixteen actions, the four thresholds and their events, the rate and its
-- remainder.
pub record TrackValues : Type 0 where
  pub min : ℤ
  pub max : ℤ
  pub start : ℤ
  pub end : ℤ
  pub position : ℤ
  pub passes : ℕ
  pub loops : ℕ
  pub mode : ℕ
  pub direction : ℕ
  pub repeat : ℕ
  pub due : ℕ
  pub actions : List ℕ
  pub master : ℕ
  pub band : ℕ
  pub thresholds : List ℕ
  pub events : List ℕ
  pub steps : ℕ
  pub ticks : ℕ
  pub remainder : ℕ

abbrev pub track_values : Track → TrackValues
track_values t =
    record {
      min = value_of t.min;
      max = value_of t.max;
      start = value_of t.start;
      end = value_of t.end;
      position = value_of t.position;
      passes = t.passes.0;
      loops = t.loops;
      mode = t.mode;
      direction = t.direction;
      repeat = t.repeat;
      due = t.due;
      actions = t.actions;
      master = t.master;
      band = t.band;
      thresholds = t.thresholds;
      events = t.events;
      steps = t.steps;
      ticks = t.ticks;
      remainder = t.remainder;
    }

-- A point, as 01 has it: its position signed, its wait flag 0 or 1.
pub record PointValues : Type 0 where
  pub track : ℕ
  pub position : ℤ
  pub event : ℕ
  pub wait : ℕ
  pub command : ℕ
  pub target : ℕ

abbrev pub point_values : Point → PointValues
point_values p =
    record {
      track = p.track;
      position = value_of p.position;
      event = p.event;
      wait = p.wait;
      command = p.command;
      target = p.target;
    }

-- An answer, by 01's numbers and values: accepted, a refusal's number, an advance's reason with the ticks taken, or
-- what was asked.
pub data Reply : Type 0 where
  accepted : Reply
  refused : ℕ → Reply
  done : ℕ → Reply
  log_full : ℕ → Reply
  clock_ended : ℕ → Reply
  clock_is : ℕ → ℕ → Reply
  track_is : TrackValues → Reply
  point_is : PointValues → Reply
  count_is : ℕ → Reply

abbrev pub answered : Answer → Reply
answered answer.Accepted = accepted
answered (answer.Refused n) = refused n

-- what a result says: its value by f, or the refusal's number, given by number
abbrev pub said_with : {R A : Type 0} → (R → ℕ) → (A → Reply) → Result A R → Reply
said_with number f (Ok x) = f x
said_with number f (Err e) = refused (number e)

abbrev pub said_by : {A : Type 0} → (A → Reply) → Result A Refusal → Reply
said_by = said_with number_of

abbrev pub clock_said : Result (Ticks × ℕ) Refusal → Reply
clock_said = said_by (λ r. clock_is r.0.0 r.1)

abbrev pub track_said : Result Track Refusal → Reply
track_said = said_by (λ t. track_is (track_values t))

abbrev pub point_said : Result Point Refusal → Reply
point_said = said_by (λ p. point_is (point_values p))

abbrev pub count_said : Result ℕ Refusal → Reply
count_said = said_by count_is

-- What stops an advance: the clock's end, or records that don't fit. No refusal is one of them.
pub data Stop : Type 0 where
  ends : Stop
  fills : Stop

abbrev pub stopped_by : ℕ → Option Stop → Reply
stopped_by taken None = done taken
stopped_by taken (Some ends) = clock_ended taken
stopped_by taken (Some fills) = log_full taken

-- What stopped an advance, or refused it: the two are kept apart.
pub data Reason : Type 0 where
  stopped : Stop → Reason
  refused_with : ℕ → Reason

-- the ticks taken that an answer to an advance carries, a refusal counting 0
abbrev pub taken_in : Reply → ℕ
taken_in accepted = 0
taken_in (refused n) = 0
taken_in (done n) = n
taken_in (log_full n) = n
taken_in (clock_ended n) = n
taken_in (clock_is c held) = 0
taken_in (track_is t) = 0
taken_in (point_is p) = 0
taken_in (count_is n) = 0

-- the reason that it carries, if it isn't Done
abbrev pub why_not : Reply → Option Reason
why_not accepted = None
why_not (refused n) = Some (refused_with n)
why_not (done n) = None
why_not (log_full n) = Some (stopped fills)
why_not (clock_ended n) = Some (stopped ends)
why_not (clock_is c held) = None
why_not (track_is t) = None
why_not (point_is p) = None
why_not (count_is n) = None

abbrev pub advanced_said : Advanced → Reply
advanced_said (advanced.Done n) = done n.0
advanced_said (advanced.LogFull n) = log_full n.0
advanced_said (advanced.ClockEnd n) = clock_ended n.0
advanced_said (advanced.Refused e) = refused (number_of e)

-- ---- the board's rules, for any log of n bytes

-- the board with so many records held, and with so many more
abbrev pub held_at : ℕ → Board → Board
held_at n b = board_with b b.tracks b.present b.points n

abbrev pub grown_by : Board → ℕ → Board
grown_by b k = held_at (b.held + k) b

-- the board after a tick, its records not yet counted
abbrev pub ticked : Board → Board
ticked b =
    record {
      tracks = (tick_of b).tracks;
      present = b.present;
      points = b.points;
      clock = record { 0 = b.clock.0 + 1 };
      held = b.held;
    }

-- before a tick: the clock is 1,000,000,000 or, failing that, its records don't fit
unfoldable pub halt_of : ℕ → Board → Option Stop
halt_of n b =
    cond (leb clock_end b.clock.0) (Some ends)
    (cond (leb (b.held + length (tick_of b).records) (capacity n)) None (Some fills))

-- an advance is refused 3 for a broken board, then 7
unfoldable pub bar_of : ℕ → Board → Option ℕ
bar_of n b = cond (unbroken_test b) (cond (leb b.held (capacity n)) None (Some 7)) (Some 3)

-- an advance with another count than 0 to 4,294,967,295: 3, after those
abbrev pub barred : Option ℕ → Reply
barred None = refused 3
barred (Some k) = refused k

abbrev pub made_of : Outcome → Made Board Record
made_of o = record { board = o.board; records = [] }

abbrev pub made_by : ModeResult → Made Board Record
made_by m = record { board = m.board; records = m.records }

abbrev pub untouched : Board → Made Board Record
untouched b = record { board = b; records = [] }

-- the numbers of a master call's pairs: "strictly rising thresholds, 1 to 1,000,000, each with an event 1 to 255"
abbrev pub pair_numbers : Pairs → List ℤ
pair_numbers pairs.Nothing = []
pair_numbers (pairs.One x₁ e₁) = x₁ ∷ e₁ ∷ []
pair_numbers (pairs.Two x₁ e₁ x₂ e₂) = x₁ ∷ e₁ ∷ x₂ ∷ e₂ ∷ []
pair_numbers (pairs.Three x₁ e₁ x₂ e₂ x₃ e₃) = x₁ ∷ e₁ ∷ x₂ ∷ e₂ ∷ x₃ ∷ e₃ ∷ []
pair_numbers (pairs.Four x₁ e₁ x₂ e₂ x₃ e₃ x₄ e₄) = x₁ ∷ e₁ ∷ x₂ ∷ e₂ ∷ x₃ ∷ e₃ ∷ x₄ ∷ e₄ ∷ []
pair_numbers (pairs.More x₁ e₁ x₂ e₂ x₃ e₃ x₄ e₄ x₅ e₅) =
    x₁ ∷ e₁ ∷ x₂ ∷ e₂ ∷ x₃ ∷ e₃ ∷ x₄ ∷ e₄ ∷ x₅ ∷ e₅ ∷ []

unfoldable pub says_of : Call → ℕ → Board → Reply
says_of (call.AddTrack i lo hi) n b = answered (add_track b i lo hi).answer
says_of (call.SetUp i c) n b = answered (set_up b i c).answer
says_of (call.SetPoint i p) n b = answered (set_point b i p).answer
says_of (call.DropPoint i p) n b = answered (drop_point b i p).answer
says_of (call.Play i) n b = answered (mode_result b n i PLAY).answer
says_of (call.Pause i) n b = answered (mode_result b n i PAUSE).answer
says_of (call.Resume i) n b = answered (mode_result b n i RESUME).answer
says_of (call.Stop i) n b = answered (mode_result b n i STOP).answer
says_of (call.Advance k) n b = barred (bar_of n b)
says_of call.Clear n b = answered (clear_board b).answer
says_of call.Clock n b = clock_said (clock_of b)
says_of (call.Track i) n b = track_said (track_of b i)
says_of (call.Point i p) n b = point_said (point_in b i p)
says_of (call.PointCount i from to) n b = count_said (count_in b i from to)
says_of (call.Master i m ps) n b = answered (set_master b i m (pair_numbers ps)).answer

unfoldable pub makes_of : Call → ℕ → Board → Made Board Record
makes_of (call.AddTrack i lo hi) n b = made_of (add_track b i lo hi)
makes_of (call.SetUp i c) n b = made_of (set_up b i c)
makes_of (call.SetPoint i p) n b = made_of (set_point b i p)
makes_of (call.DropPoint i p) n b = made_of (drop_point b i p)
makes_of (call.Play i) n b = made_by (mode_result b n i PLAY)
makes_of (call.Pause i) n b = made_by (mode_result b n i PAUSE)
makes_of (call.Resume i) n b = made_by (mode_result b n i RESUME)
makes_of (call.Stop i) n b = made_by (mode_result b n i STOP)
makes_of (call.Advance k) n b = untouched b
makes_of call.Clear n b = made_of (clear_board b)
makes_of call.Clock n b = untouched b
makes_of (call.Track i) n b = untouched b
makes_of (call.Point i p) n b = untouched b
makes_of (call.PointCount i from to) n b = untouched b
makes_of (call.Master i m ps) n b = made_of (set_master b i m (pair_numbers ps))

abbrev pub is_accepted : Answer → Bool
is_accepted answer.Accepted = true
is_accepted (answer.Refused n) = false

-- a clear that is accepted
unfoldable pub clears_of : Call → Board → Bool
clears_of call.Clear b = is_accepted (clear_board b).answer
clears_of (call.AddTrack i lo hi) b = false
clears_of (call.SetUp i c) b = false
clears_of (call.SetPoint i p) b = false
clears_of (call.DropPoint i p) b = false
clears_of (call.Play i) b = false
clears_of (call.Pause i) b = false
clears_of (call.Resume i) b = false
clears_of (call.Stop i) b = false
clears_of (call.Advance k) b = false
clears_of call.Clock b = false
clears_of (call.Track i) b = false
clears_of (call.Point i p) b = false
clears_of (call.PointCount i from to) b = false
clears_of (call.Master i m ps) b = false

abbrev pub gridstep : Rules
gridstep =
    record {
      Board = Board;
      Rec = Record;
      Call = Call;
      Answer = Reply;
      Stop = Stop;
      held = λ b. b.held;
      grown = grown_by;
      width = record_width;
      bytes = record_bytes;
      tick = λ b. record { board = ticked b; records = (tick_of b).records };
      halt = halt_of;
      bar = bar_of;
      says = says_of;
      makes = makes_of;
      clears = clears_of;
      done = stopped_by;
      refuse = refused;
    }

-- ---- a call

-- the count of an advance that belongs to a run: 0 to 4,294,967,295
abbrev pub most : ℕ
most = 4294967295

unfoldable pub run_count : Call → Option ℕ
run_count (call.Advance k) = natural_of k 0 most
run_count (call.AddTrack i lo hi) = None
run_count (call.SetUp i c) = None
run_count (call.SetPoint i p) = None
run_count (call.DropPoint i p) = None
run_count (call.Play i) = None
run_count (call.Pause i) = None
run_count (call.Resume i) = None
run_count (call.Stop i) = None
run_count call.Clear = None
run_count call.Clock = None
run_count (call.Track i) = None
run_count (call.Point i p) = None
run_count (call.PointCount i from to) = None
run_count (call.Master i m ps) = None

abbrev pub advance_by : ℕ → Call
advance_by n = call.Advance (pos n)

-- what a call answers, and the board and log that it leaves
abbrev pub does : Call → World Board → Did Reply (World Board)
does c w = perform gridstep (part most run_count advance_by c) w

abbrev pub world : Board → List ℕ → World Board
world b log = record { board = b; log = log }

-- an answer, a board and a log are those that a call gives
pub record Gives (d : Did Reply (World Board)) (reply : Reply) (board : Board) (log : List ℕ) : Type 0 where
  pub answer_is : reply ≡ d.answer
  pub board_is : board ≡ d.left.board
  pub log_is : log ≡ d.left.log

-- the same of a call that takes no log: whatever the log, it leaves it
abbrev pub Leaves : Call → Board → Reply → Board → Type 0
Leaves c b reply board = (log : List ℕ) → Gives (does c (world b log)) reply board log

-- the same of the result of a call that takes no log: the board that it gives, or the board as it was
abbrev pub LeavesAs : Call → Board → Result Board Refusal → Type 0
LeavesAs c b r = Leaves c b (answered (outcome b r).answer) (outcome b r).board

-- and of one that takes a log
abbrev pub GivesAs : Did Reply (World Board) → Board → Result Board Refusal → List ℕ → Type 0
GivesAs d b r log = Gives d (answered (outcome b r).answer) (outcome b r).board log

-- what a mode call does by its number, 1 play, 2 pause, 3 resume, 4 stop; no mode allows any other
unfoldable pub mode_does : ℕ → ℤ → World Board → Did Reply (World Board)
mode_does k track w =
    let m = mode_result w.board (length w.log) track k in
    record { answer = answered m.answer; left = wrote gridstep (made_by m) w }

-- what it comes to on a lent board, and the place of the one track that it may change
abbrev pub ChangesMode : ℕ → ℤ → Board → List ℕ → Result ModeChange Refusal → List ℕ → Type 0
ChangesMode k track b log r log' =
    Gives (mode_does k track (world b log)) (answered (outcome_of b r).answer) (outcome_of b r).board log' × IfOk r (λ c. c.at < track_count)

-- what a master call does with any list of numbers: it writes no record
unfoldable pub master_does : ℤ → ℤ → List ℤ → World Board → Did Reply (World Board)
master_does track master zs w =
    let o = set_master w.board track master zs in
    record { answer = answered o.answer; left = world o.board w.log }

-- ---- What a call tells, as the code has it, and 01's reply.

abbrev pub told_as : Told → Reply
told_as told.Accepted = accepted
told_as (told.Done n) = done n.0
told_as (told.LogFull n) = log_full n.0
told_as (told.ClockEnd n) = clock_ended n.0
told_as (told.Clock c held) = clock_is c.0 held
told_as (told.Track t) = track_is (track_values t)
told_as (told.Point p) = point_is (point_values p)
told_as (told.Count n) = count_is n

-- the reply, a refusal's number given by number
abbrev pub reply_by : {R : Type 0} → (R → ℕ) → Result Told R → Reply
reply_by number = said_with number told_as

abbrev pub reply_of : Result Told Refusal → Reply
reply_of = reply_by number_of
