-- A track's state and rules (01, "Track").
use Rattle.std.specs.Prelude.{ℕ, ◌+◌, ◌*◌, ◌≤◌, ◌<◌, Bool, cond, true, not, ◌&&◌, ◌||◌, ◌≡◌, List, [], ◌∷◌, replicate, get_or, length, ltb, leb, eqb}
use Rattle.track.specs.declared.Track.{Track}
use Rattle.track.specs.declared.Coordinate.{Coordinate}
use Rattle.track.specs.declared.Ticks.{Ticks}

-- 0 STOPPED, 1 PLAYING, 2 PAUSED, 3 WAITING
abbrev pub STOPPED : ℕ
STOPPED = 0

abbrev pub PLAYING : ℕ
PLAYING = 1

abbrev pub PAUSED : ℕ
PAUSED = 2

abbrev pub WAITING : ℕ
WAITING = 3

-- a direction: 0 forward, 1 backward; a repeat flag; a due flag, 1 where the position is not yet visited
abbrev pub FORWARD : ℕ
FORWARD = 0

abbrev pub BACKWARD : ℕ
BACKWARD = 1

abbrev pub REPEATING : ℕ
REPEATING = 1

abbrev pub VISITED : ℕ
VISITED = 0

abbrev pub DUE : ℕ
DUE = 1

abbrev pub backward : Track → Bool
backward t = eqb t.direction BACKWARD

abbrev pub repeats : Track → Bool
repeats t = eqb t.repeat REPEATING

abbrev pub is_due : Track → Bool
is_due t = eqb t.due DUE

-- the greatest loop count, the number of action cells and the greatest event
abbrev pub loops_most : ℕ
loops_most = 65535

abbrev pub cell_count : ℕ
cell_count = 16

abbrev pub cell_most : ℕ
cell_most = 255

-- the number of thresholds of a follower at most, the greatest threshold (02, 2.1), and the greatest event of a point or a threshold
abbrev pub threshold_count : ℕ
threshold_count = 4

abbrev pub threshold_most : ℕ
threshold_most = 1000000

abbrev pub event_most : ℕ
event_most = 255

-- the greatest number of a rate (02, 2.4)
abbrev pub rate_most : ℕ
rate_most = 1000

-- the coordinate of the position 1,000,000
abbrev pub coordinate_last : ℕ
coordinate_last = 2000000

-- the clock runs from 0 to 1,000,000,000
abbrev pub clock_end : ℕ
clock_end = 1000000000

-- A new track: start = min, end = max, forward, repeat off, loops 1, all actions 0, STOPPED, rewound; it has no master and a rate of 1 in 1.
unfoldable pub new_track : Coordinate → Coordinate → Track
new_track a b =
    record {
      min = a;
      max = b;
      start = a;
      end = b;
      position = a;
      passes = record { 0 = 0 };
      loops = 1;
      mode = STOPPED;
      direction = FORWARD;
      repeat = 0;
      due = DUE;
      actions = replicate cell_count 0;
      master = 0;
      band = 0;
      thresholds = replicate threshold_count 0;
      events = replicate threshold_count 0;
      steps = 1;
      ticks = 1;
      remainder = 0;
    }

-- The home position is start when forward, end when backward; the far position is the other.
abbrev pub home : Track → ℕ
home t = cond (backward t) t.end.0 t.start.0

abbrev pub far : Track → ℕ
far t = cond (backward t) t.start.0 t.end.0

-- the track in another mode, at another position, with other passes, due or visited
abbrev pub moved : Track → ℕ → ℕ → ℕ → ℕ → Track
moved t mode position passes due = record t { mode = mode; position = record { 0 = position }; passes = record { 0 = passes }; due = due }

-- the track with another rate, of so many steps in so many ticks, and another remainder
abbrev pub paced : Track → ℕ → ℕ → ℕ → Track
paced t steps ticks remainder = record t { steps = steps; ticks = ticks; remainder = remainder }

-- the track with another remainder
abbrev pub with_remainder : Track → ℕ → Track
with_remainder t remainder = record t { remainder = remainder }

-- rewound: position home, due set, passes 0; "Rewinding sets the remainder to 0" (02, 2.4)
abbrev pub rewound : Track → Track
rewound t = with_remainder (moved t t.mode (home t) 0 DUE) 0

-- STOPPED and rewound
abbrev pub stopped : Track → Track
stopped t = with_remainder (moved t STOPPED (home t) 0 DUE) 0

-- the track that a call or a command takes to a mode: stop rewinds, from STOPPED also
unfoldable pub entered : Track → ℕ → Track
entered t mode = cond (eqb mode STOPPED) (stopped t) (moved t mode t.position.0 t.passes.0 t.due)

-- the action cell of an ordered pair of modes
abbrev pub action_cell : Track → ℕ → ℕ → ℕ
action_cell t from to = get_or t.actions (from * 4 + to) 0

-- Bounds min < max, each from -1,000,000, whose coordinate is 0, to 1,000,000; min ≤ start < end ≤ max; a position from start to end.
pub record Ordered (min max start end position : ℕ) : Type 0 where
  pub bounds : min < max
  pub last : max ≤ coordinate_last
  pub low : min ≤ start
  pub span : start < end
  pub high : end ≤ max
  pub above : start ≤ position
  pub below : position ≤ end

-- Sixteen action cells, each an event 0 to 255, always 0 between equal modes.
pub record Cells (cells : List ℕ) : Type 0 where
  pub number : length cells ≡ cell_count
  pub event : (k : ℕ) → get_or cells k 0 ≤ cell_most
  pub stopped : get_or cells 0 0 ≡ 0
  pub playing : get_or cells 5 0 ≡ 0
  pub paused : get_or cells 10 0 ≡ 0
  pub waiting : get_or cells 15 0 ≡ 0

-- "p steps in q ticks, 1 ≤ p ≤ q ≤ 1,000"; the remainder "is below q, and 0 when STOPPED" (02, 2.4)
pub record Rated (steps ticks remainder mode : ℕ) : Type 0 where
  pub some : 1 ≤ steps
  pub most : steps ≤ ticks
  pub last : ticks ≤ rate_most
  pub below : remainder < ticks
  pub stands : mode ≡ STOPPED → remainder ≡ 0

-- Every range and rule of a track by itself.
pub record Valid (t : Track) : Type 0 where
  pub ordered : Ordered t.min.0 t.max.0 t.start.0 t.end.0 t.position.0
  pub loops : (1 ≤ t.loops) × (t.loops ≤ loops_most)
  pub mode : t.mode ≤ WAITING
  pub direction : t.direction ≤ BACKWARD
  pub repeat : t.repeat ≤ REPEATING
  pub due : t.due ≤ DUE
  pub cells : Cells t.actions
  pub rate : Rated t.steps t.ticks t.remainder t.mode

-- A pass count, never above the board's clock.
pub record Sound (t : Track) (clock : Ticks) : Type 0 where
  pub valid : Valid t
  pub passes : t.passes.0 ≤ clock.0

-- The same rules as tests.
unfoldable pub every : List Bool → Bool
every [] = true
every (b ∷ bs) = b && every bs

unfoldable pub ordered_test : ℕ → ℕ → ℕ → ℕ → ℕ → Bool
ordered_test min max start end position =
    every
    (ltb min max
    ∷ leb max coordinate_last
    ∷ leb min start
    ∷ ltb start end
    ∷ leb end max
    ∷ leb start position
    ∷ leb position end
    ∷ [])

unfoldable pub events_test : List ℕ → Bool
events_test [] = true
events_test (e ∷ es) = leb e cell_most && events_test es

unfoldable pub cells_test : List ℕ → Bool
cells_test cells =
    every
    (eqb (length cells) cell_count
    ∷ events_test cells
    ∷ eqb (get_or cells 0 0) 0
    ∷ eqb (get_or cells 5 0) 0
    ∷ eqb (get_or cells 10 0) 0
    ∷ eqb (get_or cells 15 0) 0
    ∷ [])

unfoldable pub rated_test : ℕ → ℕ → ℕ → ℕ → Bool
rated_test steps ticks remainder mode =
    every
    (leb 1 steps
    ∷ leb steps ticks
    ∷ leb ticks rate_most
    ∷ ltb remainder ticks
    ∷ (not (eqb mode STOPPED) || eqb remainder 0)
    ∷ [])

unfoldable pub valid_test : Track → Bool
valid_test t =
    every
    (ordered_test t.min.0 t.max.0 t.start.0 t.end.0 t.position.0
    ∷ leb 1 t.loops
    ∷ leb t.loops loops_most
    ∷ leb t.mode WAITING
    ∷ leb t.direction BACKWARD
    ∷ leb t.repeat REPEATING
    ∷ leb t.due DUE
    ∷ cells_test t.actions
    ∷ rated_test t.steps t.ticks t.remainder t.mode
    ∷ [])

unfoldable pub sound_test : Track → Ticks → Bool
sound_test t clock = valid_test t && leb t.passes.0 clock.0
