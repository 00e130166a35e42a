-- A board's state, and the ranges and rules that 01 and 02 give for its tracks, points and clock.
use Rattle.std.specs.Prelude.{ℕ, suc, ◌/◌, ◌%◌, ◌^◌, ◌≤◌, ◌<◌, ◌≡◌, List, [], ◌∷◌, Bool, true, cond, not, ◌&&◌, ◌||◌, length, get_or, replicate, take, leb, ltb, eqb, ℤ, Option, Some, None}
use Rattle.track.specs.declared.Track.{Track}
use Rattle.track.specs.declared.Ticks.{Ticks}
use Rattle.track.specs.Rule.{clock_end, Sound, sound_test, new_track, event_most}
use Rattle.track.specs.Follow.{follows, Follower, follower_test}
use Rattle.board.specs.declared.Board.{Board}
use Rattle.board.specs.declared.parts.Parts.{Parts}
use Rattle.board.specs.declared.points.Points.{Points}
use Rattle.board.specs.declared.points.Point.{Point}
use Rattle.board.specs.Points.{point_most, ascending_from, keys_of, point_of, no_points, track_count}
use Rattle.track.specs.Number.{natural_of, on_some}

-- what is read where there is no track
abbrev pub no_track : Track
no_track =
    record {
      min = record { 0 = 0 };
      max = record { 0 = 0 };
      start = record { 0 = 0 };
      end = record { 0 = 0 };
      position = record { 0 = 0 };
      passes = record { 0 = 0 };
      loops = 0;
      mode = 0;
      direction = 0;
      repeat = 0;
      due = 0;
      actions = [];
      master = 0;
      band = 0;
      thresholds = [];
      events = [];
      steps = 0;
      ticks = 0;
      remainder = 0;
    }

abbrev pub track_at : List Track → ℕ → Track
track_at ts i = get_or ts i no_track

-- tracks 0 to 15, each present or not: bit i of the word says it of track i
unfoldable pub is_present : ℕ → ℕ → Bool
is_present word i = ltb i track_count && eqb (word / 2 ^ i % 2) 1

-- "an absent master", "a self-master": the master is another track that is present; the number 0 where there are no thresholds
unfoldable pub master_test : ℕ → ℕ → Track → Bool
master_test present i t = cond (follows t) (is_present present t.master && not (eqb t.master i)) (eqb t.master 0)

-- A point has a position from min to max of its track, an event 1 to 255, a wait flag 0 or 1, a command 0 to 4 and a target
-- 0 to 15. With a command the target must exist; with command 0 it is the number 0, and track 0 need not exist.
pub record PointRule (present : ℕ) (ts : List Track) (p : Point) : Type 0 where
  pub track : is_present present p.track ≡ true
  pub low : (track_at ts p.track).min.0 ≤ p.position.0
  pub high : p.position.0 ≤ (track_at ts p.track).max.0
  pub event : (1 ≤ p.event) × (p.event ≤ event_most)
  pub wait : p.wait ≤ 1
  pub command : p.command ≤ 4
  pub target : cond (eqb p.command 0) (eqb p.target 0) (is_present present p.target) ≡ true

-- the point at index j
abbrev pub point_at : Points → ℕ → Point
point_at t j = point_of (get_or t.keys j 0) (get_or t.infos j 0)

-- The shape of a board: sixteen tracks, a word of as many bits, and two rows with a place for each point. Every board of the code has it
-- by its type.
pub record Shaped (b : Board) : Type 0 where
  pub tracks : length b.tracks ≡ track_count
  pub present : b.present < 2 ^ track_count
  pub keys : length b.points.keys ≡ point_most
  pub infos : length b.points.infos ≡ point_most

-- A board that keeps every range and rule given for tracks, points and clock. Absent tracks and what stands past the points' count
-- are no part of it, and held has no rule.
pub record Unbroken (b : Board) : Type 0 where
  pub shape : Shaped b
  pub clock : b.clock.0 ≤ clock_end
  pub tracks : (i : ℕ) → is_present b.present i ≡ true → Sound (track_at b.tracks i) b.clock
  pub followers : (i : ℕ) → is_present b.present i ≡ true → Follower (track_at b.tracks i) b.clock
  pub masters : (i : ℕ) → is_present b.present i ≡ true → master_test b.present i (track_at b.tracks i) ≡ true
  pub count : b.points.count ≤ point_most
  pub points : (j : ℕ) → j < b.points.count → PointRule b.present b.tracks (point_at b.points j)
  -- the keys ascend strictly: so the table keeps "at most one for a track and position", which is all that 01 says
  pub order : ascending_from 0 (keys_of b.points) ≡ true

-- ---- the same as a test

-- a present track, number i
unfoldable pub track_test : ℕ → ℕ → Track → Ticks → Bool
track_test present i t clock = sound_test t clock && (follower_test t clock && master_test present i t)

-- the tracks that the word says are present, the first being its lowest bit and having the number i
unfoldable pub tracks_test : ℕ → ℕ → ℕ → List Track → Ticks → Bool
tracks_test present word i [] clock = true
tracks_test present word i (t ∷ ts) clock =
    (not (eqb (word % 2) 1) || track_test present i t clock) && tracks_test present (word / 2) (suc i) ts clock

unfoldable pub place_test : ℕ → Track → Point → Bool
place_test present owner p =
    is_present present p.track && (leb owner.min.0 p.position.0 && leb p.position.0 owner.max.0)

unfoldable pub allowed_test : ℕ → Point → Bool
allowed_test present p =
    leb 1 p.event
    && (leb p.event event_most
    && (leb p.wait 1
    && (leb p.command 4 && cond (eqb p.command 0) (eqb p.target 0) (is_present present p.target))))

-- the point of a key and an info
abbrev pub point_test : ℕ → List Track → ℕ → ℕ → Bool
point_test present ts k d =
    place_test present (track_at ts (point_of k d).track) (point_of k d) && allowed_test present (point_of k d)

-- the points of two rows, every key at least lo
unfoldable pub points_test : ℕ → List Track → ℕ → List ℕ → List ℕ → Bool
points_test present ts lo [] ds = true
points_test present ts lo (k ∷ ks) [] = true
points_test present ts lo (k ∷ ks) (d ∷ ds) =
    leb lo k
    && (place_test present (track_at ts (point_of k d).track) (point_of k d)
    && (allowed_test present (point_of k d) && points_test present ts (suc k) ks ds))

-- the present word, tracks, keys and infos
unfoldable pub shape_test : ℕ → List Track → List ℕ → List ℕ → Bool
shape_test present ts keys infos =
    eqb (length ts) track_count
    && (ltb present (2 ^ track_count) && (eqb (length keys) point_most && eqb (length infos) point_most))

-- a board by its parts: the present word, tracks, clock, keys, infos and the points' count
unfoldable pub unbroken_parts : ℕ → List Track → Ticks → List ℕ → List ℕ → ℕ → Bool
unbroken_parts present ts clock keys infos n =
    leb clock.0 clock_end
    && (leb n point_most
    && (tracks_test present present 0 ts clock
    && (points_test present ts 0 (take n keys) (take n infos) && shape_test present ts keys infos)))

abbrev pub unbroken_test : Board → Bool
unbroken_test b =
    unbroken_parts b.present b.tracks b.clock b.points.keys b.points.infos b.points.count

-- Fresh: no track, no point, clock 0, held 0.
unfoldable pub fresh_board : Board
fresh_board =
    record {
      tracks = replicate track_count (new_track (record { 0 = 0 }) (record { 0 = 0 }));
      present = 0;
      points = no_points;
      clock = record { 0 = 0 };
      held = 0;
    }

-- 1 number not 0 to 15, or track absent
unfoldable pub found_in : ℕ → ℤ → Option ℕ
found_in present track = on_some (natural_of track 0 15) (λ i. cond (is_present present i) (Some i) None) None

-- both rows of a board's points have their places
abbrev pub rows_whole : List ℕ → List ℕ → Bool
rows_whole keys infos = eqb (length keys) point_most && eqb (length infos) point_most

-- a board of its parts
abbrev pub board_of : List Track → ℕ → List ℕ → List ℕ → ℕ → ℕ → ℕ → Board
board_of tracks present keys infos count clock held =
    record {
      tracks = tracks;
      present = present;
      points = record { keys = keys; infos = infos; count = count };
      clock = record { 0 = clock };
      held = held;
    }

-- a board of its parts, as a caller lends the rows
abbrev pub board_by : Parts → Board
board_by p = board_of p.tracks p.present p.keys.now p.infos.now p.count p.clock.0 p.held
