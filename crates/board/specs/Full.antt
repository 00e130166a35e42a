-- One board whose next tick writes 64 records (02, 2.2): each of sixteen tracks reaches its point and waits there, each point's command is
-- refused, and each track has drifted from its master.
use Rattle.std.specs.Prelude.{ℕ, ◌+◌, ◌-◌, ◌*◌, ◌%◌, ◌^◌, List, [], ◌∷◌, ◌++◌, map, cond, eqb, pos, replicate}
use Rattle.track.specs.declared.Track.{Track}
use Rattle.track.specs.declared.Coordinate.{Coordinate}
use Rattle.track.specs.Rule.{PLAYING, WAITING, REPEATING, DUE, new_track, moved}
use Rattle.track.specs.Number.{coordinate_at}
use Rattle.track.specs.Grid.{PLAY}
use Rattle.track.specs.Setup.{set_to, with_action}
use Rattle.track.specs.Follow.{following}
use Rattle.board.specs.declared.Board.{Board}
use Rattle.board.specs.declared.points.Point.{Point}
use Rattle.board.specs.declared.log.Record.{Record}
use Rattle.board.specs.Log.{detail_unit}
use Rattle.board.specs.Points.{point_most, track_count, key_of, info_of}
use Rattle.board.specs.Board.{board_of}
use Rattle.board.specs.Tick.{members, record_of}

-- the word of all sixteen tracks, and their numbers
abbrev pub all_present : ℕ
all_present = 2 ^ track_count - 1

abbrev pub all_tracks : List ℕ
all_tracks = members all_present

-- the first for an even number, the second for an odd one
abbrev pub by_pair : {A : Type 0} → ℕ → A → A → A
by_pair i even odd = cond (eqb (i % 2) 0) even odd

-- the tracks go in pairs, each the other's master: 0 and 1, 2 and 3, and so on
unfoldable pub partner : ℕ → ℕ
partner i = by_pair i (i + 1) (i - 1)

-- each track goes from 0 to 100; the even one of a pair stands on its far position, the odd one as far from home as its number says: 85 to
-- 99 apart
unfoldable pub stands_on : ℕ → ℕ
stands_on i = by_pair i 100 i

abbrev pub place_of : ℕ → Coordinate
place_of i = coordinate_at (pos (stands_on i))

-- it plays round and round, its position is not yet visited, and it has an event for PLAYING to WAITING and for a drift above 84, and above 99
unfoldable pub full_track : ℕ → Track
full_track i =
    let new = new_track (coordinate_at (pos 0)) (coordinate_at (pos 100)) in
    let round = set_to new new.start new.end new.loops REPEATING new.direction in
    let acting = with_action round (PLAYING * 4 + WAITING) (20 + i) in
    let led = following acting (partner i) (84 ∷ 99 ∷ 0 ∷ 0 ∷ []) ((80 + i) ∷ (120 + i) ∷ 0 ∷ 0 ∷ []) in
    moved led PLAYING (place_of i).0 0 DUE

-- its number from the other end: 15 for 0, 14 for 1, and so on
abbrev pub opposite : ℕ → ℕ
opposite i = track_count - 1 - i

-- its point, where it stands: a wait flag, and the command play for the opposite track, so that targets descend
unfoldable pub full_point : ℕ → Point
full_point i = record { track = i; position = place_of i; event = 40 + i; wait = 1; command = PLAY; target = opposite i }

-- a row of numbers: one of each point, then 0 in the places of points that are not there
unfoldable pub full_row : (Point → ℕ) → List ℕ
full_row f = map (λ i. f (full_point i)) all_tracks ++ replicate (point_most - track_count) 0

unfoldable pub full_board : Board
full_board = board_of (map full_track all_tracks) all_present (full_row key_of) (full_row info_of) track_count 0 0

-- ---- its records

-- a record of track i at clock 1, where it stands
abbrev pub full_record : ℕ → ℕ → ℕ → ℕ → ℕ → Record
full_record i kind event detail passes = record_of 1 i kind event detail (place_of i).0 passes

-- an arrival at far counts a pass
abbrev pub passes_then : ℕ → ℕ
passes_then i = by_pair i 1 0

-- of the steps: of each track its point, with the passes so far, then its change from PLAYING to WAITING
unfoldable pub of_steps : List ℕ → List Record
of_steps [] = []
of_steps (i ∷ is) =
    full_record i 1 (40 + i) (PLAY * detail_unit + opposite i) 0
    ∷ full_record i 2 (20 + i) (PLAYING * detail_unit + WAITING) (passes_then i)
    ∷ of_steps is

-- of the commands, in the order of their points: play, refused to the opposite track, which waits
unfoldable pub of_command : ℕ → Record
of_command i = full_record (opposite i) 3 (40 + i) (PLAY * detail_unit + WAITING) (passes_then (opposite i))

-- of the followers: each enters its first band; the detail is the master's number
unfoldable pub of_follower : ℕ → Record
of_follower i = full_record i 4 (80 + i) (partner i) (passes_then i)
