-- Arrivals of tracks at points of their own (01, "Lists of calls"), from the walk and the points: no record is looked at.
use Rattle.std.specs.Prelude.{ℕ, ◌+◌, ◌*◌, Bool, cond, List, [], ◌∷◌, ◌++◌, map, eqb}
use Rattle.track.specs.Walk.{arrival}
use Rattle.track.specs.Leap.{moves}
use Rattle.board.specs.declared.Board.{Board}
use Rattle.board.specs.declared.log.Record.{Record}
use Rattle.board.specs.Points.{key, keys_of, infos_of, info_at, event_of, command_of, target_of}
use Rattle.board.specs.Board.{track_at}
use Rattle.board.specs.Tick.{members, record_of, playing_word}
use Rattle.board.specs.Log.{detail_unit}

-- an arrival: the track, where, and the info of its point there
pub record Arrival : Type 0 where
  pub track : ℕ
  pub location : ℕ
  pub info : ℕ

-- track i arrives at l, if a point of its own stands there
unfoldable pub arrival_at : Board → ℕ → ℕ → List Arrival
arrival_at b i l =
    let d = info_at (key i l) (keys_of b.points) (infos_of b.points) in
    cond (eqb d 0) [] (record { track = i; location = l; info = d } ∷ [])

-- the arrival of track i in the next tick: none where the tick makes no step (DECISIONS 68)
abbrev pub arrival_next : Board → ℕ → List Arrival
arrival_next b i = let t = track_at b.tracks i in cond (moves t) (arrival_at b i (arrival t)) []

-- of each of these tracks
unfoldable pub arrivals_of : Board → List ℕ → List Arrival
arrivals_of b [] = []
arrivals_of b (i ∷ is) = arrival_next b i ++ arrivals_of b is

-- the arrivals in a tick of the board: its playing tracks, lowest first
abbrev pub arrivals_in : Board → List Arrival
arrivals_in b = arrivals_of b (members (playing_word b.present b.tracks))

-- the record of kind 1 that belongs to an arrival: the clock after the tick, the point, the location and the passes so far
abbrev pub arrival_record : Board → Arrival → Record
arrival_record b a =
    let d = a.info in
    record_of (b.clock.0 + 1) a.track 1 (event_of d) (command_of d * detail_unit + target_of d) a.location (track_at b.tracks a.track).passes.0

abbrev pub arrival_records : Board → List Record
arrival_records b = map (arrival_record b) (arrivals_in b)

-- a record of kind 1
abbrev pub is_point : Record → Bool
is_point r = eqb r.kind 1
