-- The queries (01, "Other calls" and "Turned down"), each as its guards in order.
use Rattle.std.specs.Prelude.{ℕ, ◌/◌, ◌%◌, Bool, cond, ◌&&◌, ℤ, eqb, Result, Ok, Err}
use Rattle.std.specs.Int.Signed.{le_z}
use Rattle.track.specs.declared.Track.{Track}
use Rattle.track.specs.declared.Ticks.{Ticks}
use Rattle.track.specs.declared.refusal.Refusal.{Refusal}
use Rattle.track.specs.declared.refusal.Refusal.TheVariants as refusal
use Rattle.board.specs.declared.points.Point.{Point}
use Rattle.track.specs.Number.{coordinate_of, value_of, on_some}
use Rattle.board.specs.declared.Board.{Board}
use Rattle.board.specs.Points.{stride, key, keys_of, infos_of, info_at, point_of, count_of}
use Rattle.board.specs.Board.{track_at, unbroken_test, found_in}

-- clock and held
unfoldable pub clock_of : Board → Result (Ticks × ℕ) Refusal
clock_of b = cond (unbroken_test b) (Ok (b.clock, b.held)) (Err refusal.Value)

-- every field of a track
unfoldable pub track_of : Board → ℤ → Result Track Refusal
track_of b track =
    cond (unbroken_test b)
    (on_some (found_in b.present track) (λ i. Ok (track_at b.tracks i)) (Err refusal.Track)) (Err refusal.Value)

-- for a track, the point at a position, 4 if there is none
abbrev pub point_read : ℕ → ℕ → Result Point Refusal
point_read k d = cond (eqb d 0) (Err refusal.Point) (Ok (point_of k d))

unfoldable pub point_in : Board → ℤ → ℤ → Result Point Refusal
point_in b track position =
    cond (unbroken_test b)
    (on_some (found_in b.present track)
    (λ i. on_some (coordinate_of position)
    (λ l. point_read (key i l.0) (info_at (key i l.0) (keys_of b.points) (infos_of b.points))) (Err refusal.Point))
    (Err refusal.Track)) (Err refusal.Value)

-- for a track, the number of points from a to b (0 if a > b): the keys of the track whose positions are from a to b
unfoldable pub in_range : ℕ → ℤ → ℤ → ℕ → Bool
in_range i from to k =
    eqb (k / stride) i && (le_z from (value_of (record { 0 = k % stride })) && le_z (value_of (record { 0 = k % stride })) to)

unfoldable pub count_in : Board → ℤ → ℤ → ℤ → Result ℕ Refusal
count_in b track from to =
    cond (unbroken_test b)
    (on_some (found_in b.present track) (λ i. Ok (count_of (in_range i from to) (keys_of b.points))) (Err refusal.Track))
    (Err refusal.Value)
