-- The calls that set a board up, and clear (01, "Other calls" and "Turned down"), each as its guards in order.
use Rattle.std.specs.Prelude.{ℕ, ◌+◌, ◌^◌, List, [], ◌∷◌, Bool, true, false, cond, not, ◌&&◌, set, get_or, length, ℤ, pos, ltb, leb, eqb, Option, Some, None, Result, Ok, Err}
use Rattle.track.specs.declared.Track.{Track}
use Rattle.track.specs.declared.Coordinate.{Coordinate}
use Rattle.track.specs.declared.setup.Change.{Change}
use Rattle.track.specs.Setup.{Changed}
use Rattle.track.specs.declared.refusal.Refusal.{Refusal}
use Rattle.track.specs.Refusal.{Answer, Accepted, Refused, number_of}
use Rattle.track.specs.Rule.{STOPPED, new_track, event_most, threshold_count, threshold_most}
use Rattle.track.specs.Follow.{following}
use Rattle.track.specs.Number.{natural_of, coordinate_of, within, on_some}
use Rattle.track.specs.Setup.{changed_by, settled}
use Rattle.board.specs.declared.Board.{Board}
use Rattle.board.specs.declared.call.PointNumbers.{PointNumbers}
use Rattle.board.specs.declared.points.Point.{Point}
use Rattle.board.specs.declared.points.Points.{Points}
use Rattle.board.specs.Points.{Stored}
use Rattle.board.specs.Points.{key, key_of, info_of, ascending_from, stored_in, dropped_from}
use Rattle.board.specs.Board.{track_at, is_present, allowed_test, unbroken_test, found_in}

-- the answer to a call, and the board after it
pub record Outcome : Type 0 where
  pub answer : Answer
  pub board : Board

-- a refusal carries its number alone, the board equal to before
abbrev pub refused : ℕ → Board → Outcome
refused n b = record { answer = Refused n; board = b }

abbrev pub accepted : Board → Outcome
accepted b = record { answer = Accepted; board = b }

-- what the result of a call on a board says, a refusal's number given by number: the board after it, or why it is refused
abbrev pub outcome_by : {R : Type 0} → (R → ℕ) → Board → Result Board R → Outcome
outcome_by number b (Ok c) = accepted c
outcome_by number b (Err e) = refused (number e) b

abbrev pub outcome : Board → Result Board Refusal → Outcome
outcome = outcome_by number_of

-- the board with other tracks, another word of those present, other points or another number of records held
abbrev pub board_with : Board → List Track → ℕ → Points → ℕ → Board
board_with b ts present points held =
    record { tracks = ts; present = present; points = points; clock = b.clock; held = held }

-- what a call does on an unbroken board; any call lent a broken one refuses it 3
abbrev pub on_unbroken : Board → Outcome → Outcome
on_unbroken b o = cond (unbroken_test b) o (refused 3 b)

-- what a call does on a present track, with its number
abbrev pub on_track : Board → ℤ → (ℕ → Outcome) → Outcome
on_track b track f = on_some (found_in b.present track) f (refused 1 b)

-- ---- start, end, loops, repeat, direction, action, jump

abbrev pub put_track : Board → ℕ → Changed → Outcome
put_track b i r =
    record { answer = r.answer; board = board_with b (set b.tracks i r.track) b.present b.points b.held }

-- 3 broken, 1 track, then 2 and 3 as the track decides
unfoldable pub set_up : Board → ℤ → Change → Outcome
set_up b track c = on_unbroken b (on_track b track (λ i. put_track b i (changed_by (track_at b.tracks i) c)))

-- ---- add track

-- 3 broken, 1 number, 6 already present, 3 bounds min < max, each from -1,000,000 to 1,000,000
unfoldable pub add_track : Board → ℤ → ℤ → ℤ → Outcome
add_track b number min max =
    on_unbroken b
    (on_some (natural_of number 0 15)
    (λ i. cond (is_present b.present i) (refused 6 b)
    (on_some (coordinate_of min)
    (λ low. on_some (coordinate_of max)
    (λ high. cond (ltb low.0 high.0)
    (accepted (board_with b (set b.tracks i (new_track low high)) (b.present + 2 ^ i) b.points b.held)) (refused 3 b))
    (refused 3 b)) (refused 3 b))) (refused 1 b))

-- ---- point, drop point

abbrev pub point_with : ℕ → Coordinate → ℕ → ℕ → ℕ → ℕ → Point
point_with track position event wait command target =
    record { track = track; position = position; event = event; wait = wait; command = command; target = target }

abbrev pub allowed_only : ℕ → Point → Option Point
allowed_only present p = cond (allowed_test present p) (Some p) None

-- the numbers of a call
abbrev pub given_point : ℤ → ℤ → ℤ → ℤ → ℤ → PointNumbers
given_point position event wait command target =
    record { position = position; event = event; wait = wait; command = command; target = target }

-- the point that the numbers of a call describe, if each is in its range and the target keeps its rule
unfoldable pub described_by : ℕ → ℕ → Track → PointNumbers → Option Point
described_by present i owner given =
    on_some (within owner.min.0 owner.max.0 (coordinate_of given.position))
    (λ l. on_some (natural_of given.event 1 event_most)
    (λ e. on_some (natural_of given.wait 0 1)
    (λ w. on_some (natural_of given.command 0 4)
    (λ c. on_some (natural_of given.target 0 15)
    (λ g. allowed_only present (point_with i l e w c g)) None) None) None) None) None

-- 5 a 257th point (replacing one is no new point)
abbrev pub put_points : Board → ℕ → Stored → Outcome
put_points b refusal s =
    cond s.done (accepted (board_with b b.tracks b.present s.points b.held)) (refused refusal b)

abbrev pub on_described : Board → Option Point → Outcome
on_described b (Some p) = put_points b 5 (stored_in b.points (key_of p) (info_of p))
on_described b None = refused 3 b

-- 3 broken, 1 track, 2 mode (STOPPED or PAUSED), 3 a value, 5 full
unfoldable pub set_point : Board → ℤ → PointNumbers → Outcome
set_point b track given =
    on_unbroken b
    (on_track b track
    (λ i. cond (settled (track_at b.tracks i).mode)
    (on_described b (described_by b.present i (track_at b.tracks i) given)) (refused 2 b)))

-- 3 broken, 1 track, 2 mode, 4 no point there; any position is taken, one outside the bounds has no point
unfoldable pub drop_point : Board → ℤ → ℤ → Outcome
drop_point b track position =
    on_unbroken b
    (on_track b track
    (λ i. cond (settled (track_at b.tracks i).mode)
    (on_some (coordinate_of position) (λ l. put_points b 4 (dropped_from b.points (key i l.0))) (refused 4 b)) (refused 2 b)))

-- ---- master (02, 2.1)

-- The numbers of the pairs come as one list, a threshold and its event in turn.
abbrev pub is_in : Option ℕ → Bool
is_in n = on_some n (λ k. true) false

abbrev pub number_in : Option ℕ → ℕ
number_in n = on_some n (λ k. k) 0

-- the number in a place of them, if it is from 1 to the most; 0 where it is not, and where there is none
abbrev pub number_at : List ℤ → ℕ → ℕ → ℕ
number_at zs at most = number_in (natural_of (get_or zs at (pos 0)) 1 most)

-- "thresholds, 1 to 1,000,000, each with an event 1 to 255"; a last threshold that has no event is out of range
unfoldable pub ranged_test : List ℤ → Bool
ranged_test [] = true
ranged_test (x ∷ []) = false
ranged_test (x ∷ e ∷ zs) = is_in (natural_of x 1 threshold_most) && (is_in (natural_of e 1 event_most) && ranged_test zs)

-- the thresholds, and their events
unfoldable pub thresholds_in : List ℤ → List ℕ
thresholds_in [] = []
thresholds_in (x ∷ []) = []
thresholds_in (x ∷ e ∷ zs) = number_in (natural_of x 1 threshold_most) ∷ thresholds_in zs

unfoldable pub events_in : List ℤ → List ℕ
events_in [] = []
events_in (x ∷ []) = []
events_in (x ∷ e ∷ zs) = number_in (natural_of e 1 event_most) ∷ events_in zs

-- "up to four strictly rising thresholds"
unfoldable pub rising_test : List ℕ → Bool
rising_test xs = leb (length xs) threshold_count && ascending_from 0 xs

-- a row of four, 0 where there is none
abbrev pub row_of : List ℕ → List ℕ
row_of xs = get_or xs 0 0 ∷ get_or xs 1 0 ∷ get_or xs 2 0 ∷ get_or xs 3 0 ∷ []

-- "No thresholds means no master", whose number is 0
abbrev pub master_named : ℕ → List ℤ → ℕ
master_named m [] = 0
master_named m (z ∷ zs) = m

-- 2 mode (STOPPED), 3 itself or a number out of range, 10 not rising or over four
unfoldable pub put_master : Board → ℕ → ℕ → List ℤ → Outcome
put_master b i m zs =
    cond (eqb (track_at b.tracks i).mode STOPPED)
    (cond (not (eqb i m) && ranged_test zs)
    (cond (rising_test (thresholds_in zs))
    (accepted (board_with b
    (set b.tracks i (following (track_at b.tracks i) (master_named m zs) (row_of (thresholds_in zs)) (row_of (events_in zs))))
    b.present b.points b.held))
    (refused 10 b)) (refused 3 b)) (refused 2 b)

-- 3 broken, 1 track, 1 master, then 2, 3 and 10
unfoldable pub set_master : Board → ℤ → ℤ → List ℤ → Outcome
set_master b track master zs = on_unbroken b (on_track b track (λ i. on_track b master (λ m. put_master b i m zs)))

-- ---- clear: held becomes 0
unfoldable pub clear_board : Board → Outcome
clear_board b = on_unbroken b (accepted (board_with b b.tracks b.present b.points 0))
