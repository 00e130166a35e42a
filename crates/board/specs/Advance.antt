-- How an advance ends, and the turns that the tick loop can still take.
use Rattle.std.specs.Prelude.{ℕ, ◌+◌, ◌-◌, ◌*◌, min, cond, Bool, false, ◌||◌, ◌≡◌, List, [], ◌∷◌, ℤ, length}
use Rattle.track.specs.declared.Track.{Track}
use Rattle.track.specs.Rule.{clock_end}
use Rattle.board.specs.declared.Board.{Board}
use Rattle.board.specs.declared.advance.Left.{Left}
use Rattle.board.specs.Board.{track_at}
use Rattle.board.specs.Tick.{members, playing_word, follow_word, band_count}
use Rattle.board.specs.Steady.{turns_back, low_held, high_held, at_edge}
use Rattle.board.specs.Quiet.{master_of}
use Rattle.board.specs.Cut.{Ran, ticks, passed}
use Rattle.board.specs.Replay.{World, w-halt, w-step, total}
use Rattle.board.specs.Call.{Stop, stopped_by, advanced_said, gridstep, does, world, Gives}
use Rattle.board.specs.declared.call.Call.TheVariants as call

-- the board that ticks left off at
abbrev pub board_left : Board → Left → Board
board_left b r =
    record { tracks = r.tracks; present = b.present; points = b.points; clock = r.clock; held = r.held }

-- what an advance comes to on a lent board
abbrev pub Proceeds : ℤ → Board → List ℕ → Left → List ℕ → Type 0
Proceeds count b log r log' = Gives (does (call.Advance count) (world b log)) (advanced_said r.answer) (board_left b r) log'

-- an advance has ended as ticks come to
pub record Ended (b : Board) (t : Ran Stop (World Board)) (r : Left) (log : List ℕ) : Type 0 where
  pub answer_is : advanced_said r.answer ≡ stopped_by t.taken t.why
  pub board_is : board_left b r ≡ t.end.board
  pub log_is : log ≡ t.end.log

-- so many ticks of the board b and a log have been taken, as far as the clock and the log allow
abbrev pub TakesTicks : Board → ℕ → List ℕ → Left → List ℕ → Type 0
TakesTicks b count log r log' = Ended b (ticks (w-halt gridstep) (w-step gridstep) count (world b log)) r log'

-- ---- How many turns the tick loop can still take (01, "Advance": empty stretches are leapt): told by what is still to be written and,
-- with followers, by the ticks in which a track of a pair leaves its line or the pair is at an edge, not by all ticks still to be taken.

-- the number of tracks that play
abbrev pub playing_count : Board → ℕ
playing_count b = length (members (playing_word b.present b.tracks))

-- the records that so many ticks write
abbrev pub records_left : ℕ → World Board → ℕ
records_left left u = (ticks (w-halt gridstep) (w-step gridstep) left u).end.board.held - u.board.held

-- in the next tick the follower t or its master m leaves its line, or they are at an edge of the band held
abbrev pub pair_leaves : Track → Track → Bool
pair_leaves t m = turns_back t || (turns_back m || at_edge (low_held t) (high_held t) t m)

-- so does one of these followers with its master
unfoldable pub one_leaves : List Track → List ℕ → Bool
one_leaves ts [] = false
one_leaves ts (i ∷ is) = pair_leaves (track_at ts i) (master_of ts i) || one_leaves ts is

-- 1 if it does so on a board
unfoldable pub leaving : Board → ℕ
leaving b = cond (one_leaves b.tracks (members (follow_word b.present b.tracks))) 1 0

-- in how many of so many ticks, as far as they are taken, it does
unfoldable pub leavings : ℕ → World Board → ℕ
leavings left u = total (λ w. leaving w.board) (passed (w-halt gridstep) (w-step gridstep) left u)

-- The measure of the loop `'ticks` of `run` (src/advance.rt), with `left` ticks to do on u, where `look` says whether the next turn
-- looks for a leap: three for each record still to be written, one for each track that plays, one for each band held, one for each tick in
-- which a track of a follower's pair leaves its line or the pair is at an edge, one if the next turn doesn't look, one if a tick can still be taken.
abbrev pub turns_left : Bool → ℕ → World Board → ℕ
turns_left look left u =
    3 * records_left left u + playing_count u.board + band_count u.board.present u.board.tracks + leavings left u + cond look 0 1
    + min 1 (min left (clock_end - u.board.clock.0))
