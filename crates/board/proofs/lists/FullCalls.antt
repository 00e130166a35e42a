-- The board of 64 records by calls from a fresh board (02, 2.2), computed. The tests run the same calls.
use Prim.Native.Nat.{ℕ, ◌+◌, ◌-◌, ◌*◌}
use mathlib.Core.Path.{◌≡◌, refl}
use mathlib.Core.List.{List, [], ◌∷◌, ◌++◌, map}
use lib.IntN.{pos}
use lib.ListN.{length, replicate}
use Rattle.track.specs.declared.setup.Change.TheVariants as change
use Rattle.track.specs.Rule.{PLAYING, WAITING}
use Rattle.track.specs.Grid.{PLAY}
use Rattle.track.specs.Number.{coordinate_at}
use Rattle.board.specs.declared.call.Call.{Call}
use Rattle.board.specs.declared.call.Call.TheVariants as call
use Rattle.board.specs.Log.{record_width}
use Rattle.board.specs.Tick.{tick_most}
use Rattle.board.specs.Call.{accepted, done, log_full}
use Rattle.board.specs.Full.{all_tracks, partner, stands_on, opposite, full_track, full_point, full_row, full_board}
use Rattle.board.proofs.lists.Runs.{ran, all_of, alike, alike_same}
use Rattle.board.proofs.lists.Cards.{track, action, jump, point, play, advance, fresh}
use Rattle.board.proofs.lists.FollowerCards.{master, two}

-- repeat on
abbrev repeat : ℕ → Call
repeat i = call.SetUp (pos i) (change.Repeat (pos 1))

-- each of these tracks is set up and played
unfoldable pub set_up_all : List ℕ → List Call
set_up_all [] = []
set_up_all (i ∷ is) =
    repeat i
    ∷ jump i (stands_on i)
    ∷ action i PLAYING WAITING (20 + i)
    ∷ point i (stands_on i) (40 + i) 1 PLAY (opposite i)
    ∷ master i (partner i) (two 84 (80 + i) 99 (120 + i))
    ∷ play i
    ∷ set_up_all is

-- all tracks are added, then each is set up and played
unfoldable pub full_calls : List Call
full_calls = map (λ i. track i 0 100) all_tracks ++ set_up_all all_tracks

pub record FullCalls : Type 0 where
  -- they give the board, number by number: clock, held, the word of those present, each point and each field of each track (the point
  -- table's empty places are left out; the answer and the log, which `all_of` takes too, are the same on both sides)
  pub reached : all_of accepted (ran full_calls (fresh 0)).last.board [] ≡ all_of accepted full_board []
  -- on a log of as many bytes as 64 records need all are accepted and the tick is taken, on one of a byte less it is not
  pub fits : (ran (full_calls ++ (advance 1 ∷ [])) (fresh (tick_most * record_width))).answers ≡ replicate (length full_calls) accepted ++ (done 1 ∷ [])
  pub fills : (ran (full_calls ++ (advance 1 ∷ [])) (fresh (tick_most * record_width - 1))).answers ≡ replicate (length full_calls) accepted ++ (log_full 0 ∷ [])

pub full-calls : FullCalls
unfolding ran set_up_all full_calls coordinate_at partner stands_on full_track full_point full_row full_board alike
full-calls =
    record {
      reached = alike_same (all_of accepted (ran full_calls (fresh 0)).last.board []) (all_of accepted full_board []) refl;
      fits = refl;
      fills = refl;
    }
