-- Cards of 02, 2.3: tracks turned on a small board, worked out by hand from 02's words; and wrong answers, each refuted as those of Rejected are.
use Prim.Native.Nat.{ℕ}
use mathlib.Core.Path.{◌≡◌, refl}
use mathlib.Core.List.{List, [], ◌∷◌, ◌++◌}
use native.Mathlib.Omega.{arith}
use lib.IntN.{ℤ, pos}
use lib.ListN.{replicate, set}
use Rattle.track.specs.Rule.{STOPPED, PLAYING, PAUSED, FORWARD, BACKWARD, VISITED, DUE, moved}
use Rattle.track.specs.Number.{value_of, coordinate_at}
use Rattle.board.specs.declared.Board.{Board}
use Rattle.board.specs.declared.call.Call.{Call}
use Rattle.board.specs.declared.log.Record.{Record}
use Rattle.board.specs.Board.{track_at}
use Rattle.board.specs.Setup.{board_with}
use Rattle.board.specs.Replay.{World}
use Rattle.board.specs.Call.{Reply, accepted, refused, done, world}
use Rattle.board.proofs.lists.Runs.{ran, shown, alike}
use Rattle.board.proofs.lists.Cards.{track, loops, dir, action, jump, point, play, pause, resume, advance, fresh, printed}
use Rattle.board.proofs.lists.Examples.{Alike}
use Rattle.board.proofs.lists.FollowerCards.{pair, bytes, seen_as, by_bytes}
use Rattle.board.proofs.lists.Rejected.{after, Claim, gives, Refuted, Unsaid, agrees, none_agrees, refute, unsaid}

-- the direction, the mode, the due flag, the position and the passes of track 0 after calls, on a log of six records
abbrev pub track_after : List Call → ℕ × ℕ × ℕ × ℤ × ℕ
track_after cs =
    let t = track_at (ran cs (fresh 96)).last.board.tracks 0 in
    (t.direction, t.mode, t.due, value_of t.position, t.passes.0)

-- a span of 0 to n with a point on 0, played so many ticks and paused; a change from PLAYING to STOPPED writes event 21
abbrev pub stood_after : ℕ → ℕ → List Call
stood_after n ticks =
    track 0 0 n ∷ loops 0 2 ∷ point 0 0 9 0 0 0 ∷ action 0 1 0 21 ∷ play 0 ∷ advance ticks ∷ pause 0 ∷ []

-- PAUSED, visited, on its home location 0
abbrev pub stood_home : List Call
stood_home = stood_after 5 1

-- a track begun backward, so that home is 5; its point is there
abbrev pub stood_backward : List Call
stood_backward = track 0 0 5 ∷ dir 0 1 ∷ loops 0 2 ∷ point 0 5 9 0 0 0 ∷ play 0 ∷ advance 1 ∷ pause 0 ∷ []

-- the point on home, at the first arrival and at the second
abbrev pub twice : ℕ → List Record
twice p = printed 1 0 1 9 0 p 0 ∷ printed 2 0 1 9 0 p 0 ∷ []

-- and with loops 1 the stop on it
abbrev pub stop_records : List Record
stop_records = printed 1 0 1 9 0 0 0 ∷ printed 2 0 1 9 0 0 0 ∷ printed 2 0 2 21 16 0 1 ∷ []

-- A follower on its home, 5, is turned while its master stands: it is 10 away from its new home, and judged so in the next tick, in
-- which nothing plays. Resumed, it reaches 5 again at clock 4, with a pass closed, then 15, its home; at clock 8 it is 3 away. It jumps to 7,
-- 8 away, and is turned again, due as it is: 2 away. Resumed, it is 3 away at clock 13. The advances may be cut.
abbrev pub jumps_and_turns : List Call → List Call → List Call → List Call
jumps_and_turns idle walk more =
    pair ++ (loops 0 2 ∷ play 0 ∷ play 1 ∷ pause 1 ∷ advance 1 ∷ pause 0 ∷ dir 0 1 ∷ []) ++ idle ++ (resume 0 ∷ []) ++ walk
    ++ (pause 0 ∷ jump 0 7 ∷ advance 1 ∷ dir 0 0 ∷ []) ++ idle ++ (resume 0 ∷ []) ++ more

abbrev pub at_once : List Call
at_once = jumps_and_turns (advance 2 ∷ []) (advance 5 ∷ []) (advance 3 ∷ [])

abbrev pub by_ticks : List Call
by_ticks = jumps_and_turns (advance 1 ∷ advance 1 ∷ []) (advance 1 ∷ advance 0 ∷ advance 4 ∷ []) (advance 2 ∷ advance 1 ∷ [])

abbrev pub at_once_says : List Reply
at_once_says =
    done 1 ∷ accepted ∷ accepted ∷ done 2 ∷ accepted ∷ done 5 ∷ accepted ∷ accepted ∷ done 1 ∷ accepted ∷ done 2 ∷ accepted ∷ done 3 ∷ []

abbrev pub by_ticks_says : List Reply
by_ticks_says =
    (done 1 ∷ accepted ∷ accepted ∷ done 1 ∷ done 1 ∷ accepted ∷ done 1 ∷ done 0 ∷ done 4 ∷ accepted ∷ accepted ∷ [])
    ++ (done 1 ∷ accepted ∷ done 1 ∷ done 1 ∷ accepted ∷ done 2 ∷ done 1 ∷ [])

abbrev pub bands_met : List Record
bands_met = printed 2 0 4 42 1 5 0 ∷ printed 8 0 4 41 1 12 1 ∷ printed 9 0 4 42 1 7 1 ∷ printed 13 0 4 41 1 8 1 ∷ []

band_bytes : List ℕ
band_bytes = bytes 2 0 4 42 1 5 0 ++ bytes 8 0 4 41 1 12 1 ++ bytes 9 0 4 42 1 7 1 ++ bytes 13 0 4 41 1 8 1

pub record FlipCards : Type 0 where
  -- turned on home: due, and the direction; of all other fields and tracks `turned-call` tells (Flips)
  pub due_set : track_after (stood_home ++ (dir 0 1 ∷ [])) ≡ (BACKWARD, PAUSED, DUE, pos 0, 0)
  -- resumed: it arrives where it stands, its point is reported again with the passes so far
  pub again : shown (stood_home ++ (dir 0 1 ∷ resume 0 ∷ advance 2 ∷ [])) (fresh 96)
      ≡ seen_as 5 (done 1 ∷ accepted ∷ accepted ∷ accepted ∷ done 2 ∷ []) 3 (twice 0) 64
  -- a pass is closed, and the arrival after that is the other end
  pub closed : track_after (stood_home ++ (dir 0 1 ∷ resume 0 ∷ advance 1 ∷ [])) ≡ (BACKWARD, PLAYING, VISITED, pos 0, 1)
  pub crossed : track_after (stood_home ++ (dir 0 1 ∷ resume 0 ∷ advance 2 ∷ [])) ≡ (BACKWARD, PLAYING, VISITED, pos 5, 1)
  -- with loops 1 and repeat off the track stops on it, and rewinds to the other end
  pub stops_there : shown (stood_home ++ (loops 0 1 ∷ dir 0 1 ∷ resume 0 ∷ advance 1 ∷ [])) (fresh 96)
      ≡ seen_as 5 (done 1 ∷ accepted ∷ accepted ∷ accepted ∷ accepted ∷ done 1 ∷ []) 2 stop_records 48
  pub stopped_there : track_after (stood_home ++ (loops 0 1 ∷ dir 0 1 ∷ resume 0 ∷ advance 1 ∷ [])) ≡ (BACKWARD, STOPPED, DUE, pos 5, 0)
  -- the other way round: a backward track turned forward on its end
  pub backward : shown (stood_backward ++ (dir 0 0 ∷ resume 0 ∷ advance 2 ∷ [])) (fresh 96)
      ≡ seen_as 5 (done 1 ∷ accepted ∷ accepted ∷ accepted ∷ done 2 ∷ []) 3 (twice 5) 64
  pub backward_crossed : track_after (stood_backward ++ (dir 0 0 ∷ resume 0 ∷ advance 2 ∷ [])) ≡ (FORWARD, PLAYING, VISITED, pos 0, 1)
  -- a span of two locations
  pub two_locations : track_after (stood_after 1 1 ++ (dir 0 1 ∷ resume 0 ∷ advance 2 ∷ [])) ≡ (BACKWARD, PLAYING, VISITED, pos 1, 1)
  -- every other turn changes the direction alone: the same value again, on the old far position, elsewhere, due already
  pub same_on_home : track_after (stood_home ++ (dir 0 0 ∷ [])) ≡ (FORWARD, PAUSED, VISITED, pos 0, 0)
  pub same_on_far : track_after (stood_after 5 6 ++ (dir 0 0 ∷ [])) ≡ (FORWARD, PAUSED, VISITED, pos 5, 1)
  pub old_far : track_after (stood_after 5 6 ++ (dir 0 1 ∷ [])) ≡ (BACKWARD, PAUSED, VISITED, pos 5, 1)
  pub elsewhere : track_after (stood_after 5 3 ++ (dir 0 1 ∷ [])) ≡ (BACKWARD, PAUSED, VISITED, pos 2, 0)
  pub due_already : track_after (stood_after 5 0 ++ (dir 0 1 ∷ [])) ≡ (BACKWARD, PAUSED, DUE, pos 0, 0)
  -- there and back on home: the second turn finds it due, and leaves it so
  pub home_and_back : track_after (stood_home ++ (dir 0 1 ∷ dir 0 0 ∷ [])) ≡ (FORWARD, PAUSED, DUE, pos 0, 0)
  -- there and back on far: the second turn is one on its new far position
  pub far_and_back : track_after (stood_after 5 6 ++ (dir 0 1 ∷ dir 0 0 ∷ [])) ≡ (FORWARD, PAUSED, DUE, pos 5, 1)
  -- with followers: a list that jumps, turns and idles, cut in two ways
  pub judged_next : shown at_once (fresh 96) ≡ seen_as 8 at_once_says 14 bands_met 32
  pub same_cut : Alike at_once by_ticks
  pub judged_by_ticks : shown by_ticks (fresh 96) ≡ seen_as 8 by_ticks_says 14 bands_met 32

pub flip-cards : FlipCards
unfolding ran band_bytes
flip-cards =
    record {
      due_set = refl;
      again = by_bytes 5 (done 1 ∷ accepted ∷ accepted ∷ accepted ∷ done 2 ∷ []) 3 (twice 0) 64 (bytes 1 0 1 9 0 0 0 ++ bytes 2 0 1 9 0 0 0) refl refl;
      closed = refl;
      crossed = refl;
      stops_there = by_bytes 5 (done 1 ∷ accepted ∷ accepted ∷ accepted ∷ accepted ∷ done 1 ∷ []) 2 stop_records 48
          (bytes 1 0 1 9 0 0 0 ++ bytes 2 0 1 9 0 0 0 ++ bytes 2 0 2 21 16 0 1) refl refl;
      stopped_there = refl;
      backward = by_bytes 5 (done 1 ∷ accepted ∷ accepted ∷ accepted ∷ done 2 ∷ []) 3 (twice 5) 64 (bytes 1 0 1 9 0 5 0 ++ bytes 2 0 1 9 0 5 0) refl refl;
      backward_crossed = refl;
      two_locations = refl;
      same_on_home = refl;
      same_on_far = refl;
      old_far = refl;
      elsewhere = refl;
      due_already = refl;
      home_and_back = refl;
      far_and_back = refl;
      judged_next = by_bytes 8 at_once_says 14 bands_met 32 band_bytes refl refl;
      same_cut = record { same = refl; within = omega arith; within' = omega arith };
      judged_by_ticks = by_bytes 8 by_ticks_says 14 bands_met 32 band_bytes refl refl;
    }

-- ---- wrong answers

-- the world of these calls, on a log of three records
abbrev stood : List Call → World Board
stood cs = after cs (fresh 48)

-- track 0 with other passes and another due flag
abbrev left_as : ℕ → ℕ → World Board → World Board
left_as passes due w =
    let t = track_at w.board.tracks 0 in
    world
    (board_with w.board (set w.board.tracks 0 (moved t t.mode t.position.0 passes due)) w.board.present w.board.points w.board.held)
    w.log

-- turned on home as 01 had it, with calls after that
abbrev goes_home : List Call → World Board
goes_home cs = after cs (left_as 0 VISITED (stood (stood_home ++ (dir 0 1 ∷ []))))

abbrev pub directions : List Claim
directions =
    -- due set without a flip: by the same value again, on home and on far
    gives (dir 0 0) (stood stood_home) accepted (left_as 0 DUE (stood stood_home))
    ∷ gives (dir 0 0) (stood (stood_after 5 6)) accepted (left_as 1 DUE (stood (stood_after 5 6)))
    -- due set on the old far position, or elsewhere
    ∷ gives (dir 0 1) (stood (stood_after 5 6)) accepted (left_as 1 DUE (stood (stood_after 5 6 ++ (dir 0 1 ∷ []))))
    ∷ gives (dir 0 1) (stood (stood_after 5 3)) accepted (left_as 0 DUE (stood (stood_after 5 3 ++ (dir 0 1 ∷ []))))
    -- due lost by turning: of a track that is due, and by turning back
    ∷ gives (dir 0 1) (stood (stood_after 5 0)) accepted (left_as 0 VISITED (stood (stood_after 5 0 ++ (dir 0 1 ∷ []))))
    ∷ gives (dir 0 0) (stood (stood_home ++ (dir 0 1 ∷ []))) accepted (stood stood_home)
    -- due never set: the track is turned, and goes home next
    ∷ gives (dir 0 1) (stood stood_home) accepted (goes_home [])
    ∷ gives (advance 1) (stood (stood_home ++ (dir 0 1 ∷ resume 0 ∷ []))) (done 1) (goes_home (resume 0 ∷ advance 1 ∷ []))
    -- the call itself counts the pass
    ∷ gives (dir 0 1) (stood stood_home) accepted (left_as 1 VISITED (stood (stood_home ++ (dir 0 1 ∷ []))))
    -- the call puts the track on the other end
    ∷ gives (dir 0 1) (stood stood_home) accepted (stood (stood_home ++ (dir 0 1 ∷ jump 0 5 ∷ [])))
    -- the point is reported with the pass that its arrival closes
    ∷ gives (advance 1) (stood (stood_home ++ (dir 0 1 ∷ resume 0 ∷ []))) (done 1)
    (world (stood (stood_home ++ (dir 0 1 ∷ resume 0 ∷ advance 1 ∷ []))).board (bytes 1 0 1 9 0 0 0 ++ bytes 2 0 1 9 0 0 1 ++ replicate 16 0))
    -- a STOPPED track keeps its position
    ∷ gives (dir 0 1) (stood (track 0 0 5 ∷ [])) accepted (stood (track 0 0 5 ∷ dir 0 1 ∷ jump 0 0 ∷ []))
    ∷ []

pub record RejectedFlips : Type 0 where
  pub directions_refuted : Refuted directions
  -- a PLAYING track turned, a WAITING one, or a direction 2
  pub playing_turned : Unsaid (dir 0 1) (stood (stood_home ++ (resume 0 ∷ []))) accepted
  pub waiting_turned : Unsaid (dir 0 1) (stood (track 0 0 5 ∷ point 0 0 9 1 0 0 ∷ play 0 ∷ advance 1 ∷ [])) accepted
  pub two_taken : Unsaid (dir 0 2) (stood stood_home) accepted

pub rejected-flips : RejectedFlips
unfolding ran alike agrees none_agrees value_of coordinate_at
rejected-flips =
    record {
      directions_refuted = refute directions refl;
      playing_turned = λ v g. unsaid accepted (refused 2) refl g.answer_is;
      waiting_turned = λ v g. unsaid accepted (refused 2) refl g.answer_is;
      two_taken = λ v g. unsaid accepted (refused 3) refl g.answer_is;
    }
