-- Cards of 02, 2.4: slower tracks on a small board, worked out by hand from 02's words; and wrong answers, each refuted as those of Rejected are.
use Prim.Native.Nat.{ℕ}
use mathlib.Core.Path.{◌≡◌, refl, ap}
use mathlib.Core.List.{List, [], ◌∷◌, ◌++◌}
use native.Mathlib.Omega.{arith}
use lib.IntN.{ℤ, pos, negsuc}
use lib.ListN.{replicate, set}
use Rattle.track.specs.Rule.{STOPPED, PLAYING, PAUSED, WAITING, VISITED, DUE, with_remainder}
use Rattle.track.specs.Number.{value_of, coordinate_at}
use Rattle.track.specs.declared.setup.Change.TheVariants as change
use Rattle.board.specs.declared.Board.{Board}
use Rattle.board.specs.declared.call.Call.{Call}
use Rattle.board.specs.declared.call.Call.TheVariants as call
use Rattle.board.specs.declared.log.Record.{Record}
use Rattle.board.specs.Board.{track_at}
use Rattle.board.specs.Setup.{board_with}
use Rattle.board.specs.Replay.{World}
use Rattle.board.specs.Call.{accepted, refused, done, held_at, world}
use Rattle.board.proofs.lists.Runs.{ran, shown, alike}
use Rattle.board.proofs.lists.Cards.{track, dir, jump, point, play, pause, resume, stop, advance, fresh, printed, clock_at}
use Rattle.board.proofs.lists.Examples.{Alike}
use Rattle.board.proofs.lists.FollowerCards.{master, two, bytes, seen_as, by_bytes}
use Rattle.board.proofs.lists.Rejected.{after, broken, position, Claim, gives, Refuted, Unsaid, Unless, agrees, none_agrees, refute, unsaid}

-- ---- calls

abbrev pub rate : ℕ → ℕ → ℕ → Call
rate i p q = call.SetUp (pos i) (change.Rate (pos p) (pos q))

abbrev pub repeating : ℕ → Call
repeating i = call.SetUp (pos i) (change.Repeat (pos 1))

-- rates of -1 in 1, and of 1 in -1
abbrev pub minus_one : Call
minus_one = call.SetUp (pos 0) (change.Rate (negsuc 0) (pos 1))

abbrev pub in_minus_one : Call
in_minus_one = call.SetUp (pos 0) (change.Rate (pos 1) (negsuc 0))

-- track 0 runs from 0 to 9 round and round at 2 in 5; event 7 at 0, with a wait flag or without, and event 8 at 1
abbrev pub slowly : ℕ → List Call
slowly wait = track 0 0 9 ∷ repeating 0 ∷ point 0 0 7 wait 0 0 ∷ point 0 1 8 0 0 0 ∷ rate 0 2 5 ∷ play 0 ∷ []

abbrev pub slow : List Call
slow = slowly 0

-- the mode, the due flag, the position and the remainder of track 0 after calls, on a log of six records
abbrev pub pace_after : List Call → ℕ × ℕ × ℤ × ℕ
pace_after cs =
    let t = track_at (ran cs (fresh 96)).last.board.tracks 0 in
    (t.mode, t.due, value_of t.position, t.remainder)

-- its first two steps, of which the second makes the remainder 0, in these ticks
abbrev pub steps_at : ℕ → ℕ → List Record
steps_at first second = printed first 0 1 7 0 0 0 ∷ printed second 0 1 8 0 1 0 ∷ []

abbrev step_bytes : ℕ → ℕ → List ℕ
step_bytes first second = bytes first 0 1 7 0 0 0 ++ bytes second 0 1 8 0 1 0

-- once round: the tenth step, in tick 25, closes a pass, and the eleventh, in tick 28, is home
abbrev pub round_records : List Record
round_records = steps_at 3 5 ++ (printed 28 0 1 7 0 0 1 ∷ printed 30 0 1 8 0 1 1 ∷ [])

-- paused after 2 ticks for 4, with a remainder of 4
abbrev pub paused_amid : List Call → List Call → List Call → List Call
paused_amid before idle behind = slow ++ before ++ (pause 0 ∷ []) ++ idle ++ (resume 0 ∷ []) ++ behind

abbrev pub paused_once : List Call
paused_once = paused_amid (advance 2 ∷ []) (advance 4 ∷ []) (advance 3 ∷ [])

abbrev pub paused_by_ticks : List Call
paused_by_ticks = paused_amid (advance 1 ∷ advance 1 ∷ []) (advance 3 ∷ advance 1 ∷ []) (advance 1 ∷ advance 1 ∷ advance 1 ∷ [])

-- stopped after 1 tick, with a remainder of 2, and played again
abbrev pub stopped_amid : List Call → List Call
stopped_amid behind = slow ++ (advance 1 ∷ stop 0 ∷ play 0 ∷ []) ++ behind

-- track 0, at 1 in 3, follows track 1, at 1 in 1: event 41 above a drift of 2, 42 above one of 4
abbrev pub slow_follower : List Call → List Call
slow_follower cs = (track 0 0 9 ∷ track 1 0 9 ∷ rate 0 1 3 ∷ master 0 1 (two 2 41 4 42) ∷ play 0 ∷ play 1 ∷ []) ++ cs

abbrev pub lag_records : List Record
lag_records = printed 4 0 4 41 1 0 0 ∷ printed 7 0 4 42 1 1 0 ∷ []

-- rates that break their range
abbrev pub bad_rates : List Call
bad_rates =
    rate 0 0 1
    ∷ rate 0 2 1
    ∷ rate 0 1 1001
    ∷ minus_one
    ∷ rate 0 1 0
    ∷ rate 0 0 0
    ∷ rate 0 1001 1001
    ∷ rate 0 1000 999
    ∷ in_minus_one
    ∷ []

abbrev pub refused_rates : List Call
refused_rates = (track 0 0 9 ∷ rate 1 1 1 ∷ rate 1 2 1 ∷ play 0 ∷ rate 0 1 2 ∷ rate 0 2 1 ∷ pause 0 ∷ rate 0 1 2 ∷ stop 0 ∷ []) ++ bad_rates

-- ---- the table
pub record RateCards : Type 0 where
  -- 2 in 5: tick 1 to a remainder of 2, tick 2 to 4, tick 3 to 6: a step, and 1 is left; tick 4 to 3, tick 5 to 5: a step, and none is left
  pub five : shown (slow ++ (advance 5 ∷ [])) (fresh 48) ≡ seen_as 6 (done 5 ∷ []) 5 (steps_at 3 5) 16
  pub by-ticks : shown (slow ++ replicate 5 (advance 1)) (fresh 48) ≡ seen_as 6 (replicate 5 (done 1)) 5 (steps_at 3 5) 16
  pub by_two_and_three : shown (slow ++ (advance 2 ∷ advance 3 ∷ [])) (fresh 48) ≡ seen_as 6 (done 2 ∷ done 3 ∷ []) 5 (steps_at 3 5) 16
  pub same_cut : Alike (slow ++ (advance 5 ∷ [])) (slow ++ replicate 5 (advance 1)) × Alike (slow ++ (advance 5 ∷ [])) (slow ++ (advance 2 ∷ advance 3 ∷ []))
  pub pace : (pace_after (slow ++ (advance 1 ∷ [])) ≡ (PLAYING, DUE, pos 0, 2))
      × (pace_after (slow ++ (advance 2 ∷ [])) ≡ (PLAYING, DUE, pos 0, 4))
      × (pace_after (slow ++ (advance 3 ∷ [])) ≡ (PLAYING, VISITED, pos 0, 1))
      × (pace_after (slow ++ (advance 4 ∷ [])) ≡ (PLAYING, VISITED, pos 0, 3))
      × (pace_after (slow ++ (advance 5 ∷ [])) ≡ (PLAYING, VISITED, pos 1, 0))
  -- once round
  pub round : shown (slow ++ (advance 30 ∷ [])) (fresh 64) ≡ seen_as 6 (done 30 ∷ []) 30 round_records 0
  -- a pause keeps the remainder, also over ticks: 4 after tick 2, so that tick 7 makes the first step and tick 9 the second
  pub paused : shown paused_once (fresh 48) ≡ seen_as 6 (done 2 ∷ accepted ∷ done 4 ∷ accepted ∷ done 3 ∷ []) 9 (steps_at 7 9) 16
  pub paused-by-ticks : shown paused_by_ticks (fresh 48)
      ≡ seen_as 6 (done 1 ∷ done 1 ∷ accepted ∷ done 3 ∷ done 1 ∷ accepted ∷ done 1 ∷ done 1 ∷ done 1 ∷ []) 9 (steps_at 7 9) 16
  pub paused_cut : Alike paused_once paused_by_ticks
  -- so do a jump and a turn while PAUSED
  pub paused_keeps : (pace_after (slow ++ (advance 4 ∷ pause 0 ∷ [])) ≡ (PAUSED, VISITED, pos 0, 3))
      × (pace_after (slow ++ (advance 4 ∷ pause 0 ∷ jump 0 4 ∷ [])) ≡ (PAUSED, DUE, pos 4, 3))
      × (pace_after (slow ++ (advance 4 ∷ pause 0 ∷ dir 0 1 ∷ [])) ≡ (PAUSED, DUE, pos 0, 3))
  -- a wait keeps it: 1 after tick 3, in which the track waits; resumed behind tick 7, it makes its second step in tick 9
  pub waited : shown (slowly 1 ++ (advance 7 ∷ resume 0 ∷ advance 2 ∷ [])) (fresh 48) ≡ seen_as 6 (done 7 ∷ accepted ∷ done 2 ∷ []) 9 (steps_at 3 9) 16
  pub wait_keeps : pace_after (slowly 1 ++ (advance 7 ∷ [])) ≡ (WAITING, VISITED, pos 0, 1)
  -- a stop clears it: played again behind tick 1, the track makes its steps 3 and 5 ticks after that
  pub stopped : shown (stopped_amid (advance 5 ∷ [])) (fresh 48) ≡ seen_as 6 (done 1 ∷ accepted ∷ accepted ∷ done 5 ∷ []) 6 (steps_at 4 6) 16
  pub stopped_by_ticks : shown (stopped_amid (advance 2 ∷ advance 0 ∷ advance 3 ∷ [])) (fresh 48)
      ≡ seen_as 6 (done 1 ∷ accepted ∷ accepted ∷ done 2 ∷ done 0 ∷ done 3 ∷ []) 6 (steps_at 4 6) 16
  pub stop_clears : (pace_after (slow ++ (advance 4 ∷ stop 0 ∷ [])) ≡ (STOPPED, DUE, pos 0, 0))
      × (pace_after (slow ++ (advance 4 ∷ pause 0 ∷ stop 0 ∷ [])) ≡ (STOPPED, DUE, pos 0, 0))
  -- A follower at 1 in 3: its steps are made in ticks 3 and 6, its master's in every tick. The drift is 3 in tick 4 and 5 in tick 7, in
  -- which the follower makes no step.
  pub lags : shown (slow_follower (advance 7 ∷ [])) (fresh 48) ≡ seen_as 6 (done 7 ∷ []) 7 lag_records 16
  pub lags_by_ticks : shown (slow_follower (advance 3 ∷ advance 1 ∷ advance 3 ∷ [])) (fresh 48) ≡ seen_as 6 (done 3 ∷ done 1 ∷ done 3 ∷ []) 7 lag_records 16
  pub lags_cut : Alike (slow_follower (advance 7 ∷ [])) (slow_follower (advance 3 ∷ advance 1 ∷ advance 3 ∷ []))
  pub lags_standing : (pace_after (slow_follower (advance 3 ∷ [])) ≡ (PLAYING, VISITED, pos 0, 0))
      × (pace_after (slow_follower (advance 4 ∷ [])) ≡ (PLAYING, VISITED, pos 0, 1))
      × (pace_after (slow_follower (advance 6 ∷ [])) ≡ (PLAYING, VISITED, pos 1, 0))
      × (pace_after (slow_follower (advance 7 ∷ [])) ≡ (PLAYING, VISITED, pos 1, 1))
  -- An absent track is 1, whatever the rate; PLAYING 2, whatever the rate, and PAUSED 2; out of range 11; in range accepted, up to 1,000
  pub refusals : (ran (refused_rates ++ (rate 0 2 5 ∷ rate 0 1000 1000 ∷ rate 0 1 1000 ∷ rate 0 1 1 ∷ [])) (fresh 0)).answers
      ≡ (accepted ∷ refused 1 ∷ refused 1 ∷ accepted ∷ refused 2 ∷ refused 2 ∷ accepted ∷ refused 2 ∷ accepted ∷ [])
      ++ replicate 9 (refused 11) ++ replicate 4 accepted
  pub waiting_refused : (ran (slowly 1 ++ (advance 3 ∷ rate 0 1 2 ∷ [])) (fresh 48)).answers ≡ replicate 6 accepted ++ (done 3 ∷ refused 2 ∷ [])
  -- setting it does not rewind
  pub set_stays : pace_after (track 0 0 9 ∷ jump 0 3 ∷ rate 0 1 2 ∷ []) ≡ (STOPPED, DUE, pos 3, 0)

pub rate-cards : RateCards
unfolding ran
rate-cards =
    record {
      five = by_bytes 6 (done 5 ∷ []) 5 (steps_at 3 5) 16 (step_bytes 3 5) refl refl;
      by-ticks = by_bytes 6 (replicate 5 (done 1)) 5 (steps_at 3 5) 16 (step_bytes 3 5) refl refl;
      by_two_and_three = by_bytes 6 (done 2 ∷ done 3 ∷ []) 5 (steps_at 3 5) 16 (step_bytes 3 5) refl refl;
      same_cut =
          (record { same = refl; within = omega arith; within' = omega arith }, record { same = refl; within = omega arith; within' = omega arith });
      pace = (refl, refl, refl, refl, refl);
      round = by_bytes 6 (done 30 ∷ []) 30 round_records 0 (step_bytes 3 5 ++ bytes 28 0 1 7 0 0 1 ++ bytes 30 0 1 8 0 1 1) refl refl;
      paused = by_bytes 6 (done 2 ∷ accepted ∷ done 4 ∷ accepted ∷ done 3 ∷ []) 9 (steps_at 7 9) 16 (step_bytes 7 9) refl refl;
      paused-by-ticks =
          by_bytes 6 (done 1 ∷ done 1 ∷ accepted ∷ done 3 ∷ done 1 ∷ accepted ∷ done 1 ∷ done 1 ∷ done 1 ∷ []) 9 (steps_at 7 9) 16 (step_bytes 7 9) refl refl;
      paused_cut = record { same = refl; within = omega arith; within' = omega arith };
      paused_keeps = (refl, refl, refl);
      waited = by_bytes 6 (done 7 ∷ accepted ∷ done 2 ∷ []) 9 (steps_at 3 9) 16 (step_bytes 3 9) refl refl;
      wait_keeps = refl;
      stopped = by_bytes 6 (done 1 ∷ accepted ∷ accepted ∷ done 5 ∷ []) 6 (steps_at 4 6) 16 (step_bytes 4 6) refl refl;
      stopped_by_ticks = by_bytes 6 (done 1 ∷ accepted ∷ accepted ∷ done 2 ∷ done 0 ∷ done 3 ∷ []) 6 (steps_at 4 6) 16 (step_bytes 4 6) refl refl;
      stop_clears = (refl, refl);
      lags = by_bytes 6 (done 7 ∷ []) 7 lag_records 16 (bytes 4 0 4 41 1 0 0 ++ bytes 7 0 4 42 1 1 0) refl refl;
      lags_by_ticks = by_bytes 6 (done 3 ∷ done 1 ∷ done 3 ∷ []) 7 lag_records 16 (bytes 4 0 4 41 1 0 0 ++ bytes 7 0 4 42 1 1 0) refl refl;
      lags_cut = record { same = refl; within = omega arith; within' = omega arith };
      lags_standing = (refl, refl, refl, refl);
      refusals = refl;
      waiting_refused = refl;
      set_stays = refl;
    }

-- ---- wrong answers

-- the world of these calls, on a log of three records
abbrev stood : List Call → World Board
stood cs = after cs (fresh 48)

-- a STOPPED track of 0 to 9 at 1 in 1
abbrev still : World Board
still = stood (track 0 0 9 ∷ [])

-- the remainder of track 0, and the ticks of its rate
abbrev remainder_in : Board → ℕ
remainder_in b = (track_at b.tracks 0).remainder

abbrev ticks_in : Board → ℕ
ticks_in b = (track_at b.tracks 0).ticks

abbrev held_in : Board → ℕ
held_in b = b.held

-- the world with another remainder of track 0
abbrev left_over : ℕ → World Board → World Board
left_over r w =
    world
    (board_with w.board (set w.board.tracks 0 (with_remainder (track_at w.board.tracks 0) r)) w.board.present w.board.points w.board.held)
    w.log

-- the call of a rate
abbrev pub rates : List Claim
rates =
    -- 11 told as 3: p of 0, p above q, q above 1,000, below 0
    gives (rate 0 0 1) still (refused 3) still
    ∷ gives (rate 0 2 1) still (refused 3) still
    ∷ gives (rate 0 1 1001) still (refused 3) still
    ∷ gives minus_one still (refused 3) still
    ∷ gives in_minus_one still (refused 3) still
    -- 11 ahead of the mode's 2, or of an absent track's 1
    ∷ gives (rate 0 2 1) (stood slow) (refused 11) (stood slow)
    ∷ gives (rate 1 2 1) still (refused 11) still
    -- a broken board's 3 told as 11
    ∷ gives (rate 0 2 1) broken (refused 11) broken
    -- accepted with the board unchanged, or 3 in 3 kept as 1 in 1
    ∷ gives (rate 0 2 5) still accepted still
    ∷ gives (rate 0 3 3) still accepted (stood (track 0 0 9 ∷ rate 0 1 1 ∷ []))
    -- refused, and yet set
    ∷ gives (rate 0 1 1001) still (refused 11) (stood (track 0 0 9 ∷ rate 0 1 1000 ∷ []))
    -- accepted, and yet rewound
    ∷ gives (rate 0 2 5) (stood (track 0 0 9 ∷ jump 0 3 ∷ [])) accepted (stood (track 0 0 9 ∷ rate 0 2 5 ∷ []))
    ∷ []

-- ticks, and the mode calls between them
abbrev pub paces : List Claim
paces =
    -- a step in tick 2 instead of 3
    gives (advance 2) (stood slow) (done 2) (world (clock_at 2 (stood (slow ++ (advance 3 ∷ []))).board) (bytes 2 0 1 7 0 0 0 ++ replicate 32 0))
    -- in tick 1: the rate is nothing
    ∷ gives (advance 1) (stood slow) (done 1) (world (clock_at 1 (stood (slow ++ (advance 3 ∷ []))).board) (bytes 1 0 1 7 0 0 0 ++ replicate 32 0))
    -- no step in tick 3
    ∷ gives (advance 1) (stood (slow ++ (advance 2 ∷ []))) (done 1) (left_over 6 (world (clock_at 3 (stood (slow ++ (advance 2 ∷ []))).board) (replicate 48 0)))
    -- a step takes the whole remainder, or none of it
    ∷ gives (advance 3) (stood slow) (done 3) (left_over 0 (stood (slow ++ (advance 3 ∷ []))))
    ∷ gives (advance 3) (stood slow) (done 3) (left_over 6 (stood (slow ++ (advance 3 ∷ []))))
    -- the remainder does not grow in a tick without a step
    ∷ gives (advance 1) (stood slow) (done 1) (left_over 0 (stood (slow ++ (advance 1 ∷ []))))
    -- it grows in a tick in which the track is PAUSED, or STOPPED
    ∷ gives (advance 1) (stood (slow ++ (pause 0 ∷ []))) (done 1) (left_over 2 (stood (slow ++ (pause 0 ∷ advance 1 ∷ []))))
    ∷ gives (advance 1) (stood (slow ++ (stop 0 ∷ []))) (done 1) (left_over 2 (stood (slow ++ (stop 0 ∷ advance 1 ∷ []))))
    -- the point is reported again in a tick without a step
    ∷ gives (advance 1) (stood (slow ++ (advance 3 ∷ []))) (done 1)
    (world (held_at 2 (stood (slow ++ (advance 4 ∷ []))).board) (bytes 3 0 1 7 0 0 0 ++ bytes 4 0 1 7 0 0 0 ++ replicate 16 0))
    -- the stop keeps the remainder, so that the track, played again, makes its step 2 ticks after that
    ∷ gives (stop 0) (stood (slow ++ (advance 1 ∷ []))) accepted (left_over 2 (stood (slow ++ (advance 1 ∷ stop 0 ∷ []))))
    ∷ gives (advance 2) (stood (stopped_amid [])) (done 2) (after (advance 2 ∷ []) (left_over 2 (stood (stopped_amid []))))
    -- the pause clears it, or the resume, so that the step is made 3 ticks after that
    ∷ gives (pause 0) (stood (slow ++ (advance 2 ∷ []))) accepted (left_over 0 (stood (slow ++ (advance 2 ∷ pause 0 ∷ []))))
    ∷ gives (resume 0) (stood (slow ++ (advance 2 ∷ pause 0 ∷ []))) accepted (left_over 0 (stood (slow ++ (advance 2 ∷ pause 0 ∷ resume 0 ∷ []))))
    ∷ gives (advance 3) (stood (paused_amid (advance 2 ∷ []) [] [])) (done 3)
    (after (advance 3 ∷ []) (left_over 0 (stood (paused_amid (advance 2 ∷ []) [] []))))
    -- a follower is judged only in ticks in which it makes a step
    ∷ gives (advance 1) (stood (slow_follower (advance 3 ∷ []))) (done 1)
    (world (held_at 0 (stood (slow_follower (advance 4 ∷ []))).board) (replicate 48 0))
    ∷ []

pub record RejectedRates : Type 0 where
  pub rates_refuted : Refuted rates
  pub paces_refuted : Refuted paces
  -- accepted while PLAYING, PAUSED or WAITING
  pub playing_set : Unsaid (rate 0 1 2) (stood slow) accepted
  pub paused_set : Unsaid (rate 0 1 2) (stood (slow ++ (pause 0 ∷ []))) accepted
  pub waiting_set : Unsaid (rate 0 1 2) (stood (slowly 1 ++ (advance 3 ∷ []))) accepted
  -- accepted out of range
  pub none_set : Unsaid (rate 0 0 1) still accepted
  pub fast_set : Unsaid (rate 0 2 1) still accepted
  pub far_set : Unsaid (rate 0 1 1001) still accepted
  pub negative_set : Unsaid minus_one still accepted
  -- 1,000 in 1,000 refused
  pub most_refused : Unsaid (rate 0 1000 1000) still (refused 11)
  -- whatever else it leaves: a record in tick 2, another remainder than 1 behind tick 3
  pub early : Unless (advance 2) (stood slow) (done 2) (λ b. held_in b ≡ 0)
  pub left_behind : Unless (advance 3) (stood slow) (done 3) (λ b. remainder_in b ≡ 1)
  -- a remainder behind the stop, none behind the pause, the wait, the jump and the turn
  pub stop_keeps : Unless (stop 0) (stood (slow ++ (advance 1 ∷ []))) accepted (λ b. remainder_in b ≡ 0)
  pub pause_clears : Unless (pause 0) (stood (slow ++ (advance 1 ∷ []))) accepted (λ b. remainder_in b ≡ 2)
  pub wait_clears : Unless (advance 3) (stood (slowly 1)) (done 3) (λ b. remainder_in b ≡ 1)
  pub jump_clears : Unless (jump 0 4) (stood (slow ++ (advance 1 ∷ pause 0 ∷ []))) accepted (λ b. remainder_in b ≡ 2)
  pub turn_clears : Unless (dir 0 1) (stood (slow ++ (advance 1 ∷ pause 0 ∷ []))) accepted (λ b. remainder_in b ≡ 2)
  -- a stop that forgets the rate
  pub stop_forgets : Unless (stop 0) (stood slow) accepted (λ b. ticks_in b ≡ 5)
  -- setting it rewinds
  pub set_rewinds : Unless (rate 0 2 5) (stood (track 0 0 9 ∷ jump 0 3 ∷ [])) accepted (λ b. position b ≡ pos 3)

pub rejected-rates : RejectedRates
unfolding ran alike agrees none_agrees value_of coordinate_at
rejected-rates =
    record {
      rates_refuted = refute rates refl;
      paces_refuted = refute paces refl;
      playing_set = λ v g. unsaid accepted (refused 2) refl g.answer_is;
      paused_set = λ v g. unsaid accepted (refused 2) refl g.answer_is;
      waiting_set = λ v g. unsaid accepted (refused 2) refl g.answer_is;
      none_set = λ v g. unsaid accepted (refused 11) refl g.answer_is;
      fast_set = λ v g. unsaid accepted (refused 11) refl g.answer_is;
      far_set = λ v g. unsaid accepted (refused 11) refl g.answer_is;
      negative_set = λ v g. unsaid accepted (refused 11) refl g.answer_is;
      most_refused = λ v g. unsaid (refused 11) accepted refl g.answer_is;
      early = λ v n g. n (ap held_in g.board_is);
      left_behind = λ v n g. n (ap remainder_in g.board_is);
      stop_keeps = λ v n g. n (ap remainder_in g.board_is);
      pause_clears = λ v n g. n (ap remainder_in g.board_is);
      wait_clears = λ v n g. n (ap remainder_in g.board_is);
      jump_clears = λ v n g. n (ap remainder_in g.board_is);
      turn_clears = λ v n g. n (ap remainder_in g.board_is);
      stop_forgets = λ v n g. n (ap ticks_in g.board_is);
      set_rewinds = λ v n g. n (ap position g.board_is);
    }
