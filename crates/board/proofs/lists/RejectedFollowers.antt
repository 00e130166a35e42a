-- Wrong programs of 02, 2.1, each shown not to meet the contract of master or of advance, as those of Rejected are.
use Prim.Native.Nat.{ℕ}
use mathlib.Core.Path.{◌≡◌, refl, ap}
use mathlib.Core.List.{List, [], ◌∷◌, ◌++◌}
use lib.IntN.{pos}
use lib.ListN.{replicate, set}
use Rattle.track.specs.Follow.{banded, following}
use Rattle.track.specs.Number.{value_of, coordinate_at}
use Rattle.board.specs.declared.Board.{Board}
use Rattle.board.specs.declared.call.Call.{Call}
use Rattle.board.specs.declared.call.Pairs.{Pairs}
use Rattle.board.specs.declared.call.Pairs.TheVariants as pairs
use Rattle.board.specs.Board.{track_at}
use Rattle.board.specs.Setup.{board_with}
use Rattle.board.specs.Replay.{World}
use Rattle.board.specs.Call.{accepted, refused, done, log_full, held_at, world}
use Rattle.board.proofs.lists.Runs.{ran, alike}
use Rattle.board.proofs.lists.Cards.{jump, point, play, pause, stop, advance, fresh, clock_at}
use Rattle.board.proofs.lists.FollowerCards.{master, one, two, both_tracks, pair, runs_ahead, turns_back, bytes}
use Rattle.board.proofs.lists.Rejected.{after, broken, position, Claim, gives, Refuted, Unsaid, Unless, agrees, none_agrees, refute, unsaid}

-- ---- worlds, and boards that a wrong program leaves

-- the follower and its master, on a log of n bytes, with calls after that
abbrev paired : ℕ → List Call → World Board
paired n cs = after (pair ++ cs) (fresh n)

-- and the follower running ahead
abbrev ahead : ℕ → List Call → World Board
ahead n cs = paired n (runs_ahead ++ cs)

-- the board with another band of track 0
abbrev with_band : ℕ → Board → Board
with_band k b = board_with b (set b.tracks 0 (banded (track_at b.tracks 0) k)) b.present b.points b.held

-- the band of track 0, and of which track it is said to be the follower
abbrev band : Board → ℕ
band b = (track_at b.tracks 0).band

abbrev master_in : Board → ℕ
master_in b = (track_at b.tracks 0).master

-- track 0 without thresholds, its master's number kept
abbrev number_kept : Board → Board
number_kept b =
    board_with b (set b.tracks 0 (following (track_at b.tracks 0) 1 (replicate 4 0) (replicate 4 0))) b.present b.points b.held

-- the follower's point on 8, three from home, has this command for the master
abbrev commanding : ℕ → ℕ → List Call → World Board
commanding n command cs = after (pair ++ (point 0 8 7 0 command 1 ∷ []) ++ runs_ahead ++ cs) (fresh n)

-- both PAUSED, the follower moved to a distance of 7
abbrev jumped : World Board
jumped = ahead 16 (pause 0 ∷ jump 0 12 ∷ [])

-- the two that follow each other
abbrev each_other : ℕ → List Call → World Board
each_other n cs = after (both_tracks ++ (master 0 1 (one 2 41) ∷ master 1 0 (one 2 51) ∷ []) ++ runs_ahead ++ cs) (fresh n)

-- a first record, of band 1 at clock 4, and a second, of band 2 at clock 6
abbrev first_two : List ℕ
first_two = bytes 4 0 4 41 1 8 0 ++ bytes 6 0 4 42 1 10 0

-- five rising pairs
abbrev five : Pairs
five = pairs.More (pos 1) (pos 41) (pos 2) (pos 42) (pos 3) (pos 43) (pos 4) (pos 44) (pos 5) (pos 45)

-- ---- the wrong programs

abbrev pub masters : List Claim
masters =
    -- 2 ahead of the master's 1
    gives (master 0 5 (one 2 41)) (paired 0 (play 0 ∷ [])) (refused 2) (paired 0 (play 0 ∷ []))
    -- 1 ahead of a broken board's 3
    ∷ gives (master 0 5 (one 2 41)) broken (refused 1) broken
    -- itself as master is 10
    ∷ gives (master 0 0 (one 2 41)) (paired 0 []) (refused 10) (paired 0 [])
    -- 3 ahead of the mode's 2
    ∷ gives (master 0 0 (one 2 41)) (paired 0 (play 0 ∷ [])) (refused 3) (paired 0 (play 0 ∷ []))
    -- 10 ahead of 3: the thresholds fall, and the second is out of range
    ∷ gives (master 0 1 (two 4 41 0 42)) (paired 0 []) (refused 10) (paired 0 [])
    -- thresholds that don't rise are 3
    ∷ gives (master 0 1 (two 4 41 2 42)) (paired 0 []) (refused 3) (paired 0 [])
    -- over four is 3
    ∷ gives (master 0 1 five) (paired 0 []) (refused 3) (paired 0 [])
    -- accepted with the board unchanged
    ∷ gives (master 0 1 (one 2 41)) (after both_tracks (fresh 0)) accepted (after both_tracks (fresh 0))
    -- without pairs the number of the master is kept, or the old thresholds are
    ∷ gives (master 0 1 pairs.Nothing) (paired 0 []) accepted (world (number_kept (paired 0 []).board) [])
    ∷ gives (master 0 1 pairs.Nothing) (paired 0 []) accepted (paired 0 [])
    -- refused, and yet the old master is gone
    ∷ gives (master 0 1 (two 4 41 2 42)) (paired 0 []) (refused 10) (paired 0 (master 0 1 pairs.Nothing ∷ []))
    ∷ []

-- an advance by 1
abbrev pub judges : List Claim
judges =
    -- a drift equal to the threshold writes kind 4
    gives (advance 1) (ahead 16 (advance 2 ∷ [])) (done 1)
    (world (held_at 1 (with_band 1 (ahead 16 (advance 3 ∷ [])).board)) (bytes 3 0 4 41 1 7 0))
    -- staying in a band writes it again
    ∷ gives (advance 1) (ahead 32 (advance 4 ∷ [])) (done 1)
    (world (held_at 2 (ahead 32 (advance 5 ∷ [])).board) (bytes 4 0 4 41 1 8 0 ++ bytes 5 0 4 41 1 9 0))
    -- falling from band 2 to band 1 writes nothing
    ∷ gives (advance 1) (after (turns_back ++ (advance 1 ∷ [])) (fresh 64)) (done 1)
    (world (held_at 2 (after (turns_back ++ (advance 2 ∷ [])) (fresh 64)).board) (first_two ++ replicate 32 0))
    -- falling to none writes
    ∷ gives (advance 1) (after (turns_back ++ (advance 3 ∷ [])) (fresh 64)) (done 1)
    (world (held_at 4 (after (turns_back ++ (advance 4 ∷ [])) (fresh 64)).board) (first_two ++ bytes 8 0 4 41 1 10 0 ++ bytes 10 0 4 41 1 10 0))
    -- the record comes ahead of the commands' records
    ∷ gives (advance 1) (commanding 48 2 (advance 3 ∷ [])) (done 1)
    (world (commanding 48 2 (advance 4 ∷ [])).board (bytes 4 0 1 7 33 8 0 ++ bytes 4 0 4 41 1 8 0 ++ bytes 4 1 3 7 34 10 0))
    -- judged by the modes before the commands, of which one stops the master
    ∷ gives (advance 1) (commanding 32 4 (advance 3 ∷ [])) (done 1)
    (world (held_at 2 (with_band 1 (commanding 32 4 (advance 4 ∷ [])).board)) (bytes 4 0 1 7 65 8 0 ++ bytes 4 0 4 41 1 8 0))
    -- the detail is the follower's own number
    ∷ gives (advance 1) (ahead 16 (advance 3 ∷ [])) (done 1) (world (ahead 16 (advance 4 ∷ [])).board (bytes 4 0 4 41 0 8 0))
    -- number and position are the master's
    ∷ gives (advance 1) (ahead 16 (advance 3 ∷ [])) (done 1) (world (ahead 16 (advance 4 ∷ [])).board (bytes 4 1 4 41 1 10 0))
    -- LogFull leaves the new band
    ∷ gives (advance 1) (ahead 15 (advance 3 ∷ [])) (log_full 0) (world (with_band 1 (ahead 15 (advance 3 ∷ [])).board) (replicate 15 0))
    -- the tick is taken and its record left out
    ∷ gives (advance 1) (ahead 15 (advance 3 ∷ [])) (done 1) (world (held_at 0 (ahead 16 (advance 4 ∷ [])).board) (replicate 15 0))
    -- an idle tick is not judged
    ∷ gives (advance 1) jumped (done 1) (world (clock_at 1 jumped.board) (replicate 16 0))
    -- the lowest threshold exceeded gives the event
    ∷ gives (advance 1) jumped (done 1) (world (after (advance 1 ∷ []) jumped).board (bytes 1 0 4 41 1 12 0))
    -- the followers in descending order
    ∷ gives (advance 1) (each_other 32 (advance 3 ∷ [])) (done 1)
    (world (each_other 32 (advance 4 ∷ [])).board (bytes 4 1 4 51 0 10 0 ++ bytes 4 0 4 41 1 8 0))
    ∷ []

-- ---- the table
pub record RejectedFollowers : Type 0 where
  pub masters_refuted : Refuted masters
  -- itself as master is accepted, with pairs or without
  pub own_master : Unsaid (master 0 0 (one 2 41)) (paired 0 []) accepted
  pub own_number : Unsaid (master 0 0 pairs.Nothing) (paired 0 []) accepted
  -- an absent master is, without pairs
  pub absent_number : Unsaid (master 0 5 pairs.Nothing) (paired 0 []) accepted
  -- five rising pairs are, and two thresholds that are equal
  pub five_pairs : Unsaid (master 0 1 five) (paired 0 []) accepted
  pub equal_pairs : Unsaid (master 0 1 (two 2 41 2 42)) (paired 0 []) accepted
  -- a threshold of 1,000,001, an event of 0
  pub far_threshold : Unsaid (master 0 1 (one 1000001 41)) (paired 0 []) accepted
  pub no_event : Unsaid (master 0 1 (one 2 0)) (paired 0 []) accepted
  -- setting it for a PAUSED track
  pub paused_set : Unsaid (master 0 1 (one 2 41)) (ahead 0 (pause 0 ∷ [])) accepted
  -- setting it rewinds, or keeps the band, or leaves the number of another master
  pub set_rewinds : Unless (master 0 1 (one 2 41)) (after (both_tracks ++ (jump 0 8 ∷ [])) (fresh 0)) accepted (λ b. position b ≡ pos 8)
  pub set_keeps_band : Unless (master 0 1 (one 2 41)) (ahead 16 (advance 4 ∷ stop 0 ∷ [])) accepted (λ b. band b ≡ 0)
  pub set_elsewhere : Unless (master 0 1 (one 2 41)) (after both_tracks (fresh 0)) accepted (λ b. master_in b ≡ 1)
  pub judges_refuted : Refuted judges
  -- a STOPPED follower, or one of a STOPPED master, has another band than none after a tick
  pub stopped_keeps : Unless (advance 1) (ahead 16 (advance 4 ∷ stop 0 ∷ [])) (done 1) (λ b. band b ≡ 0)
  pub master_keeps : Unless (advance 1) (ahead 16 (advance 4 ∷ stop 1 ∷ [])) (done 1) (λ b. band b ≡ 0)
  -- a mode call takes the band
  pub stop_takes : Unless (stop 0) (ahead 16 (advance 4 ∷ [])) accepted (λ b. band b ≡ 1)

pub rejected-followers : RejectedFollowers
unfolding ran alike agrees none_agrees value_of coordinate_at
rejected-followers =
    record {
      masters_refuted = refute masters refl;
      own_master = λ v g. unsaid accepted (refused 3) refl g.answer_is;
      own_number = λ v g. unsaid accepted (refused 3) refl g.answer_is;
      absent_number = λ v g. unsaid accepted (refused 1) refl g.answer_is;
      five_pairs = λ v g. unsaid accepted (refused 10) refl g.answer_is;
      equal_pairs = λ v g. unsaid accepted (refused 10) refl g.answer_is;
      far_threshold = λ v g. unsaid accepted (refused 3) refl g.answer_is;
      no_event = λ v g. unsaid accepted (refused 3) refl g.answer_is;
      paused_set = λ v g. unsaid accepted (refused 2) refl g.answer_is;
      set_rewinds = λ v n g. n (ap position g.board_is);
      set_keeps_band = λ v n g. n (ap band g.board_is);
      set_elsewhere = λ v n g. n (ap master_in g.board_is);
      judges_refuted = refute judges refl;
      stopped_keeps = λ v n g. n (ap band g.board_is);
      master_keeps = λ v n g. n (ap band g.board_is);
      stop_takes = λ v n g. n (ap band g.board_is);
    }
