-- Cards of 02, 2.1: a follower and its master on a small board, the records worked out by hand from 02's words.
use Prim.Native.Nat.{ℕ}
use mathlib.Core.Path.{◌≡◌, refl, sym, ap, ◌∙◌}
use mathlib.Core.List.{List, [], ◌∷◌, ◌++◌}
use lib.IntN.{pos}
use lib.ListN.{replicate, length}
use Rattle.board.specs.declared.call.Call.{Call}
use Rattle.board.specs.declared.call.Call.TheVariants as call
use Rattle.board.specs.declared.call.Pairs.{Pairs}
use Rattle.board.specs.declared.call.Pairs.TheVariants as pairs
use Rattle.board.specs.Log.{log_bytes}
use Rattle.board.specs.Board.{track_at}
use Rattle.board.specs.declared.log.Record.{Record}
use Rattle.board.specs.Call.{Reply, accepted, refused, done, log_full}
use Rattle.board.proofs.lists.Runs.{Shown, ran, shown}
use Rattle.board.proofs.lists.Cards.{track, dir, jump, point, play, pause, resume, stop, advance, fresh, printed}

-- ---- calls

abbrev pub master : ℕ → ℕ → Pairs → Call
master i m ps = call.Master (pos i) (pos m) ps

abbrev pub one : ℕ → ℕ → Pairs
one x e = pairs.One (pos x) (pos e)

abbrev pub two : ℕ → ℕ → ℕ → ℕ → Pairs
two x e y f = pairs.Two (pos x) (pos e) (pos y) (pos f)

-- track 0 runs from 5 to 15, track 1 backward from 10 to 0: one tick after play each is at home, n ticks after that n away
abbrev pub both_tracks : List Call
both_tracks = track 0 5 15 ∷ track 1 0 10 ∷ dir 1 1 ∷ []

-- track 0 follows track 1: event 41 above a drift of 2, 42 above one of 4
abbrev pub pair : List Call
pair = both_tracks ++ (master 0 1 (two 2 41 4 42) ∷ [])

-- both play, but the master pauses before its first tick: it stands at home, and the follower's distance is the drift
abbrev pub runs_ahead : List Call
runs_ahead = play 0 ∷ play 1 ∷ pause 1 ∷ []

-- the follower runs six ticks ahead, to a drift of 5, and pauses; the master goes on
abbrev pub turns_back : List Call
turns_back = pair ++ runs_ahead ++ (advance 6 ∷ pause 0 ∷ resume 1 ∷ [])

-- the band of track 0 after calls, on a log of six records
abbrev pub band_after : List Call → ℕ
band_after cs = (track_at (ran cs (fresh 96)).last.board.tracks 0).band

-- what is seen of calls of which the first are accepted: the other answers, the clock, the records, and so many log bytes behind them
abbrev pub seen_as : ℕ → List Reply → ℕ → List Record → ℕ → Shown
seen_as first others clock rs rest =
    record {
      answers = replicate first accepted ++ others;
      clock = clock;
      held = length rs;
      log = log_bytes rs ++ replicate rest 0;
    }

-- the bytes of a record whose numbers are all below 256: to compute with them is quicker than with the record
abbrev pub bytes : ℕ → ℕ → ℕ → ℕ → ℕ → ℕ → ℕ → List ℕ
bytes clock i kind event detail position passes =
    clock ∷ 0 ∷ 0 ∷ 0 ∷ i ∷ kind ∷ event ∷ detail ∷ position ∷ 0 ∷ 0 ∷ 0 ∷ passes ∷ 0 ∷ 0 ∷ 0 ∷ []

pub by_bytes : {s : Shown} (first : ℕ) (others : List Reply) (clock : ℕ) (rs : List Record) (rest : ℕ) (log : List ℕ) → log_bytes rs ≡ log →
    s ≡ record { answers = replicate first accepted ++ others; clock = clock; held = length rs; log = log ++ replicate rest 0 } →
    s ≡ seen_as first others clock rs rest
by_bytes first others clock rs rest log e p =
    p ∙ ap (λ (l : List ℕ). record { answers = replicate first accepted ++ others; clock = clock; held = length rs; log = l ++ replicate rest 0 }) (sym e)

-- calls of master that are refused, on the board of the pair
abbrev pub refused_calls : List Call
refused_calls =
    master 2 1 (one 2 41)
    ∷ master 0 5 (one 2 41)
    ∷ master 0 5 pairs.Nothing
    ∷ master 0 0 (one 2 41)
    ∷ master 0 0 pairs.Nothing
    ∷ master 0 1 (one 0 41)
    ∷ master 0 1 (one 1000001 41)
    ∷ master 0 1 (one 2 0)
    ∷ master 0 1 (one 2 256)
    ∷ master 0 1 (two 4 41 0 42)
    ∷ master 0 1 (two 4 41 2 42)
    ∷ master 0 1 (two 2 41 2 42)
    ∷ master 0 1 (pairs.More (pos 1) (pos 41) (pos 2) (pos 42) (pos 3) (pos 43) (pos 4) (pos 44) (pos 5) (pos 45))
    ∷ []

-- ---- the records that the cards print

abbrev pub apart_records : List Record
apart_records = printed 4 0 4 41 1 8 0 ∷ printed 6 0 4 42 1 10 0 ∷ printed 8 0 4 41 1 10 0 ∷ []

abbrev pub stopped_records : List Record
stopped_records = printed 4 0 4 41 1 8 0 ∷ printed 6 0 4 42 1 10 0 ∷ printed 8 0 4 42 1 12 0 ∷ []

abbrev pub mutual_records : List Record
mutual_records = printed 4 0 4 41 1 8 0 ∷ printed 4 1 4 51 0 10 0 ∷ []

abbrev pub refused_records : List Record
refused_records = printed 4 0 1 7 33 8 0 ∷ printed 4 1 3 7 34 10 0 ∷ printed 4 0 4 41 1 8 0 ∷ []

abbrev pub command_records : List Record
command_records = printed 4 0 1 7 65 8 0 ∷ []

abbrev pub first_records : List Record
first_records = printed 4 0 4 41 1 8 0 ∷ []

abbrev pub idle_records : List Record
idle_records = printed 1 0 4 42 1 12 0 ∷ []

-- ---- the table
pub record FollowerCards : Type 0 where
  -- An absent track or master is 1, with pairs or without; itself, a threshold or an event out of range 3, just after it 10
  pub refusals : (ran (pair ++ refused_calls) (fresh 0)).answers
      ≡ replicate 4 accepted ++ replicate 3 (refused 1) ++ replicate 7 (refused 3) ++ replicate 3 (refused 10)
  -- and 2, of a track that plays, stands between 1 and 3
  pub playing_refusals : (ran (pair ++ (play 0 ∷ master 0 5 (one 2 41) ∷ master 0 1 (one 2 41) ∷ master 0 0 (one 2 41) ∷ [])) (fresh 0)).answers
      ≡ replicate 5 accepted ++ (refused 1 ∷ refused 2 ∷ refused 2 ∷ [])
  -- Drifting apart and back. Clock 3: drift 2, none. 4: drift 3, band 1. 6: drift 5, band 2. 8: drift 4, band 1 again. 10: drift 2, none
  pub apart_and_back : shown (turns_back ++ (advance 4 ∷ [])) (fresh 96)
      ≡ seen_as 7 (done 6 ∷ accepted ∷ accepted ∷ done 4 ∷ []) 10 apart_records 48
  -- the bands held then
  pub bands : (band_after (pair ++ runs_ahead ++ (advance 3 ∷ [])) ≡ 0)
      × (band_after (pair ++ runs_ahead ++ (advance 4 ∷ [])) ≡ 1)
      × (band_after (turns_back) ≡ 2)
      × (band_after (turns_back ++ (advance 2 ∷ [])) ≡ 1)
      × (band_after (turns_back ++ (advance 4 ∷ [])) ≡ 0)
  -- A master that is stopped: the call leaves the band, the next tick makes it none and writes nothing. Played again, the band is entered again
  pub master_stopped : shown (pair ++ runs_ahead ++ (advance 6 ∷ stop 1 ∷ advance 1 ∷ play 1 ∷ advance 1 ∷ [])) (fresh 96)
      ≡ seen_as 7 (done 6 ∷ accepted ∷ done 1 ∷ accepted ∷ done 1 ∷ []) 8 stopped_records 48
  -- the bands held then, and those of a follower that is stopped
  pub stopped_is_none : (band_after (pair ++ runs_ahead ++ (advance 6 ∷ stop 1 ∷ [])) ≡ 2)
      × (band_after (pair ++ runs_ahead ++ (advance 6 ∷ stop 1 ∷ advance 1 ∷ [])) ≡ 0)
      × (band_after (pair ++ runs_ahead ++ (advance 6 ∷ stop 0 ∷ [])) ≡ 2)
      × (band_after (pair ++ runs_ahead ++ (advance 6 ∷ stop 0 ∷ advance 1 ∷ [])) ≡ 0)
  -- two tracks that follow each other: one record each, in ascending order, with the other's number
  pub each-other : shown (both_tracks ++ (master 0 1 (one 2 41) ∷ master 1 0 (one 2 51) ∷ []) ++ runs_ahead ++ (advance 5 ∷ [])) (fresh 32)
      ≡ seen_as 8 (done 5 ∷ []) 5 mutual_records 0
  -- The record comes after those of the tick's commands: the follower's point pauses the master, which is PAUSED already
  pub after_commands : shown (pair ++ (point 0 8 7 0 2 1 ∷ []) ++ runs_ahead ++ (advance 4 ∷ [])) (fresh 48)
      ≡ seen_as 8 (done 4 ∷ []) 4 refused_records 0
  -- and the modes are those after the commands: the follower's point stops the master, so that the band is none
  pub stopped_by_command : shown (pair ++ (point 0 8 7 0 4 1 ∷ []) ++ runs_ahead ++ (advance 4 ∷ [])) (fresh 48)
      ≡ seen_as 8 (done 4 ∷ []) 4 command_records 32
  -- a record that doesn't fit holds its tick back
  pub held_back : shown (pair ++ runs_ahead ++ (advance 6 ∷ [])) (fresh 31)
      ≡ seen_as 7 (log_full 5 ∷ []) 5 first_records 15
  -- a tick in which nothing plays is judged too: both are PAUSED, and the follower jumps to a distance of 7, above both thresholds
  pub idle : shown (pair ++ runs_ahead ++ (pause 0 ∷ jump 0 12 ∷ advance 2 ∷ [])) (fresh 32)
      ≡ seen_as 9 (done 2 ∷ []) 2 idle_records 16

pub follower-cards : FollowerCards
unfolding ran
follower-cards =
    record {
      refusals = refl;
      playing_refusals = refl;
      apart_and_back = by_bytes 7 (done 6 ∷ accepted ∷ accepted ∷ done 4 ∷ []) 10 apart_records 48
          (bytes 4 0 4 41 1 8 0 ++ bytes 6 0 4 42 1 10 0 ++ bytes 8 0 4 41 1 10 0) refl refl;
      bands = (refl, refl, refl, refl, refl);
      master_stopped = by_bytes 7 (done 6 ∷ accepted ∷ done 1 ∷ accepted ∷ done 1 ∷ []) 8 stopped_records 48
          (bytes 4 0 4 41 1 8 0 ++ bytes 6 0 4 42 1 10 0 ++ bytes 8 0 4 42 1 12 0) refl refl;
      stopped_is_none = (refl, refl, refl, refl);
      each-other = by_bytes 8 (done 5 ∷ []) 5 mutual_records 0 (bytes 4 0 4 41 1 8 0 ++ bytes 4 1 4 51 0 10 0) refl refl;
      after_commands = by_bytes 8 (done 4 ∷ []) 4 refused_records 0 (bytes 4 0 1 7 33 8 0 ++ bytes 4 1 3 7 34 10 0 ++ bytes 4 0 4 41 1 8 0) refl refl;
      stopped_by_command = by_bytes 8 (done 4 ∷ []) 4 command_records 32 (bytes 4 0 1 7 65 8 0) refl refl;
      held_back = by_bytes 7 (log_full 5 ∷ []) 5 first_records 15 (bytes 4 0 4 41 1 8 0) refl refl;
      idle = by_bytes 9 (done 2 ∷ []) 2 idle_records 16 (bytes 1 0 4 42 1 12 0) refl refl;
    }
