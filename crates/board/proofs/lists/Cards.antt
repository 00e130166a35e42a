-- 01's bench cards A to L and its traps, computed from the rule that the contracts of all calls cite.
use Rattle.std.specs.Prelude.{Some}
use Prim.Native.Nat.{ℕ, zero, suc, ◌+◌}
use native.Mathlib.Omega.{arith}
use mathlib.Core.Path.{◌≡◌, refl, sym, ap, ◌∙◌}
use mathlib.Core.Bool.{true, false}
use mathlib.Core.List.{List, [], ◌∷◌, ◌++◌}
use lib.IntN.{ℤ, pos}
use lib.ListN.{replicate, take}
use Rattle.track.specs.Refusal.{Accepted}
use Rattle.track.specs.declared.setup.Change.TheVariants as change
use Rattle.track.specs.Rule.{PLAYING, PAUSED, WAITING, VISITED}
use Rattle.track.specs.Number.{value_of}
use Rattle.track.specs.Setup.{settled}
use Rattle.board.specs.declared.Board.{Board}
use Rattle.board.specs.declared.call.PointNumbers.{PointNumbers}
use Rattle.board.specs.declared.call.Call.{Call}
use Rattle.board.specs.declared.call.Call.TheVariants as call
use Rattle.board.specs.declared.points.Point.{Point}
use Rattle.board.specs.declared.log.Record.{Record}
use Rattle.board.specs.Log.{log_bytes}
use Rattle.board.specs.Points.{keys_of, key_of, info_of, has_key, stored_in}
use Rattle.board.specs.Board.{track_at, fresh_board, found_in, Unbroken}
use Rattle.board.specs.Setup.{given_point, described_by, set_point, put_points}
use Rattle.board.specs.Setup as outcome
use Rattle.board.specs.Tick.{record_of}
use Rattle.board.specs.Cut.{All}
use Rattle.board.specs.Replay.{World}
use Rattle.board.specs.Call.{Reply, accepted, refused, done, log_full, clock_ended, world}
use Rattle.board.proofs.rules.Broken.{unbroken-is}
use Rattle.board.proofs.points.Storing.{stored-full, stored-replaces}
use Rattle.board.proofs.lists.Runs.{Shown, ran, shown}

-- ---- calls as script lines have them

abbrev pub track : ℕ → ℕ → ℕ → Call
track i lo hi = call.AddTrack (pos i) (pos lo) (pos hi)

abbrev pub start : ℕ → ℕ → Call
start i p = call.SetUp (pos i) (change.Start (pos p))

abbrev pub end : ℕ → ℕ → Call
end i p = call.SetUp (pos i) (change.End (pos p))

abbrev pub loops : ℕ → ℕ → Call
loops i n = call.SetUp (pos i) (change.Loops (pos n))

abbrev pub dir : ℕ → ℕ → Call
dir i d = call.SetUp (pos i) (change.Direction (pos d))

abbrev pub action : ℕ → ℕ → ℕ → ℕ → Call
action i from to event = call.SetUp (pos i) (change.Action (pos from) (pos to) (pos event))

abbrev pub jump : ℕ → ℕ → Call
jump i p = call.SetUp (pos i) (change.Jump (pos p))

abbrev pub point : ℕ → ℕ → ℕ → ℕ → ℕ → ℕ → Call
point i p event wait command target = call.SetPoint (pos i) (given_point (pos p) (pos event) (pos wait) (pos command) (pos target))

abbrev pub play : ℕ → Call
play i = call.Play (pos i)

abbrev pub pause : ℕ → Call
pause i = call.Pause (pos i)

abbrev pub resume : ℕ → Call
resume i = call.Resume (pos i)

abbrev pub stop : ℕ → Call
stop i = call.Stop (pos i)

abbrev pub drop : ℕ → ℕ → Call
drop i p = call.DropPoint (pos i) (pos p)

abbrev pub advance : ℕ → Call
advance n = call.Advance (pos n)

-- ---- what the cards speak of

-- a fresh board and a log of n bytes
abbrev pub fresh : ℕ → World Board
fresh n = world fresh_board (replicate n 0)

-- a record as the runner prints it: clock, track, kind, event, detail, position, passes
abbrev pub printed : ℕ → ℕ → ℕ → ℕ → ℕ → ℕ → ℕ → Record
printed clock i kind event detail position passes = record_of clock i kind event detail (position + 1000000) passes

-- all answers, and at the end the mode, the due flag and the position of track 0
abbrev pub tracked : All Reply (World Board) → List Reply × ℕ × ℕ × ℤ
tracked r =
    let t = track_at r.last.board.tracks 0 in
    (r.answers, t.mode, t.due, value_of t.position)

-- all answers, and at the end the number of points
abbrev pub pointed : All Reply (World Board) → List Reply × ℕ
pointed r = (r.answers, r.last.board.points.count)

-- A's set-up, and its script as a whole
abbrev pub set_up_a : List Call
set_up_a =
    track 0 0 10
    ∷ start 0 2
    ∷ end 0 5
    ∷ loops 0 2
    ∷ point 0 2 7 0 0 0
    ∷ point 0 5 9 1 0 0
    ∷ action 0 1 3 20
    ∷ action 0 1 0 21
    ∷ []

abbrev pub script_a : List Call
script_a = set_up_a ++ (play 0 ∷ advance 10 ∷ resume 0 ∷ advance 10 ∷ [])

-- the records that it prints
abbrev pub records_a : List Record
records_a =
    printed 1 0 1 7 0 2 0
    ∷ printed 4 0 1 9 0 5 0
    ∷ printed 4 0 2 20 19 5 1
    ∷ printed 11 0 1 7 0 2 1
    ∷ printed 14 0 1 9 0 5 1
    ∷ printed 14 0 2 21 16 5 2
    ∷ []

-- the log of them, written out: to compute with it is quicker than with the records' bytes
abbrev pub log_a : List ℕ
log_a =
    (1 ∷ 0 ∷ 0 ∷ 0 ∷ 0 ∷ 1 ∷ 7 ∷ 0 ∷ 2 ∷ 0 ∷ 0 ∷ 0 ∷ 0 ∷ 0 ∷ 0 ∷ 0 ∷ [])
    ++ (4 ∷ 0 ∷ 0 ∷ 0 ∷ 0 ∷ 1 ∷ 9 ∷ 0 ∷ 5 ∷ 0 ∷ 0 ∷ 0 ∷ 0 ∷ 0 ∷ 0 ∷ 0 ∷ [])
    ++ (4 ∷ 0 ∷ 0 ∷ 0 ∷ 0 ∷ 2 ∷ 20 ∷ 19 ∷ 5 ∷ 0 ∷ 0 ∷ 0 ∷ 1 ∷ 0 ∷ 0 ∷ 0 ∷ [])
    ++ (11 ∷ 0 ∷ 0 ∷ 0 ∷ 0 ∷ 1 ∷ 7 ∷ 0 ∷ 2 ∷ 0 ∷ 0 ∷ 0 ∷ 1 ∷ 0 ∷ 0 ∷ 0 ∷ [])
    ++ (14 ∷ 0 ∷ 0 ∷ 0 ∷ 0 ∷ 1 ∷ 9 ∷ 0 ∷ 5 ∷ 0 ∷ 0 ∷ 0 ∷ 1 ∷ 0 ∷ 0 ∷ 0 ∷ [])
    ++ (14 ∷ 0 ∷ 0 ∷ 0 ∷ 0 ∷ 2 ∷ 21 ∷ 16 ∷ 5 ∷ 0 ∷ 0 ∷ 0 ∷ 2 ∷ 0 ∷ 0 ∷ 0 ∷ [])

log-a : log_bytes records_a ≡ log_a
unfolding ran
log-a = refl

by-log : {s : Shown} (f : List ℕ → Shown) → s ≡ f log_a → s ≡ f (log_bytes records_a)
by-log f p = p ∙ ap f (sym log-a)

-- what is seen of A's script: its nine first calls are accepted
abbrev pub seen_a : List Reply → ℕ → ℕ → List ℕ → Shown
seen_a others clock held log = record { answers = replicate 9 accepted ++ others; clock = clock; held = held; log = log }

-- the board with its clock at n, and at 999,999,999
abbrev pub clock_at : ℕ → Board → Board
clock_at n b = record { tracks = b.tracks; present = b.present; points = b.points; clock = record { 0 = n }; held = b.held }

abbrev pub late_board : Board → Board
late_board b = clock_at 999999999 b

-- E: what an advance of 5, and then one of 0, come to on that board
abbrev pub Ends : Board → Type 0
Ends b =
    shown (advance 5 ∷ advance 0 ∷ []) (world (late_board b) (replicate 16 0))
    ≡ record { answers = clock_ended 1 ∷ done 0 ∷ []; clock = 1000000000; held = 0; log = replicate 16 0 }

-- H: span 2 to 5, paused
abbrev pub calls_h : List Call
calls_h = track 0 0 10 ∷ start 0 2 ∷ end 0 5 ∷ play 0 ∷ advance 3 ∷ pause 0 ∷ []

-- K: track 0 has a point at its home whose command is resume, and whose target is track 1
abbrev pub calls_k : List Call
calls_k = track 0 0 10 ∷ track 1 4 10 ∷ point 0 0 7 0 3 1 ∷ play 0 ∷ advance 1 ∷ []

-- L: n points of track 0, from position p on
unfoldable pub points_from : ℕ → ℕ → List Call
points_from zero p = []
points_from (suc n) p = point 0 p 7 0 0 0 ∷ points_from n (suc p)

-- ---- the table
pub record Cards : Type 0 where
  -- A: its script, with a log of six records
  pub a : shown script_a (fresh 96) ≡ seen_a (done 10 ∷ accepted ∷ done 10 ∷ []) 20 6 (log_bytes records_a)
  -- B: A with 47 log bytes: the first advance takes 3, LogFull, one record. The track plays on, so that its resume is 2.
  pub b : shown script_a (fresh 47) ≡ seen_a (log_full 3 ∷ refused 2 ∷ log_full 0 ∷ []) 3 1 (take 16 (log_bytes records_a) ++ replicate 31 0)
  -- C: with 48 bytes it takes 10.
  pub c : shown script_a (fresh 48) ≡ seen_a (done 10 ∷ accepted ∷ log_full 0 ∷ []) 10 3 (take 48 (log_bytes records_a))
  -- D: 15 bytes: takes 0.
  pub d : shown script_a (fresh 15) ≡ seen_a (log_full 0 ∷ refused 2 ∷ log_full 0 ∷ []) 0 0 (replicate 15 0)
  -- E: clock 999,999,999, nothing playing, advance 5: takes 1, ClockEnd; advance 0: Done. Without a track, and with one STOPPED.
  pub e : Ends fresh_board × Ends (ran set_up_a (fresh 16)).last.board
  -- F: after A's set-up, jump to 6 is 3, to 5 accepted
  pub f : (ran (set_up_a ++ (jump 0 6 ∷ jump 0 5 ∷ [])) (fresh 0)).answers ≡ replicate 8 accepted ++ (refused 3 ∷ accepted ∷ [])
  -- G: jump while WAITING is 2.
  pub g : tracked (ran (set_up_a ++ (play 0 ∷ advance 10 ∷ jump 0 5 ∷ [])) (fresh 48))
      ≡ (replicate 9 accepted ++ (done 10 ∷ refused 2 ∷ []), WAITING, VISITED, pos 5)
  -- H: span 2 to 5, paused visited at 4, turned backward, resumed: next location 3
  pub h : (tracked (ran calls_h (fresh 0)) ≡ (replicate 4 accepted ++ (done 3 ∷ accepted ∷ []), PAUSED, VISITED, pos 4))
      × (tracked (ran (dir 0 1 ∷ resume 0 ∷ advance 1 ∷ []) (ran calls_h (fresh 0)).last) ≡ (accepted ∷ accepted ∷ done 1 ∷ [], PLAYING, VISITED, pos 3))
  -- I: start 4 beside end 5 accepted, start 5 refused 3
  pub i : (ran (set_up_a ++ (start 0 4 ∷ start 0 5 ∷ [])) (fresh 0)).answers ≡ replicate 9 accepted ++ (refused 3 ∷ [])
  -- J: point at 10 in bounds 0 to 10 accepted, at 11 refused 3
  pub j : (ran (track 0 0 10 ∷ point 0 10 7 0 0 0 ∷ point 0 11 7 0 0 0 ∷ []) (fresh 0)).answers ≡ accepted ∷ accepted ∷ refused 3 ∷ []
  -- K: a point whose command is resume finds its target STOPPED: kind 3, detail 48.
  pub k : shown calls_k (fresh 32)
      ≡ record {
        answers = replicate 4 accepted ++ (done 1 ∷ []);
        clock = 1;
        held = 2;
        log = log_bytes (printed 1 0 1 7 49 0 0 ∷ printed 1 1 3 7 48 4 0 ∷ []);
      }
  -- L: 256 points, another refused 5, replacing accepted
  pub l : pointed (ran (point 0 256 7 0 0 0 ∷ point 0 255 9 0 0 0 ∷ []) (ran (track 0 0 1000 ∷ points_from 256 0) (fresh 0)).last)
      ≡ (refused 5 ∷ accepted ∷ [], 256)

pub cards : Cards
unfolding ran points_from
cards =
    record {
      a = by-log (seen_a (done 10 ∷ accepted ∷ done 10 ∷ []) 20 6) refl;
      b = by-log (λ log. seen_a (log_full 3 ∷ refused 2 ∷ log_full 0 ∷ []) 3 1 (take 16 log ++ replicate 31 0)) refl;
      c = by-log (λ log. seen_a (done 10 ∷ accepted ∷ log_full 0 ∷ []) 10 3 (take 48 log)) refl;
      d = refl;
      e = (refl, refl);
      f = refl;
      g = refl;
      h = (refl, refl);
      i = refl;
      j = refl;
      k = refl;
      l = refl;
    }

-- ---- the traps of 01

-- two tracks play; track 0's point on its home pauses track 1, which has a point on its own home
abbrev pub calls_paired : List Call
calls_paired = track 0 0 10 ∷ track 1 4 10 ∷ point 0 0 7 0 2 1 ∷ point 1 4 8 0 0 0 ∷ action 1 1 2 30 ∷ play 0 ∷ play 1 ∷ []

-- Of the others the cards tell: the point on home is reported at play, and a waiting track is owed none of the ticks it stood
-- (A's first record, and its fourth); record 9 of B isn't written without record 20 (B's log).
pub record Traps : Type 0 where
  -- the point on home isn't reported again after resume with due not set anew
  pub again : shown (set_up_a ++ (play 0 ∷ advance 1 ∷ pause 0 ∷ resume 0 ∷ advance 1 ∷ [])) (fresh 96)
      ≡ seen_a (done 1 ∷ accepted ∷ accepted ∷ done 1 ∷ []) 2 1 (take 16 (log_bytes records_a) ++ replicate 80 0)
  -- no command acts before a higher track has stepped in that tick: track 0's point pauses track 1, which reports its own first
  pub higher : shown (calls_paired ++ (advance 1 ∷ [])) (fresh 48)
      ≡ record {
        answers = replicate 7 accepted ++ (done 1 ∷ []);
        clock = 1;
        held = 3;
        log = log_bytes (printed 1 0 1 7 33 0 0 ∷ printed 1 1 1 8 0 4 0 ∷ printed 1 1 2 30 18 4 0 ∷ []);
      }
  -- nor does a track that it starts step in that tick: track 0's point plays track 1, which reports its own in the next
  pub started : shown (track 0 0 10 ∷ track 1 4 10 ∷ point 0 0 7 0 1 1 ∷ point 1 4 8 0 0 0 ∷ play 0 ∷ advance 2 ∷ []) (fresh 32)
      ≡ record {
        answers = replicate 5 accepted ++ (done 2 ∷ []);
        clock = 2;
        held = 2;
        log = log_bytes (printed 1 0 1 7 17 0 0 ∷ printed 2 1 1 8 0 4 0 ∷ []);
      }

pub traps : Traps
unfolding ran
traps =
    record {
      again = by-log (λ log. seen_a (done 1 ∷ accepted ∷ accepted ∷ done 1 ∷ []) 2 1 (take 16 log ++ replicate 80 0)) refl;
      higher = refl;
      started = refl;
    }

-- ---- L for any board: a call whose numbers describe the point p

module _ (b : Board) (w : Unbroken b) (track : ℤ) (given : PointNumbers) (i : ℕ) (p : Point)
    (found : found_in b.present track ≡ Some i) (free : settled (track_at b.tracks i).mode ≡ true)
    (good : described_by b.present i (track_at b.tracks i) given ≡ Some p) where
  stores : set_point b track given ≡ put_points b 5 (stored_in b.points (key_of p) (info_of p))
  unfolding set_point
  stores = simp (unbroken-is b w, found, free, good)

  -- where 256 points are held and none at its place, it is refused 5, the board equal
  pub full-refused : b.points.count ≡ 256 → has_key (key_of p) (keys_of b.points) ≡ false →
      set_point b track given ≡ outcome.refused 5 b
  full-refused full h = stores ∙ simp (stored-full b.points (key_of p) (info_of p) h (omega arith))

  -- where a point is held at its place, it is accepted, and as many points are held as before
  pub there-replaced : has_key (key_of p) (keys_of b.points) ≡ true →
      ((set_point b track given).answer ≡ Accepted)
      × ((set_point b track given).board.points.count ≡ b.points.count)
  there-replaced h =
      let r = stored-replaces b.points (key_of p) (info_of p) h in
      rw (stores, r.0) (refl, r.1)
