-- Wrong programs, each shown not to meet the contract of its call: what it answers and leaves is not what the rule gives.
use Prim.Native.Nat.{ℕ, ◌+◌}
use native.Mathlib.Omega.{arith}
use mathlib.Core.Path.{◌≡◌, refl, sym, ap, ◌∙◌}
use mathlib.Core.Bool.{Bool, true, false, cond, not, ◌&&◌}
use mathlib.Core.List.{List, [], ◌∷◌, ◌++◌}
use borrow.Author.Tests.{eq-eqb, not-true}
use lib.IntN.{ℤ, pos}
use lib.ListN.{replicate, take, set}
use Rattle.track.specs.declared.setup.Change.{Change}
use Rattle.track.proofs.Tests.{both}
use Rattle.track.specs.Rule.{clock_end, PAUSED, entered}
use Rattle.track.specs.Number.{value_of, coordinate_at}
use Rattle.board.specs.declared.Board.{Board}
use Rattle.board.specs.declared.call.Call.{Call}
use Rattle.board.specs.declared.call.Call.TheVariants as call
use Rattle.board.specs.Log.{kind_test, write_at, log_bytes, RecordValues, LogReply, packed, record_is, unpack_of, pack_answer, pack_bytes}
use Rattle.board.specs.Log as log
use Rattle.board.specs.Points.{remove_at, remove_row, dropped_from, count_of}
use Rattle.board.specs.Board.{track_at, fresh_board}
use Rattle.board.specs.Setup.{board_with, drop_point, clear_board}
use Rattle.board.specs.Query.{clock_of, track_of, point_in, in_range, count_in}
use Rattle.board.specs.Cut.{Did}
use Rattle.board.specs.Replay.{World}
use Rattle.board.specs.Call.{Reply, accepted, refused, done, log_full, clock_ended, clock_is, count_is, held_at, does, world, Gives}
use Rattle.board.specs.Row.{call_width, reply_width, numbers_of, rows_of}
use Rattle.board.specs.Lists.{Executed}
use Rattle.board.proofs.lists.Runs.{ran, all_of, alike}
use Rattle.board.proofs.lists.Cards.{track, start, loops, action, jump, point, play, pause, resume, stop, drop, advance}
use Rattle.board.proofs.lists.Cards.{fresh, printed, set_up_a, log_a, clock_at, late_board, calls_paired}

-- ---- worlds, and boards that a wrong program leaves

-- what calls leave of a board and a log
abbrev pub after : List Call → World Board → World Board
after cs w = (ran cs w).last

-- card A set up, on a log of n bytes
abbrev ready : ℕ → World Board
ready n = after set_up_a (fresh n)

-- and played, with calls after that
abbrev played : ℕ → List Call → World Board
played n cs = after (play 0 ∷ cs) (ready n)

-- a board that breaks the clock's range
abbrev pub broken : World Board
broken = world (clock_at (clock_end + 1) fresh_board) []

-- a fresh board with its clock at 999,999,999
abbrev late : World Board
late = world (late_board fresh_board) []

-- card A played, with two records held that none of its ticks wrote
abbrev holding : World Board
holding = world (held_at 2 (played 96 []).board) (replicate 96 0)

-- the position of track 0
abbrev pub position : Board → ℤ
position b = value_of (track_at b.tracks 0).position

-- track 0's point on its home pauses track 1, which has a point on its own home
abbrev paired : World Board
paired = after calls_paired (fresh 48)

-- what a program leaves of it that runs the command before track 1 has stepped
abbrev commanded_first : World Board
commanded_first =
    let b = (after (advance 1 ∷ []) paired).board in
    world (board_with b (set b.tracks 1 (entered (track_at paired.board.tracks 1) PAUSED)) b.present b.points 2)
    (log_bytes (printed 1 0 1 7 33 0 0 ∷ printed 1 1 2 30 18 4 0 ∷ []) ++ replicate 16 0)

-- 16 bytes of a record of this kind
abbrev sixteen_bytes : ℕ → List ℕ
sixteen_bytes kind = 1 ∷ 0 ∷ 0 ∷ 0 ∷ 0 ∷ kind ∷ replicate 10 0

-- ---- a wrong answer

-- what a wrong program gives: a call on a board and a log, its answer, and the board and log that it leaves
pub record Claim : Type 0 where
  pub call : Call
  pub on : World Board
  pub answer : Reply
  pub left : World Board

abbrev pub gives : Call → World Board → Reply → World Board → Claim
gives c w a v = record { call = c; on = w; answer = a; left = v }

-- it meets the contract of the call, or it does not
abbrev pub Meets : Claim → Type 0
Meets k = Gives (does k.call k.on) k.answer k.left.board k.left.log

abbrev pub Wrong : Claim → Type 0
Wrong k = Meets k → ⊥

-- none of them meets it
abbrev pub Refuted : List Claim → Type 0
Refuted [] = Unit {0}
Refuted (k ∷ ks) = Wrong k × Refuted ks

-- a call does not answer so, whatever board and log it leaves
abbrev pub Unsaid : Call → World Board → Reply → Type 0
Unsaid c w a = (v : World Board) → Wrong (gives c w a v)

-- nor does it with a board of which P does not hold
abbrev pub Unless : Call → World Board → Reply → (Board → Type 0) → Type 0
Unless c w a P = (v : World Board) → (P v.board → ⊥) → Wrong (gives c w a v)

-- ---- a wrong answer is told by computing

itself : (xs : List ℕ) → alike xs xs ≡ true
unfolding alike
itself [] = refl
itself (x ∷ xs) = simp (eq-eqb x x refl, itself xs)

apart : (xs ys : List ℕ) → alike xs ys ≡ false → xs ≡ ys → ⊥
apart xs ys h e =
    let z : ◌≡◌ {A = ℕ} 0 1 = ap (λ (b : Bool). cond b 1 0) (sym h ∙ ap (alike xs) (sym e) ∙ itself xs) in
    omega arith

pub unsaid : (a x : Reply) → alike (numbers_of a) (numbers_of x) ≡ false → a ≡ x → ⊥
unsaid a x h e = apart (numbers_of a) (numbers_of x) h (ap numbers_of e)

-- whether the numbers of what a wrong program gives are those of what the call does
unfoldable pub agrees : Claim → Did Reply (World Board) → Bool
agrees k d = alike (all_of k.answer k.left.board k.left.log) (all_of d.answer d.left.board d.left.log)

unfoldable pub none_agrees : List Claim → Bool
none_agrees [] = true
none_agrees (k ∷ ks) = not (agrees k (does k.call k.on)) && none_agrees ks

wrong : (k : Claim) → agrees k (does k.call k.on) ≡ false → Wrong k
unfolding agrees
wrong k h g = apart _ _ h (λ i. all_of (g.answer_is i) (g.board_is i) (g.log_is i))

pub refute : (ks : List Claim) → none_agrees ks ≡ true → Refuted ks
unfolding none_agrees
refute [] h = tt
refute (k ∷ ks) h =
    let b = both (not (agrees k (does k.call k.on))) (none_agrees ks) h in
    (wrong k (not-true _ b.0), refute ks b.1)

-- ---- the wrong programs

-- 01, "Rejected by demand 2"
abbrev pub advances : List Claim
advances =
    -- an advance that moves only the clock
    gives (advance 10) (played 96 []) (done 10) (world (clock_at 10 (played 96 []).board) (replicate 96 0))
    -- one that says LogFull while the next tick's records fit
    ∷ gives (advance 10) (played 48 []) (log_full 3) (played 48 (advance 3 ∷ []))
    -- or ClockEnd below 1,000,000,000
    ∷ gives (advance 5) late (clock_ended 0) late
    -- one that does a run's ticks in its first advance, of 3 and 4, and reports the others as taken
    ∷ gives (advance 3) (played 96 []) (done 3) (played 96 (advance 7 ∷ []))
    ∷ gives (advance 4) (played 96 (advance 7 ∷ [])) (done 4) (played 96 (advance 7 ∷ []))
    -- a `taken` that isn't the clock's growth, but the count, or none
    ∷ gives (advance 10) (played 47 []) (log_full 10) (played 47 (advance 3 ∷ []))
    ∷ gives (advance 10) (played 96 []) (done 0) (played 96 (advance 10 ∷ []))
    ∷ []

-- 01, "Traps"
abbrev pub traps : List Claim
traps =
    -- missing the point on home at play
    gives (advance 1) (played 96 []) (done 1) (world (held_at 0 (played 96 (advance 1 ∷ [])).board) (replicate 96 0))
    -- reporting it again after resume with due not set anew: as if the track had jumped there
    ∷ gives (advance 1) (played 96 (advance 1 ∷ pause 0 ∷ resume 0 ∷ [])) (done 1)
    (played 96 (advance 1 ∷ pause 0 ∷ jump 0 2 ∷ resume 0 ∷ advance 1 ∷ []))
    -- writing record 9 of B without record 20
    ∷ gives (advance 10) (played 47 []) (log_full 3) (world (held_at 2 (played 47 (advance 3 ∷ [])).board) (take 32 log_a ++ replicate 15 0))
    -- letting a command act before a higher track has stepped in that tick
    ∷ gives (advance 1) paired (done 1) commanded_first
    ∷ []

-- 02, 2.2: wrong programs whose tick depends on what is held: an advance by 1 of card A's board with two records held
abbrev pub ticks_by_log : List Claim
ticks_by_log =
    -- its record tells a clock that grows with the records held
    gives (advance 1) holding (done 1) (world (held_at 3 (played 96 (advance 1 ∷ [])).board) (replicate 32 0 ++ set (take 16 log_a) 0 3 ++ replicate 48 0))
    -- its record is written over the first held one
    ∷ gives (advance 1) holding (done 1) (world (held_at 3 (played 96 (advance 1 ∷ [])).board) (take 16 log_a ++ replicate 80 0))
    -- the board after it is another than with no record held
    ∷ gives (advance 1) holding (done 1) (world (held_at 3 (played 96 (advance 2 ∷ [])).board) (replicate 32 0 ++ take 16 log_a ++ replicate 48 0))
    -- it is held back although its record fits
    ∷ gives (advance 1) holding (log_full 0) holding
    ∷ []

abbrev pub set_ups : List Claim
set_ups =
    -- add track: one already present is 1
    gives (track 0 0 10) (ready 0) (refused 1) (ready 0)
    -- 1 before a broken board's 3
    ∷ gives (track 16 0 10) broken (refused 1) broken
    -- accepted with the board unchanged
    ∷ gives (track 0 0 10) (fresh 0) accepted (fresh 0)
    -- a jump beyond the end is 2
    ∷ gives (jump 0 6) (ready 0) (refused 2) (ready 0)
    -- loops accepted with the board unchanged
    ∷ gives (loops 0 3) (ready 0) accepted (ready 0)
    -- a point above max is put on max
    ∷ gives (point 0 11 7 0 0 0) (ready 0) accepted (after (point 0 10 7 0 0 0 ∷ []) (ready 0))
    -- a point's missing target is 1
    ∷ gives (point 0 3 7 0 1 1) (ready 0) (refused 1) (ready 0)
    -- drop point: a position outside the bounds, or beyond those of any track, is 3
    ∷ gives (drop 0 11) (ready 0) (refused 3) (ready 0)
    ∷ gives (drop 0 1000001) (ready 0) (refused 3) (ready 0)
    -- accepted with the point still there, or where there is none
    ∷ gives (drop 0 5) (ready 0) accepted (ready 0)
    ∷ gives (drop 0 3) (ready 0) accepted (ready 0)
    -- a clear that erases the log's bytes, and one that leaves held
    ∷ gives call.Clear (played 96 (advance 10 ∷ [])) accepted (world (held_at 0 (played 96 (advance 10 ∷ [])).board) (replicate 96 0))
    ∷ gives call.Clear (played 96 (advance 10 ∷ [])) accepted (played 96 (advance 10 ∷ []))
    ∷ []

abbrev pub modes : List Claim
modes =
    -- a play accepted with the board unchanged
    gives (play 0) (ready 0) accepted (ready 0)
    -- a pause from STOPPED is 1
    ∷ gives (pause 0) (ready 0) (refused 1) (ready 0)
    -- a resume that sets due, as if the track had jumped
    ∷ gives (resume 0) (played 96 (advance 1 ∷ pause 0 ∷ [])) accepted (played 96 (advance 1 ∷ pause 0 ∷ jump 0 2 ∷ resume 0 ∷ []))
    -- a stop from STOPPED is 2
    ∷ gives (stop 0) (ready 0) (refused 2) (ready 0)
    ∷ []

abbrev pub queries : List Claim
queries =
    -- clock and held, held left out
    gives call.Clock (played 96 (advance 10 ∷ [])) (clock_is 10 0) (played 96 (advance 10 ∷ []))
    -- those of a broken board
    ∷ gives call.Clock broken (clock_is (clock_end + 1) 0) broken
    -- a track: 1 before a broken board's 3
    ∷ gives (call.Track (pos 0)) broken (refused 1) broken
    -- its fields as they were before it played
    ∷ gives (call.Track (pos 0)) (played 0 []) (does (call.Track (pos 0)) (ready 0)).answer (played 0 [])
    -- a point: outside the bounds, or beyond those of any track, it is 3
    ∷ gives (call.Point (pos 0) (pos 11)) (ready 0) (refused 3) (ready 0)
    ∷ gives (call.Point (pos 0) (pos 1000001)) (ready 0) (refused 3) (ready 0)
    -- another point is told
    ∷ gives (call.Point (pos 0) (pos 5)) (ready 0) (does (call.Point (pos 0) (pos 2)) (ready 0)).answer (ready 0)
    -- the number of points from a to b, an end left out
    ∷ gives (call.PointCount (pos 0) (pos 2) (pos 5)) (ready 0) (count_is 1) (ready 0)
    -- a > b is 3
    ∷ gives (call.PointCount (pos 0) (pos 5) (pos 2)) (ready 0) (refused 3) (ready 0)
    ∷ []

-- ---- the table
pub record Rejected : Type 0 where
  pub advances_refuted : Refuted advances
  -- an advance that refuses all
  pub refuses_all : (n : ℕ) → Unsaid (advance 10) (played 96 []) (refused n)
  -- one answer for every board
  pub one_answer : (a : Reply) (v u : World Board) → Meets (gives (advance 10) (played 96 []) a v) → Wrong (gives (advance 10) (played 47 []) a u)
  pub traps_refuted : Refuted traps
  -- owing a waiting track the ticks it stood: the tick after its resume takes it elsewhere than home, or those it stands take it on
  pub ticks_owed : Unless (advance 1) (played 96 (advance 10 ∷ resume 0 ∷ [])) (done 1) (λ b. position b ≡ pos 2)
  pub ticks_walked : Unless (advance 6) (played 96 (advance 4 ∷ [])) (done 6) (λ b. position b ≡ pos 5)
  pub ticks_by_log_refuted : Refuted ticks_by_log
  pub set_ups_refuted : Refuted set_ups
  -- any of start, end, loops, repeat, direction, action and jump accepted of a track that is absent
  pub absent_set : (c : Change) → Unsaid (call.SetUp (pos 1) c) (ready 0) accepted
  -- a start that doesn't rewind
  pub start_stays : Unless (start 0 4) (ready 0) accepted (λ b. position b ≡ pos 4)
  -- a point replaced is a new point
  pub replaced_is_new : Unless (point 0 5 8 0 0 0) (ready 0) accepted (λ b. b.points.count ≡ 2)
  pub modes_refuted : Refuted modes
  -- play from PLAYING
  pub played_twice : Unsaid (play 0) (played 0 []) accepted
  -- a pause accepted whose record doesn't fit
  pub record_lost : Unsaid (pause 0) (after (action 0 1 2 30 ∷ play 0 ∷ []) (ready 15)) accepted
  -- resume from STOPPED
  pub resumed_stopped : Unsaid (resume 0) (ready 0) accepted
  -- a stop that doesn't rewind
  pub stop_stays : Unless (stop 0) (played 96 (advance 3 ∷ [])) accepted (λ b. position b ≡ pos 2)
  -- a stop accepted with a log whose capacity is below held
  pub below_held : Unsaid (stop 0) (world (played 96 (advance 10 ∷ [])).board (replicate 47 0)) accepted
  pub queries_refuted : Refuted queries
  -- unpacking a kind 5 or 0, or 15 bytes
  pub kind_5_held : (r : RecordValues) → unpack_of (sixteen_bytes 5) ≡ record_is r → ⊥
  pub kind_0_held : (r : RecordValues) → unpack_of (sixteen_bytes 0) ≡ record_is r → ⊥
  pub short_held : (r : RecordValues) → unpack_of (take 15 (sixteen_bytes 1)) ≡ record_is r → ⊥
  -- packing a kind 5, highest byte first, or over the byte behind
  pub kind_5_packed : pack_answer (printed 1 0 5 7 0 2 0) (replicate 16 0) 0 ≡ packed → ⊥
  pub highest_first : pack_bytes (printed 1 0 1 7 0 2 0) (replicate 16 0) 0 ≡ (0 ∷ 0 ∷ 0 ∷ 1 ∷ 0 ∷ 1 ∷ 7 ∷ 0 ∷ 0 ∷ 0 ∷ 0 ∷ 2 ∷ 0 ∷ 0 ∷ 0 ∷ 0 ∷ []) → ⊥
  pub byte_behind : pack_bytes (printed 1 0 1 7 0 2 0) (replicate 17 9) 0 ≡ take 16 log_a ++ (0 ∷ []) → ⊥
  -- an encoded list: a row that is no call is 3
  pub row_is_3 : (b : Board) (log : List ℕ) → Executed (replicate call_width (pos 0)) [] (replicate reply_width 0) b log (numbers_of (refused 3)) → ⊥
  -- the rows behind it are not executed
  pub row_ends : (log replies : List ℕ)
      → Executed (replicate call_width (pos 0) ++ (pos 1 ∷ pos 0 ∷ pos 0 ∷ pos 10 ∷ replicate 10 (pos 0))) [] (replicate (reply_width + reply_width) 0) fresh_board log replies → ⊥

-- 1, or the number of the refusal
abbrev said_of : LogReply → List ℕ
said_of packed = 1 ∷ []
said_of (record_is r) = 1 ∷ []
said_of (log.refused n) = n ∷ []

pub rejected : Rejected
unfolding ran alike agrees none_agrees drop_point dropped_from remove_at remove_row clear_board clock_of track_of point_in in_range count_in count_of kind_test write_at unpack_of pack_answer pack_bytes rows_of value_of coordinate_at
rejected =
    record {
      advances_refuted = refute advances refl;
      refuses_all = λ n v g. unsaid (refused n) (done 10) refl g.answer_is;
      one_answer = λ a v u g h. unsaid (done 10) (log_full 3) refl (sym g.answer_is ∙ h.answer_is);
      traps_refuted = refute traps refl;
      ticks_owed = λ v n g. n (ap position g.board_is);
      ticks_walked = λ v n g. n (ap position g.board_is);
      ticks_by_log_refuted = refute ticks_by_log refl;
      set_ups_refuted = refute set_ups refl;
      absent_set = λ c v g. unsaid accepted (refused 1) refl g.answer_is;
      start_stays = λ v n g. n (ap position g.board_is);
      replaced_is_new = λ v n g. n (ap (λ (b : Board). b.points.count) g.board_is);
      modes_refuted = refute modes refl;
      played_twice = λ v g. unsaid accepted (refused 2) refl g.answer_is;
      record_lost = λ v g. unsaid accepted (refused 8) refl g.answer_is;
      resumed_stopped = λ v g. unsaid accepted (refused 2) refl g.answer_is;
      stop_stays = λ v n g. n (ap position g.board_is);
      below_held = λ v g. unsaid accepted (refused 7) refl g.answer_is;
      queries_refuted = refute queries refl;
      kind_5_held = λ r e. apart (3 ∷ []) (1 ∷ []) refl (ap said_of e);
      kind_0_held = λ r e. apart (3 ∷ []) (1 ∷ []) refl (ap said_of e);
      short_held = λ r e. apart (3 ∷ []) (1 ∷ []) refl (ap said_of e);
      kind_5_packed = λ e. apart (3 ∷ []) (1 ∷ []) refl (ap said_of e);
      highest_first = apart (take 16 log_a) (0 ∷ 0 ∷ 0 ∷ 1 ∷ 0 ∷ 1 ∷ 7 ∷ 0 ∷ 0 ∷ 0 ∷ 0 ∷ 2 ∷ 0 ∷ 0 ∷ 0 ∷ 0 ∷ []) refl;
      byte_behind = apart (take 16 log_a ++ (9 ∷ [])) (take 16 log_a ++ (0 ∷ [])) refl;
      row_is_3 = λ b log e. apart (numbers_of (refused 3)) (numbers_of (refused 9)) refl e.replies_are;
      row_ends = λ log replies e. apart (0 ∷ []) (1 ∷ []) refl (ap (λ (b : Board). b.present ∷ []) e.board_is);
    }
