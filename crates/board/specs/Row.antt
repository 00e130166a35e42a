-- Calls and replies as rows of numbers, what a row does, and what it leaves.
use Rattle.std.specs.Prelude.{ℕ, zero, suc, ◌-◌, Bool, false, cond, List, [], ◌∷◌, ◌++◌, eqb, ℤ, pos, negsuc, length, drop, get_or, replicate, ◌≡◌, Option, Some, None}
use Rattle.track.specs.declared.setup.Change.TheVariants as change
use Rattle.track.specs.Number.{coordinate_at}
use Rattle.board.specs.declared.Board.{Board}
use Rattle.board.specs.declared.call.Call.{Call}
use Rattle.board.specs.declared.call.Call.TheVariants as call
use Rattle.board.specs.declared.call.Pairs.{Pairs}
use Rattle.board.specs.declared.call.Pairs.TheVariants as pairs
use Rattle.board.specs.Call.{TrackValues, PointValues, Reply, accepted, refused, done, log_full, clock_ended, clock_is, track_is, point_is, count_is, does, world}
use Rattle.board.specs.Setup.{given_point}
use Rattle.board.specs.Cut.{All, Did}
use Rattle.board.specs.Replay.{World}

-- ---- a call

-- the numbers of a call's row: its code, then thirteen for its arguments; those that it has no use for are not read
abbrev pub call_width : ℕ
call_width = 14

-- codes 1 to 16 are the script's lines in the order of 01, 17 to 20 the queries, 22 is rate (02, 2.4); any other is no call of six numbers
abbrev pub call_from : ℕ → ℤ → ℤ → ℤ → ℤ → ℤ → ℤ → Option Call
call_from n a b c d e f =
    cond (eqb n 1) (Some (call.AddTrack a b c))
    (cond (eqb n 2) (Some (call.SetUp a (change.Start b)))
    (cond (eqb n 3) (Some (call.SetUp a (change.End b)))
    (cond (eqb n 4) (Some (call.SetUp a (change.Loops b)))
    (cond (eqb n 5) (Some (call.SetUp a (change.Repeat b)))
    (cond (eqb n 6) (Some (call.SetUp a (change.Direction b)))
    (cond (eqb n 7) (Some (call.SetPoint a (given_point b c d e f)))
    (cond (eqb n 8) (Some (call.DropPoint a b))
    (cond (eqb n 9) (Some (call.SetUp a (change.Action b c d)))
    (cond (eqb n 10) (Some (call.SetUp a (change.Jump b)))
    (cond (eqb n 11) (Some (call.Play a))
    (cond (eqb n 12) (Some (call.Pause a))
    (cond (eqb n 13) (Some (call.Resume a))
    (cond (eqb n 14) (Some (call.Stop a))
    (cond (eqb n 15) (Some (call.Advance a))
    (cond (eqb n 16) (Some call.Clear)
    (cond (eqb n 17) (Some call.Clock)
    (cond (eqb n 18) (Some (call.Track a))
    (cond (eqb n 19) (Some (call.Point a b))
    (cond (eqb n 20) (Some (call.PointCount a b c))
    (cond (eqb n 22) (Some (call.SetUp a (change.Rate b c)))
    None))))))))))))))))))))

abbrev pub call_of : ℤ → ℤ → ℤ → ℤ → ℤ → ℤ → ℤ → Option Call
call_of (pos n) a b c d e f = call_from n a b c d e f
call_of (negsuc n) a b c d e f = None

-- number k of a row
abbrev pub row_number : List ℤ → ℕ → ℤ
row_number zs k = get_or zs k (pos 0)

-- the call of the code and the six numbers that numbers begin with
abbrev pub plain_at : List ℤ → Option Call
plain_at zs = call_of (row_number zs 0) (row_number zs 1) (row_number zs 2) (row_number zs 3) (row_number zs 4) (row_number zs 5) (row_number zs 6)

-- code 21 is master: its track, the master, the number of pairs, and five pairs, of which so many are read
abbrev pub master_code : ℕ
master_code = 21

abbrev pub is_code : ℕ → ℤ → Bool
is_code k (pos n) = eqb n k
is_code k (negsuc n) = false

-- so many of five pairs; five, or more than there are, are more than four
abbrev pub pairs_from : ℕ → ℤ → ℤ → ℤ → ℤ → ℤ → ℤ → ℤ → ℤ → ℤ → ℤ → Pairs
pairs_from zero a b c d e f g h i j = pairs.Nothing
pairs_from (suc zero) a b c d e f g h i j = pairs.One a b
pairs_from (suc (suc zero)) a b c d e f g h i j = pairs.Two a b c d
pairs_from (suc (suc (suc zero))) a b c d e f g h i j = pairs.Three a b c d e f
pairs_from (suc (suc (suc (suc zero)))) a b c d e f g h i j = pairs.Four a b c d e f g h
pairs_from (suc (suc (suc (suc (suc n))))) a b c d e f g h i j = pairs.More a b c d e f g h i j

abbrev pub pairs_in : ℕ → List ℤ → Pairs
pairs_in n zs =
    pairs_from n (row_number zs 4) (row_number zs 5) (row_number zs 6) (row_number zs 7) (row_number zs 8) (row_number zs 9)
    (row_number zs 10) (row_number zs 11) (row_number zs 12) (row_number zs 13)

-- a negative number of pairs is no call
abbrev pub master_call : ℤ → ℤ → ℤ → (ℕ → Pairs) → Option Call
master_call track master (pos n) ps = Some (call.Master track master (ps n))
master_call track master (negsuc n) ps = None

abbrev pub master_in : List ℤ → Option Call
master_in zs = master_call (row_number zs 1) (row_number zs 2) (row_number zs 3) (λ n. pairs_in n zs)

-- the call of the row that numbers begin with
abbrev pub call_at : List ℤ → Option Call
call_at zs = cond (is_code master_code (row_number zs 0)) (master_in zs) (plain_at zs)

-- the first n rows
unfoldable pub rows_of : ℕ → List ℤ → List (Option Call)
rows_of zero zs = []
rows_of (suc n) zs = call_at zs ∷ rows_of n (drop call_width zs)

-- the calls among rows
abbrev pub calls_in : List (Option Call) → List Call
calls_in [] = []
calls_in (None ∷ ls) = calls_in ls
calls_in (Some c ∷ ls) = c ∷ calls_in ls

-- ---- a reply

-- the numbers of a reply's row: its kind, then what it tells, then zeros
abbrev pub reply_width : ℕ
reply_width = 48

abbrev pub padded : List ℕ → List ℕ
padded xs = xs ++ replicate (reply_width - length xs) 0

-- of a track and a point, with each position n as n + 1,000,000
abbrev pub track_numbers : TrackValues → List ℕ
track_numbers t =
    (coordinate_at t.min).0
    ∷ (coordinate_at t.max).0
    ∷ (coordinate_at t.start).0
    ∷ (coordinate_at t.end).0
    ∷ (coordinate_at t.position).0
    ∷ t.passes
    ∷ t.loops
    ∷ t.mode
    ∷ t.direction
    ∷ t.repeat
    ∷ t.due
    ∷ t.actions ++ (t.master ∷ t.band ∷ t.thresholds ++ (t.events ++ (t.steps ∷ t.ticks ∷ t.remainder ∷ [])))

-- where they stand in the row of a track, behind the reply's kind: the action cells; the master and the band; the thresholds; their
-- events; the rate and its remainder
abbrev pub cells_at : ℕ
cells_at = 12

abbrev pub master_at : ℕ
master_at = 28

abbrev pub thresholds_at : ℕ
thresholds_at = 30

abbrev pub events_at : ℕ
events_at = 34

abbrev pub rate_at : ℕ
rate_at = 38

abbrev pub point_numbers : PointValues → List ℕ
point_numbers p = p.track ∷ (coordinate_at p.position).0 ∷ p.event ∷ p.wait ∷ p.command ∷ p.target ∷ []

-- kinds: 0 accepted, 1 refused, 2 Done, 3 LogFull, 4 ClockEnd, 5 clock and held, 6 a track, 7 a point, 8 a count
abbrev pub numbers_of : Reply → List ℕ
numbers_of accepted = padded (0 ∷ [])
numbers_of (refused n) = padded (1 ∷ n ∷ [])
numbers_of (done n) = padded (2 ∷ n ∷ [])
numbers_of (log_full n) = padded (3 ∷ n ∷ [])
numbers_of (clock_ended n) = padded (4 ∷ n ∷ [])
numbers_of (clock_is c held) = padded (5 ∷ c ∷ held ∷ [])
numbers_of (track_is t) = padded (6 ∷ track_numbers t)
numbers_of (point_is p) = padded (7 ∷ point_numbers p)
numbers_of (count_is n) = padded (8 ∷ n ∷ [])

abbrev pub numbers_in : List Reply → List ℕ
numbers_in [] = []
numbers_in (x ∷ xs) = numbers_of x ++ numbers_in xs

-- the replies to all rows, from those to the calls among them: a row that is no call is refused 9
abbrev pub answers_to : List (Option Call) → List Reply → List Reply
answers_to [] xs = []
answers_to (None ∷ ls) xs = refused 9 ∷ answers_to ls xs
answers_to (Some c ∷ ls) [] = []
answers_to (Some c ∷ ls) (x ∷ xs) = x ∷ answers_to ls xs

-- ---- a row

-- what a row does with a board and its log: a row that is no call is refused 9 and leaves them
unfoldable pub row_does : Option Call → World Board → Did Reply (World Board)
row_does None w = record { answer = refused 9; left = w }
row_does (Some c) w = does c w

-- all answers, and the board and log that the last row leaves
abbrev pub rows_do : List (Option Call) → World Board → All Reply (World Board)
rows_do [] w = record { answers = []; last = w }
rows_do (o ∷ os) w =
    let r : All Reply (World Board) = rows_do os (row_does o w).left in
    record { answers = (row_does o w).answer ∷ r.answers; last = r.last }

-- what a row gives: the board, the log and the numbers of its reply after it
pub record RowAnswered (row : Option Call) (w : World Board) (board : Board) (log' reply : List ℕ) : Type 0 where
  pub left_is : world board log' ≡ (row_does row w).left
  pub reply_is : reply ≡ numbers_of (row_does row w).answer
