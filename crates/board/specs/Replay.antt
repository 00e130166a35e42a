-- The rules of a board, what its calls make of a board and a log, and the replay (01, "Lists of calls"), of any board.
use Rattle.std.specs.Prelude.{List, [], ◌∷◌, ◌++◌, Bool, cond, ℕ, ◌+◌, ◌*◌, length, Option}
use Rattle.std.proofs.lemmas.List.Edits.{sets}
use Rattle.std.proofs.Math.Seq.{slice}
use Rattle.board.specs.Cut.{Did, advance, crossed, Part, run, one}

-- What a tick or a call makes of a board: the board, its records not yet counted, and those records in their order.
pub record Made (B K : Type 0) : Type 0 where
  pub board : B
  pub records : List K

-- The rules of a board: a tick, what stops one, what refuses an advance, and what every other call answers and makes.
pub record Rules : Type 1 where
  pub Board : Type 0
  pub Rec : Type 0
  pub Call : Type 0
  pub Answer : Type 0
  pub Stop : Type 0
  -- the number of records held, and the board with so many more
  pub held : Board → ℕ
  pub grown : Board → ℕ → Board
  -- a record in the log, and its length there
  pub width : ℕ
  pub bytes : Rec → List ℕ
  pub tick : Board → Made Board Rec
  -- of the log these see the length alone
  pub halt : ℕ → Board → Option Stop
  pub bar : ℕ → Board → Option ℕ
  pub says : Call → ℕ → Board → Answer
  pub makes : Call → ℕ → Board → Made Board Rec
  -- whether a call is a clear that is accepted
  pub clears : Call → Board → Bool
  -- the answer to an advance, of its ticks taken and what stopped it, or of the number that refuses it
  pub done : ℕ → Option Stop → Answer
  pub refuse : ℕ → Answer

-- What a call is lent: the board and the log.
pub record World (B : Type 0) : Type 0 where
  pub board : B
  pub log : List ℕ

-- What the replay keeps: its own board, log, and row of all records written.
pub record State (B K : Type 0) : Type 0 where
  pub board : B
  pub log : List ℕ
  pub row : List K

module _ (R : Rules) where
  open R use {Board, Rec, Call, Answer, Stop, held, grown, width, bytes, tick, halt, bar, says, makes, clears, done, refuse}

  -- the bytes of records, one behind the other
  abbrev pub flat : List Rec → List ℕ
  flat [] = []
  flat (r ∷ rs) = bytes r ++ flat rs

  -- ---- what the contracts say: all records of a tick or a call at once, behind the held ones

  abbrev pub wrote : Made Board Rec → World Board → World Board
  wrote m w =
      record {
        board = grown m.board (length m.records);
        log = sets w.log (width * held m.board) (flat m.records);
      }

  abbrev pub w-halt : World Board → Option Stop
  w-halt w = halt (length w.log) w.board

  abbrev pub w-bar : World Board → Option ℕ
  w-bar w = bar (length w.log) w.board

  abbrev pub w-step : World Board → World Board
  w-step w = wrote (tick w.board) w

  abbrev pub perform : Part Call → World Board → Did Answer (World Board)
  perform (run n) w = advance w-halt w-step w-bar done refuse n w
  perform (one c) w =
      record { answer = says c (length w.log) w.board; left = wrote (makes c (length w.log) w.board) w }

  -- ---- the replay: single ticks, and record after record

  -- a record goes behind the held ones, held grows by 1, and the row gets it at its end
  abbrev pub put : Rec → State Board Rec → State Board Rec
  put r s =
      record {
        board = grown s.board 1;
        log = sets s.log (width * held s.board) (bytes r);
        row = s.row ++ (r ∷ []);
      }

  abbrev pub puts : List Rec → State Board Rec → State Board Rec
  puts [] s = s
  puts (r ∷ rs) s = puts rs (put r s)

  abbrev pub takes : Made Board Rec → State Board Rec → State Board Rec
  takes m s = puts m.records (record { board = m.board; log = s.log; row = s.row })

  abbrev pub r-halt : State Board Rec → Option Stop
  r-halt s = halt (length s.log) s.board

  abbrev pub r-bar : State Board Rec → Option ℕ
  r-bar s = bar (length s.log) s.board

  abbrev pub r-step : State Board Rec → State Board Rec
  r-step s = takes (tick s.board) s

  abbrev pub replay : Part Call → State Board Rec → Did Answer (State Board Rec)
  replay (run n) s = advance r-halt r-step r-bar done refuse n s
  replay (one c) s =
      record { answer = says c (length s.log) s.board; left = takes (makes c (length s.log) s.board) s }

  -- what the replay keeps, the row left out
  abbrev pub shown : State Board Rec → World Board
  shown s = record { board = s.board; log = s.log }

  -- ---- the records that calls write

  -- those in the log, as a call leaves it, from the count held before it to the count held after it
  abbrev pub written : World Board → World Board → List ℕ
  written w v = slice (width * held w.board) (width * held v.board) v.log

  -- all of them, call after call
  abbrev pub writtens : List (Part Call) → World Board → List ℕ
  writtens [] w = []
  writtens (p ∷ ps) w = written w (perform p w).left ++ writtens ps (perform p w).left

  -- ---- how many records the row had when the last clear was accepted, or n

  abbrev pub cleared_by : Part Call → State Board Rec → ℕ → ℕ
  cleared_by (run k) s n = n
  cleared_by (one c) s n = cond (clears c s.board) (length s.row) n

  abbrev pub cleared_at : List (Part Call) → State Board Rec → ℕ → ℕ
  cleared_at [] s n = n
  cleared_at (p ∷ ps) s n = cleared_at ps (replay p s).left (cleared_by p s n)

  -- ---- the ticks that the replay takes

  abbrev pub boards : List (State Board Rec) → List Board
  boards [] = []
  boards (s ∷ ss) = s.board ∷ boards ss

  -- the boards before each of them
  abbrev pub ticked : List (Part Call) → State Board Rec → List Board
  ticked [] s = []
  ticked (run n ∷ ps) s =
      boards (crossed r-halt r-step r-bar done refuse n s) ++ ticked ps (replay (run n) s).left
  ticked (one c ∷ ps) s = ticked ps (replay (one c) s).left

  -- the records that `f` tells of each of these boards
  abbrev pub gathered : (Board → List Rec) → List Board → List Rec
  gathered f [] = []
  gathered f (b ∷ bs) = f b ++ gathered f bs

-- every element of a list
unfoldable pub Each : {A : Type 0} → (A → Type 0) → List A → Type 0
Each P [] = Unit {0}
Each P (x ∷ xs) = P x × Each P xs

-- the records of one kind
abbrev pub only : {K : Type 0} → (K → Bool) → List K → List K
only p [] = []
only p (k ∷ ks) = cond (p k) (k ∷ only p ks) (only p ks)

-- the sum of a number told of each board
abbrev pub total : {B : Type 0} → (B → ℕ) → List B → ℕ
total f [] = 0
total f (b ∷ bs) = f b + total f bs
