-- Ticks one by one, runs of advances, and lists of calls that differ only in the cut (01, "Lists of calls"), of any board.
use Rattle.std.specs.Prelude.{◌≡◌, List, [], ◌∷◌, ℕ, zero, suc, ◌+◌, ◌≤◌, Option, Some, None}

-- What ticks come to: how many were taken, what stopped them if anything did, and where they left off.
pub record Ran (E S : Type 0) : Type 0 where
  pub taken : ℕ
  pub why : Option E
  pub end : S

-- the earlier of two reasons
abbrev pub first : {E : Type 0} → Option E → Option E → Option E
first None o = o
first (Some e) o = Some e

-- some ticks, and then others from where they left off
abbrev pub joined : {E S : Type 0} → Ran E S → Ran E S → Ran E S
joined p q = record { taken = p.taken + q.taken; why = first p.why q.why; end = q.end }

-- no tick taken, for this reason if any
abbrev pub idle : {E S : Type 0} → Option E → S → Ran E S
idle o s = record { taken = 0; why = o; end = s }

-- one tick taken before these
abbrev pub counted : {E S : Type 0} → Ran E S → Ran E S
counted r = record { taken = suc r.taken; why = r.why; end = r.end }

-- What a call comes to: its answer, and what it leaves.
pub record Did (A S : Type 0) : Type 0 where
  pub answer : A
  pub left : S

-- What a list of calls comes to: all answers in their order, and what the last call leaves.
pub record All (A S : Type 0) : Type 0 where
  pub answers : List A
  pub last : S

module _ {E S : Type 0} (halt : S → Option E) (step : S → S) where
  -- n single ticks: before each it asks if the count is reached, and then if something stops it
  unfoldable pub ticks : ℕ → S → Ran E S
  ticks zero s = idle None s
  ticks (suc n) s = elim (halt s) [ None ↦ counted (ticks n (step s)) | Some e ↦ idle (Some e) s ]

  -- the states in which a tick is taken
  unfoldable pub passed : ℕ → S → List S
  passed zero s = []
  passed (suc n) s = elim (halt s) [ None ↦ s ∷ passed n (step s) | Some e ↦ [] ]

  -- `bar` refuses an advance, whatever its count; `done` and `refuse` are the two answers
  module _ {A K : Type 0} (bar : S → Option K) (done : ℕ → Option E → A) (refuse : K → A) where
    -- what an advance that isn't refused answers and leaves
    abbrev pub told : Ran E S → Did A S
    told r = record { answer = done r.taken r.why; left = r.end }

    -- an advance: refused, or its ticks
    unfoldable pub advance : ℕ → S → Did A S
    advance n s = elim (bar s) [ None ↦ told (ticks n s) | Some k ↦ record { answer = refuse k; left = s } ]

    -- the states in which an advance takes a tick
    unfoldable pub crossed : ℕ → S → List S
    crossed n s = elim (bar s) [ None ↦ passed n s | Some k ↦ [] ]

-- ---- the cut

-- A call as the cut sees it: an advance of a run, by its count, or any other call.
pub data Part (C : Type 0) : Type 0 where
  run : ℕ → Part C
  one : C → Part C

-- an advance put before a list whose runs are merged already
abbrev pub fuse : {C : Type 0} → ℕ → List (Part C) → List (Part C)
fuse n [] = run n ∷ []
fuse n (run m ∷ ps) = run (n + m) ∷ ps
fuse n (one c ∷ ps) = run n ∷ (one c ∷ ps)

-- each run as one advance of its sum
abbrev pub merge : {C : Type 0} → List (Part C) → List (Part C)
merge [] = []
merge (run n ∷ ps) = fuse n (merge ps)
merge (one c ∷ ps) = one c ∷ merge ps

-- What is seen of a list: of each run the ticks taken and what first stopped it, of any other call its answer.
pub data Seen (E A : Type 0) : Type 0 where
  ran : ℕ → Option E → Seen E A
  said : A → Seen E A

-- an advance seen before what is seen of the calls behind it
abbrev pub glue : {E A : Type 0} → ℕ → Option E → List (Seen E A) → List (Seen E A)
glue t w [] = ran t w ∷ []
glue t w (ran u v ∷ xs) = ran (t + u) (first w v) ∷ xs
glue t w (said a ∷ xs) = ran t w ∷ (said a ∷ xs)

-- what is seen of a list, from its answers: `taken` and `why` read the answer to an advance
module _ {E A C : Type 0} (taken : A → ℕ) (why : A → Option E) where
  abbrev pub observe : List (Part C) → List A → List (Seen E A)
  observe [] xs = []
  observe (run n ∷ ps) [] = []
  observe (run n ∷ ps) (a ∷ xs) = glue (taken a) (why a) (observe ps xs)
  observe (one c ∷ ps) [] = []
  observe (one c ∷ ps) (a ∷ xs) = said a ∷ observe ps xs

-- a list of calls, performed: each gets what the one before it left
module _ {A C S : Type 0} (does : Part C → S → Did A S) where
  abbrev pub performs : List (Part C) → S → All A S
  performs [] s = record { answers = []; last = s }
  performs (p ∷ ps) s =
      let r : All A S = performs ps (does p s).left in
      record { answers = (does p s).answer ∷ r.answers; last = r.last }

-- ---- lists of calls as they are written

-- `count c` is the count of c if c is an advance that may stand in a run; `go n` is the advance of n, for n up to `most`
module _ {C : Type 0} (most : ℕ) (count : C → Option ℕ) (go : ℕ → C) where
  abbrev pub sorted : C → Option ℕ → Part C
  sorted c None = one c
  sorted c (Some n) = run n

  -- a call, and a list of calls, as the cut sees them
  abbrev pub part : C → Part C
  part c = sorted c (count c)

  abbrev pub parts : List C → List (Part C)
  parts [] = []
  parts (c ∷ cs) = part c ∷ parts cs

  -- and as they are written again
  abbrev pub plain : Part C → C
  plain (run n) = go n
  plain (one c) = c

  abbrev pub plains : List (Part C) → List C
  plains [] = []
  plains (p ∷ ps) = plain p ∷ plains ps

  -- the list with each run written as one advance of its sum
  abbrev pub merged_list : List C → List C
  merged_list cs = plains (merge (parts cs))

  -- each run's sum is at most `most`
  abbrev pub Low : List (Part C) → Type 0
  Low [] = Unit {0}
  Low (run n ∷ ps) = (n ≤ most) × Low ps
  Low (one c ∷ ps) = Low ps

  abbrev pub Within : List C → Type 0
  Within cs = Low (merge (parts cs))

  -- two lists that differ only in the cut
  pub record Recut (cs ds : List C) : Type 0 where
    pub same : merged_list cs ≡ merged_list ds
    pub within : Within cs
    pub within' : Within ds
