-- The records of the row: what every one of them keeps, and those of one kind.
use Rattle.std.specs.Prelude.{Option, Some, None}
use mathlib.Core.Path.{◌≡◌, refl, sym, ◌∙◌}
use mathlib.Core.List.{List, [], ◌∷◌, ◌++◌, append_assoc, append-nil}
use mathlib.Core.Bool.{Bool, true, false, cond}
use Prim.Native.Nat.{ℕ, zero, suc}
use lib.ListN.{length, drop, length-append}
use Rattle.board.specs.Cut.{ticks, passed, crossed, Part, run, one, performs}
use Rattle.board.specs.Replay.{Made, Rules, State}
use Rattle.board.specs.Replay.{takes, r-halt, r-bar, r-step, replay}
use Rattle.board.specs.Replay.{Each, only, boards, ticked, gathered, total}
use Rattle.board.proofs.replay.Cuts.{ticks-on, ticks-off, passed_on, passed-off, advance-in, advance-out, crossed-in, crossed-out}
use Rattle.board.proofs.replay.Replays.{Counts, takes_all}

-- ---- what every record of the row keeps

-- of one list behind another, those of the one and those of the other
pub each_append : {A : Type 0} (P : A → Type 0) (xs ys : List A) → Each P xs → Each P ys → Each P (xs ++ ys)
unfolding Each
each_append P [] ys p q = q
each_append P (x ∷ xs) ys p q = (p.0, each_append P xs ys p.1 q)

-- what follows of every element
pub each-follows : {A : Type 0} {P Q : A → Type 0} → ((x : A) → P x → Q x) → (xs : List A) → Each P xs → Each Q xs
unfolding Each
each-follows f [] p = tt
each-follows f (x ∷ xs) p = (f x p.0, each-follows f xs p.1)

-- the elements behind the first n are some of them
pub each-drop : {A : Type 0} (P : A → Type 0) (n : ℕ) (xs : List A) → Each P xs → Each P (drop n xs)
unfolding Each
each-drop P zero xs p = p
each-drop P (suc n) [] p = tt
each-drop P (suc n) (x ∷ xs) p = each-drop P n xs p.1

-- `Kept` holds of every board on the way, and so `P` of every record
module _ (R : Rules) (K : Counts R) (Kept : R.Board → Type 0) (P : R.Rec → Type 0)
    (tick-kept : (n : ℕ) (b : R.Board) → Kept b → R.halt n b ≡ None
    → Each P (R.tick b).records × Kept (R.grown (R.tick b).board (length (R.tick b).records)))
    (call_kept : (c : R.Call) (n : ℕ) (b : R.Board) → Kept b
    → Each P (R.makes c n b).records × Kept (R.grown (R.makes c n b).board (length (R.makes c n b).records))) where
  open R use {Board, Rec, Call, Stop, grown, tick, makes, done, refuse}

  -- what is kept of a board and of every record of its row
  abbrev pub Keeps : State Board Rec → Type 0
  Keeps s = Kept s.board × Each P s.row

  -- a tick or a call keeps it
  takes-keep : (m : Made Board Rec) (s : State Board Rec) → Each P s.row
      → Each P m.records × Kept (grown m.board (length m.records)) → Keeps (takes R m s)
  takes-keep m s h g = rw (takes_all R K m s) (g.1, each_append P s.row m.records h g.0)

  -- and so do ticks
  ticks-keep : (n : ℕ) (s : State Board Rec) → Keeps s → Keeps (ticks (r-halt R) (r-step R) n s).end
  unfolding ticks
  ticks-keep zero s h = h
  ticks-keep (suc n) s h = go (r-halt R s) refl (ticks-keep n (r-step R s))
    where
      go : (o : Option Stop) → r-halt R s ≡ o → (Keeps (r-step R s) → Keeps (ticks (r-halt R) (r-step R) n (r-step R s)).end)
          → Keeps (ticks (r-halt R) (r-step R) (suc n) s).end
      go None e ih =
          rw (ticks-on (r-halt R) (r-step R) n s e)
          (ih (takes-keep (tick s.board) s h.1 (tick-kept (length s.log) s.board h.0 e)))
      go (Some x) e ih = rw (ticks-off (r-halt R) (r-step R) n s x e) h

  -- every call
  part-keeps : (p : Part Call) (s : State Board Rec) → Keeps s → Keeps (replay R p s).left
  part-keeps (one c) s h =
      takes-keep (makes c (length s.log) s.board) s h.1 (call_kept c (length s.log) s.board h.0)
  part-keeps (run n) s h = go (r-bar R s) refl
    where
      go : (o : Option ℕ) → r-bar R s ≡ o → Keeps (replay R (run n) s).left
      go None e = rw (advance-in (r-halt R) (r-step R) (r-bar R) done refuse n s e) (ticks-keep n s h)
      go (Some x) e = rw (advance-out (r-halt R) (r-step R) (r-bar R) done refuse n s x e) h

  -- and every list of calls
  pub list-keeps : (ps : List (Part Call)) (s : State Board Rec) → Keeps s → Keeps (performs (replay R) ps s).last
  list-keeps [] s h = h
  list-keeps (p ∷ ps) s h = list-keeps ps (replay R p s).left (part-keeps p s h)

-- ---- the records of one kind

-- of one list behind another, those of the one and then those of the other
pub only-append : {K : Type 0} (p : K → Bool) (xs ys : List K) → only p (xs ++ ys) ≡ only p xs ++ only p ys
only-append p [] ys = refl
only-append p (x ∷ xs) ys = go (p x) (only-append p xs ys)
  where
    go : (b : Bool) → only p (xs ++ ys) ≡ only p xs ++ only p ys
        → cond b (x ∷ only p (xs ++ ys)) (only p (xs ++ ys)) ≡ cond b (x ∷ only p xs) (only p xs) ++ only p ys
    go true e = rw e
    go false e = e

gathered-append : (R : Rules) (f : R.Board → List R.Rec) (xs ys : List R.Board) →
    gathered R f (xs ++ ys) ≡ gathered R f xs ++ gathered R f ys
gathered-append R f [] ys = refl
gathered-append R f (x ∷ xs) ys =
    rw (gathered-append R f xs ys) (sym (append_assoc (f x) (gathered R f xs) (gathered R f ys)))

module _ (R : Rules) (K : Counts R) (kind : R.Rec → Bool) (points : R.Board → List R.Rec)
    (tick-points : (b : R.Board) → only kind (R.tick b).records ≡ points b)
    (call-points : (c : R.Call) (n : ℕ) (b : R.Board) → only kind (R.makes c n b).records ≡ []) where
  open R use {Board, Rec, Call, Stop, tick, makes, done, refuse}

  -- a row's records of the kind, with those of some ticks behind them
  abbrev kept-with : State Board Rec → List (State Board Rec) → List Rec
  kept-with s ts = only kind s.row ++ gathered R points (boards R ts)

  abbrev went : ℕ → State Board Rec → List (State Board Rec)
  went = passed (r-halt R) (r-step R)

  abbrev over : ℕ → State Board Rec → List (State Board Rec)
  over = crossed (r-halt R) (r-step R) (r-bar R) done refuse

  takes-kind : (m : Made Board Rec) (s : State Board Rec) →
      only kind (takes R m s).row ≡ only kind s.row ++ only kind m.records
  takes-kind m s = rw (takes_all R K m s) (only-append kind s.row m.records)

  ticks-kind : (n : ℕ) (s : State Board Rec) →
      only kind (ticks (r-halt R) (r-step R) n s).end.row ≡ kept-with s (went n s)
  unfolding ticks passed
  ticks-kind zero s = sym (append-nil (only kind s.row))
  ticks-kind (suc n) s = go (r-halt R s) refl (ticks-kind n (r-step R s))
    where
      go : (o : Option Stop) → r-halt R s ≡ o
          → only kind (ticks (r-halt R) (r-step R) n (r-step R s)).end.row ≡ kept-with (r-step R s) (went n (r-step R s))
          → only kind (ticks (r-halt R) (r-step R) (suc n) s).end.row ≡ kept-with s (went (suc n) s)
      go None e ih =
          rw (ticks-on (r-halt R) (r-step R) n s e, passed_on (r-halt R) (r-step R) n s e)
          (ih
          ∙ rw (takes-kind (tick s.board) s, tick-points s.board)
          (append_assoc (only kind s.row) (points s.board) _))
      go (Some x) e ih =
          rw (ticks-off (r-halt R) (r-step R) n s x e, passed-off (r-halt R) (r-step R) n s x e)
          (sym (append-nil (only kind s.row)))

  kind-one : (n : ℕ) (s : State Board Rec) → only kind (replay R (run n) s).left.row ≡ kept-with s (over n s)
  kind-one n s = go (r-bar R s) refl
    where
      go : (o : Option ℕ) → r-bar R s ≡ o → only kind (replay R (run n) s).left.row ≡ kept-with s (over n s)
      go None e =
          rw (
            advance-in (r-halt R) (r-step R) (r-bar R) done refuse n s e,
            crossed-in (r-halt R) (r-step R) (r-bar R) done refuse n s e,
          )
          (ticks-kind n s)
      go (Some x) e =
          rw (
            advance-out (r-halt R) (r-step R) (r-bar R) done refuse n s x e,
            crossed-out (r-halt R) (r-step R) (r-bar R) done refuse n s x e,
          )
          (sym (append-nil (only kind s.row)))

  -- the row's records of the kind are those of the ticks taken, and no more
  pub kinds : (ps : List (Part Call)) (s : State Board Rec) →
      only kind (performs (replay R) ps s).last.row ≡ only kind s.row ++ gathered R points (ticked R ps s)
  kinds [] s = sym (append-nil (only kind s.row))
  kinds (run n ∷ ps) s =
      let t : State Board Rec = (replay R (run n) s).left in
      kinds ps t
      ∙ rw (kind-one n s, gathered-append R points (boards R (over n s)) (ticked R ps t))
      (append_assoc (only kind s.row) _ _)
  kinds (one c ∷ ps) s =
      let n : ℕ = length s.log in
      kinds ps (replay R (one c) s).left
      ∙ rw (takes-kind (makes c n s.board) s, call-points c n s.board, append-nil (only kind s.row))

-- as many records are gathered as each board has, added up
pub gathered-length : (R : Rules) (f : R.Board → List R.Rec) (bs : List R.Board) →
    length (gathered R f bs) ≡ total (λ b. length (f b)) bs
gathered-length R f [] = refl
gathered-length R f (b ∷ bs) = length-append (f b) (gathered R f bs) ∙ rw (gathered-length R f bs)

pub total-same : {B : Type 0} (f g : B → ℕ) → ((b : B) → f b ≡ g b) → (bs : List B) → total f bs ≡ total g bs
total-same f g e [] = refl
total-same f g e (b ∷ bs) = rw (e b, total-same f g e bs)
