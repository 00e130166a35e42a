-- The laws of the replay: the calls agree with it, the row is what they write, which of it is held, and the cut on a board.
use Rattle.std.specs.Prelude.{Option, Some, None}
use mathlib.Core.Path.{◌≡◌, refl, sym, ◌∙◌, ap}
use mathlib.Core.List.{List, [], ◌∷◌, ◌++◌, append_assoc, append-nil}
use mathlib.Core.Bool.{Bool, true, false, cond}
use Prim.Native.Nat.{ℕ, zero, suc, ◌+◌, ◌*◌, ◌≤◌}
use native.Mathlib.Nat.{add-zero, zero-add, suc-add, add-suc, add_assoc, add_comm, mul-add, mul-one, mul-zero, mul-suc}
use native.Mathlib.Nat.{le_trans, mul-le-mul_left}
use native.Mathlib.Omega.{arith}
use lib.ListN.{length, take, drop, set, length-append, drop_of_length-le, length-take}
use lib.Seq.{sets, slice, sets-eq, length-sets, take_at, drop_at, length-take-le, drop-append-le}
use Rattle.board.specs.Log.{write_at}
use Rattle.board.specs.Cut.{Ran, Did, All, ticks, advance, Part, run, one, merge, observe, performs}
use Rattle.board.specs.Replay.{Made, Rules, World, State, flat, wrote, w-halt, w-bar, w-step, perform}
use Rattle.board.specs.Replay.{puts, takes, r-halt, r-bar, r-step, replay, shown, written, writtens, cleared_by, cleared_at}
use Rattle.board.proofs.replay.Cuts.{ticks-on, ticks-off, advance-in, advance-out}
use Rattle.board.proofs.replay.Cuts.{mapped-did, advance-map, Read, advance-add, cut}

-- ---- bytes in the log

-- where the bytes fit, storing them one after the other is writing them over the log
pub sets-write : (xs ys : List ℕ) (at : ℕ) → at + length ys ≤ length xs → sets xs at ys ≡ write_at xs at ys
unfolding write_at
sets-write xs ys at h = sets-eq ys xs at h ∙ append_assoc (take at xs) ys (drop (at + length ys) xs)

sets-append : (l : List ℕ) (i : ℕ) (xs ys : List ℕ) → sets l i (xs ++ ys) ≡ sets (sets l i xs) (i + length xs) ys
sets-append l i [] ys = rw (add-zero i)
sets-append l i (x ∷ xs) ys =
    sets-append (set l i x) (suc i) xs ys
    ∙ ap (λ (k : ℕ). sets (sets (set l i x) (suc i) xs) k ys) (suc-add i (length xs) ∙ sym (add-suc i (length xs)))

-- up to their end stand the bytes that stood there, and those stored
take-sets : (l vs : List ℕ) (i j : ℕ) → j ≡ i + length vs → j ≤ length l → take j (sets l i vs) ≡ take i l ++ vs
take-sets l vs i j e h =
    let h' : i + length vs ≤ length l = omega arith in
    let t : length (take i l) ≡ i = length-take-le i l (omega arith) in
    let n : length (take i l ++ vs) ≡ i + length vs = length-append (take i l) vs ∙ rw t in
    rw (e, sets-eq vs l i h') (take_at (take i l ++ vs) (drop (i + length vs) l) (i + length vs) n)

slice-sets : (l vs : List ℕ) (i j : ℕ) → j ≡ i + length vs → j ≤ length l → slice i j (sets l i vs) ≡ vs
slice-sets l vs i j e h = rw (take-sets l vs i j e h) (drop_at (take i l) vs i (length-take-le i l (omega arith)))

slice_back : (l : List ℕ) (i j : ℕ) → j ≤ i → slice i j l ≡ []
slice_back l i j h =
    let t : length (take j l) ≤ i = rw (length-take j l) (omega arith) in
    drop_of_length-le (take j l) t

-- ---- what the rules must keep

module _ (R : Rules) where
  open R use {Board, Rec, Call, held, grown, width, bytes, tick, halt, makes, clears}

  -- records have one length in the log, and growing adds up
  pub record Counts : Type 0 where
    pub bytes_length : (r : Rec) → length (bytes r) ≡ width
    pub held_grown : (b : Board) (n : ℕ) → held (grown b n) ≡ held b + n
    pub grown_zero : (b : Board) → grown b 0 ≡ b
    pub grown_grown : (b : Board) (m n : ℕ) → grown (grown b m) n ≡ grown b (m + n)

  -- what a call leaves of the held records: none if it is a clear that is accepted, which writes none either, else all
  abbrev pub Leaves : Bool → Board → Made Board Rec → Type 0
  Leaves true b m = (m.records ≡ []) × (held m.board ≡ 0)
  Leaves false b m = held m.board ≡ held b

  -- records are written only where they fit, and a call leaves the held ones or lets them go
  pub record Room : Type 0 where
    pub tick_held : (b : Board) → held (tick b).board ≡ held b
    pub tick_fits : (n : ℕ) (b : Board) → halt n b ≡ None → width * (held b + length (tick b).records) ≤ n
    pub call_held : (c : Call) (n : ℕ) (b : Board) → Leaves (clears c b) b (makes c n b)
    pub call_fits : (c : Call) (n : ℕ) (b : Board) → width * held b ≤ n
        → width * (held (makes c n b).board + length (makes c n b).records) ≤ n

module _ (R : Rules) (K : Counts R) where
  open R use {Board, Rec, Call, Answer, held, grown, width, bytes, tick, says, makes, done, refuse}
  open K use {bytes_length, held_grown, grown_zero, grown_grown}

  -- ---- the calls agree with the replay

  -- record after record comes to all at once, and to the row's end
  puts-all : (rs : List Rec) (b : Board) (l : List ℕ) (k : List Rec) →
      puts R rs (record { board = b; log = l; row = k })
      ≡ record { board = grown b (length rs); log = sets l (width * held b) (flat R rs); row = k ++ rs }
  puts-all [] b l k = rw (grown_zero b, append-nil k)
  puts-all (r ∷ rs) b l k =
      puts-all rs (grown b 1) (sets l (width * held b) (bytes r)) (k ++ (r ∷ []))
      ∙ rw (
        grown_grown b 1 (length rs),
        held_grown b 1,
        mul-add width (held b) 1,
        mul-one width,
        append_assoc k (r ∷ []) rs,
        sets-append l (width * held b) (bytes r) (flat R rs),
        bytes_length r,
        suc-add 0 (length rs),
        zero-add (length rs),
      )

  pub takes_all : (m : Made Board Rec) (s : State Board Rec) →
      takes R m s
      ≡ record {
        board = grown m.board (length m.records);
        log = sets s.log (width * held m.board) (flat R m.records);
        row = s.row ++ m.records;
      }
  takes_all m s = puts-all m.records m.board s.log s.row

  -- what the replay shows of a tick or a call is what the calls leave
  pub shown-takes : (m : Made Board Rec) (s : State Board Rec) → wrote R m (shown R s) ≡ shown R (takes R m s)
  shown-takes m s = sym (ap (shown R) (takes_all m s))

  -- each call's answer, board and log are the replay's
  agrees-one : (p : Part Call) (s : State Board Rec) → perform R p (shown R s) ≡ mapped-did (shown R) (replay R p s)
  agrees-one (run n) s =
      advance-map (r-halt R) (r-step R) (w-halt R) (w-step R) (shown R) (λ t. refl) (λ t. shown-takes (tick t.board) t)
      (r-bar R) (w-bar R) (λ t. refl) done refuse n s
  agrees-one (one c) s =
      ap (λ (w : World Board). record { answer = says c (length s.log) s.board; left = w })
      (shown-takes (makes c (length s.log) s.board) s)

  -- all answers, the end board and every log byte are the replay's
  pub agrees : (ps : List (Part Call)) (s : State Board Rec) →
      performs (perform R) ps (shown R s)
      ≡ record { answers = (performs (replay R) ps s).answers; last = shown R (performs (replay R) ps s).last }
  agrees [] s = refl
  agrees (p ∷ ps) s =
      ap goes_on (agrees-one p s)
      ∙ ap (λ (a : All Answer (World Board)). record { answers = (replay R p s).answer ∷ a.answers; last = a.last })
      (agrees ps (replay R p s).left)
    where
      goes_on : Did Answer (World Board) → All Answer (World Board)
      goes_on d =
          let a : All Answer (World Board) = performs (perform R) ps d.left in
          record { answers = d.answer ∷ a.answers; last = a.last }

  -- ---- the row

  flat-length : (rs : List Rec) → length (flat R rs) ≡ width * length rs
  flat-length [] = sym (mul-zero width)
  flat-length (r ∷ rs) =
      length-append (bytes r) (flat R rs)
      ∙ rw (bytes_length r, flat-length rs, mul-suc width (length rs)) (add_comm width (width * length rs))

  flat_append : (rs ts : List Rec) → flat R (rs ++ ts) ≡ flat R rs ++ flat R ts
  flat_append [] ts = refl
  flat_append (r ∷ rs) ts = rw (flat_append rs ts) (sym (append_assoc (bytes r) (flat R rs) (flat R ts)))

  -- s' is s with some records behind the held ones, in the log and in the row
  record Behind (s s' : State Board Rec) : Type 0 where
    recs : List Rec
    row_is : s'.row ≡ s.row ++ recs
    log_is : s'.log ≡ sets s.log (width * held s.board) (flat R recs)
    held_is : held s'.board ≡ held s.board + length recs
    fits : width * held s'.board ≤ length s.log

  behind-none : (s : State Board Rec) → width * held s.board ≤ length s.log → Behind s s
  behind-none s f = record {
    recs = [];
    row_is = sym (append-nil s.row);
    log_is = refl;
    held_is = sym (add-zero (held s.board));
    fits = f;
  }

  behind-then : {s t u : State Board Rec} → Behind s t → Behind t u → Behind s u
  behind-then {s} {t} {u} p q = record {
    recs = p.recs ++ q.recs;
    row_is = q.row_is ∙ rw p.row_is (append_assoc s.row p.recs q.recs);
    log_is =
        q.log_is
        ∙ rw (
          p.log_is,
          p.held_is,
          mul-add width (held s.board) (length p.recs),
          ← flat-length p.recs,
          flat_append p.recs q.recs,
          sets-append s.log (width * held s.board) (flat R p.recs) (flat R q.recs),
        );
    held_is =
        q.held_is
        ∙ rw (p.held_is, length-append p.recs q.recs)
        (add_assoc (held s.board) (length p.recs) (length q.recs));
    fits = rw (ap length p.log_is ∙ length-sets s.log (width * held s.board) (flat R p.recs)) at q.fits;
  }

  -- a tick or a call that keeps the count of the held ones
  behind-takes : (m : Made Board Rec) (s : State Board Rec) → held m.board ≡ held s.board
      → width * (held s.board + length m.records) ≤ length s.log → Behind s (takes R m s)
  behind-takes m s h f = rw (takes_all m s) (record {
    recs = m.records;
    row_is = refl;
    log_is = rw h;
    held_is = rw (held_grown m.board (length m.records), h);
    fits = rw (held_grown m.board (length m.records), h) f;
  })

module _ (R : Rules) (K : Counts R) (M : Room R) where
  open R use {Board, Rec, Call, Answer, Stop, held, width, tick, makes, clears, done, refuse}
  open M use {tick_held, tick_fits, call_held, call_fits}

  -- the held records are in the log
  abbrev Fits : State Board Rec → Type 0
  Fits s = width * held s.board ≤ length s.log

  abbrev go_on : ℕ → State Board Rec → Ran Stop (State Board Rec)
  go_on = ticks (r-halt R) (r-step R)

  behind-fits : {s s' : State Board Rec} → Behind R K s s' → Fits s'
  behind-fits {s} {s'} p = rw (p.log_is, length-sets s.log (width * held s.board) (flat R p.recs)) p.fits

  step-behind : (s : State Board Rec) → r-halt R s ≡ None → Behind R K s (r-step R s)
  step-behind s e = behind-takes R K (tick s.board) s (tick_held s.board) (tick_fits (length s.log) s.board e)

  ticks-behind : (n : ℕ) (s : State Board Rec) → Fits s → Behind R K s (go_on n s).end
  unfolding ticks
  ticks-behind zero s f = behind-none R K s f
  ticks-behind (suc n) s f = go (r-halt R s) refl (ticks-behind n (r-step R s))
    where
      go : (o : Option Stop) → r-halt R s ≡ o → (Fits (r-step R s) → Behind R K (r-step R s) (go_on n (r-step R s)).end)
          → Behind R K s (go_on (suc n) s).end
      go None e ih =
          let p : Behind R K s (r-step R s) = step-behind s e in
          rw (ticks-on (r-halt R) (r-step R) n s e) (behind-then R K p (ih (behind-fits p)))
      go (Some x) e ih = rw (ticks-off (r-halt R) (r-step R) n s x e) (behind-none R K s f)

  -- a tick that is taken writes its records, behind those held
  pub tick-written : (w : World Board) → w-halt R w ≡ None → written R w (w-step R w) ≡ flat R (tick w.board).records
  tick-written w e =
      let b = w.board in
      let rs = (tick b).records in
      rw (K.held_grown (tick b).board (length rs), tick_held b)
      (slice-sets w.log (flat R rs) (width * held b) (width * (held b + length rs)) (rw (mul-add width (held b) (length rs), flat-length R K rs))
      (tick_fits (length w.log) b e))

  -- what a call writes, in the log and in the row
  record Wrote (s s' : State Board Rec) : Type 0 where
    recs : List Rec
    row_is : s'.row ≡ s.row ++ recs
    written_is : written R (shown R s) (shown R s') ≡ flat R recs
    still_fits : Fits s'

  wrote-behind : {s s' : State Board Rec} → Behind R K s s' → Wrote s s'
  wrote-behind {s} {s'} p = record {
    recs = p.recs;
    row_is = p.row_is;
    written_is =
        rw p.log_is
        (slice-sets s.log (flat R p.recs) (width * held s.board) (width * held s'.board)
        (rw (p.held_is, mul-add width (held s.board) (length p.recs), flat-length R K p.recs)) p.fits);
    still_fits = behind-fits p;
  }

  wrote_one : (p : Part Call) (s : State Board Rec) → Fits s → Wrote s (replay R p s).left
  wrote_one (run n) s f = go (r-bar R s) refl
    where
      go : (o : Option ℕ) → r-bar R s ≡ o → Wrote s (advance (r-halt R) (r-step R) (r-bar R) done refuse n s).left
      go None e = rw (advance-in (r-halt R) (r-step R) (r-bar R) done refuse n s e) (wrote-behind (ticks-behind n s f))
      go (Some x) e =
          rw (advance-out (r-halt R) (r-step R) (r-bar R) done refuse n s x e) (wrote-behind (behind-none R K s f))
  wrote_one (one c) s f = go (clears c s.board) (call_held c (length s.log) s.board)
    where
      m : Made Board Rec
      m = makes c (length s.log) s.board

      g : width * (held m.board + length m.records) ≤ length s.log
      g = call_fits c (length s.log) s.board f

      less : held m.board ≡ 0 → width * held m.board ≤ width * held s.board
      less h = mul-le-mul_left width (omega arith)

      go : (z : Bool) → Leaves R z s.board m → Wrote s (takes R m s)
      go false h = wrote-behind (behind-takes R K m s h (rw h at g))
      go true h = rw h.0 (record {
        recs = [];
        row_is = sym (append-nil s.row);
        written_is = slice_back s.log (width * held s.board) (width * held m.board) (less h.1);
        still_fits = le_trans (less h.1) f;
      })

  -- the row is what the calls write, call after call
  pub rows : (ps : List (Part Call)) (s : State Board Rec) → width * held s.board ≤ length s.log →
      flat R (performs (replay R) ps s).last.row ≡ flat R s.row ++ writtens R ps (shown R s)
  rows [] s f = sym (append-nil (flat R s.row))
  rows (p ∷ ps) s f =
      let t : State Board Rec = (replay R p s).left in
      let w : Wrote s t = wrote_one p s f in
      let e = ap (λ (d : Did Answer (World Board)). d.left) (agrees-one R K p s) in
      rows ps t w.still_fits
      ∙ rw (e, w.written_is, w.row_is, flat_append R K s.row w.recs)
      (append_assoc (flat R s.row) (flat R w.recs) (writtens R ps (shown R t)))

  -- ---- the held records

  -- they are those of the row behind its first n, in the log too
  pub record Holds (s : State Board Rec) (n : ℕ) : Type 0 where
    pub row_long : n ≤ length s.row
    pub held_is : held s.board ≡ length (drop n s.row)
    pub bytes_are : take (width * held s.board) s.log ≡ flat R (drop n s.row)

  -- records behind the held ones are held too
  holds-behind : {s s' : State Board Rec} {n : ℕ} → Behind R K s s' → Holds s n → Holds s' n
  holds-behind {s} {s'} {n} p h =
      let rs = p.recs in
      let d : drop n s'.row ≡ drop n s.row ++ rs = ap (drop n) p.row_is ∙ drop-append-le n s.row rs h.row_long in
      let j : width * held s'.board ≡ width * held s.board + length (flat R rs) =
      rw (p.held_is, mul-add width (held s.board) (length rs), flat-length R K rs) in
      record {
        row_long = rw (p.row_is, length-append s.row rs) (omega (arith, h.row_long));
        held_is = p.held_is ∙ rw (h.held_is, d) (sym (length-append (drop n s.row) rs));
        bytes_are =
            ap (take (width * held s'.board)) p.log_is
            ∙ take-sets s.log (flat R rs) (width * held s.board) (width * held s'.board) j p.fits
            ∙ rw (h.bytes_are, d) (sym (flat_append R K (drop n s.row) rs));
      }

  -- where none is held, they are those behind the whole row
  holds-none : (s : State Board Rec) → held s.board ≡ 0 → Holds s (length s.row)
  holds-none s h =
      let d : drop (length s.row) s.row ≡ [] = drop_of_length-le s.row {i = length s.row} (omega arith) in
      record { row_long = omega arith; held_is = rw d h; bytes_are = rw (d, h, mul-zero width) }

  -- one call
  holds-one : (p : Part Call) (s : State Board Rec) (n : ℕ) → Fits s → Holds s n → Holds (replay R p s).left (cleared_by R p s n)
  holds-one (run k) s n f h = go (r-bar R s) refl
    where
      go : (o : Option ℕ) → r-bar R s ≡ o → Holds (replay R (run k) s).left n
      go None e = rw (advance-in (r-halt R) (r-step R) (r-bar R) done refuse k s e) (holds-behind (ticks-behind k s f) h)
      go (Some x) e = rw (advance-out (r-halt R) (r-step R) (r-bar R) done refuse k s x e) h
  holds-one (one c) s n f h = go (clears c s.board) (call_held c (length s.log) s.board)
    where
      m : Made Board Rec
      m = makes c (length s.log) s.board

      g : width * (held m.board + length m.records) ≤ length s.log
      g = call_fits c (length s.log) s.board f

      go : (z : Bool) → Leaves R z s.board m → Holds (takes R m s) (cond z (length s.row) n)
      go false e = holds-behind (behind-takes R K m s e (rw e at g)) h
      go true e = rw e.0 (holds-none _ e.1)

  -- after every list of calls they are those that the row has got since the last accepted clear
  pub holds : (ps : List (Part Call)) (s : State Board Rec) (n : ℕ) → width * held s.board ≤ length s.log → Holds s n
      → Holds (performs (replay R) ps s).last (cleared_at R ps s n)
  holds [] s n f h = h
  holds (p ∷ ps) s n f h = holds ps (replay R p s).left (cleared_by R p s n) (wrote_one p s f).still_fits (holds-one p s n f h)

-- ---- the cut, on a board

module _ {F : Type 0} (R : Rules) (D : Read F R.done R.refuse)
    (kept : (n : ℕ) (b : R.Board) → R.bar n b ≡ None → R.halt n b ≡ None
    → R.bar n (R.grown (R.tick b).board (length (R.tick b).records)) ≡ None) where
  open R use {Board, Call, width, held, grown, bar, tick, done, refuse}

  -- a tick that is taken brings no bar
  pub w_kept : (w : World Board) → w-bar R w ≡ None → w-halt R w ≡ None → w-bar R (w-step R w) ≡ None
  w_kept w h e =
      ap (λ (n : ℕ). bar n (grown (tick w.board).board (length (tick w.board).records)))
      (length-sets w.log (width * held (tick w.board).board) (flat R (tick w.board).records))
      ∙ kept (length w.log) w.board h e

  -- two lists with the same merged list, on one board and log: what is seen of them, and the end board and log
  pub cuts : (ps qs : List (Part Call)) (w : World Board) → merge ps ≡ merge qs →
      (observe D.taken D.why ps (performs (perform R) ps w).answers
      ≡ observe D.taken D.why qs (performs (perform R) qs w).answers)
      × ((performs (perform R) ps w).last ≡ (performs (perform R) qs w).last)
  cuts = cut (perform R) D.taken D.why (advance-add (w-halt R) (w-step R) (w-bar R) done refuse w_kept D)
