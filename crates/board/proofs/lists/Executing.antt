-- The laws of rows done one after the other.
use Rattle.std.specs.Prelude.{Option, Some, None}
use mathlib.Core.Path.{◌≡◌, refl, sym, ap, subst, ◌∙◌}
use mathlib.Core.List.{List, [], ◌∷◌, ◌++◌, append_assoc, append-nil}
use Prim.Native.Nat.{ℕ, zero, suc, ◌+◌, ◌*◌, ◌≤◌, ◌<◌}
use native.Mathlib.Numerals.{add-one}
use native.Mathlib.Omega.{arith}
use lib.IntN.{ℤ}
use lib.ListN.{length, take, drop, get_or, length-append}
use lib.Seq.{drop-drop, get_or-take}
use Rattle.std.specs.Simd.{first_chunks}
use Rattle.board.specs.declared.log.Record.{Record}
use Rattle.board.specs.Log.{write_at}
use Rattle.board.proofs.log.Words.{write-write}
use Rattle.board.proofs.row.Encoding.{row-cut}
use Rattle.board.specs.declared.Board.{Board}
use Rattle.board.specs.Board.{fresh_board}
use Rattle.board.specs.Cut.{All, performs}
use Rattle.board.specs.Replay.{World, State, perform}
use Rattle.board.proofs.replay.Replays.{agrees}
use Rattle.board.specs.declared.call.Call.{Call}
use Rattle.board.specs.Call.{Reply, refused, gridstep, does, world}
use Rattle.board.proofs.call.Machine.{counts}
use Rattle.board.proofs.tick.Staging.{write-none}
use Rattle.board.specs.Lists.{cut_up, start, replayed, rows_both, Executed}
use Rattle.board.specs.Row.{call_width, reply_width, call_at, rows_of, calls_in, numbers_of, numbers_in, answers_to, row_does, rows_do, RowAnswered}

-- ---- row after row

-- an answer ahead of those to the rows behind it
abbrev ahead : Reply → All Reply (World Board) → All Reply (World Board)
ahead x a = record { answers = x ∷ a.answers; last = a.last }

-- rows come to the calls among them
rows-calls : (os : List (Option Call)) (w : World Board) →
    let p : All Reply (World Board) = performs (perform gridstep) (cut_up (calls_in os)) w in
    rows_do os w ≡ record { answers = answers_to os p.answers; last = p.last }
unfolding row_does
rows-calls [] w = refl
rows-calls (None ∷ os) w = ap (ahead (refused 9)) (rows-calls os w)
rows-calls (Some c ∷ os) w = ap (ahead (does c w).answer) (rows-calls os (does c w).left)

-- and to the replay of those
pub rows-replayed : (os : List (Option Call)) (log : List ℕ) →
    let p : All Reply (State Board Record) = replayed (calls_in os) log in
    rows_do os (world fresh_board log)
    ≡ record { answers = answers_to os p.answers; last = record { board = p.last.board; log = p.last.log } }
rows-replayed os log =
    rows-calls os (world fresh_board log)
    ∙ ap (λ (p : All Reply (World Board)). record { answers = answers_to os p.answers; last = p.last })
    (agrees gridstep counts (cut_up (calls_in os)) (start log))

-- one row more
rows_more : (os : List (Option Call)) (o : Option Call) (w : World Board) →
    let r : All Reply (World Board) = rows_do os w in
    rows_do (os ++ (o ∷ [])) w
    ≡ record { answers = r.answers ++ ((row_does o r.last).answer ∷ []); last = (row_does o r.last).left }
rows_more [] o w = refl
rows_more (p ∷ os) o w = ap (ahead (row_does p w).answer) (rows_more os o (row_does p w).left)

-- the next row stands behind those before it
rows_next : (n : ℕ) (zs : List ℤ) → rows_of (suc n) zs ≡ rows_of n zs ++ (call_at (drop (n * call_width) zs) ∷ [])
unfolding rows_of
rows_next zero zs = refl
rows_next (suc n) zs =
    let e : call_width + n * call_width ≡ suc n * call_width = omega arith in
    ap (λ (os : List (Option Call)). call_at zs ∷ os)
    (rows_next n (drop call_width zs)
    ∙ ap (λ (l : List ℤ). rows_of n (drop call_width zs) ++ (call_at l ∷ [])) (drop-drop (n * call_width) call_width zs ∙ ap (λ (k : ℕ). drop k zs) e))

-- and so do its reply's numbers
numbers_more : (xs : List Reply) (x : Reply) → numbers_in (xs ++ (x ∷ [])) ≡ numbers_in xs ++ numbers_of x
numbers_more [] x = append-nil (numbers_of x)
numbers_more (y ∷ ys) x =
    ap (λ (ns : List ℕ). numbers_of y ++ ns) (numbers_more ys x) ∙ sym (append_assoc (numbers_of y) (numbers_in ys) (numbers_of x))

-- row i of those that calls are cut into, as many of them as count
pub row_at : (k count i : ℕ) (calls : List ℤ) {rows : List (List ℤ)} → rows ≡ first_chunks call_width k calls → count ≤ k → i < count →
    call_at (get_or (take count rows) i []) ≡ call_at (drop (i * call_width) calls)
row_at k count i calls {rows} e l h =
    ap call_at (get_or-take count rows i [] h ∙ ap (λ (xs : List (List ℤ)). get_or xs i []) e ∙ chunk k i calls (omega arith))
    ∙ row-cut (drop (i * call_width) calls)
  where
    chunk : (k i : ℕ) (zs : List ℤ) → i < k → get_or (first_chunks call_width k zs) i [] ≡ take call_width (drop (i * call_width) zs)
    chunk zero i zs h = absurd (omega arith)
    chunk (suc k) zero zs h = refl
    chunk (suc k) (suc i) zs h =
        let e : call_width + i * call_width ≡ suc i * call_width = omega arith in
        chunk k i (drop call_width zs) (omega arith)
        ∙ ap (take call_width) (drop-drop (i * call_width) call_width zs ∙ ap (λ (k : ℕ). drop k zs) e)

-- the first rows from a fresh board
abbrev pub rows_from : List ℤ → List ℕ → ℕ → All Reply (World Board)
rows_from calls log n = rows_do (rows_of n calls) (world fresh_board log)

-- So many rows are done: board and log are what they leave, and their replies stand first.
pub record RowsDone (calls : List ℤ) (log replies : List ℕ) (n : ℕ) (board : Board) (log' replies' : List ℕ) : Type 0 where
  pub left_is : world board log' ≡ (rows_from calls log n).last
  pub long : length (numbers_in (rows_from calls log n).answers) ≡ n * reply_width
  pub replies_are : replies' ≡ write_at replies 0 (numbers_in (rows_from calls log n).answers)
  pub log_long : length log' ≡ length log
  pub replies_long : length replies' ≡ length replies

module _ (calls : List ℤ) (log replies : List ℕ) where
  -- none is done
  pub rows_start : {b : Board} → b ≡ fresh_board → RowsDone calls log replies 0 b log replies
  unfolding rows_of
  rows_start e =
      record {
        left_is = ap (λ (b : Board). world b log) e;
        long = refl;
        replies_are = sym (write-none replies 0);
        log_long = refl;
        replies_long = refl;
      }

  -- one more is done
  pub rows_step : (n : ℕ) (b b' : Board) (l l' r r' x : List ℕ) {row : Option Call} → RowsDone calls log replies n b l r → n * reply_width + reply_width ≤ length replies →
      row ≡ call_at (drop (n * call_width) calls) → RowAnswered row (world b l) b' l' x → length x ≡ reply_width → r' ≡ write_at r (n * reply_width) x →
      length l' ≡ length l → length r' ≡ length r → RowsDone calls log replies (n + 1) b' l' r'
  rows_step n b b' l l' r r' x {row} h room is d long wrote e f =
      let o : Option Call = call_at (drop (n * call_width) calls) in
      let a : All Reply (World Board) = rows_from calls log n in
      let g : RowAnswered o a.last b' l' x =
      subst (λ (w : World Board). RowAnswered o w b' l' x) h.left_is (subst (λ (q : Option Call). RowAnswered q (world b l) b' l' x) is d) in
      let y : Reply = (row_does o a.last).answer in
      let m : rows_from calls log (n + 1) ≡ record { answers = a.answers ++ (y ∷ []); last = (row_does o a.last).left } =
      ap (λ (k : ℕ). rows_from calls log k) (add-one n)
      ∙ ap (λ (os : List (Option Call)). rows_do os (world fresh_board log)) (rows_next n calls)
      ∙ rows_more (rows_of n calls) o (world fresh_board log) in
      let q : numbers_in (rows_from calls log (n + 1)).answers ≡ numbers_in a.answers ++ x =
      ap (λ (p : All Reply (World Board)). numbers_in p.answers) m ∙ numbers_more a.answers y
      ∙ ap (λ (ns : List ℕ). numbers_in a.answers ++ ns) (sym g.reply_is) in
      record {
        left_is = g.left_is ∙ sym (ap (λ (p : All Reply (World Board)). p.last) m);
        long = ap length q ∙ length-append (numbers_in a.answers) x ∙ (λ i. h.long i + long i) ∙ omega arith;
        replies_are =
            wrote
            ∙ ap (λ (ys : List ℕ). write_at ys (n * reply_width) x) h.replies_are
            ∙ write-write replies (numbers_in a.answers) x 0 (n * reply_width) (omega (arith, h.long)) (omega (arith, long))
            ∙ ap (write_at replies 0) (sym q);
        log_long = e ∙ h.log_long;
        replies_long = f ∙ h.replies_long;
      }

  -- all are done
  pub rows_end : (n : ℕ) (b : Board) (l r : List ℕ) → RowsDone calls log replies n b l r → n ≡ rows_both calls replies →
      Executed calls log replies b l r
  rows_end n b l r h e =
      let g : RowsDone calls log replies (rows_both calls replies) b l r = subst (λ (k : ℕ). RowsDone calls log replies k b l r) e h in
      let m = rows-replayed (rows_of (rows_both calls replies) calls) log in
      record {
        board_is = ap (λ (w : World Board). w.board) g.left_is ∙ ap (λ (a : All Reply (World Board)). a.last.board) m;
        log_is = ap (λ (w : World Board). w.log) g.left_is ∙ ap (λ (a : All Reply (World Board)). a.last.log) m;
        replies_are = g.replies_are ∙ ap (λ (a : All Reply (World Board)). write_at replies 0 (numbers_in a.answers)) m;
      }
