-- The laws of scripts: however a script is cut, what it does and prints is the replay of the calls that its lines are.
use Rattle.std.specs.Prelude.{Option, None}
use Prim.Native.Nat.{ℕ, ◌≤◌}
use mathlib.Core.Path.{◌≡◌, refl, sym, ap, subst, ◌∙◌}
use mathlib.Core.List.{List, [], ◌∷◌, ◌++◌, map, append_assoc, append-nil}
use mathlib.Core.Bool.{Bool, true, false}
use native.Mathlib.Omega.{arith}
use lib.Dec.{leb}
use lib.ListN.{length, drop, take, drop_of_length-le}
use lib.Seq.{length-take-le, take_all}
use borrow.Author.Tests.{leb-true, leb-false}
use Rattle.board.specs.declared.Board.{Board}
use Rattle.board.specs.Board.{fresh_board}
use Rattle.board.specs.declared.log.Record.{Record}
use Rattle.board.specs.Cut.{All}
use Rattle.board.specs.Replay.{World, State}
use Rattle.board.specs.declared.call.Call.{Call}
use Rattle.board.specs.Call.{Reply, world}
use Rattle.board.specs.Row.{calls_in, answers_to, row_does, rows_do}
use Rattle.board.specs.Lists.{replayed}
use Rattle.board.proofs.lists.Executing.{rows-replayed}
use Rattle.script.specs.Lines.{lines_of, kept, number_after, number_behind, lines_in, open_after, last_line, kept_by, ReadsOn}
use Rattle.script.proofs.lines.Pieces.{in-append, after-append, lines_are}
use Rattle.script.specs.Grammar.{line_call}
use Rattle.script.proofs.grammar.Rows.{line-long}
use Rattle.script.specs.Output.{note_of}
use Rattle.script.specs.Text.{text_of}
use Rattle.script.specs.declared.run.Session.{Session}
use Rattle.script.specs.declared.run.Ended.{Ended}
use Rattle.script.specs.Run.{script_rows, lines_do, notes_of, shown_at_end, printed, world_of, done_in, notes_in, Starts, Goes, Went, Ends}

-- ---- a line

-- a line is what is kept of it
kept-call : (l : List ℕ) → line_call (take 65 l) ≡ line_call l
kept-call l = go (leb (length l) 65) refl
  where
    go : (t : Bool) → leb (length l) 65 ≡ t → line_call (take 65 l) ≡ line_call l
    go true e = ap line_call (take_all 65 l (leb-true (length l) 65 e))
    go false e =
        let h = leb-false (length l) 65 e in
        let m = length-take-le 65 l (omega arith) in
        sym (line-long (take 65 l) (omega arith)) ∙ line-long l (omega arith)

kept-rows : (ls : List (List ℕ)) → map line_call (kept ls) ≡ map line_call ls
kept-rows [] = refl
kept-rows (l ∷ ls) = λ i. kept-call l i ∷ kept-rows ls i

-- what is read byte by byte, and the line left open at the end, are the rows of the script
rows_are : (s : List ℕ) → map line_call (lines_in [] s ++ last_line (open_after [] s)) ≡ script_rows s
rows_are s = ap (λ (ls : List (List ℕ)). map line_call ls) (sym (lines_are s)) ∙ kept-rows (lines_of s)

-- ---- lines behind others

left-append : (ls ms : List (List ℕ)) (w : World Board) → (lines_do (ls ++ ms) w).last ≡ (lines_do ms (lines_do ls w).last).last
left-append [] ms w = refl
left-append (l ∷ ls) ms w = left-append ls ms (row_does (line_call l) w).left

-- what is printed of lines ms, done behind the lines ls
abbrev notes_behind : ℕ → List (List ℕ) → List (List ℕ) → World Board → List ℕ
notes_behind n ls ms w = notes_of (number_behind n ls) (lines_do ms (lines_do ls w).last).answers

notes-append : (n : ℕ) (ls ms : List (List ℕ)) (w : World Board) →
    notes_of n (lines_do (ls ++ ms) w).answers ≡ notes_of n (lines_do ls w).answers ++ notes_behind n ls ms w
notes-append n [] ms w = refl
notes-append n (l ∷ ls) ms w =
    let d = row_does (line_call l) w in
    ap (λ (t : List ℕ). note_of n d.answer ++ t) (notes-append (number_after n) ls ms d.left)
    ∙ sym
    (append_assoc (note_of n d.answer) (notes_of (number_after n) (lines_do ls d.left).answers) (notes_behind (number_after n) ls ms d.left))

behind-append : (n : ℕ) (ls ms : List (List ℕ)) → number_behind n (ls ++ ms) ≡ number_behind (number_behind n ls) ms
behind-append n [] ms = refl
behind-append n (l ∷ ls) ms = behind-append (number_after n) ls ms

-- ---- going on

pub goes_none : (x : Session) (s log : List ℕ) → Goes x s log [] x s log
goes_none x s log = record { text_is = refl; left_is = refl; open_is = refl; line_is = refl }

pub goes_on : {x y z : Session} {s t u log log' log'' a b : List ℕ} → Goes x s log a y t log' → Goes y t log' b z u log'' → Goes x s log (a ++ b) z u log''
goes_on {x} {y} {z} {s} {t} {u} {log} {log'} {log''} {a} {b} f g =
    record {
      text_is = f.text_is ∙ ap (λ (e : List ℕ). a ++ e) g.text_is ∙ sym (append_assoc a b (notes_in z u log''));
      left_is = f.left_is ∙ g.left_is;
      open_is = f.open_is ∙ g.open_is;
      line_is = f.line_is ∙ g.line_is;
    }

pub goes-text : {x y : Session} {s t log log' a b : List ℕ} → a ≡ b → Goes x s log a y t log' → Goes x s log b y t log'
goes-text {x} {y} {s} {t} {log} {log'} e g = subst (λ (c : List ℕ). Goes x s log c y t log') e g

-- the input goes on behind what is known of it
module _ (x : Session) (s q log : List ℕ) where
  notes-more :
      notes_in x (s ++ q) log
      ≡ notes_in x s log
      ++ notes_of (number_behind x.reader.line (lines_in (kept_by x.reader) s)) (lines_do (lines_in (open_after (kept_by x.reader) s) q) (done_in x s log).last).answers
  notes-more =
      let k = kept_by x.reader in
      ap (λ (ls : List (List ℕ)). notes_of x.reader.line (lines_do ls (world_of x log)).answers) (in-append k s q)
      ∙ notes-append x.reader.line (lines_in k s) (lines_in (open_after k s) q) (world_of x log)

  left-more : (done_in x (s ++ q) log).last ≡ (lines_do (lines_in (open_after (kept_by x.reader) s) q) (done_in x s log).last).last
  left-more =
      let k = kept_by x.reader in
      ap (λ (ls : List (List ℕ)). (lines_do ls (world_of x log)).last) (in-append k s q)
      ∙ left-append (lines_in k s) (lines_in (open_after k s) q) (world_of x log)

  line-more :
      number_behind x.reader.line (lines_in (kept_by x.reader) (s ++ q))
      ≡ number_behind (number_behind x.reader.line (lines_in (kept_by x.reader) s)) (lines_in (open_after (kept_by x.reader) s) q)
  line-more =
      let k = kept_by x.reader in
      ap (number_behind x.reader.line) (in-append k s q) ∙ behind-append x.reader.line (lines_in k s) (lines_in (open_after k s) q)

pub goes-more : (q : List ℕ) {x y : Session} {s t log log' a : List ℕ} → Goes x s log a y t log' → Goes x (s ++ q) log a y (t ++ q) log'
goes-more q {x} {y} {s} {t} {log} {log'} {a} g =
    record {
      text_is =
          notes-more x s q log
          ∙ (λ i. g.text_is i ++ notes_of (g.line_is i) (lines_do (lines_in (g.open_is i) q) (g.left_is i)).answers)
          ∙ append_assoc a (notes_in y t log') _
          ∙ ap (λ (e : List ℕ). a ++ e) (sym (notes-more y t q log'));
      left_is = left-more x s q log ∙ (λ i. (lines_do (lines_in (g.open_is i) q) (g.left_is i)).last) ∙ sym (left-more y t q log');
      open_is =
          after-append (kept_by x.reader) s q
          ∙ ap (λ (k : List ℕ). open_after k q) g.open_is
          ∙ sym (after-append (kept_by y.reader) t q);
      line_is =
          line-more x s q log ∙ (λ i. number_behind (g.line_is i) (lines_in (g.open_is i) q)) ∙ sym (line-more y t q log');
    }

-- piece behind piece
pub goes-piece : {x y z : Session} {p q log log' log'' a b : List ℕ} → Goes x p log a y [] log' → Goes y q log' b z [] log'' →
    Goes x (p ++ q) log (a ++ b) z [] log''
goes-piece {q = q} f g = goes_on (goes-more q f) g

-- whatever was printed
pub went-none : (x : Session) (s log : List ℕ) → Went x s log x s log
went-none x s log = record { text = []; goes = goes_none x s log }

pub went_on : {x y z : Session} {s t u log log' log'' a : List ℕ} → Went x s log y t log' → Goes y t log' a z u log'' → Went x s log z u log''
went_on {a = a} f g = record { text = f.text ++ a; goes = goes_on f.goes g }

-- past the end of a piece nothing is left of it
pub went-all : {x y : Session} {s log log' : List ℕ} (p : List ℕ) (at : ℕ) → length p ≤ at → Went x s log y (drop at p) log' → Went x s log y [] log'
went-all {x} {y} {s} {log} {log'} p at h w = subst (λ (t : List ℕ). Went x s log y t log') (drop_of_length-le p {i = at} h) w

-- ---- the last turn of the loop

module _ (x y : Session) (p : List ℕ) (at : ℕ) (log : List ℕ) (same : y.board ≡ x.board) where
  -- the piece ended first
  pub goes-open : ReadsOn x.reader p at None y.reader → Goes x (drop at p) log [] y (drop (length p) p) log
  unfolding lines_in open_after
  goes-open e =
      let d : drop (length p) p ≡ [] = drop_of_length-le p {i = length p} (omega arith) in
      let rest : lines_in (kept_by x.reader) (drop at p) ≡ lines_in (kept_by y.reader) (drop (length p) p) = e.lines ∙ ap (lines_in (kept_by y.reader)) (sym d) in
      let line = sym e.same in
      let board = sym same in
      record {
        text_is = λ i. notes_of (line i) (lines_do (rest i) (world (board i) log)).answers;
        left_is = λ i. (lines_do (rest i) (world (board i) log)).last;
        open_is = e.after ∙ ap (open_after (kept_by y.reader)) (sym d);
        line_is = λ i. number_behind (line i) (rest i);
      }

-- ---- a whole script

module _ (x y : Session) (s log text log' : List ℕ) (r : Ended) (log'' : List ℕ) (start : Starts x) (g : Goes x s log text y [] log') (e : Ends y log' r log'') where
  -- Read in any pieces from a fresh board, a script prints of its lines, and leaves, what its rows do.
  pub script-done :
      let a : All Reply (World Board) = rows_do (script_rows s) (world fresh_board log) in
      (text ++ text_of r.note ≡ notes_of 1 a.answers) × (world r.board log'' ≡ a.last)
  unfolding lines_in open_after
  script-done =
      let w = world fresh_board log in
      let o = sym start.open_is in
      let n = sym start.line_is in
      let b = sym start.board_is in
      let opened : open_after [] s ≡ kept_by y.reader = ap (λ (k : List ℕ). open_after k s) o ∙ g.open_is in
      let left : (lines_do (lines_in [] s) w).last ≡ world_of y log' =
      (λ i. (lines_do (lines_in (o i) s) (world (b i) log)).last) ∙ g.left_is in
      let line : number_behind 1 (lines_in [] s) ≡ y.reader.line =
      (λ i. number_behind (n i) (lines_in (o i) s)) ∙ g.line_is in
      let said : notes_of 1 (lines_do (lines_in [] s) w).answers ≡ text =
      (λ i. notes_of (n i) (lines_do (lines_in (o i) s) (world (b i) log)).answers)
      ∙ g.text_is
      ∙ append-nil text in (
        ap (λ (t : List ℕ). text ++ t) e.text_is
            ∙ sym (λ i. said i ++ notes_of (line i) (lines_do (last_line (opened i)) (left i)).answers)
            ∙ sym (notes-append 1 (lines_in [] s) (last_line (open_after [] s)) w)
            ∙ ap (λ (os : List (Option Call)). notes_of 1 (rows_do os w).answers) (rows_are s),
        e.left_is
            ∙ sym (λ i. (lines_do (last_line (opened i)) (left i)).last)
            ∙ sym (left-append (lines_in [] s) (last_line (open_after [] s)) w)
            ∙ ap (λ (os : List (Option Call)). (rows_do os w).last) (rows_are s),
      )

  -- and that is the replay of the calls that its lines are: what is printed of each line, the board, and every byte of the log
  pub script-replayed :
      let p : All Reply (State Board Record) = replayed (calls_in (script_rows s)) log in
      (text ++ text_of r.note ≡ notes_of 1 (answers_to (script_rows s) p.answers))
      × (r.board ≡ p.last.board)
      × (log'' ≡ p.last.log)
  script-replayed =
      let d = script-done in
      let q = rows-replayed (script_rows s) log in (
        d.0 ∙ ap (λ (a : All Reply (World Board)). notes_of 1 a.answers) q,
        ap (λ (w : World Board). w.board) d.1 ∙ ap (λ (a : All Reply (World Board)). a.last.board) q,
        ap (λ (w : World Board). w.log) d.1 ∙ ap (λ (a : All Reply (World Board)). a.last.log) q,
      )

  -- with the held records and the end line behind it, all is printed that 01 says
  pub script-printed : text ++ text_of r.note ++ shown_at_end (world r.board log'') ≡ printed s log
  script-printed =
      let d = script-done in
      λ i. d.0 i ++ shown_at_end (d.1 i)
