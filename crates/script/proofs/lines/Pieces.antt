-- The laws of lines that come in pieces: however the input is cut, its lines are the same.
use Prim.Native.Nat.{ℕ, zero, suc, ◌+◌, ◌-◌, ◌%◌, ◌≤◌, ◌<◌, min}
use mathlib.Core.Path.{◌≡◌, refl, sym, ap, ◌∙◌}
use mathlib.Core.List.{List, [], ◌∷◌, ◌++◌, append_assoc, append-nil}
use mathlib.Core.Bool.{Bool, true, false, cond}
use native.Mathlib.Omega.{arith}
use native.Mathlib.Numerals.{add-one}
use lib.ListN.{length, get_or, drop, take, length-take, length-drop, drop_of_length-le}
use lib.Seq.{drop-drop, length-take-le, take_all, take-append-le, take-append-add, append_snoc}
use lib.Dec.{leb, ltb, eqb}
use borrow.Author.Tests.{leb-true, leb-false, ltb-false}
use Rattle.std.proofs.Common.{Some, None}
use Rattle.std.specs.List.{position, position_or_len}
use borrow.Rule.Slice.PartMut.{put_mid}
use Rattle.std.proofs.lemmas.Slice.{take-put_mid}
use Rattle.std.proofs.lemmas.List.{take_min}
use Rattle.std.proofs.lemmas.List.Sums.{fails_before_first}
use Rattle.std.proofs.lemmas.List.Quantifiers.{position-Some}
use Rattle.script.specs.declared.lines.Reader.{Reader}
use Rattle.script.specs.Lines.{ahead, lines_of, number_after, number_behind, kept, more, lines_in, open_after, last_line, lines_over, joined_pieces, kept_by, ReadsOn}

-- ---- what is kept

-- a byte more of what is kept
more-kept : (p : List ℕ) (b : ℕ) → more (take 65 p) b ≡ take 65 (p ++ (b ∷ []))
more-kept p b = go (leb (length p) 65) refl
  where
    go : (t : Bool) → leb (length p) 65 ≡ t → more (take 65 p) b ≡ take 65 (p ++ (b ∷ []))
    go true e = ap (λ (x : List ℕ). more x b) (take_all 65 p (leb-true (length p) 65 e))
    go false e =
        let h = leb-false (length p) 65 e in
        let m = length-take-le 65 p (omega arith) in
        take-append-le 65 (take 65 p) (b ∷ []) (omega arith)
        ∙ take_all 65 (take 65 p) (omega arith)
        ∙ sym (take-append-le 65 p (b ∷ []) (omega arith))

-- no byte of a text is an LF
abbrev Whole : List ℕ → Type 0
Whole s = (k : ℕ) → k < length s → eqb (get_or s k 0) 10 ≡ false

-- a text without LF is kept behind what is
run-in : (p s : List ℕ) → Whole s → lines_in (take 65 p) s ≡ []
unfolding lines_in
run-in p [] h = refl
run-in p (b ∷ s) h =
    rw (h 0 (omega arith))
    (ap (λ (x : List ℕ). lines_in x s) (more-kept p b) ∙ run-in (p ++ (b ∷ [])) s (λ k l. h (suc k) (omega arith)))

run-after : (p s : List ℕ) → Whole s → open_after (take 65 p) s ≡ take 65 (p ++ s)
unfolding open_after
run-after p [] h = ap (take 65) (sym (append-nil p))
run-after p (b ∷ s) h =
    rw (h 0 (omega arith))
    (ap (λ (x : List ℕ). open_after x s) (more-kept p b)
    ∙ run-after (p ++ (b ∷ [])) s (λ k l. h (suc k) (omega arith))
    ∙ ap (take 65) (append_assoc p (b ∷ []) s))

-- and a line to its LF
end-in : (p s : List ℕ) (i : ℕ) → i < length s → eqb (get_or s i 0) 10 ≡ true → ((k : ℕ) → k < i → eqb (get_or s k 0) 10 ≡ false) →
    lines_in (take 65 p) s ≡ take 65 (p ++ take (suc i) s) ∷ lines_in [] (drop (suc i) s)
unfolding lines_in
end-in p [] i l e h = absurd (omega arith)
end-in p (b ∷ s) zero l e h = rw e (ap (λ (x : List ℕ). x ∷ lines_in [] s) (more-kept p b))
end-in p (b ∷ s) (suc i) l e h =
    rw (h 0 (omega arith))
    (ap (λ (x : List ℕ). lines_in x s) (more-kept p b)
    ∙ end-in (p ++ (b ∷ [])) s i (omega arith) e (λ k m. h (suc k) (omega arith))
    ∙ ap (λ (x : List ℕ). take 65 x ∷ lines_in [] (drop (suc i) s)) (append_assoc p (b ∷ []) (take (suc i) s)))

end-after : (p s : List ℕ) (i : ℕ) → i < length s → eqb (get_or s i 0) 10 ≡ true → ((k : ℕ) → k < i → eqb (get_or s k 0) 10 ≡ false) →
    open_after (take 65 p) s ≡ open_after [] (drop (suc i) s)
unfolding open_after
end-after p [] i l e h = absurd (omega arith)
end-after p (b ∷ s) zero l e h = rw e refl
end-after p (b ∷ s) (suc i) l e h =
    rw (h 0 (omega arith))
    (ap (λ (x : List ℕ). open_after x s) (more-kept p b)
    ∙ end-after (p ++ (b ∷ [])) s i (omega arith) e (λ k m. h (suc k) (omega arith)))

-- no place of an LF
whole-none : (s : List ℕ) → None ≡ position (λ b. eqb b 10) s → Whole s
whole-none s e = go (ltb n (length s)) refl e
  where
    n : ℕ
    n = position_or_len (λ b. eqb b 10) s

    go : (t : Bool) → ltb n (length s) ≡ t → None ≡ cond t (Some n) None → Whole s
    go true q z = cc
    go false q z =
        let l = ltb-false n (length s) q in
        λ k h. fails_before_first (λ b. eqb b 10) s k 0 (omega arith)

-- as many bytes more are kept as there is room for
pub kept_put : (s more put : List ℕ) (n from end : ℕ) → length s ≡ 65 → from ≡ length (take n s) → end ≡ min 65 (from + length more) → put ≡ take (end - from) more →
    take end (put_mid from (end - from) s put) ≡ take 65 (take n s ++ more)
kept_put s more put n from end l f e p =
    let k = take n s in
    let least : min (65 - from) (length more) ≡ end - from = omega (arith, length-take n s) in
    let m : length put ≡ end - from = ap length p ∙ length-take-le (end - from) more (omega arith) in
    let room : length k + (65 - from) ≡ 65 = omega (arith, length-take n s) in
    take-put_mid from (end - from) s put end (omega (arith, length-take n s)) (omega (arith, length-take n s))
    ∙ (λ i. take-length n s from f i ++ (p ∙ ap (λ (n : ℕ). take n more) (sym least) ∙ take_min (65 - from) more) i)
    ∙ sym (take-append-add k more (65 - from))
    ∙ ap (λ (n : ℕ). take n (k ++ more)) room
  where
    take-length : (n : ℕ) (s : List ℕ) (from : ℕ) → from ≡ length (take n s) → take from s ≡ take n s
    take-length n s from f = ap (λ (k : ℕ). take k s) (f ∙ length-take n s) ∙ take_min n s

-- past the end of a piece there is nothing
pub reads-none : (r : Reader) (piece : List ℕ) (at : ℕ) → length piece ≤ at → ReadsOn r piece at None r
unfolding lines_in open_after
reads-none r piece at h =
    let d : drop at piece ≡ [] = drop_of_length-le piece {i = at} h in
    record { lines = ap (lines_in (kept_by r)) d; after = ap (open_after (kept_by r)) d; same = refl; further = tt }

module _ (r r' : Reader) (piece : List ℕ) (at : ℕ) (rest : List ℕ) (cut : rest ≡ take (length piece - at) (drop at piece)) (fits : length r.bytes ≡ 65) (same : r'.line ≡ r.line) where
  rest_is : rest ≡ drop at piece
  rest_is =
      let l = length-drop at piece in
      cut ∙ take_all (length piece - at) (drop at piece) (omega arith)

  kept_all : take 65 (kept_by r) ≡ kept_by r
  kept_all =
      let m = length-take r.length r.bytes in
      take_all 65 (kept_by r) (omega arith)

  -- no line ends in the rest
  pub reads-open : None ≡ position (λ b. eqb b 10) rest → kept_by r' ≡ take 65 (kept_by r ++ rest) → ReadsOn r piece at None r'
  reads-open e k =
      let w = whole-none rest e in
      record {
        lines = (λ i. lines_in (sym kept_all i) (sym rest_is i)) ∙ run-in (kept_by r) rest w;
        after = (λ i. open_after (sym kept_all i) (sym rest_is i)) ∙ run-after (kept_by r) rest w ∙ sym k;
        same = same;
        further = tt;
      }

  -- a line ends at the byte i of the rest
  pub reads-end : (i : ℕ) → Some i ≡ position (λ b. eqb b 10) rest → kept_by r' ≡ take 65 (kept_by r ++ take (i + 1) rest) → ReadsOn r piece at (Some (at + i + 1)) r'
  reads-end i e k =
      let f = position-Some (λ b. eqb b 10) rest i 0 (sym e) in
      let l = ap length rest_is ∙ length-drop at piece in
      let q : drop (suc i) rest ≡ drop (at + i + 1) piece =
      ap (λ (x : List ℕ). drop (suc i) x) rest_is ∙ drop-drop (suc i) at piece ∙ ap (λ (n : ℕ). drop n piece) (omega arith) in
      let z = ap (λ (n : ℕ). take 65 (kept_by r ++ take n rest)) (sym (add-one i)) ∙ sym k in
      record {
        lines =
            (λ j. lines_in (sym kept_all j) (sym rest_is j))
            ∙ end-in (kept_by r) rest i f.0 f.1 f.2
            ∙ (λ j. z j ∷ lines_in [] (q j));
        after =
            (λ j. open_after (sym kept_all j) (sym rest_is j))
            ∙ end-after (kept_by r) rest i f.0 f.1 f.2
            ∙ ap (open_after []) q;
        same = same;
        further = (omega arith, omega (arith, f.0, l));
      }

-- ---- pieces

-- two pieces have the lines of the one that they make
pub in-append : (k p q : List ℕ) → lines_in k (p ++ q) ≡ lines_in k p ++ lines_in (open_after k p) q
unfolding lines_in open_after
in-append k [] q = refl
in-append k (b ∷ p) q = go (eqb b 10) (in-append [] p q) (in-append (more k b) p q)
  where
    go : (t : Bool) → lines_in [] (p ++ q) ≡ lines_in [] p ++ lines_in (open_after [] p) q →
        lines_in (more k b) (p ++ q) ≡ lines_in (more k b) p ++ lines_in (open_after (more k b) p) q →
        cond t (more k b ∷ lines_in [] (p ++ q)) (lines_in (more k b) (p ++ q))
        ≡ cond t (more k b ∷ lines_in [] p) (lines_in (more k b) p) ++ lines_in (cond t (open_after [] p) (open_after (more k b) p)) q
    go true e f = ap (λ (l : List (List ℕ)). more k b ∷ l) e
    go false e f = f

-- and leave open what it leaves open
pub after-append : (k p q : List ℕ) → open_after k (p ++ q) ≡ open_after (open_after k p) q
unfolding open_after
after-append k [] q = refl
after-append k (b ∷ p) q = go (eqb b 10) (after-append [] p q) (after-append (more k b) p q)
  where
    go : (t : Bool) → open_after [] (p ++ q) ≡ open_after (open_after [] p) q → open_after (more k b) (p ++ q) ≡ open_after (open_after (more k b) p) q →
        cond t (open_after [] (p ++ q)) (open_after (more k b) (p ++ q)) ≡ open_after (cond t (open_after [] p) (open_after (more k b) p)) q
    go true e f = e
    go false e f = f

-- ---- numbers

-- lines are counted one by one, in 64 bits
pub number_behind_lem : (n : ℕ) (ls : List (List ℕ)) → n < 18446744073709551616 → number_behind n ls ≡ (n + length ls) % 18446744073709551616
number_behind_lem n [] h = omega arith
number_behind_lem n (l ∷ ls) h =
    let m : number_after n < 18446744073709551616 = omega arith in
    number_behind_lem (number_after n) ls m ∙ omega arith

-- ---- the lines of an input, byte by byte

-- bytes ahead of the first line
abbrev joined : List ℕ → List (List ℕ) → List (List ℕ)
joined p [] = last_line p
joined p (l ∷ ls) = (p ++ l) ∷ ls

joined-none : (ls : List (List ℕ)) → joined [] ls ≡ ls
joined-none [] = refl
joined-none (l ∷ ls) = refl

last_more : (p : List ℕ) (b : ℕ) → last_line (p ++ (b ∷ [])) ≡ (p ++ (b ∷ [])) ∷ []
last_more [] b = refl
last_more (a ∷ p) b = refl

joined-ahead : (p : List ℕ) (b : ℕ) (ls : List (List ℕ)) → joined p (ahead b ls) ≡ joined (p ++ (b ∷ [])) ls
joined-ahead p b [] = sym (last_more p b)
joined-ahead p b (l ∷ ls) = ap (λ (x : List ℕ). x ∷ ls) (sym (append_snoc p b l))

last-kept : (p : List ℕ) → kept (last_line p) ≡ last_line (take 65 p)
last-kept [] = refl
last-kept (b ∷ p) = refl

lines_from : (p s : List ℕ) → kept (joined p (lines_of s)) ≡ lines_in (take 65 p) s ++ last_line (open_after (take 65 p) s)
unfolding lines_in open_after lines_of
lines_from p [] = last-kept p
lines_from p (b ∷ s) = go (eqb b 10) (lines_from [] s) (lines_from (p ++ (b ∷ [])) s)
  where
    go : (t : Bool) → kept (joined [] (lines_of s)) ≡ lines_in [] s ++ last_line (open_after [] s) →
        kept (joined (p ++ (b ∷ [])) (lines_of s)) ≡ lines_in (take 65 (p ++ (b ∷ []))) s ++ last_line (open_after (take 65 (p ++ (b ∷ []))) s) →
        kept (joined p (cond t ((b ∷ []) ∷ lines_of s) (ahead b (lines_of s))))
        ≡ cond t (more (take 65 p) b ∷ lines_in [] s) (lines_in (more (take 65 p) b) s)
        ++ last_line (cond t (open_after [] s) (open_after (more (take 65 p) b) s))
    go true e f =
        ap (λ (x : List ℕ). x ∷ kept (lines_of s)) (sym (more-kept p b))
        ∙ ap (λ (x : List (List ℕ)). more (take 65 p) b ∷ x) (ap kept (sym (joined-none (lines_of s))) ∙ e)
    go false e f =
        ap kept (joined-ahead p b (lines_of s))
        ∙ f
        ∙ ap (λ (x : List ℕ). lines_in x s ++ last_line (open_after x s)) (sym (more-kept p b))

-- the lines of the input, as they are kept
pub lines_are : (s : List ℕ) → kept (lines_of s) ≡ lines_in [] s ++ last_line (open_after [] s)
lines_are s = ap kept (sym (joined-none (lines_of s))) ∙ lines_from [] s

-- pieces, read one after the other, have the lines of the joined_pieces
pieces_are : (k : List ℕ) (ps : List (List ℕ)) → lines_over k ps ≡ lines_in k (joined_pieces ps) ++ last_line (open_after k (joined_pieces ps))
unfolding lines_in open_after
pieces_are k [] = refl
pieces_are k (p ∷ ps) =
    let q = joined_pieces ps in
    ap (λ (x : List (List ℕ)). lines_in k p ++ x) (pieces_are (open_after k p) ps)
    ∙ sym (append_assoc (lines_in k p) (lines_in (open_after k p) q) (last_line (open_after (open_after k p) q)))
    ∙ ap (λ (x : List (List ℕ)). x ++ last_line (open_after (open_after k p) q)) (sym (in-append k p q))
    ∙ ap (λ (x : List ℕ). lines_in k (p ++ q) ++ last_line x) (sym (after-append k p q))

-- however the input is cut, its lines are those of the joined_pieces
pub lines_cut : (ps : List (List ℕ)) → lines_over [] ps ≡ kept (lines_of (joined_pieces ps))
lines_cut ps = pieces_are [] ps ∙ sym (lines_are (joined_pieces ps))
