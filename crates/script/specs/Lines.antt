-- The lines of an input that comes in pieces (01, "Script lines").
use Rattle.std.specs.Prelude.{ℕ, suc, ◌+◌, ◌%◌, ◌≤◌, ◌<◌, ◌≡◌, cond, List, [], ◌∷◌, ◌++◌, map, eqb, length, take, drop, Option, Some, None, IfSome}
use Rattle.script.specs.declared.lines.Reader.{Reader}
use Rattle.script.specs.Bytes.{lf}

-- ---- what 01 says

-- a byte ahead of the first of several texts
abbrev pub ahead : ℕ → List (List ℕ) → List (List ℕ)
ahead b [] = (b ∷ []) ∷ []
ahead b (f ∷ fs) = (b ∷ f) ∷ fs

-- the lines of an input, each with its LF; the last may lack it
unfoldable pub lines_of : List ℕ → List (List ℕ)
lines_of [] = []
lines_of (b ∷ s) = cond (eqb b lf) ((b ∷ []) ∷ lines_of s) (ahead b (lines_of s))

-- the bytes of a line at most, its LF among them
abbrev pub line_most : ℕ
line_most = 64

-- the number behind a line's, in 64 bits
abbrev pub number_after : ℕ → ℕ
number_after n = (n + 1) % 18446744073709551616

-- the number of the line behind these, of which the first has the number n
abbrev pub number_behind : ℕ → List (List ℕ) → ℕ
number_behind n [] = n
number_behind n (l ∷ ls) = number_behind (number_after n) ls

-- ---- byte by byte

-- the bytes of a line that are kept: one more than a line has at most, which tells that it is too long
abbrev pub kept_most : ℕ
kept_most = suc line_most

-- what is kept of lines
abbrev pub kept : List (List ℕ) → List (List ℕ)
kept ls = map (take kept_most) ls

-- a byte more of a line, of which p is kept
abbrev pub more : List ℕ → ℕ → List ℕ
more p b = take kept_most (p ++ (b ∷ []))

-- the lines that end in s, as they are kept, where p is kept of the first
unfoldable pub lines_in : List ℕ → List ℕ → List (List ℕ)
lines_in p [] = []
lines_in p (b ∷ s) = cond (eqb b lf) (more p b ∷ lines_in [] s) (lines_in (more p b) s)

-- what is kept of the line that is open after s
unfoldable pub open_after : List ℕ → List ℕ → List ℕ
open_after p [] = p
open_after p (b ∷ s) = cond (eqb b lf) (open_after [] s) (open_after (more p b) s)

-- a line that is open at the end of the input lacks its LF; nothing read of it, it is none
abbrev pub last_line : List ℕ → List (List ℕ)
last_line [] = []
last_line (b ∷ p) = (b ∷ p) ∷ []

-- the lines of pieces, read one after the other, where k is kept of the first line
abbrev pub lines_over : List ℕ → List (List ℕ) → List (List ℕ)
lines_over k [] = last_line k
lines_over k (p ∷ ps) = lines_in k p ++ lines_over (open_after k p) ps

-- the input that pieces make
abbrev pub joined_pieces : List (List ℕ) → List ℕ
joined_pieces [] = []
joined_pieces (p ∷ ps) = p ++ joined_pieces ps

-- ---- what the code holds

abbrev pub kept_by : Reader → List ℕ
kept_by r = take r.length r.bytes

-- the lines that end in a piece behind a place, ahead of them the one that a reader keeps; none if there is no place, since the piece is used up
abbrev pub lines_behind : Reader → List ℕ → Option ℕ → List (List ℕ)
lines_behind r piece None = []
lines_behind r piece (Some next) = kept_by r ∷ lines_in [] (drop next piece)

-- what is kept of the line that is open after the piece
abbrev pub open_behind : Reader → List ℕ → Option ℕ → List ℕ
open_behind r piece None = kept_by r
open_behind r piece (Some next) = open_after [] (drop next piece)

-- From `at` on the reader has read the rest of a line, and the place behind it is next, or the rest of the piece.
pub record ReadsOn (r : Reader) (piece : List ℕ) (at : ℕ) (next : Option ℕ) (r' : Reader) : Type 0 where
  pub lines : lines_in (kept_by r) (drop at piece) ≡ lines_behind r' piece next
  pub after : open_after (kept_by r) (drop at piece) ≡ open_behind r' piece next
  pub same : r'.line ≡ r.line
  pub further : IfSome next (λ n. (at < n) × (n ≤ length piece))
