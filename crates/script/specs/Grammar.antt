-- The grammar of a script line (01, "Script lines"): the call that the bytes of a line are, its LF with them.
use Rattle.std.specs.Prelude.{ℕ, zero, suc, ◌-◌, cond, ◌&&◌, List, [], ◌∷◌, ◌++◌, leb, eqb, ℤ, pos, length, take, get_or, replicate, Option, Some, None}
use Rattle.board.specs.declared.call.Call.{Call}
use Rattle.board.specs.Row.{plain_at}
use Rattle.script.specs.Bytes.{lf, comma}
use Rattle.script.specs.Lines.{ahead, line_most}
use Rattle.script.specs.Number.{number_of}
use Rattle.script.specs.declared.word.CodedForm.{CodedForm}
use Rattle.script.specs.Word.{code_of, numbers_after, form_of}
use Rattle.script.specs.declared.grammar.Row.{Row}

-- ---- fields

-- the fields of a text, parted by commas: one more than there are commas
unfoldable pub fields_of : List ℕ → List (List ℕ)
fields_of [] = [] ∷ []
fields_of (b ∷ s) = cond (eqb b comma) ([] ∷ fields_of s) (ahead b (fields_of s))

-- ---- numbers

-- a number ahead of others, if all are numbers
abbrev pub ahead_of : Option ℤ → Option (List ℤ) → Option (List ℤ)
ahead_of (Some z) (Some zs) = Some (z ∷ zs)
ahead_of (Some z) None = None
ahead_of None o = None

-- so many numbers, no more and no fewer
unfoldable pub numbers_of : ℕ → List (List ℕ) → Option (List ℤ)
numbers_of zero [] = Some []
numbers_of zero (f ∷ fs) = None
numbers_of (suc k) [] = None
numbers_of (suc k) (f ∷ fs) = ahead_of (number_of f) (numbers_of k fs)

-- ---- lines

-- the call of a code and its numbers, if they are numbers
abbrev pub row_call : ℕ → Option (List ℤ) → Option Call
row_call c (Some zs) = plain_at (pos c ∷ zs)
row_call c None = None

-- a word, and the numbers that it takes
abbrev pub fields_call : List (List ℕ) → Option Call
fields_call [] = None
fields_call (w ∷ fs) = row_call (code_of w) (numbers_of (numbers_after (code_of w)) fs)

-- the call of a line; none is 9
unfoldable pub line_call : List ℕ → Option Call
line_call l =
    let n = length l - 1 in
    cond (leb (length l) line_most && eqb (get_or l n 0) lf) (fields_call (fields_of (take n l))) None

-- ---- what the code finds

-- numbers, and zeros behind them, six in all
abbrev pub padded : List ℤ → List ℤ
padded zs = zs ++ replicate (6 - length zs) (pos 0)

-- a code and the numbers behind it
abbrev pub row_with : ℕ → Option (List ℤ) → Option Row
row_with c None = None
row_with c (Some zs) = Some (record { code = c; numbers = padded zs })

abbrev pub row_from : Option CodedForm → List (List ℕ) → Option Row
row_from None fs = None
row_from (Some f) fs = row_with f.code (numbers_of f.count fs)

-- the row of a line's fields, if they are a form's
abbrev pub fields_row : List (List ℕ) → Option Row
fields_row [] = None
fields_row (w ∷ fs) = row_from (form_of w) fs
