-- Lines, whole, by computing (01, "Script lines").
use Rattle.std.specs.Prelude.{Some, None}
use mathlib.Core.Path.{◌≡◌, refl}
use mathlib.Core.List.{[], ◌∷◌}
use lib.IntN.{pos, negsuc}
use Rattle.board.specs.declared.call.Call.TheVariants as call
use Rattle.script.specs.Grammar.{line_call, fields_of, numbers_of}
use Rattle.script.specs.Number.{number_of, size_of, size_from}
use Rattle.script.specs.Word.{forms, same, code_from}

-- track,0,0,10
track-line : line_call (116 ∷ 114 ∷ 97 ∷ 99 ∷ 107 ∷ 44 ∷ 48 ∷ 44 ∷ 48 ∷ 44 ∷ 49 ∷ 48 ∷ 10 ∷ []) ≡ Some (call.AddTrack (pos 0) (pos 0) (pos 10))
unfolding line_call fields_of number_of size_of size_from numbers_of forms same code_from
track-line = refl

-- advance,-1: the range is the call's affair
minus-line : line_call (97 ∷ 100 ∷ 118 ∷ 97 ∷ 110 ∷ 99 ∷ 101 ∷ 44 ∷ 45 ∷ 49 ∷ 10 ∷ []) ≡ Some (call.Advance (negsuc 0))
unfolding line_call fields_of number_of size_of size_from numbers_of forms same code_from
minus-line = refl

-- the greatest number
most-line : line_call (97 ∷ 100 ∷ 118 ∷ 97 ∷ 110 ∷ 99 ∷ 101 ∷ 44 ∷ 52 ∷ 50 ∷ 57 ∷ 52 ∷ 57 ∷ 54 ∷ 55 ∷ 50 ∷ 57 ∷ 53 ∷ 10 ∷ []) ≡ Some (call.Advance (pos 4294967295))
unfolding line_call fields_of number_of size_of size_from numbers_of forms same code_from
most-line = refl

-- and the least
least-line : line_call (97 ∷ 100 ∷ 118 ∷ 97 ∷ 110 ∷ 99 ∷ 101 ∷ 44 ∷ 45 ∷ 52 ∷ 50 ∷ 57 ∷ 52 ∷ 57 ∷ 54 ∷ 55 ∷ 50 ∷ 57 ∷ 53 ∷ 10 ∷ []) ≡ Some (call.Advance (negsuc 4294967294))
unfolding line_call fields_of number_of size_of size_from numbers_of forms same code_from
least-line = refl

-- one above
above-line : line_call (97 ∷ 100 ∷ 118 ∷ 97 ∷ 110 ∷ 99 ∷ 101 ∷ 44 ∷ 52 ∷ 50 ∷ 57 ∷ 52 ∷ 57 ∷ 54 ∷ 55 ∷ 50 ∷ 57 ∷ 54 ∷ 10 ∷ []) ≡ None
unfolding line_call fields_of number_of size_of size_from numbers_of forms same code_from
above-line = refl

-- a leading zero
zeros-line : line_call (112 ∷ 108 ∷ 97 ∷ 121 ∷ 44 ∷ 48 ∷ 48 ∷ 10 ∷ []) ≡ None
unfolding line_call fields_of number_of size_of size_from numbers_of forms same code_from
zeros-line = refl

-- -0
minus-zero-line : line_call (112 ∷ 108 ∷ 97 ∷ 121 ∷ 44 ∷ 45 ∷ 48 ∷ 10 ∷ []) ≡ None
unfolding line_call fields_of number_of size_of size_from numbers_of forms same code_from
minus-zero-line = refl

-- +1
plus-line : line_call (112 ∷ 108 ∷ 97 ∷ 121 ∷ 44 ∷ 43 ∷ 49 ∷ 10 ∷ []) ≡ None
unfolding line_call fields_of number_of size_of size_from numbers_of forms same code_from
plus-line = refl

-- a number too few
few-line : line_call (112 ∷ 108 ∷ 97 ∷ 121 ∷ 10 ∷ []) ≡ None
unfolding line_call fields_of number_of size_of size_from numbers_of forms same code_from
few-line = refl

-- a number too many
many-line : line_call (99 ∷ 108 ∷ 101 ∷ 97 ∷ 114 ∷ 44 ∷ 49 ∷ 10 ∷ []) ≡ None
unfolding line_call fields_of number_of size_of size_from numbers_of forms same code_from
many-line = refl

-- a blank
blank-line : line_call (112 ∷ 108 ∷ 97 ∷ 121 ∷ 44 ∷ 32 ∷ 49 ∷ 10 ∷ []) ≡ None
unfolding line_call fields_of number_of size_of size_from numbers_of forms same code_from
blank-line = refl

-- CR before the LF
cr-line : line_call (99 ∷ 108 ∷ 101 ∷ 97 ∷ 114 ∷ 13 ∷ 10 ∷ []) ≡ None
unfolding line_call fields_of number_of size_of size_from numbers_of forms same code_from
cr-line = refl

-- an empty line
empty-line : line_call (10 ∷ []) ≡ None
unfolding line_call fields_of number_of size_of size_from numbers_of forms same code_from
empty-line = refl

-- a line that lacks its LF
open-line : line_call (99 ∷ 108 ∷ 101 ∷ 97 ∷ 114 ∷ []) ≡ None
unfolding line_call fields_of number_of size_of size_from numbers_of forms same code_from
open-line = refl
