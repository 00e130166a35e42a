-- 01's cases A and B, from the bytes of the script to the bytes that are printed.
use Rattle.std.specs.Prelude.{Option, Some}
use Prim.Native.Nat.{ℕ}
use mathlib.Core.Path.{◌≡◌, refl, ap, ◌∙◌}
use mathlib.Core.List.{List, [], ◌∷◌, ◌++◌, map}
use lib.ListN.{replicate}
use Rattle.board.specs.Log.{from_le, kind_test, signed_of, spelled, unpack_of}
use Rattle.board.specs.declared.Board.{Board}
use Rattle.board.specs.Cut.{All}
use Rattle.board.specs.Replay.{World}
use Rattle.board.specs.declared.call.Call.{Call}
use Rattle.board.specs.Call.{Reply, does}
use Rattle.board.specs.Row.{row_does, rows_do}
use Rattle.board.proofs.lists.Runs.{Shown, ran, seen, shown}
use Rattle.board.proofs.lists.Cards.{script_a, fresh, cards}
use Rattle.script.specs.Lines.{lines_of}
use Rattle.script.specs.Grammar.{line_call, fields_of, numbers_of}
use Rattle.script.specs.Number.{number_of, size_of, size_from}
use Rattle.script.specs.Word.{forms, same, code_from}
use Rattle.script.specs.Text.{digits_then}
use Rattle.script.specs.Output.{record_lines, end_line}
use Rattle.script.specs.Run.{script_rows, notes_of, printed}

-- ---- bytes

-- A's script
abbrev pub bytes_a : List ℕ
bytes_a =
    (116 ∷ 114 ∷ 97 ∷ 99 ∷ 107 ∷ 44 ∷ 48 ∷ 44 ∷ 48 ∷ 44 ∷ 49 ∷ 48 ∷ 10 ∷ [])  -- track,0,0,10
    ++ (115 ∷ 116 ∷ 97 ∷ 114 ∷ 116 ∷ 44 ∷ 48 ∷ 44 ∷ 50 ∷ 10 ∷ [])  -- start,0,2
    ++ (101 ∷ 110 ∷ 100 ∷ 44 ∷ 48 ∷ 44 ∷ 53 ∷ 10 ∷ [])  -- end,0,5
    ++ (108 ∷ 111 ∷ 111 ∷ 112 ∷ 115 ∷ 44 ∷ 48 ∷ 44 ∷ 50 ∷ 10 ∷ [])  -- loops,0,2
    ++ (112 ∷ 111 ∷ 105 ∷ 110 ∷ 116 ∷ 44 ∷ 48 ∷ 44 ∷ 50 ∷ 44 ∷ 55 ∷ 44 ∷ 48 ∷ 44 ∷ 48 ∷ 44 ∷ 48 ∷ 10 ∷ [])  -- point,0,2,7,0,0,0
    ++ (112 ∷ 111 ∷ 105 ∷ 110 ∷ 116 ∷ 44 ∷ 48 ∷ 44 ∷ 53 ∷ 44 ∷ 57 ∷ 44 ∷ 49 ∷ 44 ∷ 48 ∷ 44 ∷ 48 ∷ 10 ∷ [])  -- point,0,5,9,1,0,0
    ++ (97 ∷ 99 ∷ 116 ∷ 105 ∷ 111 ∷ 110 ∷ 44 ∷ 48 ∷ 44 ∷ 49 ∷ 44 ∷ 51 ∷ 44 ∷ 50 ∷ 48 ∷ 10 ∷ [])  -- action,0,1,3,20
    ++ (97 ∷ 99 ∷ 116 ∷ 105 ∷ 111 ∷ 110 ∷ 44 ∷ 48 ∷ 44 ∷ 49 ∷ 44 ∷ 48 ∷ 44 ∷ 50 ∷ 49 ∷ 10 ∷ [])  -- action,0,1,0,21
    ++ (112 ∷ 108 ∷ 97 ∷ 121 ∷ 44 ∷ 48 ∷ 10 ∷ [])  -- play,0
    ++ (97 ∷ 100 ∷ 118 ∷ 97 ∷ 110 ∷ 99 ∷ 101 ∷ 44 ∷ 49 ∷ 48 ∷ 10 ∷ [])  -- advance,10
    ++ (114 ∷ 101 ∷ 115 ∷ 117 ∷ 109 ∷ 101 ∷ 44 ∷ 48 ∷ 10 ∷ [])  -- resume,0
    ++ (97 ∷ 100 ∷ 118 ∷ 97 ∷ 110 ∷ 99 ∷ 101 ∷ 44 ∷ 49 ∷ 48 ∷ 10 ∷ [])  -- advance,10

-- what it prints
abbrev pub text_a : List ℕ
text_a =
    (49 ∷ 44 ∷ 48 ∷ 44 ∷ 49 ∷ 44 ∷ 55 ∷ 44 ∷ 48 ∷ 44 ∷ 50 ∷ 44 ∷ 48 ∷ 10 ∷ [])  -- 1,0,1,7,0,2,0
    ++ (52 ∷ 44 ∷ 48 ∷ 44 ∷ 49 ∷ 44 ∷ 57 ∷ 44 ∷ 48 ∷ 44 ∷ 53 ∷ 44 ∷ 48 ∷ 10 ∷ [])  -- 4,0,1,9,0,5,0
    ++ (52 ∷ 44 ∷ 48 ∷ 44 ∷ 50 ∷ 44 ∷ 50 ∷ 48 ∷ 44 ∷ 49 ∷ 57 ∷ 44 ∷ 53 ∷ 44 ∷ 49 ∷ 10 ∷ [])  -- 4,0,2,20,19,5,1
    ++ (49 ∷ 49 ∷ 44 ∷ 48 ∷ 44 ∷ 49 ∷ 44 ∷ 55 ∷ 44 ∷ 48 ∷ 44 ∷ 50 ∷ 44 ∷ 49 ∷ 10 ∷ [])  -- 11,0,1,7,0,2,1
    ++ (49 ∷ 52 ∷ 44 ∷ 48 ∷ 44 ∷ 49 ∷ 44 ∷ 57 ∷ 44 ∷ 48 ∷ 44 ∷ 53 ∷ 44 ∷ 49 ∷ 10 ∷ [])  -- 14,0,1,9,0,5,1
    ++ (49 ∷ 52 ∷ 44 ∷ 48 ∷ 44 ∷ 50 ∷ 44 ∷ 50 ∷ 49 ∷ 44 ∷ 49 ∷ 54 ∷ 44 ∷ 53 ∷ 44 ∷ 50 ∷ 10 ∷ [])  -- 14,0,2,21,16,5,2
    ++ (101 ∷ 110 ∷ 100 ∷ 44 ∷ 50 ∷ 48 ∷ 44 ∷ 54 ∷ 10 ∷ [])  -- end,20,6

-- what it prints with a log of 47 bytes: both advances stop short, and the resume between them is refused
abbrev pub text_b : List ℕ
text_b =
    (115 ∷ 104 ∷ 111 ∷ 114 ∷ 116 ∷ 44 ∷ 49 ∷ 48 ∷ 44 ∷ 51 ∷ 44 ∷ 49 ∷ 10 ∷ [])  -- short,10,3,1
    ++ (114 ∷ 101 ∷ 102 ∷ 117 ∷ 115 ∷ 101 ∷ 100 ∷ 44 ∷ 49 ∷ 49 ∷ 44 ∷ 50 ∷ 10 ∷ [])  -- refused,11,2
    ++ (115 ∷ 104 ∷ 111 ∷ 114 ∷ 116 ∷ 44 ∷ 49 ∷ 50 ∷ 44 ∷ 48 ∷ 44 ∷ 49 ∷ 10 ∷ [])  -- short,12,0,1
    ++ (49 ∷ 44 ∷ 48 ∷ 44 ∷ 49 ∷ 44 ∷ 55 ∷ 44 ∷ 48 ∷ 44 ∷ 50 ∷ 44 ∷ 48 ∷ 10 ∷ [])  -- 1,0,1,7,0,2,0
    ++ (101 ∷ 110 ∷ 100 ∷ 44 ∷ 51 ∷ 44 ∷ 49 ∷ 10 ∷ [])  -- end,3,1

-- ---- what is printed, from what the calls come to

rows-ran : (cs : List Call) (w : World Board) → rows_do (map Some cs) w ≡ ran cs w
unfolding row_does ran
rows-ran [] w = refl
rows-ran (c ∷ cs) w =
    ap (λ (a : All Reply (World Board)). record { answers = (does c w).answer ∷ a.answers; last = a.last }) (rows-ran cs (does c w).left)

abbrev printed_of : Shown → List ℕ
printed_of x = notes_of 1 x.answers ++ (record_lines x.held x.log ++ end_line x.clock x.held)

-- A's lines are its calls
rows-a : script_rows bytes_a ≡ map Some script_a
unfolding lines_of line_call fields_of number_of size_of size_from numbers_of forms same code_from
rows-a = refl

printed-shown : (n : ℕ) → printed bytes_a (replicate n 0) ≡ printed_of (shown script_a (fresh n))
printed-shown n =
    ap (λ (os : List (Option Call)). printed_of (seen (rows_do os (fresh n)))) rows-a
    ∙ ap (λ (a : All Reply (World Board)). printed_of (seen a)) (rows-ran script_a (fresh n))

-- ---- the cases

pub printed-a : printed bytes_a (replicate 96 0) ≡ text_a
unfolding ran from_le kind_test signed_of spelled unpack_of digits_then
printed-a = printed-shown 96 ∙ ap printed_of cards.a ∙ refl

pub printed-b : printed bytes_a (replicate 47 0) ≡ text_b
unfolding ran from_le kind_test signed_of spelled unpack_of digits_then
printed-b = printed-shown 47 ∙ ap printed_of cards.b ∙ refl
