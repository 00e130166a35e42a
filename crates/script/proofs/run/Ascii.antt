-- What is printed of a line that lacks its LF is ASCII, and shorter than a line's room.
use Prim.Native.Nat.{ℕ}
use mathlib.Core.Path.{sym, subst}
use mathlib.Core.List.{List, [], ◌∷◌, append-nil}
use Rattle.board.specs.declared.Board.{Board}
use Rattle.board.specs.Replay.{World}
use Rattle.board.specs.Row.{row_does}
use Rattle.script.specs.Grammar.{line_call}
use Rattle.script.specs.Lines.{last_line}
use Rattle.script.specs.Output.{note_of}
use Rattle.script.specs.Text.{text_of}
use Rattle.script.specs.declared.run.Session.{Session}
use Rattle.script.specs.declared.run.Ended.{Ended}
use Rattle.script.specs.Run.{notes_of, lines_do, Ends}
use Rattle.script.proofs.text.Ascii.{AsciiWithin}
use Rattle.script.proofs.output.Ascii.{printed_most, empty-ascii, note-ascii}

last-ascii : (line : ℕ) (kept : List ℕ) (w : World Board) → AsciiWithin printed_most (notes_of line (lines_do (last_line kept) w).answers)
last-ascii line [] w = empty-ascii
last-ascii line (b ∷ p) w =
    let a = (row_does (line_call (b ∷ p)) w).answer in
    subst (AsciiWithin printed_most) (sym (append-nil (note_of line a))) (note-ascii line a)

pub ends-ascii : {x : Session} {log : List ℕ} {r : Ended} {log' : List ℕ} → Ends x log r log' → AsciiWithin printed_most (text_of r.note)
ends-ascii e = subst (AsciiWithin printed_most) (sym e.text_is) (last-ascii _ _ _)
