-- What is printed between the notes and the end line: the records of the replay's row since the last accepted clear, one line each.
use Prim.Native.Nat.{ℕ, ◌*◌}
use mathlib.Core.Path.{◌≡◌, sym, ap, ◌∙◌}
use mathlib.Core.List.{List, ◌++◌}
use lib.ListN.{length, drop, take-append-drop}
use Rattle.board.specs.declared.Board.{Board}
use Rattle.board.specs.declared.log.Record.{Record}
use Rattle.board.specs.declared.call.Call.{Call}
use Rattle.board.specs.Log.{record_width}
use Rattle.board.specs.Cut.{All}
use Rattle.board.specs.Replay.{World, State}
use Rattle.board.specs.Call.{Reply}
use Rattle.board.specs.Row.{calls_in, answers_to}
use Rattle.board.specs.Lists.{replayed, since_clear}
use Rattle.board.proofs.lists.Held.{held-since, since-unpacks}
use Rattle.board.proofs.lists.Executing.{rows-replayed}
use Rattle.script.specs.Output.{record_lines, line_each, end_line}
use Rattle.script.specs.Run.{script_rows, notes_of, shown_at_end, printed}
use Rattle.script.proofs.output.Showing.{lines-each}

-- after every list of calls
pub held-shown : (cs : List Call) (log : List ℕ) →
    let s = (replayed cs log).last in
    record_lines s.board.held s.log ≡ line_each (since_clear cs log)
held-shown cs log =
    let s = (replayed cs log).last in
    let n = record_width * s.board.held in
    let h = held-since cs log in
    (λ i. record_lines (h.0 i) (sym (take-append-drop n s.log) i))
    ∙ ap (λ (l : List ℕ). record_lines (length (since_clear cs log)) (l ++ drop n s.log)) h.1
    ∙ lines-each (since_clear cs log) (drop n s.log) (since-unpacks cs log)

-- and so of every script: the notes of its lines, those records, and the end line
pub script-shown : (s log : List ℕ) →
    let p : All Reply (State Board Record) = replayed (calls_in (script_rows s)) log in
    printed s log
    ≡ notes_of 1 (answers_to (script_rows s) p.answers)
    ++ (line_each (since_clear (calls_in (script_rows s)) log) ++ end_line p.last.board.clock.0 p.last.board.held)
script-shown s log =
    let p : All Reply (State Board Record) = replayed (calls_in (script_rows s)) log in
    ap (λ (a : All Reply (World Board)). notes_of 1 a.answers ++ shown_at_end a.last) (rows-replayed (script_rows s) log)
    ∙ ap (λ (l : List ℕ). notes_of 1 (answers_to (script_rows s) p.answers) ++ (l ++ end_line p.last.board.clock.0 p.last.board.held))
    (held-shown (calls_in (script_rows s)) log)
