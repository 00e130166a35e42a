use Rattle.script.specs.Grammar.{fields_of}
use Rattle.script.proofs.grammar.Fields.{left}
use Rattle.script.proofs.grammar.Rows.{Reading}
use Rattle.script.proofs.grammar.read_row.Given as goal

abbrev pub invariant-loop-number : goal.invariant-loop-number
invariant-loop-number l = Reading l.form (fields_of l.text) l.number-items l.number-index (left l.fields.done l.fields.rest.now)
