use Rattle.script.specs.Grammar.{fields_of}
use Rattle.script.proofs.grammar.Rows.{call-some}
use Rattle.script.proofs.grammar.parse_text.Goals as goal

pub returns : goal.returns
returns c = call-some (fields_of c.args.text.now) c.in_ok-read_row.field-0 c.in_ok-read_row.ensures.row c.call_row.ensures
