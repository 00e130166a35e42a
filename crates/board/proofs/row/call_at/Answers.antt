use Rattle.board.proofs.row.Encoding.{row_plain}
use Rattle.board.specs.Row.{plain_at}
use borrow.Author.Rules.{rules}
use mathlib.Core.Path.{◌≡◌, ◌∙◌}
use Rattle.board.proofs.row.call_at.Goals as goal

pub returns : goal.returns
returns c =
    let e : c.call_of.result ≡ plain_at c.args.row.now = search rules in
    e ∙ row_plain c.args.row.now c.if-code-eq-MASTER.false
