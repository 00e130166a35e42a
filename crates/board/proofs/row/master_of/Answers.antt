use Rattle.board.proofs.row.Encoding.{master_read}
use borrow.Author.Rules.{rules}
use mathlib.Core.Path.{◌∙◌, sym}
use Rattle.board.proofs.row.master_of.Goals as goal

pub returns : goal.returns
returns c = master_read c.args.row (search rules) (search rules) (search rules) (sym c.capped.ensures ∙ c.in_ok-n.was) c.pairs_of.ensures
