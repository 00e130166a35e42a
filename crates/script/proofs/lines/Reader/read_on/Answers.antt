use mathlib.Core.Path.{sym, ◌∙◌}
use native.Mathlib.Omega.{arith}
use borrow.Author.Rules.{rules}
use Rattle.script.proofs.lines.Pieces.{reads-none, reads-open, reads-end}
use Rattle.script.proofs.lines.Reader.read_on.Goals as goal

pub returns-in_err-rest : goal.returns-in_err-rest
returns-in_err-rest c =
    rw c.from_residual.ensures (reads-none c.args.self.now c.args.piece.now c.args.at (omega (arith, c.in_err-rest.ensures.lookup)))

pub returns-in_default : goal.returns-in_default
returns-in_default c =
    reads-open c.args.self.now c.keep.new.self c.args.piece.now c.args.at c.in_ok-rest.rest.now c.in_ok-rest.ensures.lookup.0.2 (search rules) c.keep.ensures.same (sym c.in_default.is ∙ c.find_end.ensures) c.keep.ensures.kept

pub returns : goal.returns
returns c =
    reads-end c.args.self.now c.keep-2.new.self c.args.piece.now c.args.at c.in_ok-rest.rest.now c.in_ok-rest.ensures.lookup.0.2 (search rules) c.keep-2.ensures.same c.in-Some.end (sym c.in-Some.is ∙ c.find_end.ensures) c.keep-2.ensures.kept
