use Rattle.std.specs.Prelude.{Ok}
use lib.ListN.{set}
use lib.Seq.{set-get_or}
use native.Mathlib.Omega.{arith}
use Rattle.board.proofs.call.Leaving.{set-up-leaves}
use Rattle.board.proofs.rules.Present.{found-below}
use Rattle.board.specs.Setup.{outcome, board_with, set_up}
use Rattle.board.proofs.Board.set_up.Goals as goal

pub bounds-self-at : goal.bounds-self-at
bounds-self-at c = grind (arith, found-below)

pub bounds-self-at-2 : goal.bounds-self-at-2
bounds-self-at-2 c = grind (arith, found-below)

pub returns-in_err-checked : goal.returns-in_err-checked
unfolding set_up
returns-in_err-checked c = set-up-leaves _ _ _ {r = outcome c.args.self c.from_residual.result} (grind arith)

pub returns-in_err-at : goal.returns-in_err-at
unfolding set_up
returns-in_err-at c = set-up-leaves _ _ _ {r = outcome c.args.self c.from_residual-in_err-at.result} (grind arith)

pub returns-in_err-self : goal.returns-in_err-self
unfolding set_up
returns-in_err-self c = set-up-leaves _ _ _ {r = outcome c.args.self c.from_residual-in_err-self.result} (grind (arith, set-get_or))

pub returns : goal.returns
unfolding set_up
returns c =
    let b = c.args.self in
    set-up-leaves _ _ _ {r = outcome b (Ok (board_with b (set b.tracks c.in_ok-at.field-0 c.in_ok-self.field-0) b.present b.points b.held))} (grind arith)
