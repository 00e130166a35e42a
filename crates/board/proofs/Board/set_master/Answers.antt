use Rattle.std.specs.Prelude.{Some}
use native.Mathlib.Omega.{arith}
use mathlib.Core.Path.{◌≡◌}
use Rattle.board.proofs.rules.Present.{found-below}
use Rattle.board.specs.Board.{found_in}
use Rattle.board.specs.Setup.{set_master}
use Rattle.board.proofs.Board.set_master.Goals as goal

pub put_master-requires : goal.put_master-requires
put_master-requires c =
    let i : found_in c.args.self.present c.args.track ≡ Some c.in_ok-i.i = grind arith in
    let m : found_in c.args.self.present c.args.master ≡ Some c.in_ok-m.m = grind arith in
    (found-below _ _ i, found-below _ _ m)

pub returns-in_err-checked : goal.returns-in_err-checked
unfolding set_master
returns-in_err-checked c = grind arith

pub returns-in_err-i : goal.returns-in_err-i
unfolding set_master
returns-in_err-i c = grind arith

pub returns-in_err-m : goal.returns-in_err-m
unfolding set_master
returns-in_err-m c = grind arith

pub returns : goal.returns
unfolding set_master
returns c = grind arith
