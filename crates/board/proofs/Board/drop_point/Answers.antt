use Rattle.track.proofs.Numbers.{value-coordinate}
use native.Mathlib.Omega.{arith}
use mathlib.Core.Path.{◌≡◌, sym}
use Rattle.std.specs.Prelude.{Some}
use Rattle.track.specs.Number.{coordinate_of}
use Rattle.board.proofs.call.Leaving.{drop-point-leaves}
use Rattle.board.proofs.quiet.Leaps.{unbroken-points}
use Rattle.board.proofs.rules.Broken.{unbroken-of}
use Rattle.board.proofs.rules.Present.{found-below}
use Rattle.board.proofs.setup.Results.{ok-true, some-told}
use Rattle.board.specs.Board.{found_in}
use Rattle.board.specs.Setup.{outcome, refused, accepted, board_with, drop_point}
use Rattle.board.proofs.Board.drop_point.Goals as goal

pub bounds-self-i : goal.bounds-self-i
bounds-self-i c = grind (arith, found-below)

pub overflow_mul-i : goal.overflow_mul-i
overflow_mul-i c = grind (arith, found-below)

pub overflow_add-i : goal.overflow_add-i
overflow_add-i c =
    let l : coordinate_of c.args.position ≡ Some c.in_ok-l.l = grind arith in
    omega (arith, found-below _ _ (some-told (found_in _) _ c.ranges.track c.in_ok-i.ensures), (value-coordinate _ l).1)

pub dropped-dropped-requires : goal.dropped-dropped-requires
dropped-dropped-requires c = record { rule = unbroken-points _ (unbroken-of c.args.self (ok-true _ _ (sym c.in_ok-checked.ensures))) }

pub returns-in_err-checked : goal.returns-in_err-checked
unfolding drop_point
returns-in_err-checked c = drop-point-leaves _ _ _ {r = outcome c.args.self c.from_residual.result} (grind arith)

pub returns-in_err-i : goal.returns-in_err-i
unfolding drop_point
returns-in_err-i c = drop-point-leaves _ _ _ {r = outcome c.args.self c.from_residual-in_err-i.result} (grind arith)

pub returns-then-not-settled : goal.returns-then-not-settled
unfolding drop_point
returns-then-not-settled c = drop-point-leaves _ _ _ {r = refused 2 c.args.self} (grind arith)

pub returns-in_err-l : goal.returns-in_err-l
unfolding drop_point
returns-in_err-l c = drop-point-leaves _ _ _ {r = outcome c.args.self c.from_residual-in_err-l.result} (grind arith)

pub returns-in_err-self : goal.returns-in_err-self
unfolding drop_point
returns-in_err-self c = drop-point-leaves _ _ _ {r = outcome c.args.self c.from_residual-in_err-self.result} (grind arith)

pub returns : goal.returns
unfolding drop_point
returns c =
    let b = c.args.self in
    drop-point-leaves _ _ _ {r = accepted (board_with b b.tracks b.present c.in_ok-self.field-0 b.held)} (grind arith)
