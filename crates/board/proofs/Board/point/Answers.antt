use Rattle.std.specs.Prelude.{Ok, Err, Some}
use Rattle.track.specs.declared.refusal.Refusal.TheVariants as refusal
use Rattle.board.proofs.setup.Guards.{info-small, found-small, point-shown}
use Rattle.track.proofs.Numbers.{value-coordinate, some-take}
use native.Mathlib.Omega.{arith}
use mathlib.Core.Path.{◌≡◌, sym}
use Rattle.track.specs.Number.{coordinate_of}
use Rattle.track.proofs.Tests.{cond_yes}
use Rattle.board.proofs.call.Leaving.{point-leaves}
use Rattle.board.proofs.quiet.Leaps.{unbroken-points}
use Rattle.board.proofs.rules.Broken.{unbroken-of}
use Rattle.board.proofs.rules.Present.{found-below}
use Rattle.board.proofs.setup.Results.{ok-true, some-told}
use Rattle.board.specs.Board.{found_in}
use Rattle.board.specs.Query.{point_in}
use Rattle.board.proofs.Board.point.Goals as goal

pub overflow_mul-wanted : goal.overflow_mul-wanted
overflow_mul-wanted c = grind (arith, found-below)

pub overflow_add-wanted : goal.overflow_add-wanted
overflow_add-wanted c =
    let l : coordinate_of c.args.position ≡ Some c.in_ok-l.l = grind arith in
    omega (arith, found-below _ _ (some-told (found_in _) _ c.ranges.track c.in_ok-i.ensures), (value-coordinate _ l).1)

pub ordered-requires : goal.ordered-requires
ordered-requires c = record { rule = unbroken-points _ (unbroken-of c.args.self (ok-true _ _ (sym c.in_ok-checked.ensures))) }

pub of-requires : goal.of-requires
of-requires c =
    let u = unbroken-of c.args.self (ok-true _ _ (sym c.in_ok-checked.ensures)) in
    let l : coordinate_of c.args.position ≡ Some c.in_ok-l.l = grind arith in
    let i = found-below _ _ (some-told (found_in _) _ c.ranges.track c.in_ok-i.ensures) in
    let m = (value-coordinate _ l).1 in
    (omega arith, found-small (rw (c.ordered.ensures.keys, c.ordered.ensures.infos) at c.info_at-info.ensures) c.if-info-eq0.false (info-small _ u _))

pub returns-in_err-checked : goal.returns-in_err-checked
unfolding point_in
returns-in_err-checked c = point-leaves _ _ _ {r = c.from_residual.result} (grind arith)

pub returns-in_err-i : goal.returns-in_err-i
unfolding point_in
returns-in_err-i c = point-leaves _ _ _ {r = c.from_residual-in_err-i.result} (grind arith)

pub returns-in_err-l : goal.returns-in_err-l
unfolding point_in
returns-in_err-l c = point-leaves _ _ _ {r = c.from_residual-in_err-l.result} (grind arith)

pub returns-then-info-eq0 : goal.returns-then-info-eq0
unfolding point_in
returns-then-info-eq0 c = point-leaves _ _ _ {r = Err refusal.Point} (grind arith)

pub returns : goal.returns
unfolding point_in
returns c =
    let l : coordinate_of c.args.position ≡ Some c.in_ok-l.l = grind arith in
    point-leaves _ _ _ {r = Ok c.of.result}
    (cond_yes _ _ (ok-true _ _ (sym c.in_ok-checked.ensures))
    (some-take _ _ _ (some-told (found_in _) _ c.ranges.track c.in_ok-i.ensures)
    (some-take _ _ _ l (point-shown _ (rw (c.ordered.ensures.keys, c.ordered.ensures.infos) at c.info_at-info.ensures) c.if-info-eq0.false c.of.ensures))))
