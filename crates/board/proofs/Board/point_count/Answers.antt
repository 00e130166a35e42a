use Rattle.std.specs.Prelude.{Ok}
use Rattle.board.proofs.setup.Guards.{counted}
use Rattle.track.proofs.Numbers.{clamped-most, some-take}
use native.Mathlib.Omega.{arith}
use mathlib.Core.Path.{◌∙◌, sym, ap}
use mir.Facts.{to_z-of_z}
use Rattle.track.specs.Number.{clamped_of}
use Rattle.track.proofs.Tests.{cond_yes}
use Rattle.board.proofs.call.Leaving.{point-count-leaves}
use Rattle.board.proofs.quiet.Leaps.{unbroken-points}
use Rattle.board.proofs.rules.Broken.{unbroken-of}
use Rattle.board.proofs.rules.Present.{found-below}
use Rattle.board.proofs.setup.Results.{ok-true, some-told}
use Rattle.board.specs.Board.{found_in}
use Rattle.board.specs.Query.{count_in}
use Rattle.board.proofs.Board.point_count.Goals as goal

pub overflow_mul-base : goal.overflow_mul-base
overflow_mul-base c = grind (arith, found-below)

pub overflow_add-past : goal.overflow_add-past
overflow_add-past c = grind (arith, found-below, clamped-most)

pub overflow_add-low : goal.overflow_add-low
overflow_add-low c = grind (arith, found-below, clamped-most)

pub ordered-requires : goal.ordered-requires
ordered-requires c = record { rule = unbroken-points _ (unbroken-of c.args.self (ok-true _ _ (sym c.in_ok-checked.ensures))) }

pub returns-in_err-checked : goal.returns-in_err-checked
unfolding count_in
returns-in_err-checked c = point-count-leaves _ _ _ _ {r = c.from_residual.result} (grind arith)

pub returns-in_err-base : goal.returns-in_err-base
unfolding count_in
returns-in_err-base c = point-count-leaves _ _ _ _ {r = c.from_residual-in_err-base.result} (grind arith)

pub returns : goal.returns
unfolding count_in
returns c =
    let h = ok-true _ _ (sym c.in_ok-checked.ensures) in
    point-count-leaves _ _ _ _ {r = Ok c.count_between-count.result}
    (cond_yes _ _ h
    (some-take _ _ _ (some-told (found_in _) _ c.ranges.track c.in_ok-base.ensures)
    (ap Ok (counted _ (unbroken-of c.args.self h) _ _ _ (c.clamped-2.ensures ∙ ap clamped_of (to_z-of_z c.ranges.from)) c.saturating_sub.ensures
    (c.clamped.ensures ∙ ap clamped_of (to_z-of_z c.ranges.to)) (rw c.ordered.ensures.keys at c.count_between-count.ensures)))))
