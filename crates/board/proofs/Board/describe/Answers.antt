use Rattle.std.specs.Prelude.{Option, Some}
use Prim.Native.Nat.{ℕ}
use lib.IntN.{ℤ}
use mathlib.Core.Path.{◌≡◌, ◌∙◌, refl, sym}
use native.Mathlib.Omega.{arith}
use borrow.Author.Rules.{rules}
use Rattle.board.specs.Setup.{described_by, allowed_only, point_with}
use Rattle.track.proofs.Numbers.{natural-in, told}
use Rattle.track.specs.Number.{natural_of, coordinate_of, within}
use Rattle.track.specs.declared.Coordinate.{Coordinate}
use Rattle.track.specs.declared.Track.{Track}
use Rattle.board.specs.declared.points.Point.{Point}
use Rattle.board.specs.declared.call.PointNumbers.{PointNumbers}
use Rattle.board.proofs.Board.describe.Goals as goal

pub returns-in_err-ok : goal.returns-in_err-ok
unfolding described_by
returns-in_err-ok c = grind arith

pub returns-in_err-in_range : goal.returns-in_err-in_range
unfolding described_by
returns-in_err-in_range c = grind arith

pub returns-in_err-in_range-2 : goal.returns-in_err-in_range-2
unfolding described_by
returns-in_err-in_range-2 c = grind arith

pub returns-in_err-in_range-3 : goal.returns-in_err-in_range-3
unfolding described_by
returns-in_err-in_range-3 c = grind arith

pub returns-in_err-in_range-4 : goal.returns-in_err-in_range-4
unfolding described_by
returns-in_err-in_range-4 c = grind arith

abbrev read : ℕ → ℕ → ℤ → Option ℕ
read least most z = natural_of z least most

-- the point that is described where each number is in its range
parts : (present i : ℕ) (owner : Track) (given : PointNumbers) {l : Coordinate} {e w k g : ℕ} →
    within owner.min.0 owner.max.0 (coordinate_of given.position) ≡ Some l → read 1 255 given.event ≡ Some e → read 0 1 given.wait ≡ Some w →
    read 0 4 given.command ≡ Some k → read 0 15 given.target ≡ Some g →
    {r : Option Point} → r ≡ allowed_only present (point_with i l e w k g) → r ≡ described_by present i owner given
unfolding described_by
parts present i owner given l e w k g q = q ∙ simp (l, e, w, k, g)

pub returns-then-allowed : goal.returns-then-allowed
returns-then-allowed c =
    let l : within c.args.owner.min.0 c.args.owner.max.0 (coordinate_of c.args.given.position) ≡ Some c.in_ok-ok.field-0 = grind arith in
    parts _ _ c.args.owner c.args.given l (told (read 1 255) (search rules) (c.in_ok-in_range.ensures) refl)
    (told (read 0 1) (search rules) (c.in_ok-in_range-2.ensures) refl)
    (told (read 0 4) (search rules) (c.in_ok-in_range-3.ensures) refl)
    (told (read 0 15) (search rules) (c.in_ok-in_range-4.ensures) refl) (simp (sym c.allowed.ensures, c.if-allowed.true))

pub returns-else-allowed : goal.returns-else-allowed
returns-else-allowed c =
    let l : within c.args.owner.min.0 c.args.owner.max.0 (coordinate_of c.args.given.position) ≡ Some c.in_ok-ok.field-0 = grind arith in
    parts _ _ c.args.owner c.args.given l (told (read 1 255) (search rules) (c.in_ok-in_range.ensures) refl)
    (told (read 0 1) (search rules) (c.in_ok-in_range-2.ensures) refl)
    (told (read 0 4) (search rules) (c.in_ok-in_range-3.ensures) refl)
    (told (read 0 15) (search rules) (c.in_ok-in_range-4.ensures) refl) (simp (sym c.allowed.ensures, c.if-allowed.false))

pub overflow_cast-p : goal.overflow_cast-p
overflow_cast-p c = grind (arith, natural-in)

pub overflow_cast-p-2 : goal.overflow_cast-p-2
overflow_cast-p-2 c = grind (arith, natural-in)

pub overflow_cast-p-3 : goal.overflow_cast-p-3
overflow_cast-p-3 c = grind (arith, natural-in)

pub overflow_cast-p-4 : goal.overflow_cast-p-4
overflow_cast-p-4 c = grind (arith, natural-in)
