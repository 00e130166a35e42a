use Rattle.std.specs.Prelude.{Some}
use Rattle.std.specs.Ordering.{is_le, nat_cmp}
use Prim.Native.Nat.{ℕ, ◌+◌, ◌^◌, ◌≤◌, ◌<◌}
use lib.Dec.{ltb}
use lib.IntN.{ℤ}
use lib.ListN.{set}
use borrow.Author.Tests.{lt-ltb, le-ltb}
use mathlib.Core.Bool.{true, false, cond}
use mathlib.Core.Path.{◌≡◌, ◌∙◌, refl, sym}
use native.Mathlib.Omega.{arith}
use Rattle.track.specs.Number.{natural_of, coordinate_of, on_some}
use Rattle.track.specs.Rule.{new_track}
use Rattle.track.specs.declared.Coordinate.{Coordinate}
use Rattle.track.proofs.Numbers.{natural-in, some-out, some-take, told}
use Rattle.track.proofs.Tests.{cond_yes, cond_no}
use Rattle.board.proofs.call.Leaving.{add-track-leaves}
use Rattle.board.proofs.setup.Guards.{track-added}
use Rattle.board.proofs.setup.Results.{ok-some, ok-true, some-told, none-told}
use Rattle.board.specs.Board.{is_present, unbroken_test}
use Rattle.board.specs.Setup.{Outcome, outcome, refused, accepted, board_with, add_track}
use Rattle.board.specs.declared.Board.{Board}
use Rattle.board.proofs.Board.add_track.Goals as goal

pub bounds-self-i : goal.bounds-self-i
bounds-self-i c = grind (arith, natural-in)

pub with_track-requires-clause-track_lt_track_count : goal.with_track-requires-clause-track_lt_track_count
with_track-requires-clause-track_lt_track_count c = grind (arith, natural-in)

pub returns-in_err-checked : goal.returns-in_err-checked
unfolding add_track
returns-in_err-checked c = add-track-leaves _ _ _ _ {r = outcome c.args.self c.from_residual.result} (grind arith)

pub returns-in_err-i : goal.returns-in_err-i
unfolding add_track
returns-in_err-i c = add-track-leaves _ _ _ _ {r = outcome c.args.self c.from_residual-in_err-i.result} (grind arith)

pub returns-then-is_present : goal.returns-then-is_present
unfolding add_track
returns-then-is_present c = add-track-leaves _ _ _ _ {r = refused 6 c.args.self} (grind arith)

pub returns-in_err-low : goal.returns-in_err-low
unfolding add_track
returns-in_err-low c = add-track-leaves _ _ _ _ {r = outcome c.args.self c.from_residual-in_err-low.result} (grind arith)

-- what the call comes to where its number is free and its lower bound is a position
past : (b : Board) (number min max : ℤ) {i : ℕ} {low : Coordinate} → unbroken_test b ≡ true → natural_of number 0 15 ≡ Some i →
    is_present b.present i ≡ false → coordinate_of min ≡ Some low → {r : Outcome} →
    r ≡ on_some (coordinate_of max)
    (λ high. cond (ltb low.0 high.0)
    (accepted (board_with b (set b.tracks i (new_track low high)) (b.present + 2 ^ i) b.points b.held)) (refused 3 b)) (refused 3 b) →
    r ≡ add_track b number min max
unfolding add_track
past b number min max u n p l q = q ∙ simp (u, n, p, l)

pub returns-in_err-high : goal.returns-in_err-high
returns-in_err-high c =
    let i : natural_of c.args.number 0 15 ≡ Some c.in_ok-i.i = grind arith in
    let q : outcome c.args.self c.from_residual-in_err-high.result ≡ refused 3 c.args.self = grind arith in
    add-track-leaves _ _ _ _ {r = outcome c.args.self c.from_residual-in_err-high.result}
    (past _ _ _ _ (ok-true _ _ (sym c.in_ok-checked.ensures)) i (sym c.is_present.ensures ∙ c.if-is_present.false)
    (some-told coordinate_of _ c.ranges.min c.in_ok-low.ensures)
    (some-out _ _ _ (none-told coordinate_of _ c.ranges.max c.in_err-high.ensures) q))

-- what the test of the two bounds says
turned : (x y : ℕ) → true ≡ is_le (nat_cmp x y) → x ≤ y
turned x y h = grind arith

ordered : (x y : ℕ) → false ≡ is_le (nat_cmp x y) → y < x
ordered x y h = grind arith

pub returns-then-le : goal.returns-then-le
returns-then-le c =
    let i : natural_of c.args.number 0 15 ≡ Some c.in_ok-i.i = told (λ (z : ℤ). natural_of z 0 15) c.ranges.number c.in_range.ensures (ok-some _ _ (sym c.in_ok-i.ensures.value)) in
    add-track-leaves _ _ _ _ {r = refused 3 c.args.self}
    (past _ _ _ _ (ok-true _ _ (sym c.in_ok-checked.ensures)) i (sym c.is_present.ensures ∙ c.if-is_present.false)
    (some-told coordinate_of _ c.ranges.min c.in_ok-low.ensures)
    (some-take _ _ _ (some-told coordinate_of _ c.ranges.max c.in_ok-high.ensures) (cond_no _ _ (le-ltb _ _ (turned c.in_ok-high.high.0 c.in_ok-low.low.0 c.if-le.ensures)) refl)))

pub returns : goal.returns
returns c =
    let b = c.args.self in
    let i : natural_of c.args.number 0 15 ≡ Some c.in_ok-i.i = told (λ (z : ℤ). natural_of z 0 15) c.ranges.number c.in_range.ensures (ok-some _ _ (sym c.in_ok-i.ensures.value)) in
    let order : c.in_ok-low.low.0 < c.in_ok-high.high.0 = ordered c.in_ok-high.high.0 c.in_ok-low.low.0 c.if-le.ensures in
    add-track-leaves _ _ _ _ {r = accepted (board_with b (set b.tracks c.in_ok-i.i c.new.result) c.with_track.result b.points b.held)}
    (past _ _ _ _ (ok-true _ _ (sym c.in_ok-checked.ensures)) i (sym c.is_present.ensures ∙ c.if-is_present.false)
    (some-told coordinate_of _ c.ranges.min c.in_ok-low.ensures)
    (some-take _ _ _ (some-told coordinate_of _ c.ranges.max c.in_ok-high.ensures)
    (cond_yes _ _ (lt-ltb _ _ order) (track-added b _ c.new.ensures c.with_track.ensures))))
