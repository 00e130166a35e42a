use Prim.Native.Nat.{ℕ, ◌+◌, ◌≤◌, ◌<◌}
use Rattle.board.proofs.rules.Passing.{row_next, row-end, point-key, points-low, points-bad, points-next, points-end}
use Rattle.board.specs.Board.{points_test}
use Rattle.board.specs.Points.{point_most, keys_of, infos_of}
use Rattle.board.specs.declared.points.Points.{Points}
use Rattle.track.specs.declared.Track.{Track}
use borrow.Author.Rules.{rules}
use lib.ListN.{length, drop, get_or}
use mathlib.Core.Bool.{Bool}
use mathlib.Core.List.{List, ◌∷◌}
use mathlib.Core.Path.{◌≡◌, ◌∙◌, sym}
use native.Mathlib.Omega.{arith}
use Rattle.board.proofs.Board.points_kept.Goals as goal
use Rattle.board.proofs.Board.points_kept.Goals.{then-key-low-via-then-key-low, then-key-low-via-else-key-low+then-not-point_kept}

-- the rows from i on begin with the key and the info that are read
rows : (present : ℕ) (ts : List Track) (low : ℕ) (t : Points) (i : ℕ) {b : Bool} → length t.keys ≡ point_most → length t.infos ≡ point_most →
    t.count ≤ point_most → i < t.count → points_test present ts low (drop i (keys_of t)) (drop i (infos_of t)) ≡ b
    → points_test present ts low (get_or t.keys i 0 ∷ drop (i + 1) (keys_of t)) (get_or t.infos i 0 ∷ drop (i + 1) (infos_of t)) ≡ b
rows present ts low t i k d m l e = rw (row_next t.keys t.count i (omega arith) l, row_next t.infos t.count i (omega arith) l) at e

pub returns-then-key-low : goal.returns-then-key-low
returns-then-key-low c =
    elim c.then-key-low.branch [
      | then-key-low-via-then-key-low w ↦ points-low _ _ _ _ _ _ _ w.if-key-low.true
      | then-key-low-via-else-key-low+then-not-point_kept w ↦ points-bad _ _ _ _ _ _ _ (sym w.point_kept.ensures ∙ w.if-not-point_kept.true)
    ]
    ∙ rows _ _ _ c.args.self.now.points _ (search rules) (search rules) c.requires c.loop-i-test.true c.loop-i.invariant

pub overflow_add-low : goal.overflow_add-low
overflow_add-low c = omega (arith, point-key _ _ _ _ (sym c.point_kept.ensures ∙ c.if-not-point_kept.false))

pub loop-i-preserved : goal.loop-i-preserved
loop-i-preserved c =
    points-next _ _ _ _ _ _ _ c.if-key-low.false (sym c.point_kept.ensures ∙ c.if-not-point_kept.false)
    ∙ rows _ _ _ c.args.self.now.points _ (search rules) (search rules) c.requires c.loop-i-test.true c.loop-i.invariant

pub returns : goal.returns
returns c =
    let long : length c.args.self.now.points.keys ≡ point_most = search rules in
    let end = drop c.loop-i.i (infos_of c.args.self.now.points) in
    points-end _ _ c.loop-i.low end
    ∙ (λ j. points_test c.args.self.now.present c.args.self.now.tracks c.loop-i.low
    (sym (row-end c.args.self.now.points.keys c.args.self.now.points.count c.loop-i.i (omega arith) c.loop-i-test.false) j) end)
    ∙ c.loop-i.invariant
