use Prim.Native.Nat.{◌+◌}
use Rattle.board.proofs.points.Ranges.{count_none, count-ranks}
use Rattle.board.specs.Points.{count_of, between}
use mathlib.Core.Path.{◌≡◌, sym}
use native.Mathlib.Omega.{arith}
use Rattle.board.proofs.points.OrderedPoints.count_between.Goals as goal

ranks : (c : goal.After-first_from-j)
    → c.first_from-i.result + count_of (between c.args.from c.args.past) c.args.self.keys.now
    ≡ c.first_from-j.result
ranks c =
    rw (c.first_from-i.ensures, c.first_from-j.ensures)
    (count-ranks _ _ (omega arith) 0 _ c.args.self.rule.order)

pub returns-then-past-from : goal.returns-then-past-from
returns-then-past-from c = sym (count_none _ _ c.if-past-from.true _)

pub overflow_sub-result : goal.overflow_sub-result
overflow_sub-result c = omega (arith, ranks c)

pub returns : goal.returns
returns c = omega (arith, ranks c)
