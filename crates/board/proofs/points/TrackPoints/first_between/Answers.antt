use Rattle.board.proofs.points.Ranges.{first-end, first-least, first-over, first-here}
use mathlib.Core.Path.{◌∙◌}
use native.Mathlib.Omega.{arith}
use Rattle.board.proofs.points.TrackPoints.first_between.Goals as goal

pub returns-in_err-k : goal.returns-in_err-k
returns-in_err-k c = c.from_residual.ensures ∙ first-end _ _ _ _ c.args.self.points.rule.order _ c.first_from-i.ensures c.in_err-k.ensures.lookup.3

pub returns-then-past-k : goal.returns-then-past-k
returns-then-past-k c = first-over _ _ _ _ c.args.self.points.rule.order _ c.first_from-i.ensures _ c.in_ok-k.ensures.lookup.3 c.if-past-k.true

pub overflow_sub-result : goal.overflow_sub-result
overflow_sub-result c =
    let l = first-least _ c.args.self.track _ c.args.past c.args.self.points.rule.order _ c.first_from-i.ensures _ c.in_ok-k.ensures.lookup.3 in
    omega arith

pub returns : goal.returns
returns c = first-here _ _ _ _ c.args.self.points.rule.order _ c.first_from-i.ensures _ c.in_ok-k.ensures.lookup.3 c.if-past-k.false
