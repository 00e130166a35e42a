use Rattle.board.proofs.points.Keys.{first-length}
use Rattle.board.proofs.points.Ranges.{last_end, last_under, last-here}
use mathlib.Core.Path.{sym, ◌∙◌}
use Rattle.board.proofs.points.TrackPoints.last_between.Goals as goal

pub slice_bounds-last-end : goal.slice_bounds-last-end
slice_bounds-last-end c = sym (first-length _ _ _ c.first_from-i.ensures)

pub returns-in_err-k : goal.returns-in_err-k
returns-in_err-k c = c.from_residual.ensures ∙ last_end _ _ _ _ c.args.self.points.rule.order _ c.first_from-i.ensures c.in_err-k.ensures.item.3

pub returns-then-k-from : goal.returns-then-k-from
returns-then-k-from c = last_under _ _ _ _ c.args.self.points.rule.order _ c.first_from-i.ensures _ c.in_ok-k.ensures.item.3 c.if-k-from.true

pub returns : goal.returns
returns c = last-here _ _ _ _ c.args.self.points.rule.order _ c.first_from-i.ensures _ c.in_ok-k.ensures.item.3 c.if-k-from.false
