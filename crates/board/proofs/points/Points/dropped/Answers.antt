use Rattle.board.proofs.points.Keys.{searched_there, searched_none}
use Rattle.board.proofs.points.Storing.{dropped-there, dropped-none}
use Rattle.board.proofs.points.Points.dropped.Goals as goal

pub returns-in_default : goal.returns-in_default
returns-in_default c = dropped-none _ _ _ (searched_none _ _ _ c.requires.rule.order c.in_default.ensures.position)

pub returns : goal.returns
returns c =
    dropped-there _ _ _ (searched_there _ _ _ c.requires.rule.order c.in-Ok.ensures.position) _ _
    c.remove_at.ensures.row_after c.remove_at-2.ensures.row_after
