use Rattle.board.proofs.points.Keys.{searched_there, searched_none}
use Rattle.board.proofs.points.Storing.{stored_there, stored-no-room, stored-new}
use Rattle.board.proofs.points.Points.stored.Goals as goal

pub returns-in-Ok : goal.returns-in-Ok
returns-in-Ok c = stored_there _ _ _ (searched_there _ _ _ c.requires.rule.order c.in-Ok.ensures.position) c.args.info

pub returns-in-Err : goal.returns-in-Err
returns-in-Err c = stored-no-room _ _ _ (searched_none _ _ _ c.requires.rule.order c.in-Err.ensures.position) c.args.info c.if-n-ge-MOST.true

pub returns-in-Err-2 : goal.returns-in-Err-2
returns-in-Err-2 c =
    stored-new _ _ _ (searched_none _ _ _ c.requires.rule.order c.in-Err.ensures.position) c.args.info _ _
    c.if-n-ge-MOST.false c.insert_at.ensures.row_after c.insert_at-in-Err-2.ensures.row_after
