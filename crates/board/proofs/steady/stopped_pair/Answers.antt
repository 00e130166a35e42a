use Rattle.board.proofs.steady.Steadying.{stopped-ever, stopped-now}
use Rattle.board.proofs.steady.stopped_pair.Goals as goal

pub returns-then-t-eq0 : goal.returns-then-t-eq0
returns-then-t-eq0 c = stopped-ever _ _ c.requires c.if-t-eq0.true

pub returns-else-t-eq0 : goal.returns-else-t-eq0
returns-else-t-eq0 c = stopped-now _ _ c.requires c.if-t-eq0.false
