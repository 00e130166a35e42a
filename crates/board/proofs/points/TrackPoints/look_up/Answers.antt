use Rattle.board.specs.Points.{nearest}
use Rattle.board.proofs.points.TrackPoints.look_up.Goals as goal

pub returns-then-backward-clause-near : goal.returns-then-backward-clause-near
unfolding nearest
returns-then-backward-clause-near c = rw c.if-backward.true c.last_between-near.ensures

pub returns-else-backward-clause-near : goal.returns-else-backward-clause-near
unfolding nearest
returns-else-backward-clause-near c = rw c.if-backward.false c.first_between-near.ensures
