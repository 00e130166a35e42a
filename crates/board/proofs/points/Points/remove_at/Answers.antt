use Rattle.board.proofs.points.Rows.{row-removed}
use Rattle.board.proofs.points.Points.remove_at.Goals as goal

pub returns-clause-row_after : goal.returns-clause-row_after
returns-clause-row_after c = row-removed _ _ _ _ c.requires.0 c.copy_within.ensures.after
