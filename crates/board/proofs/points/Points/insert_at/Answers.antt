use Rattle.board.proofs.points.Rows.{row-inserted}
use native.Mathlib.Omega.{arith}
use Rattle.board.proofs.points.Points.insert_at.Goals as goal

pub returns-clause-row_after : goal.returns-clause-row_after
returns-clause-row_after c = row-inserted _ _ _ _ c.args.v c.requires.0 (omega arith) c.copy_within.ensures.after
