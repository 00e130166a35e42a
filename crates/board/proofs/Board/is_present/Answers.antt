use Rattle.board.proofs.rules.Broken.{present-not, present-bit}
use borrow.Author.Tests.{lt-leb}
use mathlib.Core.Path.{◌∙◌}
use native.Mathlib.Omega.{arith}
use Rattle.board.proofs.Board.is_present.Goals as goal

pub returns-then-track-le-LAST : goal.returns-then-track-le-LAST
returns-then-track-le-LAST c = present-bit c.args.self.now.present c.args.track (omega arith)

pub returns-else-track-le-LAST : goal.returns-else-track-le-LAST
returns-else-track-le-LAST c = lt-leb c.args.track 15 (omega arith) ∙ present-not _ _ (omega arith)
