use Rattle.board.specs.Board.{points_test}
use lib.ListN.{drop}
use Rattle.board.specs.Points.{keys_of, infos_of}
use mathlib.Core.Path.{◌≡◌}
use Rattle.board.proofs.Board.points_kept.Given as goal

abbrev pub invariant-loop-i : goal.invariant-loop-i
invariant-loop-i l = points_test l.self.present l.self.tracks l.low (drop l.i (keys_of l.self.points)) (drop l.i (infos_of l.self.points)) ≡ points_test l.self.present l.self.tracks 0 (keys_of l.self.points) (infos_of l.self.points)
