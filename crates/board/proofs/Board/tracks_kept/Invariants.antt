use Rattle.board.specs.Board.{tracks_test}
use lib.ListN.{drop}
use mathlib.Core.Path.{◌≡◌}
use Rattle.board.proofs.Board.tracks_kept.Given as goal

abbrev pub invariant-loop-i : goal.invariant-loop-i
invariant-loop-i l = tracks_test l.self.present l.word l.i (drop l.i l.self.tracks) l.self.clock ≡ tracks_test l.self.present l.self.present 0 l.self.tracks l.self.clock
