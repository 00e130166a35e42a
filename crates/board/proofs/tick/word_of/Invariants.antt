use Prim.Native.Nat.{◌/◌, ◌^◌}
use Rattle.board.specs.Tick.{word_by}
use lib.ListN.{drop}
use mathlib.Core.Path.{◌≡◌}
use Rattle.board.proofs.tick.word_of.Given as goal

abbrev pub invariant-loop-i : goal.invariant-loop-i
invariant-loop-i g l = l.word ≡ word_by g.holds (l.present / 2 ^ l.i) (drop l.i l.tracks)
