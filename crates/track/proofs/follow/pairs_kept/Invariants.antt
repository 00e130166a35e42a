use lib.ListN.{drop}
use mathlib.Core.Path.{◌≡◌}
use Rattle.track.specs.Follow.{pairs_test}
use Rattle.track.proofs.follow.pairs_kept.Given as goal

abbrev pub invariant-loop-k : goal.invariant-loop-k
invariant-loop-k l = pairs_test l.low (drop l.k l.thresholds) (drop l.k l.events) ≡ pairs_test 0 l.thresholds l.events
