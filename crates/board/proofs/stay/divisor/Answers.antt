use native.Mathlib.Nat.{mod-lt}
use native.Mathlib.Omega.{arith}
use Rattle.board.proofs.stay.Rounding.{alike-begin, alike_next, alike_end}
use Rattle.board.proofs.stay.divisor.Goals as goal

pub loop-y-init : goal.loop-y-init
loop-y-init c = alike-begin _ _ c.requires

pub nonzero_rem-rest : goal.nonzero_rem-rest
nonzero_rem-rest c = omega arith

pub loop-y-smaller : goal.loop-y-smaller
loop-y-smaller c = mod-lt _ c.loop-y-test.true

pub loop-y-preserved : goal.loop-y-preserved
loop-y-preserved c = alike_next _ _ _ _ c.loop-y-test.true c.loop-y.invariant

pub returns : goal.returns
returns c = alike_end _ _ _ _ c.loop-y-test.false c.loop-y.invariant
