use Prim.Native.Nat.{◌+◌, ◌-◌, ◌/◌}
use Rattle.board.proofs.points.Keys.{bracket-start, bracket-up, bracket-down, bracket-done}
use native.Mathlib.Omega.{arith}
use Rattle.board.proofs.points.OrderedPoints.first_from.Goals as goal

pub loop-low-init : goal.loop-low-init
loop-low-init c = bracket-start _ c.args.wanted

pub loop-low-preserved-then-self-middle : goal.loop-low-preserved-then-self-middle
loop-low-preserved-then-self-middle c = bracket-up _ c.args.wanted c.args.self.rule.order c.loop-low.low c.loop-low.high (c.loop-low.low + (c.loop-low.high - c.loop-low.low) / 2)
    c.loop-low.invariant (omega arith) (omega arith) c.if-self-middle.true

pub loop-low-preserved : goal.loop-low-preserved
loop-low-preserved c = bracket-down _ c.args.wanted c.args.self.rule.order c.loop-low.low c.loop-low.high (c.loop-low.low + (c.loop-low.high - c.loop-low.low) / 2)
    c.loop-low.invariant (omega arith) (omega arith) c.if-self-middle.false

pub returns : goal.returns
returns c = bracket-done _ c.args.wanted c.args.self.rule.order c.loop-low.low c.loop-low.high c.loop-low.invariant
    c.loop-low-test.false
