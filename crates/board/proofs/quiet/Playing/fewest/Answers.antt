use Rattle.board.proofs.quiet.Turns.{leapable-next, fewest-next, fewest-end}
use mathlib.Core.List.{[]}
use mathlib.Core.Path.{refl}
use borrow.Author.Rules.{rules}
use native.Mathlib.Omega.{arith}
use Rattle.board.proofs.quiet.Playing.fewest.Goals as goal

pub invariant_of-player : goal.invariant_of-player
invariant_of-player c = record { valid = (leapable-next c.args.self.tracks.now _ _ _ c.in-Some.ensures.steps c.loop-i.invariant.2).0.valid }

pub loop-i-preserved : goal.loop-i-preserved
loop-i-preserved c = let e = c.in-Some.ensures.steps in (
  search rules,
  tt,
  (leapable-next c.args.self.tracks.now _ _ _ e c.loop-i.invariant.2).1,
  omega arith,
  λ r h. c.loop-i.invariant.4 r (fewest-next _ _ _ _ e _ [] _ _ r c.loop-i.invariant.3 c.quiet_ticks.ensures c.min-fewest.ensures h),
)

pub returns : goal.returns
returns c = c.loop-i.invariant.4 _ (fewest-end _ _ _ [] _ c.in-None.ensures.steps.0 refl)
