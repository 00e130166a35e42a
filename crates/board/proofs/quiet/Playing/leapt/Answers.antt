use Rattle.board.proofs.quiet.Turns.{leapable-next, leap-next, leap-end}
use borrow.Author.Rules.{rules}
use mathlib.Core.Path.{◌∙◌}
use Rattle.board.proofs.quiet.Playing.leapt.Goals as goal

pub invariant_of-sound : goal.invariant_of-sound
invariant_of-sound c = record { valid = (leapable-next c.args.self.tracks.now _ _ _ c.in-Some.ensures.steps c.loop-i.invariant.2).0.valid }

pub invariant_of-sound-in-loop-i : goal.invariant_of-sound-in-loop-i
invariant_of-sound-in-loop-i c = record { counted = (leapable-next c.args.self.tracks.now _ _ _ c.in-Some.ensures.steps c.loop-i.invariant.2).0.passes }

pub loop-i-preserved : goal.loop-i-preserved
loop-i-preserved c = let e = c.in-Some.ensures.steps in (
  search rules,
  tt,
  (leapable-next c.args.self.tracks.now _ _ _ e c.loop-i.invariant.2).1,
  leap-next _ _ _ _ e _ c.loop-i.next c.leap.ensures ∙ c.loop-i.invariant.3,
)

pub returns : goal.returns
returns c = leap-end _ _ _ c.loop-i.next c.in-None.ensures.steps.0 ∙ c.loop-i.invariant.3
