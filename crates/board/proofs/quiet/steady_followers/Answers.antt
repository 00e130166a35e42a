use Rattle.board.proofs.quiet.Turns.{pairs_next, steady-next, fewest-end}
use borrow.Author.Rules.{rules}
use mathlib.Core.List.{[]}
use mathlib.Core.Path.{refl}
use native.Mathlib.Omega.{arith}
use Rattle.board.proofs.quiet.steady_followers.Goals as goal

pub bounds-tracks-from : goal.bounds-tracks-from
bounds-tracks-from c = rw c.from.ensures (pairs_next _ _ _ _ c.in-Some.ensures.steps c.loop-i.invariant.2).0.master

pub offset_bounds-tracks-from : goal.offset_bounds-tracks-from
offset_bounds-tracks-from c =
    let m = (pairs_next _ _ _ _ c.in-Some.ensures.steps c.loop-i.invariant.2).0.master in
    omega (arith, c.from.ensures)

pub invariant_of-follower : goal.invariant_of-follower
invariant_of-follower c = record { valid = (pairs_next _ _ _ _ c.in-Some.ensures.steps c.loop-i.invariant.2).0.valid }

pub invariant_of-master : goal.invariant_of-master
invariant_of-master c = record { valid = rw c.from.ensures (pairs_next _ _ _ _ c.in-Some.ensures.steps c.loop-i.invariant.2).0.valid_master }

pub steady-requires : goal.steady-requires
steady-requires c =
    let p = (pairs_next _ _ _ _ c.in-Some.ensures.steps c.loop-i.invariant.2).0 in
    record { events_value = p.pairs; band_in_bounds = p.band }

pub loop-i-preserved : goal.loop-i-preserved
loop-i-preserved c = let e = c.in-Some.ensures.steps in (
  search rules,
  tt,
  (pairs_next c.args.tracks.now _ _ _ e c.loop-i.invariant.2).1,
  omega arith,
  λ r h. c.loop-i.invariant.4 r (steady-next _ _ _ _ e _ _ _ _ r c.loop-i.invariant.3 (rw c.from.ensures at c.steady.ensures) c.min-fewest.ensures h),
)

pub returns : goal.returns
returns c = c.loop-i.invariant.4 _ (fewest-end _ _ [] _ _ refl c.in-None.ensures.steps.0)
