use native.Mathlib.Omega.{arith}
use mathlib.Core.Logic.{inl, inr, ⊎_elim}
use Prim.Native.Nat.{◌+◌, ◌<◌}
use Rattle.board.proofs.stay.Staying.{stays-first, stays-second}
use Rattle.board.proofs.stay.stay.Goals as goal

pub gaining-requires : goal.gaining-requires
gaining-requires c = record {
  first = omega (arith, c.requires.asked);
  second = omega (arith, c.requires.asked);
  width = omega (arith, c.requires.asked);
  pace = omega (arith, c.requires.asked_2);
  low = omega (arith, c.requires.asked);
  high = omega (arith, c.requires.asked);
  slow = ⊎_elim inl (λ (h : c.args.h < c.args.range.least + c.args.range.least). inr (omega arith)) c.requires.asked_2.slow;
}

pub returns-then-g-h : goal.returns-then-g-h
returns-then-g-h c = stays-second _ _ _ _ _ _ _ _ c.if-g-h.true c.gaining.ensures

pub gaining-requires-else-g-h : goal.gaining-requires-else-g-h
gaining-requires-else-g-h c = record {
  first = omega (arith, c.requires.asked);
  second = omega (arith, c.requires.asked);
  width = omega (arith, c.requires.asked);
  pace = omega (arith, c.requires.asked);
  low = omega (arith, c.requires.asked);
  high = omega (arith, c.requires.asked);
  slow = ⊎_elim inl (λ (h : c.args.g < c.args.range.least + c.args.range.least). inr (omega arith)) c.requires.asked.slow;
}

pub returns-else-g-h : goal.returns-else-g-h
returns-else-g-h c = stays-first _ _ _ _ _ _ _ _ c.if-g-h.false c.gaining-else-g-h.ensures
