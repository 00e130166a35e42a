use native.Mathlib.Omega.{arith}
use mathlib.Core.Logic.{inl}
use Rattle.board.proofs.stay.Staying.{stays-high, stays-ever, stays-above}
use Rattle.board.proofs.stay.leading.Goals as goal

pub returns-then-y-range : goal.returns-then-y-range
returns-then-y-range c = stays-high _ _ _ _ _ _ c.requires.fact c.if-y-range.true

pub returns-then-v-eq0 : goal.returns-then-v-eq0
returns-then-v-eq0 c = stays-ever _ _ _ _ _ _ c.if-v-eq0.true (inl (record { off = c.requires.fact; low = c.requires.y_bound; high = c.if-y-range.false }))

pub returns : goal.returns
returns c = stays-above _ _ _ _ _ _ c.requires.y_bound (omega (arith, c.if-v-eq0.false)) _ (omega arith) c.requires.fact
    c.if-y-range.false (omega arith) (λ h. omega arith)
