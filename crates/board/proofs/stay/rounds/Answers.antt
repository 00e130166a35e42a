use Prim.Native.Nat.{ℕ, ◌-◌, ◌≤◌}
use native.Mathlib.Nat.{mod-lt}
use native.Mathlib.Omega.{arith}
use mathlib.Core.Path.{ap, subst}
use Rattle.board.specs.Stay.{Covers}
use Rattle.board.proofs.stay.Rounding.{divisor-small, rounds-more, rounds-less, rounds-same}
use Rattle.board.proofs.stay.rounds.Goals.{then-b-a, else-b-a+then-a-b, else-b-a+else-a-b}
use Rattle.board.proofs.stay.rounds.Goals as goal

pub overflow_sub-l : goal.overflow_sub-l
overflow_sub-l c = (divisor-small _ _ _ c.requires.l_nonzero.0 c.requires.k_nonzero.0 c.divisor-g.ensures).0

pub overflow_sub-k : goal.overflow_sub-k
overflow_sub-k c = (divisor-small _ _ _ c.requires.l_nonzero.0 c.requires.k_nonzero.0 c.divisor-g.ensures).1

pub ends-requires : goal.ends-requires
ends-requires c =
    let s = divisor-small _ _ _ c.requires.l_nonzero.0 c.requires.k_nonzero.0 c.divisor-g.ensures in
    let a = mod-lt c.args.p c.divisor-g.ensures.some in
    let b = mod-lt c.args.q c.divisor-g.ensures.some in
    let i : (c.if-b-a.c.0 ≤ c.divisor-g.result) × (c.if-b-a.c.1 ≤ c.divisor-g.result) =
    elim c.if-b-a.branch [
      | then-b-a w ↦ omega (arith, ap (λ (x : ℕ × ℕ). x.0) w.c-is, ap (λ (x : ℕ × ℕ). x.1) w.c-is)
      | else-b-a+then-a-b w ↦ omega (arith, ap (λ (x : ℕ × ℕ). x.0) w.c-is, ap (λ (x : ℕ × ℕ). x.1) w.c-is)
      | else-b-a+else-a-b w ↦ omega (arith, ap (λ (x : ℕ × ℕ). x.0) w.c-is, ap (λ (x : ℕ × ℕ). x.1) w.c-is)
    ] in
    omega arith

pub returns : goal.returns
returns c =
    let g : ℕ = c.divisor-g.result in
    let covers : ℕ × ℕ → Type 0 = λ x. Covers x.0 (c.args.l - g) x.1 (c.args.k - g) c.args.range.least c.args.range.greatest c.ends.result.0 in
    elim c.if-b-a.branch [
      | then-b-a w ↦ rounds-more _ _ _ _ _ _ _ c.divisor-g.ensures c.requires.l_nonzero.0 c.requires.k_nonzero.0 _ w.if-b-a.true (subst covers w.c-is c.ends.ensures)
      | else-b-a+then-a-b w ↦ rounds-less _ _ _ _ _ _ _ c.divisor-g.ensures c.requires.l_nonzero.0 c.requires.k_nonzero.0 _ w.if-a-b.true (subst covers w.c-is c.ends.ensures)
      | else-b-a+else-a-b w ↦ rounds-same _ _ _ _ _ _ _ c.divisor-g.ensures c.requires.l_nonzero.0 c.requires.k_nonzero.0 _ w.if-b-a.false w.if-a-b.false (subst covers w.c-is c.ends.ensures)
    ]
