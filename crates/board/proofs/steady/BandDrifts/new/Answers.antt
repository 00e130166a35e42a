use Rattle.track.specs.Rule.{coordinate_last, threshold_most}
use Rattle.track.specs.Follow.{up_to_zero, low_of, high_of}
use Rattle.board.proofs.stay.Bands.{row-length}
use Rattle.board.proofs.steady.Exits.{row_small, low-some, high-last, high-none, high-some}
use Prim.Native.Nat.{◌+◌, ◌≤◌}
use borrow.Author.Rules.{rules}
use lib.ListN.{length}
use mathlib.Core.Path.{◌≡◌, refl, sym, ◌∙◌}
use borrow.Author.Tests.{eqb-true, eqb-false}
use native.Mathlib.Omega.{arith}
use Rattle.board.proofs.steady.BandDrifts.new.Goals as goal
use Rattle.board.proofs.steady.BandDrifts.new.Goals.{then-k-eq0, else-k-eq0, then-k-eq-THRESHOLDS, else-k-eq-THRESHOLDS, then-thresholds-k-eq0, else-thresholds-k-eq0}

pub bounds-thresholds-k : goal.bounds-thresholds-k
bounds-thresholds-k c =
    let l : length c.args.thresholds ≡ 4 = search rules in
    let h = row-length c.args.thresholds in
    omega (arith, c.from-k.ensures, c.requires.one, c.if-k-eq0.false)

pub overflow_add-least : goal.overflow_add-least
overflow_add-least c =
    let h = row_small _ _ c.requires (rw c.from-k.ensures at c.if-k-eq0.false) in
    rw c.from-k.ensures (omega arith)

pub bounds-thresholds-k-else-k-eq-THRESHOLDS : goal.bounds-thresholds-k-else-k-eq-THRESHOLDS
bounds-thresholds-k-else-k-eq-THRESHOLDS c =
    let l : length c.args.thresholds ≡ 4 = search rules in
    let h = row-length c.args.thresholds in
    omega (arith, c.from-k.ensures, c.requires.one, c.if-k-eq-THRESHOLDS.false)

drifts : (c : goal.Joined-thresholds-k-eq0) →
    ((c.if-k-eq0.least ≡ low_of (up_to_zero c.args.thresholds) c.args.band) × (c.if-k-eq0.least ≤ threshold_most + 1))
    × ((c.if-thresholds-k-eq0.greatest ≡ high_of (up_to_zero c.args.thresholds) c.args.band) × (c.if-thresholds-k-eq0.greatest ≤ coordinate_last))
drifts c =
    let l : length c.args.thresholds ≡ 4 = search rules in (
      elim c.if-k-eq0.branch [
        | then-k-eq0 w ↦ let e : c.args.band ≡ 0 = sym c.from-k.ensures ∙ w.if-k-eq0.true in rw (w.least-is, e) (refl, omega arith)
        | else-k-eq0 w ↦ rw (w.least-is, c.from-k.ensures) (low-some _ _ c.requires (rw c.from-k.ensures at w.if-k-eq0.false))
      ],
      elim c.if-thresholds-k-eq0.branch [
        | then-thresholds-k-eq0 w ↦ rw w.greatest-is
            (elim c.if-k-eq-THRESHOLDS.branch [
              | then-k-eq-THRESHOLDS v ↦ high-last _ _ c.requires (omega (arith, c.from-k.ensures, v.if-k-eq-THRESHOLDS.true))
              | else-k-eq-THRESHOLDS v ↦ high-none _ _ c.requires (rw c.from-k.ensures at (eqb-true _ _ (sym v.value-is ∙ w.if-thresholds-k-eq0.true)))
            ])
        | else-thresholds-k-eq0 w ↦ elim c.if-k-eq-THRESHOLDS.branch [
          | then-k-eq-THRESHOLDS v ↦ absurd (eqb-false _ _ (sym v.value-is ∙ w.if-thresholds-k-eq0.false) v.if-k-eq-THRESHOLDS.true)
          | else-k-eq-THRESHOLDS v ↦ rw (w.greatest-is, c.from-k.ensures)
              (high-some _ _ c.requires (rw c.from-k.ensures at (eqb-false _ _ (sym v.value-is ∙ w.if-thresholds-k-eq0.false))))
        ]
      ],
    )

pub invariant_of-result : goal.invariant_of-result
invariant_of-result c = record { low = (drifts c).0.1; high = (drifts c).1.1 }

pub returns : goal.returns
returns c = ((drifts c.before).0.0, (drifts c.before).1.0)
