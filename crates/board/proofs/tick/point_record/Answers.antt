use Prim.Native.Nat.{◌+◌, ◌*◌}
use Rattle.board.proofs.tick.Staging.{point-none, point-one}
use Rattle.board.specs.Log.{detail_unit}
use Rattle.board.specs.Tick.{listed, record_of, point_records, info_number}
use mathlib.Core.List.{[], ◌∷◌}
use mathlib.Core.Path.{sym, ap, ◌∙◌}
use native.Mathlib.Omega.{arith}
use Rattle.board.proofs.tick.point_record.Goals as goal

pub returns-in_err-d : goal.returns-in_err-d
returns-in_err-d c = ap listed c.from_residual.ensures ∙ sym (point-none _ _ _ _ _ (ap info_number c.in_err-d.was))

pub returns : goal.returns
returns c =
    (λ j. record_of c.args.clock.0 c.args.track 1 (c.event.ensures j) (c.command.ensures j * detail_unit + c.target.ensures j) c.args.l.0 c.args.passes.0 ∷ [])
    ∙ sym (point-one _ _ _ _ c.in_ok-d.d.number (λ z. omega (arith, c.in_ok-d.d.some, z)))
    ∙ ap (λ m. point_records c.args.clock.0 c.args.track c.args.l.0 c.args.passes.0 (info_number m)) (sym c.in_ok-d.was)
