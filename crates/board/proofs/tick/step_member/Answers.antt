use Prim.Native.Nat.{◌≤◌}
use Rattle.board.proofs.tick.Staging.{staged-long, unstepped-out, step-out, point-most}
use Rattle.board.specs.Log.{log_bytes}
use Rattle.board.specs.Tick.{point_records, info_number}
use Rattle.track.proofs.Arrivals.{step-valid}
use Rattle.track.proofs.Leaps.{moves-reach}
use Rattle.track.specs.declared.Track.{Track}
use mathlib.Core.List.{◌++◌}
use Rattle.track.specs.Walk.{step}
use mathlib.Core.Path.{sym, ap, subst, ◌∙◌}
use native.Mathlib.Omega.{arith}
use Rattle.board.proofs.tick.step_member.Goals as goal

pub returns-then-not-made : goal.returns-then-not-made
returns-then-not-made c =
    let w = unstepped-out c.args.clock.0 c.args.track c.args.t.valid.track (info_number c.args.met) c.args.stage.now c.requires.made_value c.if-not-made.true in
    record { stepped = rw c.from.ensures w.0; records = w.1 }

pub change_record-requires : goal.change_record-requires
change_record-requires c =
    subst (λ (u : Track). u.mode ≤ 3) (sym c.step-after.ensures) (step-valid c.args.t.valid.track c.args.t.valid.valid c.waits.result).mode

-- there is room behind the point's record
pub put-requires-2 : goal.put-requires-2
put-requires-2 c =
    let rs = point_records c.args.clock.0 c.args.track c.args.l.0 c.args.t.valid.track.passes.0 (info_number c.args.met) in
    let m = point-most c.args.clock.0 c.args.track c.args.l.0 c.args.t.valid.track.passes.0 (info_number c.args.met) in
    omega (arith, m, c.requires.room, staged-long c.args.stage.now rs (c.put.ensures ∙ ap (λ rs. c.args.stage.now ++ log_bytes rs) c.point_record.ensures))

pub remainder_left-requires-clause-ticks_le_rate_most : goal.remainder_left-requires-clause-ticks_le_rate_most
remainder_left-requires-clause-ticks_le_rate_most c =
    (c.args.t.valid.valid.rate.last, moves-reach c.args.t.valid.track (sym c.requires.made_value ∙ c.if-not-made.false))

pub returns : goal.returns
returns c =
    let w = step-out c.args.clock.0 c.args.track c.args.t.valid.track (info_number c.args.met) c.args.stage.now c.args.t.valid.valid c.requires.made_value
    c.if-not-made.false c.requires.l_value c.passes_at-passes.ensures (c.step-after.ensures ∙ ap (step c.args.t.valid.track) c.waits.ensures)
    (c.put.ensures ∙ ap (λ rs. c.args.stage.now ++ log_bytes rs) c.point_record.ensures)
    (c.put-2.ensures ∙ ap (λ rs. c.put.new.self ++ log_bytes rs) c.change_record.ensures) c.remainder_left.ensures in
    record { stepped = w.0; records = w.1 }
