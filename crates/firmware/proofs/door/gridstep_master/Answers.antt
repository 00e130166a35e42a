use mathlib.Core.Path.{◌∙◌}
use mir.Facts.{to_z-of_z}
use Rattle.board.specs.Setup.{outcome, set_master}
use Rattle.firmware.proofs.DoorLaws.{door-masters}
use Rattle.firmware.proofs.door.gridstep_master.Goals as goal

pub returns : goal.returns
returns c = door-masters c.args.track c.args.master c.args.pairs.now c.args.b (outcome c.args.b c.set_master.result) c.accepted-r.result _
    (c.set_master.ensures ∙ (λ j. set_master c.args.b (to_z-of_z c.ranges.track j) (to_z-of_z c.ranges.master j) c.args.pairs.now)) c.accepted-r.ensures
    c.reply_row.ensures
