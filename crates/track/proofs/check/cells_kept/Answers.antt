use Rattle.track.proofs.Checks.{cells-number, cells-event, events-is}
use Rattle.track.specs.Rule.{cell_count, events_test, cells_test, every}
use lib.ListN.{length}
use mathlib.Core.Bool.{true}
use mathlib.Core.Path.{◌≡◌}
use native.Mathlib.Omega.{arith}
use Rattle.track.proofs.check.cells_kept.Goals as goal

pub returns-then-cells-eq0-3 : goal.returns-then-cells-eq0-3
unfolding cells_test every
returns-then-cells-eq0-3 c =
    let n : length c.args.cells ≡ cell_count = cells-number c.args.cells _ c.well_formed.0 in
    let e : events_test c.args.cells ≡ true = events-is c.args.cells (cells-event c.args.cells _ c.well_formed.0) in
    grind arith
