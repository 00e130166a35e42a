use Prim.Native.Nat.{◌≤◌, ◌*◌, ◌-◌}
use Rattle.script.specs.Output.{record_lines}
use lib.ListN.{length, take, drop}
use mathlib.Core.List.{◌++◌}
use mathlib.Core.Path.{◌≡◌}
use Rattle.script.specs.Text.{line_room}
use Rattle.script.proofs.output.show.Given as goal

abbrev pub invariant-loop-left : goal.invariant-loop-left
invariant-loop-left l = (l.at ≤ length l.log) × (l.used ≤ length l.initial.out) × (length l.out ≡ length l.initial.out) × (l.left ≤ l.count) × (l.used ≤ line_room * (l.count - l.left))
    × (record_lines l.count (drop l.from l.log) ≡ take l.used l.out ++ record_lines l.left (drop l.at l.log))

abbrev pub decreases-loop-left : goal.decreases-loop-left
decreases-loop-left l = l.left
