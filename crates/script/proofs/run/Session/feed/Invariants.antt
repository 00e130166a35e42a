use Prim.Native.Nat.{◌*◌, ◌-◌, ◌≤◌}
use Rattle.script.specs.Run.{Goes}
use lib.ListN.{length, take, drop}
use mathlib.Core.Path.{◌≡◌}
use Rattle.script.specs.Text.{line_room}
use Rattle.script.proofs.run.Session.feed.Given as goal

abbrev pub invariant-loop-out : goal.invariant-loop-out
invariant-loop-out l = (l.used ≤ length l.initial.out) × (length l.out ≡ length l.initial.out) × (length l.log ≡ length l.initial.log) × (l.at ≤ l.next) × (l.used ≤ line_room * (l.next - l.at))
    × Goes l.initial.self (drop l.at l.piece) l.initial.log (take l.used l.out) l.self (drop l.next l.piece) l.log

abbrev pub decreases-loop-out : goal.decreases-loop-out
decreases-loop-out l = length l.piece - l.next
