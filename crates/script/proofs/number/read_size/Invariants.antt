use mathlib.Core.Path.{◌≡◌}
use Prim.Native.Nat.{◌≤◌}
use lib.ListN.{drop}
use Rattle.script.specs.Number.{size_from, size_of}
use Rattle.script.proofs.number.read_size.Given as goal

abbrev pub invariant-loop-digit : goal.invariant-loop-digit
invariant-loop-digit l = (l.size ≤ 4294967295) × (size_from l.size (drop l.digit-index l.digits) ≡ size_of l.digits)
