use Prim.Native.Nat.{ℕ}
use Rattle.std.proofs.lemmas.List.{drop-replicate}
use Rattle.board.specs.Row.{reply_width}
use lib.ListN.{length}
use mathlib.Core.List.{List, ◌++◌}
use mathlib.Core.Path.{ap₂}
use Rattle.board.proofs.row.padded.Goals as goal

pub returns : goal.returns
returns c = ap₂ (λ (xs ys : List ℕ). xs ++ ys) c.copy_from_slice.ensures.after (drop-replicate (length c.args.numbers.now) reply_width 0)
