use Rattle.std.proofs.Common.{append_assoc, arith}
use Rattle.std.proofs.lemmas.Grind.{common_steps}
use Rattle.script.proofs.text.Written.{ahead_is, below_is}
use Rattle.script.proofs.text.Out.position.Goals.{then-ahead-lt-BELOW, else-ahead-lt-BELOW}
use Rattle.script.proofs.text.Out.position.Goals as goal

pub returns : goal.returns
returns c =
    elim c.if-ahead-lt-BELOW.branch [
      | then-ahead-lt-BELOW w ↦ grind (arith, common_steps, ahead_is, append_assoc)
      | else-ahead-lt-BELOW w ↦ grind (arith, common_steps, below_is, append_assoc)
    ]
