-- A tick apart from the log (02, 2.2), of an advance over the board that the firmware lends.
use Prim.Native.Nat.{ℕ}
use mathlib.Core.Path.{◌≡◌, subst}
use mathlib.Core.List.{List}
use lib.IntN.{pos}
use Rattle.board.specs.declared.Board.{Board}
use Rattle.board.specs.declared.call.Call.TheVariants as call
use Rattle.board.specs.Call.{Reply, done, held_at, does, world, Gives}
use Rattle.board.specs.SameTick.{SameTick}
use Rattle.board.proofs.advance.SameTick.{gives-alike}
use Rattle.firmware.specs.declared.value.Ending.{Ending}
use Rattle.firmware.specs.Numbers.{ending_said}
use Rattle.firmware.proofs.Lent.{promised}

-- What two advances by 1 of a lent board write, and the board that they leave but for held, by what the function promises: the same for
-- every log and count held, if both answer Done with 1.
pub lent_alike : (b : Board) (h h' : ℕ) (ending ending' : Ending) (log log' after after' : List ℕ) (c c' : Board) →
    promised call.Advance ending_said (held_at h b) (pos 1) log c ending after →
    promised call.Advance ending_said (held_at h' b) (pos 1) log' c' ending' after' →
    ending_said ending ≡ done 1 → ending_said ending' ≡ done 1 →
    SameTick (world (held_at h b) log) (world c after) (world (held_at h' b) log') (world c' after')
lent_alike b h h' ending ending' log log' after after' c c' p p' e e' =
    gives-alike b h h' (subst (λ (a : Reply). Gives (does (call.Advance (pos 1)) (world (held_at h b) log)) a c after) e p)
    (subst (λ (a : Reply). Gives (does (call.Advance (pos 1)) (world (held_at h' b) log')) a c' after') e' p')
