-- What the door answers is what the row gives.
use Prim.Native.Nat.{ℕ}
use mathlib.Core.Path.{◌≡◌, refl, ap, ◌∙◌}
use mathlib.Core.List.{List}
use lib.IntN.{ℤ}
use Rattle.track.specs.declared.refusal.Refusal.{Refusal}
use Rattle.board.specs.declared.Board.{Board}
use Rattle.board.specs.Setup.{Outcome}
use Rattle.board.specs.declared.apply.Applied.{Applied}
use Rattle.board.specs.Setup.{set_master}
use Rattle.board.specs.Apply.{Says}
use Rattle.board.specs.Call.{answered, master_does, reply_of}
use Rattle.board.specs.Row.{numbers_of}
use Rattle.firmware.specs.Door.{MasterGives}

-- a master call with any numbers
pub door-masters : (track master : ℤ) (zs : List ℤ) (b : Board) (o : Outcome) (r : Applied Refusal) (reply : List ℕ) →
    o ≡ set_master b track master zs → Says (answered o.answer) o.board r → reply ≡ numbers_of (reply_of r.told) →
    MasterGives track master zs b (record { board = r.board; reply = reply })
unfolding master_does
door-masters track master zs b o r reply e s p log =
    record {
      reply_is = p ∙ ap numbers_of s.reply_is ∙ ap (λ (o : Outcome). numbers_of (answered o.answer)) e;
      board_is = s.board_is ∙ ap (λ (o : Outcome). o.board) e;
      log_is = refl;
    }
