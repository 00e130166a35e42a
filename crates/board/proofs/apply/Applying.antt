-- What a call gives, and how `apply` tells it.
use Prim.Native.Nat.{ℕ, ◌<◌, ◌^◌}
use mathlib.Core.Path.{◌≡◌, sym, ◌∙◌, subst⁻¹}
use mathlib.Core.List.{List}
use lib.IntN.{ℤ}
use lib.Signed.{mag}
use mir.Facts.{to_z-of_z}
use mir.Syntax.{w64}
use mir.Val.{hbits}
use Rattle.track.proofs.Numbers.{back}
use Rattle.track.specs.declared.refusal.Refusal.{Refusal}
use Rattle.board.specs.declared.Board.{Board}
use Rattle.board.specs.declared.call.Call.{Call}
use Rattle.board.specs.Call.{Reply, does, Gives, reply_of}
use Rattle.board.specs.Replay.{World}
use Rattle.board.specs.declared.apply.Applied.{Applied}
use Rattle.board.specs.Apply.{Says}

-- a number that is passed on is read back from its bits
pub passed : (z : ℤ) → mag z < 2 ^ hbits w64 → z ≡ back z
passed z h = sym (to_z-of_z {w = w64} (record { sfits = h }))

-- what the call at hand gives, told
pub applied : (w : World Board) {c k : Call} {a : Reply} {b : Board} {log : List ℕ} {r : Applied Refusal} → c ≡ k → Gives (does k w) a b log → Says a b r →
    Gives (does c w) (reply_of r.told) r.board log
applied w {log = log} {r = r} e g s =
    subst⁻¹ (λ (c : Call). Gives (does c w) (reply_of r.told) r.board log) e
    (record { answer_is = s.reply_is ∙ g.answer_is; board_is = s.board_is ∙ g.board_is; log_is = g.log_is })
