use Prim.Native.Nat.{ℕ}
use native.Mathlib.Omega.{arith}
use Rattle.board.proofs.advance.Advancing.{advance-broken, advance-short, advance-outside, advance-runs}
use Rattle.board.specs.Advance.{Proceeds}
use Rattle.board.specs.Call.{refused, does, world, Gives}
use Rattle.board.specs.declared.Board.{Board}
use Rattle.board.specs.declared.advance.Left.{Left}
use Rattle.board.specs.declared.call.Advanced.TheVariants.{Refused}
use Rattle.board.specs.declared.call.Call.TheVariants as call
use Rattle.track.specs.declared.refusal.Refusal.{Refusal}
use Rattle.track.specs.declared.refusal.Refusal.TheVariants as refusal
use Rattle.track.specs.Refusal.{number_of}
use lib.IntN.{ℤ}
use mathlib.Core.List.{List}
use mathlib.Core.Path.{◌≡◌, sym, ◌∙◌, subst⁻¹}
use Rattle.board.proofs.advance.proceed_lent.Goals as goal

-- a refused advance leaves the board as it is
declines : (b : Board) (log : List ℕ) (k : Refusal) (count : ℤ) {r : Left} → r ≡ record { answer = Refused k; tracks = b.tracks; clock = b.clock; held = b.held }
    → Gives (does (call.Advance count) (world b log)) (refused (number_of k)) b log → Proceeds count b log r log
declines b log k count e g = subst⁻¹ (λ (r : Left). Proceeds count b log r log) e g

pub returns-then-not-unbroken : goal.returns-then-not-unbroken
returns-then-not-unbroken c =
    declines _ _ refusal.Value _ c.declined.ensures (advance-broken _ _ _ (sym c.unbroken.ensures ∙ c.if-not-unbroken.true))

pub returns-then-capacity-b : goal.returns-then-capacity-b
returns-then-capacity-b c =
    declines _ _ refusal.Capacity _ c.declined-then-capacity-b.ensures
    (advance-short _ _ _ (sym c.unbroken.ensures ∙ c.if-not-unbroken.false) c.if-capacity-b.true)

pub returns-in_default : goal.returns-in_default
returns-in_default c =
    declines _ _ refusal.Value _ c.declined-in_default.ensures
    (advance-outside _ _ _ (sym c.unbroken.ensures ∙ c.if-not-unbroken.false) c.if-capacity-b.false (grind arith))

pub returns : goal.returns
returns c =
    advance-runs _ _ _ (sym c.unbroken.ensures ∙ c.if-not-unbroken.false) c.if-capacity-b.false (grind arith) c.run.ensures
