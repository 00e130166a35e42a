use Prim.Native.Nat.{ℕ, zero, suc, ◌<◌}
use Rattle.std.specs.Prelude.{count_ones}
use Rattle.std.specs.Int.Count.{ones}
use Rattle.board.proofs.tick.Bits.{lowest, none_left}
use borrow.Author.Rules.{rules}
use native.Mathlib.Omega.{arith}
use mathlib.Core.Path.{◌≡◌, refl, ap}
use lib.ListN.{length}
use Rattle.board.proofs.members.MembersIterator.next.Goals as goal

-- a word of which ones remain is not 0
some_left : (w : ℕ) → (count_ones w ≡ 0 → ⊥) → 0 < w
unfolding ones
some_left zero h = absurd (h refl)
some_left (suc w) h = omega arith

pub returns-then-left-eq0-clause-steps : goal.returns-then-left-eq0-clause-steps
returns-then-left-eq0-clause-steps c =
    let n = none_left c.args.self.now.0 (search rules) (omega (arith, c.if-left-eq0.true)) in (n, n)

pub overflow_shl-self : goal.overflow_shl-self
overflow_shl-self c = (lowest c.args.self.now.0 (search rules) (some_left _ c.if-left-eq0.false)).inside

pub overflow_sub-self : goal.overflow_sub-self
overflow_sub-self c = (lowest c.args.self.now.0 (search rules) (some_left _ c.if-left-eq0.false)).under

pub returns-clause-steps : goal.returns-clause-steps
returns-clause-steps c = (lowest c.args.self.now.0 (search rules) (some_left _ c.if-left-eq0.false)).rest

pub returns-clause-goes : goal.returns-clause-goes
returns-clause-goes c =
    let shorter = ap length (lowest c.args.self.now.0 (search rules) (some_left _ c.if-left-eq0.false)).rest in
    search rules
