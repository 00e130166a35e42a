use Rattle.std.specs.Prelude.{Some}
use Prim.Native.Nat.{ℕ, ◌≤◌}
use Rattle.board.proofs.rules.Broken.{unbroken-of}
use Rattle.board.proofs.tick.Commands.{Goes?, grid-goes}
use Rattle.board.proofs.rules.Present.{found_in_lem, found-below}
use Rattle.board.proofs.mode.Results.{result-gives, refused-gives, follows-silent, follows-noted, full-declines, changed-with}
use Rattle.board.specs.declared.Board.{Board}
use Rattle.board.specs.Board.{found_in, unbroken_test, track_at}
use Rattle.board.specs.Log.{capacity}
use Rattle.board.specs.Mode.{decided, changes_to, mode_result}
use Rattle.board.specs.Tick.{listed}
use Rattle.track.specs.declared.refusal.Refusal.TheVariants as refusal
use Rattle.track.proofs.Numbers.{some-take}
use Rattle.track.proofs.Tests.{cond_yes}
use Rattle.track.specs.Grid.{grid_of}
use Rattle.track.specs.Rule.{Valid}
use borrow.Author.Tests.{le-leb}
use lib.IntN.{ℤ}
use mathlib.Core.Bool.{true}
use mathlib.Core.Path.{◌≡◌, ◌∙◌, sym, ap, refl, subst}
use native.Mathlib.Omega.{arith}
use Rattle.board.proofs.Board.change_mode.Goals as goal

-- the guards are passed: the board keeps its rules, the track is found, and the grid gives a mode
record Passed (b : Board) (track : ℤ) (call i mode : ℕ) : Type 0 where
  kept : unbroken_test b ≡ true
  found : found_in b.present track ≡ Some i
  goes : grid_of (track_at b.tracks i).mode call ≡ Some mode

module _ (b : Board) (track : ℤ) (call : ℕ) {i mode : ℕ} (p : Passed b track call i mode) where
  valid : Valid (track_at b.tracks i)
  valid = ((unbroken-of b p.kept).tracks _ (found_in_lem b.present track p.found)).valid

  low : mode ≤ 3
  low = subst Goes? p.goes (grid-goes _ call)

  -- up to the change, the result is that of the change
  chosen : (n : ℕ) → b.held ≤ capacity n → changes_to b n i mode ≡ mode_result b n track call
  unfolding mode_result decided
  chosen n h = cond_yes _ _ p.kept (cond_yes _ _ (le-leb _ _ h) (some-take _ _ _ p.found (ap (decided _ _ _) (sym p.goes))))

pub bounds-self-at : goal.bounds-self-at
bounds-self-at c = let e : found_in c.args.self.now.present c.args.track ≡ Some c.in_ok-at.field-0 = grind arith in found-below _ _ e

pub overflow_cast-at-2 : goal.overflow_cast-at-2
overflow_cast-at-2 c =
    let p : Passed c.args.self.now c.args.track c.args.call c.in_ok-at.field-0 c.in_ok-new.new =
    record { kept = grind arith; found = grind arith; goes = grind arith } in
    omega (arith, found-below _ _ p.found)

pub invariant_of-valid : goal.invariant_of-valid
invariant_of-valid c =
    let p : Passed c.args.self.now c.args.track c.args.call c.in_ok-at.field-0 c.in_ok-new.new =
    record { kept = grind arith; found = grind arith; goes = grind arith } in
    record { valid = valid _ _ _ p }

pub change_record-requires : goal.change_record-requires
change_record-requires c =
    let p : Passed c.args.self.now c.args.track c.args.call c.in_ok-at.field-0 c.in_ok-new.new =
    record { kept = grind arith; found = grind arith; goes = grind arith } in
    low _ _ _ p

-- ---- the ways out

pub returns-in_err-checked : goal.returns-in_err-checked
unfolding mode_result
returns-in_err-checked c = refused-gives _ _ _ _ refusal.Value (grind arith) (grind arith)

pub returns-then-capacity-held : goal.returns-then-capacity-held
unfolding mode_result
returns-then-capacity-held c = refused-gives _ _ _ _ refusal.Capacity (grind arith) refl

pub returns-in_err-at : goal.returns-in_err-at
unfolding mode_result
returns-in_err-at c = refused-gives _ _ _ _ refusal.Track (grind arith) (grind arith)

pub returns-in_err-new : goal.returns-in_err-new
unfolding mode_result decided
returns-in_err-new c = refused-gives _ _ _ _ refusal.Mode (grind arith) (grind arith)

pub returns-in_default : goal.returns-in_default
returns-in_default c =
    let b = c.args.self.now in
    let p : Passed b c.args.track c.args.call c.in_ok-at.field-0 c.in_ok-new.new =
    record { kept = grind arith; found = grind arith; goes = grind arith } in (
      result-gives b _ _ _
          (follows-silent b _ _ _ (chosen b _ _ p _ c.if-capacity-held.false) (sym c.change_record.ensures ∙ ap listed c.in_default.is) c.if-capacity-held.false
          (changed-with b _ _ c.entered-after.ensures)),
      found-below _ _ p.found,
    )

pub returns-then-capacity-held-2 : goal.returns-then-capacity-held-2
returns-then-capacity-held-2 c =
    let b = c.args.self.now in
    let p : Passed b c.args.track c.args.call c.in_ok-at.field-0 c.in_ok-new.new =
    record { kept = grind arith; found = grind arith; goes = grind arith } in
    refused-gives _ _ _ _ refusal.Room
    (sym (full-declines b _ _ _ (sym c.change_record.ensures ∙ ap listed c.in-Some.is) c.if-capacity-held-2.true ∙ chosen b _ _ p _ c.if-capacity-held.false)) refl

pub returns : goal.returns
returns c =
    let b = c.args.self.now in
    let p : Passed b c.args.track c.args.call c.in_ok-at.field-0 c.in_ok-new.new =
    record { kept = grind arith; found = grind arith; goes = grind arith } in (
      result-gives b _ _ _
          (follows-noted b _ _ _ (chosen b _ _ p _ c.if-capacity-held.false) (sym c.change_record.ensures ∙ ap listed c.in-Some.is) c.if-capacity-held-2.false
          (changed-with b _ _ c.entered-after.ensures) refl c.put_record.ensures),
      found-below _ _ p.found,
    )
