use Rattle.std.specs.Prelude.{Option, Some}
use Prim.Native.Nat.{ℕ, ◌≤◌}
use lib.IntN.{ℤ}
use mathlib.Core.Bool.{true}
use mathlib.Core.Path.{◌≡◌, ◌∙◌, sym, ap₂}
use native.Mathlib.Omega.{arith}
use Rattle.track.specs.Setup.{settled}
use Rattle.board.proofs.call.Leaving.{set-point-leaves}
use Rattle.board.proofs.quiet.Leaps.{unbroken-points}
use Rattle.board.proofs.rules.Broken.{unbroken-of, present-small}
use Rattle.board.proofs.rules.Present.{found_in_lem, found-below, target_below}
use Rattle.board.proofs.setup.Guards.{described-rule, points-refused, points-put}
use Rattle.board.proofs.setup.Results.{ok-some, err-none, ok-true, some-told}
use Rattle.board.specs.Board.{found_in, Unbroken, PointRule, track_at, unbroken_test}
use Rattle.board.specs.Points.{stored_in}
use Rattle.board.specs.Setup.{Outcome, outcome, refused, accepted, board_with, described_by, on_described, set_point}
use Rattle.board.specs.declared.Board.{Board}
use Rattle.board.specs.declared.call.PointNumbers.{PointNumbers}
use Rattle.board.specs.declared.points.Point.{Point}
use Rattle.board.proofs.Board.set_point.Goals as goal

pub bounds-self-i : goal.bounds-self-i
bounds-self-i c = grind (arith, found-below)

pub overflow_cast-i : goal.overflow_cast-i
overflow_cast-i c = grind (arith, found-below)

-- the point that is described for the track that is found keeps the rules of a point
ruled : (b : Board) (track : ℤ) (given : PointNumbers) {i : ℕ} {p : Point} → found_in b.present track ≡ Some i →
    described_by b.present i (track_at b.tracks i) given ≡ Some p → PointRule b.present b.tracks p
ruled b track given e d =
    described-rule b.present _ b.tracks given (found_in_lem b.present track e) d

-- and its position is at most 1,000,000
high : (b : Board) {p : Point} → Unbroken b → PointRule b.present b.tracks p → p.position.0 ≤ 2000000
high b u r = omega (arith, r.high, (u.tracks _ r.track).valid.ordered.last)

pub key-requires : goal.key-requires
key-requires c =
    let a = c.args in
    let r = ruled a.self _ _ (some-told (found_in _) _ c.ranges.track c.in_ok-i.ensures)
    (sym c.describe.ensures ∙ (ok-some _ _ (sym c.in_ok-p.ensures.value))) in
    (present-small _ _ r.track, high a.self (unbroken-of a.self (ok-true _ _ (sym c.in_ok-checked.ensures))) r)

pub info-requires : goal.info-requires
info-requires c =
    let a = c.args in
    let r = ruled a.self _ _ (some-told (found_in _) _ c.ranges.track c.in_ok-i.ensures)
    (sym c.describe.ensures ∙ (ok-some _ _ (sym c.in_ok-p.ensures.value))) in
    (r.wait, r.command, target_below _ _ _ r.target)

pub stored-requires : goal.stored-requires
stored-requires c = record { rule = unbroken-points _ (unbroken-of c.args.self (ok-true _ _ (sym c.in_ok-checked.ensures))) }

pub returns-in_err-checked : goal.returns-in_err-checked
unfolding set_point
returns-in_err-checked c = set-point-leaves _ _ _ {r = outcome c.args.self c.from_residual.result} (grind arith)

pub returns-in_err-i : goal.returns-in_err-i
unfolding set_point
returns-in_err-i c = set-point-leaves _ _ _ {r = outcome c.args.self c.from_residual-in_err-i.result} (grind arith)

pub returns-then-not-settled : goal.returns-then-not-settled
unfolding set_point
returns-then-not-settled c = set-point-leaves _ _ _ {r = refused 2 c.args.self} (grind arith)

-- what the call comes to where its track is settled
reached : (b : Board) (track : ℤ) (given : PointNumbers) {i : ℕ} {d : Option Point} → unbroken_test b ≡ true →
    found_in b.present track ≡ Some i → settled (track_at b.tracks i).mode ≡ true →
    described_by b.present i (track_at b.tracks i) given ≡ d → {r : Outcome} → r ≡ on_described b d →
    r ≡ set_point b track given
unfolding set_point
reached b track given u f m d q = q ∙ simp (u, f, m, d)

pub returns-in_err-p : goal.returns-in_err-p
returns-in_err-p c =
    let q : outcome c.args.self c.from_residual-in_err-p.result ≡ refused 3 c.args.self = grind arith in
    set-point-leaves _ _ _ {r = outcome c.args.self c.from_residual-in_err-p.result}
    (reached _ _ _ (ok-true _ _ (sym c.in_ok-checked.ensures)) (some-told (found_in _) _ c.ranges.track c.in_ok-i.ensures)
    (sym c.settled.ensures ∙ c.if-not-settled.false)
    (sym c.describe.ensures ∙ (err-none _ _ (sym c.in_err-p.ensures.value)).0) q)

pub returns-in_err-self : goal.returns-in_err-self
returns-in_err-self c =
    let q : outcome c.args.self c.from_residual-in_err-self.result ≡ refused 5 c.args.self = grind arith in
    set-point-leaves _ _ _ {r = outcome c.args.self c.from_residual-in_err-self.result}
    (reached _ _ _ (ok-true _ _ (sym c.in_ok-checked.ensures)) (some-told (found_in _) _ c.ranges.track c.in_ok-i.ensures)
    (sym c.settled.ensures ∙ c.if-not-settled.false)
    (sym c.describe.ensures ∙ (ok-some _ _ (sym c.in_ok-p.ensures.value)))
    (points-refused c.args.self 5 (c.stored.ensures ∙ ap₂ (stored_in c.args.self.points) c.key.ensures c.info.ensures)
    (err-none _ _ (sym c.in_err-self.ensures.value)).0 q))

pub returns : goal.returns
returns c =
    let b = c.args.self in
    set-point-leaves _ _ _ {r = accepted (board_with b b.tracks b.present c.in_ok-self.field-0 b.held)}
    (reached _ _ _ (ok-true _ _ (sym c.in_ok-checked.ensures)) (some-told (found_in _) _ c.ranges.track c.in_ok-i.ensures)
    (sym c.settled.ensures ∙ c.if-not-settled.false)
    (sym c.describe.ensures ∙ (ok-some _ _ (sym c.in_ok-p.ensures.value)))
    (points-put b 5 (c.stored.ensures ∙ ap₂ (stored_in b.points) c.key.ensures c.info.ensures) (ok-some _ _ (sym c.in_ok-self.ensures.value))))
