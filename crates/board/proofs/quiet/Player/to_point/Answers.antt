use Rattle.std.specs.Prelude.{Option}
use Prim.Native.Nat.{ℕ}
use mathlib.Core.List.{List}
use mathlib.Core.Path.{◌≡◌}
use Rattle.track.specs.declared.Coordinate.{Coordinate}
use Rattle.track.specs.declared.Track.{Track}
use Rattle.track.specs.Rule.{Valid, backward}
use Rattle.board.specs.Points.{key, info_at, nearest, RowsRule}
use Rattle.board.proofs.quiet.Reaching.{Sought, Looked, found_here, near-inside, found-near, found-home, again-inside, found-again, found_none}
use Rattle.track.proofs.Arrivals.{arrival-inside}
use native.Mathlib.Omega.{arith}
use Rattle.board.proofs.quiet.Player.to_point.Goals as goal

-- the records of Reaching, of what the code requires and of what a look-up ensures
sought : {ks ds : List ℕ} {t : Track} → Valid t → RowsRule ks ds → Sought ks ds t
sought v r = record { valid = v; ascending = r.order; telling = r.nonzero }

looked : {ks ds : List ℕ} {i : ℕ} {t : Track} {l d : ℕ} {r : Option Coordinate} → d ≡ info_at (key i l) ks ds
    → r ≡ nearest (backward t) i l t.start.0 t.end.0 ks → Looked ks ds i t l d r
looked e n = record { info = e; near = n }

pub look_up-here-requires : goal.look_up-here-requires
look_up-here-requires c =
    let l = arrival-inside c.args.self.valid.track c.args.self.valid.valid in
    record { inside = (omega arith, omega arith, omega arith) }

pub returns-then-here-ne0 : goal.returns-then-here-ne0
returns-then-here-ne0 c =
    let f = c.look_up-here.ensures in
    found_here (sought c.args.self.valid.valid c.args.self.points.points.rule) (looked f.info f.near) c.arrival-l.ensures c.if-here-ne0.true

pub steps_to-requires : goal.steps_to-requires
steps_to-requires c =
    let f = c.look_up-here.ensures in
    near-inside (sought c.args.self.valid.valid c.args.self.points.points.rule) (looked f.info f.near) c.arrival-l.ensures c.if-here-ne0.false _ c.in-Some.is

pub returns-in-Some : goal.returns-in-Some
returns-in-Some c =
    let f = c.look_up-here.ensures in
    found-near (sought c.args.self.valid.valid c.args.self.points.points.rule) (looked f.info f.near) c.arrival-l.ensures c.if-here-ne0.false _ c.in-Some.is c.steps_to.ensures

pub returns-then-again-ne0 : goal.returns-then-again-ne0
returns-then-again-ne0 c =
    let f = c.look_up-here.ensures in
    let g = c.look_up-again.ensures in
    found-home (sought c.args.self.valid.valid c.args.self.points.points.rule) (looked f.info f.near) c.arrival-l.ensures c.if-here-ne0.false c.in_default.is
    (looked g.info g.near) c.home-home.ensures c.if-again-ne0.true c.steps_to-then-again-ne0.ensures

pub steps_to-requires-in-Some-near : goal.steps_to-requires-in-Some-near
steps_to-requires-in-Some-near c =
    let f = c.look_up-here.ensures in
    let g = c.look_up-again.ensures in
    again-inside (sought c.args.self.valid.valid c.args.self.points.points.rule) (looked f.info f.near) c.arrival-l.ensures c.if-here-ne0.false c.in_default.is
    (looked g.info g.near) c.home-home.ensures c.if-again-ne0.false _ c.in-Some-near.is

pub returns-in-Some-near : goal.returns-in-Some-near
returns-in-Some-near c =
    let f = c.look_up-here.ensures in
    let g = c.look_up-again.ensures in
    found-again (sought c.args.self.valid.valid c.args.self.points.points.rule) (looked f.info f.near) c.arrival-l.ensures c.if-here-ne0.false c.in_default.is
    (looked g.info g.near) c.home-home.ensures c.if-again-ne0.false _ c.in-Some-near.is c.steps_to-in-Some-near.ensures

pub returns-in-None : goal.returns-in-None
returns-in-None c =
    let f = c.look_up-here.ensures in
    let g = c.look_up-again.ensures in
    found_none (sought c.args.self.valid.valid c.args.self.points.points.rule) (looked f.info f.near) c.arrival-l.ensures c.if-here-ne0.false c.in_default.is
    (looked g.info g.near) c.home-home.ensures c.if-again-ne0.false c.in-None.is
