use Rattle.board.proofs.tick.Commands.{Turns, number-at, turn, turn-valid, turns-end}
use Rattle.board.specs.Board.{track_at}
use Rattle.board.specs.Log.{log_bytes}
use Rattle.board.specs.Tick.{obeyed, obeyed_records}
use Rattle.track.specs.Rule.{Valid}
use Prim.Native.Nat.{ℕ, ◌+◌}
use lib.ListN.{length, length-map, set}
use mathlib.Core.List.{◌++◌}
use mathlib.Core.Path.{ap, sym, subst, ◌∙◌}
use native.Mathlib.Omega.{arith}
use Rattle.board.proofs.tick.run_commands.Goals as goal

pub obey-requires-clause-valid : goal.obey-requires-clause-valid
obey-requires-clause-valid c z =
    let at = number-at _ _ c.infos-d-items.ensures c.loop-d-test.true c.d-item.is in
    subst (λ (n : ℕ). Valid (track_at c.loop-d.tracks n)) (sym c.target-at.ensures)
    (turn-valid _ _ _ _ _ c.loop-d.tracks c.loop-d.stage c.loop-d.d-index c.loop-d.invariant at.0 _ at.1 z)

pub loop-d-preserved : goal.loop-d-preserved
loop-d-preserved c =
    let at = number-at _ _ c.infos-d-items.ensures c.loop-d-test.true c.d-item.is in
    let e = c.target-at.ensures in
    subst
    (λ (n : ℕ). Turns c.args.present c.args.clock.0 c.args.reached.now c.args.tracks.now c.args.stage.now (set c.loop-d.tracks n c.obey.result) c.obey.new.stage (c.loop-d.d-index + 1))
    (sym e)
    (turn _ _ _ _ _ c.loop-d.tracks c.loop-d.stage c.loop-d.d-index c.loop-d.invariant at.0 _ at.1
    (c.obey.ensures.track ∙ ap (λ n. obeyed c.d-item.result.number (track_at c.loop-d.tracks n)) e)
    (c.obey.ensures.records ∙ ap (λ n. c.loop-d.stage ++ log_bytes (obeyed_records c.args.clock.0 c.d-item.result.number (track_at c.loop-d.tracks n))) e))

pub returns : goal.returns
returns c =
    let long = length-map c.infos-d-items.result.now (λ d. d.number) in
    let d = turns-end _ _ _ _ _ c.loop-d.tracks c.loop-d.stage c.loop-d.d-index c.loop-d.invariant (omega (arith, ap length c.infos-d-items.ensures, long)) in
    record { tracks = d.0; records = d.1; word = c.playing.ensures }
