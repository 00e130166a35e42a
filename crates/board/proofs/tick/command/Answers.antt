use Prim.Native.Nat.{◌+◌, ◌*◌}
use Rattle.board.proofs.tick.Commands.{Goes?, grid-goes}
use Rattle.board.specs.Log.{log_bytes, detail_unit}
use Rattle.board.specs.Tick.{record_of, change_records, commanded, command_records}
use Rattle.track.specs.Grid.{grid_of}
use mathlib.Core.List.{[], ◌∷◌, ◌++◌}
use mathlib.Core.Path.{◌∙◌, sym, ap, subst}
use Rattle.board.proofs.tick.command.Goals as goal

pub change_record-requires : goal.change_record-requires
change_record-requires c = subst Goes? (sym c.grid.ensures ∙ c.in-Some.is) (grid-goes _ _)

pub returns-in-Some : goal.returns-in-Some
unfolding commanded command_records
returns-in-Some c =
    let t = c.args.t.track in
    let e = sym c.in-Some.is ∙ c.grid.ensures ∙ ap (grid_of t.mode) c.command-call.ensures in
    let target = ap (λ n. change_records c.args.clock.0 n t c.in-Some.new t.position.0 t.passes.0) c.target-target.ensures in
    record {
      track = c.entered.ensures ∙ ap (commanded t) e;
      records = c.put.ensures
          ∙ ap (λ rs. c.args.stage.now ++ log_bytes rs) (c.change_record.ensures ∙ target ∙ ap (command_records c.args.clock.0 c.args.d.number t) e);
    }

pub returns-in-None : goal.returns-in-None
unfolding commanded command_records
returns-in-None c =
    let t = c.args.t.track in
    let e = sym c.in-None.is ∙ c.grid.ensures ∙ ap (grid_of t.mode) c.command-call.ensures in
    record {
      track = ap (commanded t) e;
      records = c.put-in-None.ensures
          ∙ (λ j. c.args.stage.now
          ++ log_bytes (record_of c.args.clock.0 (c.target-target.ensures j) 3 (c.event.ensures j) (c.command-call.ensures j * detail_unit + t.mode) t.position.0 t.passes.0 ∷ []))
          ∙ ap (λ r. c.args.stage.now ++ log_bytes (command_records c.args.clock.0 c.args.d.number t r)) e;
    }
