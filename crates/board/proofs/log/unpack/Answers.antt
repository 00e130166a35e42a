use Rattle.board.proofs.log.Records.{unpack-refuses-length, unpack-refuses-kind, unpack-holds, read-kind}
use Rattle.board.specs.Log.{record_values, kind_test, record_is, spelled}
use mathlib.Core.Path.{◌≡◌, ◌∙◌, sym, ap}
use Rattle.board.proofs.log.unpack.Goals as goal

pub returns-in_default : goal.returns-in_default
returns-in_default c = sym (unpack-refuses-length c.args.s.now c.in_default.ensures.1)

pub returns-then-not-kind_known : goal.returns-then-not-kind_known
returns-then-not-kind_known c =
    let read : record_values c.from-r.result ≡ spelled c.args.s.now = c.from-r.ensures ∙ ap spelled c.in-Ok.ensures.1.same in
    sym (unpack-refuses-kind c.args.s.now (ap kind_test (sym (read-kind _ _ read)) ∙ sym c.kind_known.ensures ∙ c.if-not-kind_known.true))

pub returns : goal.returns
returns c =
    let w = c.in-Ok.ensures.1 in
    let read : record_values c.from-r.result ≡ spelled c.args.s.now = c.from-r.ensures ∙ ap spelled w.same in
    ap record_is read
    ∙ sym (unpack-holds c.args.s.now w.long (ap kind_test (sym (read-kind _ _ read)) ∙ sym c.kind_known.ensures ∙ c.if-not-kind_known.false))
