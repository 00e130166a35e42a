use mathlib.Core.Path.{ap, ◌∙◌}
use native.Mathlib.Omega.{arith}
use Rattle.std.proofs.Common.{Some}
use Rattle.script.specs.Number.{positive, negative}
use Rattle.script.proofs.number.Digits.{no_minus, below_minus, negative-zero, negative-more, held, held_minus}
use Rattle.script.proofs.number.read_number.Goals as goal

pub returns-in_err-read_size : goal.returns-in_err-read_size
returns-in_err-read_size c = c.from_residual.ensures ∙ ap positive c.in_err-read_size.ensures ∙ no_minus c.args.field.now c.in_default.ensures.cases

pub returns-in_default : goal.returns-in_default
returns-in_default c = ap Some (held c.in_ok-read_size.field-0 c.from.result (omega arith) c.from.ensures) ∙ ap positive c.in_ok-read_size.ensures ∙ no_minus c.args.field.now c.in_default.ensures.cases

pub returns-in_err-size : goal.returns-in_err-size
returns-in_err-size c =
    c.from_residual-in_err-size.ensures
    ∙ ap negative c.in_err-size.ensures
    ∙ below_minus c.args.field.now c.in-Some.digits.now c.in-Some.ensures.cases.0 c.in-Some.ensures.cases.1

pub returns-then-size-eq0 : goal.returns-then-size-eq0
returns-then-size-eq0 c =
    negative-zero c.in_ok-size.size c.if-size-eq0.true
    ∙ ap negative c.in_ok-size.ensures
    ∙ below_minus c.args.field.now c.in-Some.digits.now c.in-Some.ensures.cases.0 c.in-Some.ensures.cases.1

pub returns-else-size-eq0 : goal.returns-else-size-eq0
returns-else-size-eq0 c =
    ap Some (held_minus c.in_ok-size.size c.from-else-size-eq0.result (omega arith) c.from-else-size-eq0.ensures)
    ∙ negative-more c.in_ok-size.size c.if-size-eq0.false
    ∙ ap negative c.in_ok-size.ensures
    ∙ below_minus c.args.field.now c.in-Some.digits.now c.in-Some.ensures.cases.0 c.in-Some.ensures.cases.1
