use mathlib.Core.Path.{ap, sym, ◌∙◌}
use native.Mathlib.Omega.{arith}
use mir.Facts.{to_z-of_z}
use mir.Syntax.{w64}
use mir.Val.{SFits}
use Rattle.std.proofs.Common.{Some}
use borrow.Author.Rules.{rules}
use Rattle.script.specs.Grammar.{fields_of}
use Rattle.script.proofs.grammar.Fields.{field-next, field-left, at-some, at-none}
use Rattle.script.proofs.grammar.Rows.{row-unknown, reading-start, row-short, row-bad, row_next, row_long, row_done}
use Rattle.script.proofs.grammar.read_row.Goals as goal

pub returns-in_err-form-clause-row : goal.returns-in_err-form-clause-row
returns-in_err-form-clause-row c =
    let first = field-next _ _ _ _ _ c.in_ok-next.ensures.steps (λ f a r g h. search rules) in
    c.from_residual-in_err-form.ensures ∙ row-unknown _ (ap fields_of (sym c.split-fields.ensures.rest) ∙ first) c.in_err-form.ensures.form

pub loop-number-init : goal.loop-number-init
loop-number-init c =
    let first = field-next _ _ _ _ _ c.in_ok-next.ensures.steps (λ f a r g h. search rules) in
    reading-start _ (ap fields_of (sym c.split-fields.ensures.rest) ∙ first) c.in_ok-form.form _ c.in_ok-form.ensures.form (search rules)

pub returns-in_err-next-2-clause-row : goal.returns-in_err-next-2-clause-row
returns-in_err-next-2-clause-row c = c.from_residual-in_err-next-2.ensures ∙ row-short _ c.loop-number.invariant (omega (arith, c.loop-number.invariant.long)) c.in_err-next-2.ensures.steps.0

pub returns-in_err-number-clause-row : goal.returns-in_err-number-clause-row
returns-in_err-number-clause-row c =
    let next = field-left _ _ _ _ _ c.in_ok-next-2.ensures.steps (λ f a r g h. search rules) in
    c.from_residual-in_err-number.ensures ∙ row-bad _ _ c.loop-number.invariant (omega (arith, c.loop-number.invariant.long)) next c.in_err-number.ensures

pub loop-number-preserved : goal.loop-number-preserved
loop-number-preserved c =
    let next = field-left _ _ _ _ _ c.in_ok-next-2.ensures.steps (λ f a r g h. search rules) in
    let held : SFits w64 c.in_ok-number.field-0 = search rules in
    row_next _ _ _ c.loop-number.invariant (omega (arith, c.loop-number.invariant.long)) next (ap Some (to_z-of_z held) ∙ c.in_ok-number.ensures)

pub returns-then-is_some-clause-row : goal.returns-then-is_some-clause-row
returns-then-is_some-clause-row c =
    let s = at-some _ _ c.next-2.result c.if-is_some.ensures c.next-2.ensures.steps in
    let next = field-left _ _ _ _ _ s.1 (λ f a r g h. search rules) in
    row_long _ _ c.loop-number.invariant (omega (arith, c.loop-number.invariant.long)) next

pub returns-clause-row : goal.returns-clause-row
returns-clause-row c =
    let s = at-none _ _ c.next-2.result c.if-is_some.ensures c.next-2.ensures.steps in
    row_done _ c.loop-number.invariant (omega (arith, c.loop-number.invariant.long)) c.in_ok-form.ensures.few.1 s.0
