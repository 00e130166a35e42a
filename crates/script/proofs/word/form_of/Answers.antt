use mathlib.Core.Path.{refl}
use Rattle.script.specs.Word.{forms}
use Rattle.script.proofs.word.Words.{form-found, sought-next, form-none}
use Rattle.script.proofs.word.form_of.Goals as goal

pub loop-place-init : goal.loop-place-init
unfolding forms
loop-place-init c = record { table = refl; code = refl }

pub returns-then-eq-clause-form : goal.returns-then-eq-clause-form
returns-then-eq-clause-form c = form-found c.loop-place.invariant _ c.loop-place-test.true c.if-eq.ensures

pub loop-place-preserved : goal.loop-place-preserved
loop-place-preserved c = sought-next c.loop-place.invariant _ c.loop-place-test.true c.if-eq.ensures

pub returns-clause-form : goal.returns-clause-form
returns-clause-form c = form-none c.loop-place.invariant c.loop-place-test.false
