use Rattle.script.proofs.word.Words.{Sought}
use Rattle.script.proofs.word.form_of.Given as goal

abbrev pub invariant-loop-place : goal.invariant-loop-place
invariant-loop-place l = Sought l.word l.name-items l.place
