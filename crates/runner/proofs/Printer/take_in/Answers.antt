use Rattle.std.proofs.Common.{rules}
use Rattle.script.proofs.run.Runs.{went_on, went-all}
use Rattle.runner.proofs.Printer.take_in.Goals as goal

pub loop-at-preserved : goal.loop-at-preserved
loop-at-preserved g c = (search rules, search rules, went_on c.loop-at.invariant.2 c.feed-fed.ensures.goes)

pub returns : goal.returns
returns g c = went-all c.args.piece.now c.loop-at.at c.loop-at-test.false c.loop-at.invariant.2
