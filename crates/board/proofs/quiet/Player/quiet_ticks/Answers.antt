use Rattle.board.proofs.quiet.Reaching.{ticked}
use Rattle.board.proofs.quiet.Player.quiet_ticks.Goals as goal

pub ticks_before-requires : goal.ticks_before-requires
ticks_before-requires c = c.quiet_steps.ensures.small

pub returns : goal.returns
returns c = ticked _ _ c.args.self.valid.track c.args.self.valid.valid _ c.quiet_steps.ensures c.ticks_before.ensures
