use Rattle.board.proofs.quiet.Reaching.{sooner}
use Rattle.board.proofs.quiet.Player.quiet_steps.Goals as goal

pub returns : goal.returns
returns c = sooner _ _ _ c.args.self.valid.valid _ _ c.running.ensures c.to_point-point.ensures c.min.ensures
