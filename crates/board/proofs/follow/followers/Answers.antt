use Rattle.board.proofs.follow.Following.{following-by}
use mathlib.Core.Path.{◌∙◌}
use Rattle.board.proofs.follow.followers.Goals as goal

pub returns : goal.returns
returns c = c.word_of.ensures ∙ following-by c.args.present c.args.tracks.now
