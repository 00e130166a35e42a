use Rattle.board.proofs.tick.PlayingLaws.{playing-by}
use mathlib.Core.Path.{◌∙◌}
use Rattle.board.proofs.tick.playing.Goals as goal

pub returns : goal.returns
returns c = c.word_of.ensures ∙ playing-by c.args.present c.args.tracks.now
