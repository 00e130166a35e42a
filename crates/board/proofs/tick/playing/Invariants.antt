use Rattle.board.proofs.tick.PlayingLaws.{plays}
use Rattle.board.proofs.tick.playing.Given as goal

abbrev pub ghost-word_of : goal.ghost-word_of
ghost-word_of a = plays
