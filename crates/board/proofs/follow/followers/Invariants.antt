use Rattle.track.specs.Follow.{follows}
use Rattle.board.proofs.follow.followers.Given as goal

abbrev pub ghost-word_of : goal.ghost-word_of
ghost-word_of a = follows
