use Rattle.board.proofs.steady.Steadying.{round-within}
use borrow.Author.Tests.{eq-eqb, ne_eqb}
use Rattle.board.proofs.steady.Pair.in_step.Goals as goal

pub returns : goal.returns
returns c =
    round-within c.args.self.follower.track c.args.self.master.track c.args.self.follower.valid c.args.self.master.valid _ _
    (eq-eqb _ _ c.if-t-ne-PLAYING.false) (eq-eqb _ _ c.if-m-ne-PLAYING.false) (ne_eqb _ _ c.if-t-eq-DUE.false)
    (ne_eqb _ _ c.if-m-eq-DUE.false) (rw (c.from.ensures, c.from-k.ensures, c.from-else-m-eq-DUE.ensures, c.from-q.ensures) at c.if-from-k.false) _
    (rw (c.fine.ensures.0, c.fine-2.ensures.0, c.from-2.ensures, c.span.ensures, c.from-3.ensures, c.span-2.ensures, c.scaled.ensures, c.from-k.ensures, c.from-q.ensures) at c.rounds.ensures)
