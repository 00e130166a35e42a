use Rattle.board.proofs.steady.Steadying.{any-within, first-within, lines-hold, within-turned, ever-holds, longer-holds}
use Rattle.board.proofs.steady.Pair.within.Goals as goal

pub returns-then-any-eq-END : goal.returns-then-any-eq-END
returns-then-any-eq-END c =
    let a = c.anywhere-follower.ensures in
    let b = c.anywhere-master.ensures in
    ever-holds _ _ _ _ _
    (any-within _ _ c.args.self.follower.valid c.args.self.master.valid _ _ _
    (rw (a.place.0, a.place.1, a.pace.0, a.pace.1, a.ticks, b.place.0, b.place.1, b.pace.0, b.pace.1, b.ticks) at c.together-any.ensures))
    c.if-any-eq-END.true

pub returns : goal.returns
returns c =
    let v = c.args.self.follower.valid in
    let w = c.args.self.master.valid in
    let a = c.anywhere-follower.ensures in
    let b = c.anywhere-master.ensures in
    let l = c.line-follower_line.ensures in
    let m = c.line-master_line.ensures in
    longer-holds _ _ _ _ _ _ _
    (longer-holds _ _ _ _ _ _ _
    (longer-holds _ _ _ _ _ _ _
    (longer-holds _ _ _ _ _ _ _
    (lines-hold _ _ v w _ _ _
    (rw (l.place.0, l.place.1, l.pace.0, l.pace.1, l.ticks, m.place.0, m.place.1, m.pace.0, m.pace.1, m.ticks) at c.together-lines.ensures))
    (first-within _ _ v w _ _ _
    (rw (l.place.0, l.place.1, l.pace.0, l.pace.1, l.ticks, b.place.0, b.place.1, b.pace.0, b.pace.1, b.ticks) at c.together-first.ensures)) c.max.ensures)
    (within-turned _ _ _ _ _
    (first-within _ _ w v _ _ _
    (rw (m.place.0, m.place.1, m.pace.0, m.pace.1, m.ticks, a.place.0, a.place.1, a.pace.0, a.pace.1, a.ticks) at c.together-second.ensures))) c.max-2.ensures)
    c.in_step-round.ensures c.max-3.ensures)
    c.unmoved-rest.ensures c.max-4.ensures
