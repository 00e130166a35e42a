use Rattle.board.proofs.points.Keys.{placed_there, placed_none}
use Rattle.board.proofs.points.Table.{info-found, info-absent}
use native.Mathlib.Omega.{arith}
use Rattle.board.proofs.points.OrderedPoints.info_at.Goals as goal

pub returns-in_default : goal.returns-in_default
returns-in_default c =
    info-absent _ _ _ _ (placed_none _ _ _ c.args.self.rule.order c.first_from-i.ensures (λ l e. absurd (omega (arith, c.in_default.ensures.lookup.3))))

pub returns-then-found-wanted : goal.returns-then-found-wanted
returns-then-found-wanted c =
    info-absent _ _ _ _
    (placed_none _ _ _ c.args.self.rule.order c.first_from-i.ensures (λ l e. c.if-found-wanted.true (omega (arith, c.in-Some.ensures.lookup.3.1 0))))

pub returns : goal.returns
returns c =
    let r = c.args.self.rule in
    let g = c.in-Some.ensures.lookup.3 in
    info-found _ _ _ _ r.order r.paired (placed_there _ _ _ r.order c.first_from-i.ensures (g.0, λ d. omega (arith, g.1 d, c.if-found-wanted.false)))
