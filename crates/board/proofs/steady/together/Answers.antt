use Rattle.board.proofs.steady.Exits.{asked-first}
use Rattle.board.proofs.steady.together.Goals as goal

pub stay-ticks-requires-clause-asked : goal.stay-ticks-requires-clause-asked
stay-ticks-requires-clause-asked c =
    let a = c.args.a in
    let b = c.args.b in
    let d = c.args.band in
    rw c.scaled.ensures (asked-first a.at a.width a.pace a.parts b.at b.width b.pace b.parts d.least d.greatest a.near a.narrow a.slow a.some a.few b.near b.narrow b.slow b.some b.few d.low d.high)
