use Rattle.board.proofs.rules.Passing.{point-track, point-target}
use Rattle.board.specs.Points.{point_of}
use Rattle.board.specs.declared.points.Point.{Point}
use mathlib.Core.Path.{ap}
use native.Mathlib.Omega.{arith}
use Rattle.board.proofs.Board.point_kept.Goals as goal
use Rattle.board.proofs.Board.point_kept.Goals.{then-key-ge-END-via-then-key-ge-END, then-key-ge-END-via-else-key-ge-END+then-info-ge-END}

pub returns-then-key-ge-END : goal.returns-then-key-ge-END
returns-then-key-ge-END c =
    elim c.then-key-ge-END.branch [
      | then-key-ge-END-via-then-key-ge-END w ↦ point-track _ _ _ _ w.if-key-ge-END.true
      | then-key-ge-END-via-else-key-ge-END+then-info-ge-END w ↦ point-target _ _ _ _ w.if-info-ge-END.true
    ]

pub bounds-self-from : goal.bounds-self-from
unfolding point_of
bounds-self-from c = omega (arith, c.from.ensures, ap (λ (p : Point). p.track) c.of-p.ensures)
