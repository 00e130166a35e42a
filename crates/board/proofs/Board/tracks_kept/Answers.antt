use Rattle.board.proofs.rules.Passing.{tracks-next, tracks-bad, tracks-end}
use mathlib.Core.Path.{◌∙◌, sym}
use native.Mathlib.Omega.{arith}
use Rattle.board.proofs.Board.tracks_kept.Goals as goal
use Rattle.board.proofs.Board.tracks_kept.Goals.{else-word-eq1-via-then-word-eq1+else-not-track_kept, else-word-eq1-via-else-word-eq1}

pub returns-then-not-track_kept-clause-value : goal.returns-then-not-track_kept-clause-value
returns-then-not-track_kept-clause-value c =
    tracks-bad _ _ _ _ _ (omega arith) c.if-word-eq1.true (sym c.track_kept.ensures ∙ c.if-not-track_kept.true) ∙ c.loop-i.invariant

pub loop-i-preserved : goal.loop-i-preserved
loop-i-preserved c =
    tracks-next _ _ _ _ _ (omega arith)
    (elim c.else-word-eq1.branch [
      | else-word-eq1-via-then-word-eq1+else-not-track_kept w ↦ λ e. sym w.track_kept.ensures ∙ w.if-not-track_kept.false
      | else-word-eq1-via-else-word-eq1 w ↦ λ e. absurd (w.if-word-eq1.false e)
    ])
    ∙ c.loop-i.invariant

pub returns-clause-value : goal.returns-clause-value
returns-clause-value c = tracks-end _ _ _ c.loop-i.i _ (omega arith) ∙ c.loop-i.invariant
