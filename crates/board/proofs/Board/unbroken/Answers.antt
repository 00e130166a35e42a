use Rattle.board.proofs.rules.Broken.{shape_is}
use Rattle.board.proofs.rules.Passing.{length-mapped, asked, not-asked, parts-kept}
use Rattle.board.specs.Board.{tracks_test}
use Rattle.board.specs.Points.{point_most}
use Rattle.track.specs.Rule.{clock_end}
use borrow.Author.Rules.{rules}
use borrow.Author.Tests.{le-leb, lt-leb}
use lib.Dec.{leb}
use mathlib.Core.Bool.{◌&&◌, true≢false}
use mathlib.Core.Path.{◌≡◌, refl, sym, ◌∙◌}
use Rattle.board.proofs.Board.unbroken.Goals as goal
use Rattle.board.proofs.Board.unbroken.Goals.{then-self-le-END, else-self-le-END, then-self-le-MOST, else-self-le-MOST}

pub returns-then-tracks_kept : goal.returns-then-tracks_kept
returns-then-tracks_kept c =
    let b = c.args.self.now in
    let u : c.if-self-le-END.value ≡ (leb b.clock.0 clock_end && leb b.points.count point_most) =
    elim c.if-self-le-END.branch [
      | then-self-le-END w ↦ asked (le-leb _ _ w.if-self-le-END.true) w.value-is
      | else-self-le-END w ↦ not-asked _ (lt-leb _ _ w.if-self-le-END.false) w.value-is
    ] in
    let v : c.if-self-le-MOST.value ≡ (c.if-self-le-END.value && tracks_test b.present b.present 0 b.tracks b.clock) =
    elim c.if-self-le-MOST.branch [
      | then-self-le-MOST w ↦ asked w.if-self-le-MOST.true (w.value-is ∙ w.tracks_kept.ensures.value)
      | else-self-le-MOST w ↦ not-asked _ w.if-self-le-MOST.false w.value-is
    ] in
    parts-kept _ _ _ _ _ _ u v (asked c.if-tracks_kept.true c.points_kept.ensures)
    (λ _. elim c.if-self-le-MOST.branch [
      | then-self-le-MOST w ↦ shape_is _ _ _ _ (search (length-mapped, rules)) w.tracks_kept.ensures.word (search rules) (search rules)
      | else-self-le-MOST w ↦ absurd (true≢false (sym c.if-tracks_kept.true ∙ w.value-is ∙ w.if-self-le-MOST.false))
    ])

pub returns-else-tracks_kept : goal.returns-else-tracks_kept
returns-else-tracks_kept c =
    let b = c.args.self.now in
    let u : c.if-self-le-END.value ≡ (leb b.clock.0 clock_end && leb b.points.count point_most) =
    elim c.if-self-le-END.branch [
      | then-self-le-END w ↦ asked (le-leb _ _ w.if-self-le-END.true) w.value-is
      | else-self-le-END w ↦ not-asked _ (lt-leb _ _ w.if-self-le-END.false) w.value-is
    ] in
    let v : c.if-self-le-MOST.value ≡ (c.if-self-le-END.value && tracks_test b.present b.present 0 b.tracks b.clock) =
    elim c.if-self-le-MOST.branch [
      | then-self-le-MOST w ↦ asked w.if-self-le-MOST.true (w.value-is ∙ w.tracks_kept.ensures.value)
      | else-self-le-MOST w ↦ not-asked _ w.if-self-le-MOST.false w.value-is
    ] in
    parts-kept _ _ _ _ _ _ u v (not-asked _ c.if-tracks_kept.false refl) (λ h. absurd (true≢false (sym h ∙ c.if-tracks_kept.false)))
