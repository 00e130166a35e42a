use Prim.Native.Nat.{◌/◌, ◌^◌, ◌-◌, ◌%◌, ◌≤◌}
use Rattle.board.proofs.tick.PlayingLaws.{word-by, word_none, word-all, word_room, word_next}
use Rattle.board.specs.Board.{track_at}
use borrow.Author.Rules.{rules}
use mathlib.Core.Bool.{cond}
use mathlib.Core.Path.{◌≡◌, ◌∙◌, refl, sym}
use native.Mathlib.Omega.{arith}
use Rattle.board.proofs.tick.word_of.Goals.{then-test, else-test}
use Rattle.board.proofs.tick.word_of.Goals as goal

pub loop-i-init : goal.loop-i-init
loop-i-init g c = word_none (word-by g.holds) c.args.tracks.now (search rules) c.args.present

pub overflow_mul-word : goal.overflow_mul-word
overflow_mul-word g c =
    let h = word_room (word-by g.holds) c.args.tracks.now (search rules) c.args.present c.loop-i.i c.loop-i-test.true in
    omega (arith, h, c.loop-i.invariant)

-- a turn's bit
bit : (g : _) (c : goal.After-row_known-1 g) → c.if-test.bit ≡ cond (g.holds (track_at c.args.tracks.now (c.loop-i.i - 1))) (c.args.present / 2 ^ (c.loop-i.i - 1) % 2) 0
bit g c =
    let e = sym (c.requires.1.1 _ c.test.result (record { shown = _; shows = refl; says = record { met = c.test.ensures } })) in
    elim c.if-test.branch [ then-test w ↦ w.bit-is ∙ sym (simp (e ∙ w.if-test.true)) | else-test w ↦ w.bit-is ∙ sym (simp (e ∙ w.if-test.false)) ]

pub overflow_add-word : goal.overflow_add-word
overflow_add-word g c =
    let h = word_room (word-by g.holds) c.args.tracks.now (search rules) c.args.present c.loop-i.i c.loop-i-test.true in
    let s : c.if-test.bit ≤ 1 = elim c.if-test.branch [ then-test w ↦ omega arith | else-test w ↦ omega arith ] in
    omega (arith, h, s, c.loop-i.invariant)

pub loop-i-preserved : goal.loop-i-preserved
loop-i-preserved g c =
    let n = word_next (word-by g.holds) c.args.tracks.now (search rules) c.args.present c.loop-i.i c.loop-i-test.true c.loop-i.auto.i in
    omega (arith, n, bit g c, c.loop-i.invariant)

pub returns : goal.returns
returns g c =
    let e : c.loop-i.i ≡ 0 = omega arith in
    c.loop-i.invariant ∙ word-all (word-by g.holds) c.args.tracks.now (search rules) c.args.present e
