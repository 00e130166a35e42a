use Rattle.board.proofs.lists.Executing.{row_at, rows_start, rows_step, rows_end}
use Prim.Native.Nat.{◌<◌, ◌≤◌}
use borrow.Author.Rules.{rules}
use lib.ListN.{length}
use lib.Seq.{length-take-le}
use native.Mathlib.Omega.{arith}
use Rattle.board.proofs.lists.run_calls.Goals as goal

pub loop-i-init : goal.loop-i-init
loop-i-init c = rows_start c.args.calls.now c.args.log.now c.args.replies.now c.new-b.ensures

pub loop-i-preserved : goal.loop-i-preserved
loop-i-preserved c =
    let rows = c.as_chunks.result.0.now in
    let few : c.min-count.result ≤ length rows = omega (arith, c.min-count.ensures) in
    let next : c.loop-i.i < c.min-count.result = omega (arith, c.loop-i-test.true, length-take-le c.min-count.result rows few) in
    rows_step c.args.calls.now c.args.log.now c.args.replies.now c.loop-i.i c.loop-i.b c.do_row-b.result c.loop-i.log _ c.loop-i.replies _ c.do_row-b.new.reply c.loop-i.invariant
    (omega (arith, next, c.min-count.ensures)) (row_at _ _ _ _ c.as_chunks.ensures.front (omega (arith, few, c.as_chunks.ensures.front_len)) next) c.do_row-b.ensures
    (search rules) c.put_row.ensures (search rules) (search rules)

pub returns : goal.returns
returns c =
    let rows = c.as_chunks.result.0.now in
    let few : c.min-count.result ≤ length rows = omega (arith, c.min-count.ensures) in
    rows_end c.args.calls.now c.args.log.now c.args.replies.now c.loop-i.i c.loop-i.b c.loop-i.log c.loop-i.replies c.loop-i.invariant
    (omega (arith, c.loop-i-test.false, c.loop-i.auto.i-end, length-take-le c.min-count.result rows few, c.min-count.ensures, c.as_chunks.ensures.front_len))
