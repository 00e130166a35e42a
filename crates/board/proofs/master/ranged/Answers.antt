use Rattle.std.proofs.Common.{rules, tests}
use Rattle.std.proofs.lemmas.Iterator.{YieldsList-from_slice}
use Rattle.std.proofs.lemmas.Iterator.Search.{all_from_yields_List}
use Rattle.std.specs.List.{list_all}
use Rattle.board.specs.Setup.{ranged_test}
use Rattle.board.proofs.master.Pairs.{ranged-whole, ranged-odd}
use lib.ListN.{length}
use mathlib.Core.Path.{◌≡◌, ap, ◌∙◌}
use native.Mathlib.Nat.{div-add-mod', mod-lt}
use native.Mathlib.Omega.{arith}
use Prim.Native.Nat.{◌/◌}
use Rattle.board.proofs.master.ranged.Goals as goal

pub returns-then-is_empty : goal.returns-then-is_empty
returns-then-is_empty c =
    let y = YieldsList-from_slice {s = c.iter.result} c.as_chunks.result.0.now c.iter.ensures.rest in
    let a = all_from_yields_List (λ x. ranged_test x) _ _ c.all.result c.all.ensures.ran y (λ x b q k. search (rules, tests)) in
    let n : length c.as_chunks.result.1.now ≡ 0 = grind arith in
    let l = div-add-mod' (length c.args.pairs.now) 2 in
    a ∙ ap (list_all ranged_test) c.as_chunks.ensures.front
    ∙ ranged-whole (length c.args.pairs.now / 2) c.args.pairs.now (omega (arith, n, l, c.as_chunks.ensures.back_len))

pub returns-else-is_empty : goal.returns-else-is_empty
returns-else-is_empty c =
    let n : (length c.as_chunks.result.1.now ≡ 0 → ⊥) = grind arith in
    let l = div-add-mod' (length c.args.pairs.now) 2 in
    c.if-is_empty.false ∙ ranged-odd (length c.args.pairs.now / 2) c.args.pairs.now (omega (arith, n, l, mod-lt (length c.args.pairs.now) {m = 2} (omega arith), c.as_chunks.ensures.back_len))
