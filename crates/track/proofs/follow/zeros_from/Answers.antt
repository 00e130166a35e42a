use Rattle.std.proofs.Common.{rules, tests, nat_eq, drop}
use Rattle.std.proofs.lemmas.Iterator.{YieldsList-from_slice}
use Rattle.std.proofs.lemmas.Iterator.Adapters.{YieldsList-from_skip}
use Rattle.std.proofs.lemmas.Iterator.Search.{all_from_yields_List}
use Rattle.std.specs.List.{list_all}
use mathlib.Core.Bool.{true, false}
use mathlib.Core.Path.{◌≡◌, sym, ◌∙◌}
use Rattle.track.proofs.follow.zeros_from.Goals as goal

pub returns-then-all : goal.returns-then-all
returns-then-all c =
    let y = rw (← c.skip.ensures.source) at (YieldsList-from_slice {s = c.iter.result} c.args.thresholds c.iter.ensures.rest) in
    let a = all_from_yields_List (λ x. nat_eq x 0) _ _ c.all.result c.all.ensures.ran
    (YieldsList-from_skip {s = c.skip.result} c.args.from y c.skip.ensures.count) (λ x b q k. search (rules, tests)) in
    let z = rw (← c.skip-then-all.ensures.source) at (YieldsList-from_slice {s = c.iter-then-all.result} c.args.events c.iter-then-all.ensures.rest) in
    let b = all_from_yields_List (λ x. nat_eq x 0) _ _ c.all-then-all.result c.all-then-all.ensures.ran
    (YieldsList-from_skip {s = c.skip-then-all.result} c.args.from z c.skip-then-all.ensures.count) (λ x b q k. search (rules, tests)) in
    let only : list_all (λ x. nat_eq x 0) (drop c.args.from c.args.thresholds) ≡ true = sym a ∙ c.if-all.true in
    b ∙ simp only

pub returns-else-all : goal.returns-else-all
returns-else-all c =
    let y = rw (← c.skip.ensures.source) at (YieldsList-from_slice {s = c.iter.result} c.args.thresholds c.iter.ensures.rest) in
    let a = all_from_yields_List (λ x. nat_eq x 0) _ _ c.all.result c.all.ensures.ran
    (YieldsList-from_skip {s = c.skip.result} c.args.from y c.skip.ensures.count) (λ x b q k. search (rules, tests)) in
    let only : list_all (λ x. nat_eq x 0) (drop c.args.from c.args.thresholds) ≡ false = sym a ∙ c.if-all.false in
    c.if-all.false ∙ simp only
