use Rattle.board.proofs.row.Encoding.{track-numbers}
use Rattle.std.proofs.lemmas.Grind.{same_number_lists}
use Rattle.board.specs.Call.{track_values}
use Rattle.track.specs.Rule.{cell_count, threshold_count}
use borrow.Author.Rules.{rules}
use lib.ListN.{length}
use mathlib.Core.Path.{◌≡◌, ◌∙◌}
use native.Mathlib.Omega.{arith}
use Rattle.board.proofs.row.track_row.Goals as goal

pub returns : goal.returns
returns c =
    let cells : length c.args.t.actions ≡ cell_count = search rules in
    let limits : length c.args.t.thresholds ≡ threshold_count = search rules in
    let events : length c.args.t.events ≡ threshold_count = search rules in
    let one : c.map.result ≡ c.args.t.actions =
    same_number_lists _ _ (c.map.ensures.items.long ∙ search rules) (λ k h. let e = c.map.ensures.items.at k 0 0 (omega (arith, c.map.ensures.items.long)) in search rules) in
    let two : c.map-2.result ≡ c.args.t.thresholds =
    same_number_lists _ _ (c.map-2.ensures.items.long ∙ search rules) (λ k h. let e = c.map-2.ensures.items.at k 0 0 (omega (arith, c.map-2.ensures.items.long)) in search rules) in
    let three : c.map-3.result ≡ c.args.t.events =
    same_number_lists _ _ (c.map-3.ensures.items.long ∙ search rules) (λ k h. let e = c.map-3.ensures.items.at k 0 0 (omega (arith, c.map-3.ensures.items.long)) in search rules) in
    rw (
      c.put_row-5.ensures,
      c.put_row-4.ensures,
      c.put_row-3.ensures,
      c.put_row-2.ensures,
      c.put_row.ensures,
      c.track_head-row.ensures,
      one,
      two,
      three,
      c.from.ensures,
      c.from-2.ensures,
      c.from-3.ensures,
      c.from-4.ensures,
      c.from-5.ensures,
    ) (track-numbers (track_values c.args.t) cells limits events)
