use Rattle.board.proofs.log.Words.{word-read}
use Rattle.board.specs.Log.{record_width, signed_of, spelled}
use borrow.Author.Rules.{rules}
use lib.ListN.{length, get_or}
use mathlib.Core.Path.{◌≡◌, ap, ◌∙◌}
use native.Mathlib.Omega.{arith}
use Rattle.board.proofs.log.RecordFromArrayU8RecordWIDTH.from.Goals as goal

pub returns : goal.returns
unfolding spelled
returns c =
    let l : length c.args.bytes ≡ record_width = search rules in
    λ i. record {
      clock = (c.from_le_bytes.ensures ∙ word-read c.args.bytes 0 (omega arith)) i;
      track = get_or c.args.bytes 4 0;
      kind = get_or c.args.bytes 5 0;
      event = get_or c.args.bytes 6 0;
      detail = get_or c.args.bytes 7 0;
      position = (c.coordinate_of.ensures ∙ ap signed_of (c.from_le_bytes-2.ensures ∙ word-read c.args.bytes 8 (omega arith))) i;
      passes = (c.from_le_bytes-3.ensures ∙ word-read c.args.bytes 12 (omega arith)) i;
    }
