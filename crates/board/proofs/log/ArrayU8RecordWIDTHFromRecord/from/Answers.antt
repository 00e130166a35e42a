use Rattle.board.proofs.log.Words.{word-bytes}
use Rattle.board.specs.Log.{le, bytes_of, record_bytes}
use mathlib.Core.Path.{◌∙◌}
use Rattle.board.proofs.log.ArrayU8RecordWIDTHFromRecord.from.Goals as goal

pub returns : goal.returns
unfolding record_bytes bytes_of le
returns c = rw (c.to_le_bytes.ensures ∙ word-bytes _, c.to_le_bytes-2.ensures ∙ word-bytes _, c.to_le_bytes-3.ensures ∙ word-bytes _, c.twos.ensures)
