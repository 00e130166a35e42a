-- The held records in the log are those that the row has got since the last accepted clear.
use Prim.Native.Nat.{ℕ, ◌*◌, zero-le}
use mathlib.Core.Path.{◌≡◌, refl}
use mathlib.Core.List.{List}
use lib.ListN.{length, take}
use Rattle.board.specs.declared.call.Call.{Call}
use Rattle.board.specs.Log.{record_width, record_bytes, unpack_of, record_is, record_values}
use Rattle.board.specs.Board.{fresh_board}
use Rattle.board.specs.Replay.{flat, cleared_at, Each}
use Rattle.board.specs.Call.{gridstep}
use Rattle.board.specs.Lists.{cut_up, start, replayed, since_clear}
use Rattle.board.proofs.replay.Replays.{holds}
use Rattle.board.proofs.replay.Kinds.{each-drop}
use Rattle.board.proofs.call.Machine.{counts, room}
use Rattle.board.proofs.lists.Ranges.{row-unpacks}

-- after every list of calls as many records are held, and they are the first in the log
pub held-since : (cs : List Call) (log : List ℕ) →
    let s = (replayed cs log).last in
    (s.board.held ≡ length (since_clear cs log)) × (take (record_width * s.board.held) s.log ≡ flat gridstep (since_clear cs log))
unfolding fresh_board
held-since cs log =
    let h = holds gridstep counts room (cut_up cs) (start log) 0 zero-le (record { row_long = zero-le; held_is = refl; bytes_are = refl }) in
    (h.held_is, h.bytes_are)

-- each of them, unpacked from its bytes, is that record
pub since-unpacks : (cs : List Call) (log : List ℕ) → Each (λ r. unpack_of (record_bytes r) ≡ record_is (record_values r)) (since_clear cs log)
since-unpacks cs log =
    each-drop (λ r. unpack_of (record_bytes r) ≡ record_is (record_values r)) (cleared_at gridstep (cut_up cs) (start log) 0) (replayed cs log).last.row (row-unpacks cs log)
