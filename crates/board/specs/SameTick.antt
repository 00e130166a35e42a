-- A tick apart from the log (02, 2.2): "what a taken tick writes, and the board after it but for held, are the same for every log and
-- count held".
use Rattle.std.specs.Prelude.{ℕ, ◌+◌, ◌*◌, ◌≡◌, List, None}
use Rattle.std.proofs.lemmas.List.Edits.{sets}
use Rattle.board.specs.declared.Board.{Board}
use Rattle.board.specs.Log.{record_width}
use Rattle.board.specs.Replay.{World, w-halt, written}
use Rattle.board.specs.Call.{held_at, gridstep, world}

-- with h records held in this log, the next tick of the board b is taken: neither the clock nor the log stops it
abbrev pub IsTaken : Board → ℕ → List ℕ → Type 0
IsTaken b h log = w-halt gridstep (world (held_at h b) log) ≡ None

-- from w to v the log is written behind the held records and nowhere else
abbrev pub OnlyBehind : World Board → World Board → Type 0
OnlyBehind w v = v.log ≡ sets w.log (record_width * w.board.held) (written gridstep w v)

-- From w to v and from w' to v' the same bytes are written, behind the held records and nowhere else; held grows by the same number; the
-- boards left are the same but for held.
pub record SameTick (w v w' v' : World Board) : Type 0 where
  pub writes : written gridstep w v ≡ written gridstep w' v'
  pub nowhere_else : OnlyBehind w v × OnlyBehind w' v'
  pub counts : (n : ℕ) × (v.board.held ≡ w.board.held + n) × (v'.board.held ≡ w'.board.held + n)
  pub leaves : held_at 0 v.board ≡ held_at 0 v'.board
