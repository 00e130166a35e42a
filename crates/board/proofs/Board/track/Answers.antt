use Rattle.std.specs.Prelude.{Ok}
use Rattle.board.specs.Board.{track_at}
use native.Mathlib.Omega.{arith}
use Rattle.board.proofs.call.Leaving.{track-leaves}
use Rattle.board.proofs.rules.Present.{found-below}
use Rattle.board.specs.Query.{track_of}
use Rattle.board.proofs.Board.track.Goals as goal

pub bounds-self-branch : goal.bounds-self-branch
bounds-self-branch c = grind (arith, found-below)

pub returns-in_err-checked : goal.returns-in_err-checked
unfolding track_of
returns-in_err-checked c = track-leaves _ _ {r = c.from_residual.result} (grind arith)

pub returns-in_err-found : goal.returns-in_err-found
unfolding track_of
returns-in_err-found c = track-leaves _ _ {r = c.from_residual-in_err-found.result} (grind arith)

pub returns : goal.returns
unfolding track_of
returns c = track-leaves _ _ {r = Ok (track_at c.args.self.tracks c.in_ok-found.field-0)} (grind arith)
