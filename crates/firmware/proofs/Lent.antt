-- What the calls over the board that the firmware lends promise: their contracts, read as one.
use Prim.Native.Nat.{ℕ}
use contract.Lifetimes.{Lfts}
use denote.Ref.{MutBor}
use lib.IntN.{ℤ}
use mathlib.Core.List.{List}
use Rattle.board.specs.Call.{Reply, Gives, does, world}
use Rattle.board.specs.declared.Board.{Board}
use Rattle.board.specs.declared.call.Call.{Call}
use Rattle.board.specs.declared.call.Call.TheVariants as call
use Rattle.firmware.specs.Numbers.{number_said, ending_said}
use Rattle.firmware.specs.declared.value.Ending.{Ending}
use Rattle.firmware.proofs.gridstep_play.Reads as play-says
use Rattle.firmware.proofs.gridstep_pause.Reads as pause-says
use Rattle.firmware.proofs.gridstep_resume.Reads as resume-says
use Rattle.firmware.proofs.gridstep_stop.Reads as stop-says
use Rattle.firmware.proofs.gridstep_advance.Reads as advance-says

-- what a call promises, whose answer says a reply
abbrev pub promised : {A : Type 0} → (ℤ → Call) → (A → Reply) → Board → ℤ → List ℕ → Board → A → List ℕ → Type 0
promised calls said b n log b' r log' = Gives (does (calls n) (world b log)) (said r) b' log'

-- It is what each function's contract tells its caller (`Learnt`), of the board and the log as they are lent (x, l) and given back (y, m).
module _ (κs : Lfts 2) (x y : MutBor Board) (l m : MutBor (List ℕ)) (n : ℤ) where
  pub play-promised : (r : ℕ) → play-says.Learnt κs (x, (n, (l, tt))) r (y, (n, (m, tt))) → promised call.Play number_said x.now n l.now y.now r m.now
  play-promised r h = h

  pub pause-promised : (r : ℕ) → pause-says.Learnt κs (x, (n, (l, tt))) r (y, (n, (m, tt))) → promised call.Pause number_said x.now n l.now y.now r m.now
  pause-promised r h = h

  pub resume-promised : (r : ℕ) → resume-says.Learnt κs (x, (n, (l, tt))) r (y, (n, (m, tt))) → promised call.Resume number_said x.now n l.now y.now r m.now
  resume-promised r h = h

  pub stop-promised : (r : ℕ) → stop-says.Learnt κs (x, (n, (l, tt))) r (y, (n, (m, tt))) → promised call.Stop number_said x.now n l.now y.now r m.now
  stop-promised r h = h

  pub advance-promised : (r : Ending) → advance-says.Learnt κs (x, (n, (l, tt))) r (y, (n, (m, tt))) → promised call.Advance ending_said x.now n l.now y.now r m.now
  advance-promised r h = h
