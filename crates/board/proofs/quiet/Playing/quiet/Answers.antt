use Rattle.board.proofs.tick.Bits.{no-members}
use Rattle.board.proofs.quiet.Turns.{fewest-alone, fewest-both}
use native.Mathlib.Omega.{arith}
use Rattle.board.proofs.quiet.Playing.quiet.Goals as goal

pub returns-then-led-eq0 : goal.returns-then-led-eq0
returns-then-led-eq0 c = fewest-alone _ _ _ _ _ _ (no-members _ (omega (arith, c.if-led-eq0.true))) c.fewest-stretch.ensures

pub returns : goal.returns
returns c = fewest-both _ _ _ _ _ _ _ c.fewest-stretch.ensures c.steady_followers.ensures
