use native.Mathlib.Omega.{arith}
use mathlib.Core.Bool.{false}
use mathlib.Core.Path.{◌≡◌}
use Rattle.board.proofs.advance.Advancing.{advance-broken}
use Rattle.board.proofs.rules.Broken.{parts-broken}
use Rattle.board.specs.Board.{rows_whole}
use Rattle.track.specs.declared.refusal.Refusal.TheVariants as refusal
use Rattle.board.proofs.advance.proceed.Goals as goal

pub returns-in-Err : goal.returns-in-Err
returns-in-Err c =
    let p = c.args.parts in
    let short : rows_whole p.keys.now p.infos.now ≡ false = grind arith in
    let value : c.in-Err.refusal ≡ refusal.Value = grind arith in
    rw value (advance-broken _ _ _ (parts-broken p.tracks p.present _ _ p.count p.clock.0 p.held short))
