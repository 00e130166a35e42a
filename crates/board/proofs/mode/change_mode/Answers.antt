use native.Mathlib.Omega.{arith}
use mathlib.Core.Bool.{false}
use mathlib.Core.Path.{◌≡◌, refl, sym}
use Rattle.board.proofs.mode.Results.{refused-gives}
use Rattle.board.proofs.rules.Broken.{parts-broken}
use Rattle.board.specs.Board.{board_by, rows_whole, unbroken_test}
use Rattle.board.specs.Mode.{mode_result}
use Rattle.track.proofs.Tests.{cond_no}
use Rattle.track.specs.declared.refusal.Refusal.TheVariants as refusal
use Rattle.board.proofs.mode.change_mode.Goals as goal

pub returns-in_err-try_from : goal.returns-in_err-try_from
unfolding mode_result
returns-in_err-try_from c =
    let p = c.args.parts in
    let short : rows_whole p.keys.now p.infos.now ≡ false = grind arith in
    let broken : unbroken_test (board_by p) ≡ false = parts-broken p.tracks p.present _ _ p.count p.clock.0 p.held short in
    refused-gives (board_by p) c.args.log.now c.args.track c.args.call refusal.Value (sym (cond_no _ _ broken refl)) (grind arith)
