use Rattle.board.proofs.follow.Following.{band-same, band-none, band-one}
use Rattle.board.proofs.follow.Judging.{up-most}
use Rattle.board.proofs.tick.Staging.{staged-none}
use Rattle.board.specs.Log.{log_bytes}
use Rattle.board.specs.Tick.{band_records}
use Rattle.track.proofs.Follows.{judged-most}
use Rattle.track.specs.Rule.{threshold_count}
use borrow.Author.Rules.{rules}
use lib.ListN.{length}
use mathlib.Core.List.{◌++◌}
use mathlib.Core.Path.{◌≡◌, sym, ap, ◌∙◌}
use native.Mathlib.Omega.{arith}
use Rattle.board.proofs.follow.judge_band.Goals as goal

pub returns-then-band-t-clause-records : goal.returns-then-band-t-clause-records
returns-then-band-t-clause-records c =
    let e = sym c.judged-band.ensures in
    elim c.then-band-t.branch [
      | goal.then-band-t-via-then-band-t v ↦ staged-none _ (band-same _ _ _ _ (e ∙ v.if-band-t.true))
      | goal.then-band-t-via-else-band-t+then-band-eq0 v ↦ staged-none _ (band-none _ _ _ _ (e ∙ v.if-band-eq0.true))
    ]

pub bounds-t-band : goal.bounds-t-band
bounds-t-band c = let m = judged-most c.args.follower.track c.args.master.track in
    let long : length c.args.follower.track.thresholds ≡ threshold_count = search rules in
    let u = up-most c.args.follower.track.thresholds in
    omega (arith, c.judged-band.ensures, m, u, long, c.if-band-eq0.false)

pub returns-clause-records : goal.returns-clause-records
returns-clause-records c =
    let o = sym (band-one _ _ _ _ c.if-band-t.false c.if-band-eq0.false) ∙ ap (band_records _ _ _) c.judged-band.ensures in
    c.put.ensures ∙ ap (λ rs. c.args.stage.now ++ log_bytes rs) o
