use Rattle.board.proofs.rules.Passing.{length-mapped}
use Rattle.board.proofs.follow.Judging.{judging-start, judging-end, judging-rule, judging-room, judging-turn}
use borrow.Author.Rules.{rules}
use Rattle.board.proofs.follow.judge_bands.Goals as goal

pub loop-i-init : goal.loop-i-init
loop-i-init c = (search rules, tt, judging-start _ _ _ _ _ (search rules) c.requires.follow_rules (search (length-mapped, rules)) c.requires.room)

pub bounds-tracks-t : goal.bounds-tracks-t
bounds-tracks-t c = (judging-rule _ _ _ _ c.loop-i.tracks c.loop-i.stage c.loop-i.invariant.2 _ _ c.in-Some.ensures.steps).number

-- the follower of a turn can be judged
pub invariant_of-follower : goal.invariant_of-follower
invariant_of-follower c =
    record { valid = (judging-rule _ _ _ _ c.loop-i.tracks c.loop-i.stage c.loop-i.invariant.2 _ _ c.in-Some.ensures.steps).track }

pub invariant_of-master : goal.invariant_of-master
invariant_of-master c =
    record { valid = (judging-rule _ _ _ _ c.loop-i.tracks c.loop-i.stage c.loop-i.invariant.2 _ _ c.in-Some.ensures.steps).master }

pub judge_band-requires : goal.judge_band-requires
judge_band-requires c =
    let e = c.in-Some.ensures.steps in
    record {
      events = (judging-rule _ _ _ _ c.loop-i.tracks c.loop-i.stage c.loop-i.invariant.2 _ _ e).event;
      room = judging-room _ _ _ _ c.loop-i.tracks c.loop-i.stage c.loop-i.invariant.2 _ _ e;
    }

pub loop-i-preserved : goal.loop-i-preserved
loop-i-preserved c = (
  search rules,
  tt,
  judging-turn _ _ _ _ c.loop-i.tracks c.loop-i.stage c.loop-i.invariant.2 _ _ c.in-Some.ensures.steps c.judge_band.ensures.band c.judge_band.ensures.records,
)

pub returns : goal.returns
returns c =
    let d = judging-end _ _ _ _ c.loop-i.tracks c.loop-i.stage c.loop-i.invariant.2 c.in-None.ensures.steps.0 in
    record { tracks = d.0; records = d.1 }
