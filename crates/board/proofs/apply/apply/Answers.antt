use Rattle.board.proofs.apply.Applying.{applied, passed}
use Rattle.board.specs.declared.call.Call.TheVariants as call
use mathlib.Core.Path.{◌∙◌}
use borrow.Author.Rules.{rules}
use Rattle.board.proofs.call.Leaving.{set-master-leaves}
use Rattle.board.proofs.apply.apply.Goals as goal

pub returns-in-AddTrack : goal.returns-in-AddTrack
returns-in-AddTrack c = applied _ (c.in-AddTrack.is ∙ (λ j. call.AddTrack (passed c.in-AddTrack.i (search rules) j) (passed c.in-AddTrack.low (search rules) j) (passed c.in-AddTrack.high (search rules) j))) (c.add_track.ensures _) c.accepted.ensures

pub returns-in-SetUp : goal.returns-in-SetUp
returns-in-SetUp c = applied _ (c.in-SetUp.is ∙ (λ j. call.SetUp (passed c.in-SetUp.i (search rules) j) c.in-SetUp.change)) (c.set_up.ensures _) c.accepted-in-SetUp.ensures

pub returns-in-SetPoint : goal.returns-in-SetPoint
returns-in-SetPoint c = applied _ (c.in-SetPoint.is ∙ (λ j. call.SetPoint (passed c.in-SetPoint.i (search rules) j) c.in-SetPoint.p)) (c.set_point.ensures _) c.accepted-in-SetPoint.ensures

pub returns-in-DropPoint : goal.returns-in-DropPoint
returns-in-DropPoint c = applied _ (c.in-DropPoint.is ∙ (λ j. call.DropPoint (passed c.in-DropPoint.i (search rules) j) (passed c.in-DropPoint.p (search rules) j))) (c.drop_point.ensures _) c.accepted-in-DropPoint.ensures

pub returns-in-Track : goal.returns-in-Track
returns-in-Track c = applied _ (c.in-Track.is ∙ (λ j. call.Track (passed c.in-Track.i (search rules) j))) (c.track.ensures _) c.track-in-Track.ensures

pub returns-in-Point : goal.returns-in-Point
returns-in-Point c = applied _ (c.in-Point.is ∙ (λ j. call.Point (passed c.in-Point.i (search rules) j) (passed c.in-Point.p (search rules) j))) (c.point.ensures _) c.point-in-Point.ensures

pub returns-in-PointCount : goal.returns-in-PointCount
returns-in-PointCount c = applied _ (c.in-PointCount.is ∙ (λ j. call.PointCount (passed c.in-PointCount.i (search rules) j) (passed c.in-PointCount.from (search rules) j) (passed c.in-PointCount.to (search rules) j))) (c.point_count.ensures _) c.count.ensures

pub returns-in-Master : goal.returns-in-Master
returns-in-Master c = applied _ (c.in-Master.is ∙ (λ j. call.Master (passed c.in-Master.i (search rules) j) (passed c.in-Master.m (search rules) j) c.in-Master.pairs))
    (set-master-leaves _ _ _ _ c.master.ensures _) c.accepted-in-Master.ensures
