-- A board that keeps its rules: its followers can be judged after the steps and commands of a tick.
use mathlib.Core.Path.{◌≡◌, sym, subst}
use mathlib.Core.Bool.{Bool, true, false, cond, not, ◌&&◌, false≢true}
use mathlib.Core.List.{List}
use Prim.Native.Nat.{ℕ, ◌≤◌, ◌<◌}
use native.Mathlib.Omega.{arith}
use lib.Dec.{eqb}
use lib.ListN.{get_or}
use borrow.Author.Tests.{eqb-true}
use Rattle.track.specs.declared.Track.{Track}
use Rattle.track.specs.declared.Ticks.{Ticks}
use Rattle.track.specs.Rule.{Valid, event_most}
use Rattle.track.specs.Follow.{follows}
use Rattle.track.proofs.Tests.{both}
use Rattle.board.specs.declared.Board.{Board}
use Rattle.board.specs.Points.{keys_of, infos_of, track_count}
use Rattle.board.specs.Board.{track_at, is_present, master_test, Unbroken}
use Rattle.board.specs.Tick.{members, follow_word, play_from, FollowRule, FollowRules}
use Rattle.board.proofs.rules.Broken.{Kept, present-small, kept_at}
use Rattle.board.proofs.tick.Steps.{play-follower, play-kept}
use Rattle.board.proofs.follow.Following.{each-follower}
use Rattle.board.proofs.follow.Judging.{pairs-event}

module _ {present i : ℕ} {t : Track} {clock : Ticks} (k : Kept present i t clock) where
  -- the master's number is that of a track
  pub kept-number : t.master < track_count
  unfolding master_test
  kept-number = go (follows t) k.master
    where
      go : (f : Bool) → cond f (is_present present t.master && not (eqb t.master i)) (eqb t.master 0) ≡ true → t.master < track_count
      go true e = present-small present t.master (both (is_present present t.master) (not (eqb t.master i)) e).0
      go false e = let z = eqb-true t.master 0 e in omega arith

  -- and of one that is present, if it follows
  pub kept-lead : follows t ≡ true → is_present present t.master ≡ true
  unfolding master_test
  kept-lead f = (both (is_present present t.master) (not (eqb t.master i)) (go (follows t) f k.master)).0
    where
      go : (f : Bool) → f ≡ true → cond f (is_present present t.master && not (eqb t.master i)) (eqb t.master 0) ≡ true
          → (is_present present t.master && not (eqb t.master i)) ≡ true
      go true e h = h
      go false e h = absurd (false≢true e)

  -- every event is in its range
  pub kept-event : (j : ℕ) → get_or t.events j 0 ≤ event_most
  kept-event = pairs-event 0 t.thresholds t.events k.follower.pairs

-- the followers can be judged after the steps and the commands
pub play-rules : (keys infos : List ℕ) (clock present : ℕ) (ts : List Track) (before : Ticks)
    → ((i : ℕ) → is_present present i ≡ true → Kept present i (track_at ts i) before)
    → FollowRules (play_from keys infos clock present ts).tracks (members (follow_word present ts))
play-rules keys infos clock present ts before can =
    let us = (play_from keys infos clock present ts).tracks in
    each-follower present ts (λ i. FollowRule (track_at us i) (track_at us (track_at us i).master))
    (λ i p f.
    let k = play-kept keys infos clock present ts before i i (can i p) in
    let m = (track_at ts i).master in
    let e : (track_at us i).master ≡ m = (play-follower keys infos clock present ts i).master in
    record {
      track = k.sound.valid;
      number = kept-number k;
      master = subst (λ (n : ℕ). Valid (track_at us n)) (sym e)
          (play-kept keys infos clock present ts before m m (can m (kept-lead (can i p) f))).sound.valid;
      thresholds = k.follower.thresholds;
      event = kept-event k;
    })

-- and so can those of an unbroken board
pub unbroken-rules : (b : Board) (clock : ℕ) → Unbroken b
    → FollowRules (play_from (keys_of b.points) (infos_of b.points) clock b.present b.tracks).tracks (members (follow_word b.present b.tracks))
unbroken-rules b clock u =
    play-rules (keys_of b.points) (infos_of b.points) clock b.present b.tracks b.clock (λ i p. kept_at b u i p)
