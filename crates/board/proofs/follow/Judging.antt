-- The loop over the followers of a tick: the ways out of one follower's judging, and the turns over all of them.
use mathlib.Core.Path.{◌≡◌, refl, sym, ap, subst, ◌∙◌}
use mathlib.Core.Bool.{Bool, true, false, cond, ◌&&◌}
use mathlib.Core.List.{List, [], ◌∷◌, ◌++◌}
use Prim.Native.Nat.{ℕ, zero, suc, ◌≤◌}
use native.Mathlib.Omega.{arith}
use lib.Dec.{eqb, leb, ltb}
use lib.ListN.{length, set, get_or, length-set}
use borrow.Author.Tests.{eqb-true, leb-true}
use Rattle.track.specs.declared.Track.{Track}
use Rattle.track.specs.Rule.{Valid, threshold_most, event_most}
use Rattle.track.specs.Follow.{up_to_zero, banded, zeros_test, pairs_test}
use Rattle.track.proofs.Tests.{both}
use Rattle.board.specs.declared.log.Record.{Record}
use Rattle.board.specs.Points.{track_count}
use Rattle.board.specs.Log.{log_bytes}
use Rattle.board.specs.Replay.{Each}
use Rattle.board.specs.Board.{track_at}
use Rattle.board.specs.Tick.{Room, members, follow_all, FollowRule, FollowRules}
use Rattle.board.proofs.replay.Kinds.{each-follows}
use Rattle.board.proofs.tick.Staging.{staged-none, staged-more, staged-long}
use Rattle.board.proofs.tick.Commands.{at_set}
use Rattle.board.proofs.tick.Steps.{members-most}
use Rattle.board.proofs.follow.Following.{band_at, banded_in, entered_by, band-most, banded-valid}
use Rattle.board.proofs.follow.Following.{followed_from, followed-tracks, followed-records}

-- ---- the rules of a follower

-- it has at most as many thresholds as the row has places
pub up-most : (xs : List ℕ) → length (up_to_zero xs) ≤ length xs
unfolding up_to_zero
up-most [] = omega arith
up-most (zero ∷ xs) = omega arith
up-most (suc x ∷ xs) = let r = up-most xs in omega arith

zeros-at : (xs : List ℕ) → zeros_test xs ≡ true → (j : ℕ) → get_or xs j 0 ≡ 0
unfolding zeros_test
zeros-at [] h j = refl
zeros-at (x ∷ xs) h zero = eqb-true x 0 (both (eqb x 0) (zeros_test xs) h).0
zeros-at (x ∷ xs) h (suc j) = zeros-at xs (both (eqb x 0) (zeros_test xs) h).1 j

event-at : (e : ℕ) (es : List ℕ) → e ≤ event_most → ((j : ℕ) → get_or es j 0 ≤ event_most) → (j : ℕ) → get_or (e ∷ es) j 0 ≤ event_most
event-at e es l r zero = l
event-at e es l r (suc j) = r j

-- every event of a follower is in its range
pub pairs-event : (lo : ℕ) (xs es : List ℕ) → pairs_test lo xs es ≡ true → (j : ℕ) → get_or es j 0 ≤ event_most
unfolding pairs_test
pairs-event lo [] es h j = let z = zeros-at es h j in omega arith
pairs-event lo (x ∷ xs) [] h j = omega arith
pairs-event lo (x ∷ xs) (e ∷ es) h j = go (eqb x 0) h j (λ q. pairs-event x xs es q)
  where
    go : (b : Bool) → cond b (zeros_test xs && zeros_test (e ∷ es)) (ltb lo x && (leb x threshold_most && (leb 1 e && (leb e event_most && pairs_test x xs es)))) ≡ true
        → (j : ℕ) → (pairs_test x xs es ≡ true → (j : ℕ) → get_or es j 0 ≤ event_most) → get_or (e ∷ es) j 0 ≤ event_most
    go true h j ih = let z = zeros-at (e ∷ es) (both (zeros_test xs) (zeros_test (e ∷ es)) h).1 j in omega arith
    go false h j ih =
        let rest = pairs_test x xs es in
        let a = both (ltb lo x) (leb x threshold_most && (leb 1 e && (leb e event_most && rest))) h in
        let b = both (leb x threshold_most) (leb 1 e && (leb e event_most && rest)) a.1 in
        let c = both (leb 1 e) (leb e event_most && rest) b.1 in
        let d = both (leb e event_most) rest c.1 in
        event-at e es (leb-true e event_most d.0) (ih d.1) j

-- ---- the rules of the followers are kept

-- judging a track keeps what a follower's judging relies on
rule-banded : (ts : List Track) (k i : ℕ) → FollowRule (track_at ts i) (track_at ts (track_at ts i).master)
    → FollowRule (track_at (banded_in k ts) i) (track_at (banded_in k ts) (track_at (banded_in k ts) i).master)
rule-banded ts k i r =
    let x = banded (track_at ts k) (band_at k ts) in
    let v : (j : ℕ) → Valid (track_at ts j) → Valid (track_at (banded_in k ts) j) =
    λ j h. at_set Valid ts k j x h (λ e. banded-valid (track_at ts k) (subst (λ (n : ℕ). Valid (track_at ts n)) e h) (band_at k ts)) in
    let em : (track_at (banded_in k ts) i).master ≡ (track_at ts i).master =
    at_set (λ t. t.master ≡ (track_at ts i).master) ts k i x refl (λ e. ap (λ (n : ℕ). (track_at ts n).master) (sym e)) in
    let et : (track_at (banded_in k ts) i).thresholds ≡ (track_at ts i).thresholds =
    at_set (λ t. t.thresholds ≡ (track_at ts i).thresholds) ts k i x refl (λ e. ap (λ (n : ℕ). (track_at ts n).thresholds) (sym e)) in
    let ee : (track_at (banded_in k ts) i).events ≡ (track_at ts i).events =
    at_set (λ t. t.events ≡ (track_at ts i).events) ts k i x refl (λ e. ap (λ (n : ℕ). (track_at ts n).events) (sym e)) in
    record {
      track = v i r.track;
      number = omega (arith, r.number);
      master = subst (λ (n : ℕ). Valid (track_at (banded_in k ts) n)) (sym em) (v (track_at ts i).master r.master);
      thresholds = ap length et ∙ r.thresholds;
      event = λ j. subst (λ (es : List ℕ). get_or es j 0 ≤ event_most) (sym ee) (r.event j);
    }

rules-banded : (ts : List Track) (k : ℕ) (is : List ℕ) → FollowRules ts is → FollowRules (banded_in k ts) is
rules-banded ts k is = each-follows (rule-banded ts k) is

-- ---- the turns of the loop over the followers

-- Before a turn: the followers left come from here to what all of them come to from the start.
pub record Judging (clock : ℕ) (is₀ : List ℕ) (ts₀ : List Track) (xs₀ : List ℕ) (ts : List Track) (xs : List ℕ) (is : List ℕ) : Type 0 where
  pub rules : FollowRules ts is
  pub long : length ts ≡ track_count
  pub room : Room (length is) xs
  pub tracks : (followed_from clock is ts).tracks ≡ (followed_from clock is₀ ts₀).tracks
  pub bytes : xs ++ log_bytes (followed_from clock is ts).records ≡ xs₀ ++ log_bytes (followed_from clock is₀ ts₀).records

-- at first
pub judging-start : (clock led word : ℕ) (ts : List Track) (xs : List ℕ) → led ≡ word → FollowRules ts (members led) → length ts ≡ track_count
    → Room track_count xs → Judging clock (members led) ts xs ts xs (members word)
judging-start clock led word ts xs e r l h =
    let m = members-most track_count 0 led in
    subst (λ (w : ℕ). Judging clock (members led) ts xs ts xs (members w)) e (record { rules = r; long = l; room = omega arith; tracks = refl; bytes = refl })

module _ (clock : ℕ) (is₀ : List ℕ) (ts₀ : List Track) (xs₀ : List ℕ) (ts : List Track) (xs : List ℕ) where
  -- at the end
  pub judging-end : {is : List ℕ} → Judging clock is₀ ts₀ xs₀ ts xs is → is ≡ [] →
      (ts ≡ (followed_from clock is₀ ts₀).tracks) × (xs ≡ xs₀ ++ log_bytes (followed_from clock is₀ ts₀).records)
  unfolding follow_all
  judging-end {is} j e =
      let t = subst (Judging clock is₀ ts₀ xs₀ ts xs) e j in (t.tracks, staged-none xs refl ∙ t.bytes)

  module _ {is : List ℕ} (j : Judging clock is₀ ts₀ xs₀ ts xs is) (i : ℕ) (rest : List ℕ) (e : is ≡ i ∷ rest) where
    t : Judging clock is₀ ts₀ xs₀ ts xs (i ∷ rest)
    t = subst (Judging clock is₀ ts₀ xs₀ ts xs) e j

    -- the follower of a turn can be judged
    pub judging-rule : FollowRule (track_at ts i) (track_at ts (track_at ts i).master)
    unfolding Each
    judging-rule = t.rules.0

    -- and there is room for its record
    pub judging-room : Room 1 xs
    judging-room = omega (arith, t.room)

    -- after a turn
    pub judging-turn : {ys : List ℕ} {k : ℕ} → k ≡ band_at i ts → ys ≡ xs ++ log_bytes (entered_by clock i ts)
        → Judging clock is₀ ts₀ xs₀ (set ts i (banded (track_at ts i) k)) ys rest
    unfolding Each
    judging-turn {ys} {k} ek es =
        let os = entered_by clock i ts in
        let us = banded_in i ts in
        let et : set ts i (banded (track_at ts i) k) ≡ us = ap (λ (k : ℕ). set ts i (banded (track_at ts i) k)) ek in
        let er = followed-records clock i rest ts in
        let most = band-most clock i (track_at ts i) (band_at i ts) in
        record {
          rules = subst (λ (us : List Track). FollowRules us rest) (sym et) (rules-banded ts i rest t.rules.1);
          long = length-set ts i (banded (track_at ts i) k) ∙ t.long;
          room = omega (arith, t.room, most, staged-long xs os es);
          tracks = ap (λ (us : List Track). (followed_from clock rest us).tracks) et ∙ sym (followed-tracks clock i rest ts) ∙ t.tracks;
          bytes = ap (λ (us : List Track). ys ++ log_bytes (followed_from clock rest us).records) et
              ∙ staged-more xs os (followed_from clock rest us).records es refl ∙ ap (λ (rs : List Record). xs ++ log_bytes rs) (sym er) ∙ t.bytes;
        }
