-- The ticks in which a track of a follower's pair leaves its line or the pair is at an edge, counted over the ticks that are taken.
use Rattle.std.specs.Prelude.{Option, Some, None}
use Prim.Native.Nat.{ℕ, zero, suc, ◌+◌, ◌-◌, ◌≤◌, ◌<◌, min}
use mathlib.Core.Path.{◌≡◌, refl, sym, ap, ◌∙◌}
use mathlib.Core.Logic.{◌⊎◌, inl, inr}
use mathlib.Core.Bool.{Bool, true, false, cond, ◌||◌, true≢false}
use mathlib.Core.List.{List, [], ◌∷◌}
use native.Mathlib.Omega.{arith}
use Rattle.track.specs.declared.Track.{Track}
use Rattle.track.specs.Rule.{clock_end}
use Rattle.track.specs.Follow.{up_to_zero, low_of, high_of}
use Rattle.board.specs.declared.Board.{Board}
use Rattle.board.specs.Board.{track_at, is_present}
use Rattle.board.specs.Points.{keys_of, infos_of}
use Rattle.board.specs.Tick.{members, follow_word}
use Rattle.board.specs.Steady.{goes, turns_back, low_held, high_held, at_edge, PairLeaves}
use Rattle.board.specs.Quiet.{AnyOf, master_of, leap_tracks}
use Rattle.board.specs.Cut.{passed}
use Rattle.board.specs.Replay.{World, Each, w-halt, w-step, total}
use Rattle.board.specs.Call.{Stop, ends, gridstep}
use Rattle.board.specs.Advance.{pair_leaves, one_leaves, leaving, leavings}
use Rattle.board.proofs.replay.Cuts.{passed_on, passed-off}
use Rattle.board.proofs.tick.Bits.{no-members}
use Rattle.board.proofs.tick.Steps.{tick-follow-word}
use Rattle.board.proofs.quiet.Bands.{leap-follow-word, leapt-follower}
use Rattle.board.proofs.quiet.Pairs.{Mastered, leap-tracks-at, leap-master-at}
use Rattle.board.proofs.advance.Advancing.{board_at, halt-ends}

abbrev halt : World Board → Option Stop
halt = w-halt gridstep

abbrev step : World Board → World Board
step = w-step gridstep

-- ---- one tick

-- one that is taken counts
pub leavings-on : (n : ℕ) (u : World Board) → halt u ≡ None → leavings (suc n) u ≡ leaving u.board + leavings n (step u)
unfolding leavings
leavings-on n u h = ap (total (λ (w : World Board). leaving w.board)) (passed_on halt step n u h)

-- one that is not taken ends the count
leavings-off : (n : ℕ) (u : World Board) (e : Stop) → halt u ≡ Some e → leavings (suc n) u ≡ 0
unfolding leavings
leavings-off n u e h = ap (total (λ (w : World Board). leaving w.board)) (passed-off halt step n u e h)

-- where no tick can be taken there is none
pub no-leavings : (n : ℕ) (u : World Board) → min n (clock_end - u.board.clock.0) ≡ 0 → leavings n u ≡ 0
unfolding leavings passed
no-leavings zero u e = refl
no-leavings (suc n) u e = leavings-off n u ends (halt-ends u.board u.log u.board.tracks u.board.clock.0 u.board.held (omega arith))

-- ---- where no track follows

none-leaves : (b : Board) → follow_word b.present b.tracks ≡ 0 → leaving b ≡ 0
unfolding leaving one_leaves
none-leaves b e = ap (λ (is : List ℕ). cond (one_leaves b.tracks is) 1 0) (ap members e ∙ no-members 0 (omega arith))

-- none leaves its line in any tick
pub no-follower : (left : ℕ) (u : World Board) → follow_word u.board.present u.board.tracks ≡ 0 → leavings left u ≡ 0
unfolding leavings passed
no-follower zero u e = refl
no-follower (suc n) u e =
    go (halt u) refl
    (no-follower n (step u)
    (tick-follow-word (keys_of u.board.points) (infos_of u.board.points) (u.board.clock.0 + 1) u.board.present u.board.tracks ∙ e))
  where
    go : (o : Option Stop) → halt u ≡ o → leavings n (step u) ≡ 0 → leavings (suc n) u ≡ 0
    go None h ih = omega (arith, leavings-on n u h, none-leaves u.board e, ih)
    go (Some s) h ih = leavings-off n u s h

-- ---- a row of ticks that are taken

module _ (at : ℕ → World Board) (r : ℕ) (halts : (j : ℕ) → j < r → halt (at j) ≡ None)
    (steps : (j : ℕ) → j < r → step (at j) ≡ at (suc j)) where
  first : (j n : ℕ) → j < r → leavings (suc n) (at j) ≡ leaving (at j).board + leavings n (at (suc j))
  first j n h = leavings-on n (at j) (halts j h) ∙ ap (λ (w : World Board). leaving (at j).board + leavings n w) (steps j h)

  -- what is counted behind them is part of the whole
  pub leavings-over : (k j n : ℕ) → j + k ≤ r → leavings n (at (j + k)) ≤ leavings (k + n) (at j)
  leavings-over zero j n h =
      let e : j + 0 ≡ j = omega arith in
      let f : 0 + n ≡ n = omega arith in
      rw e (rw f (omega arith))
  leavings-over (suc k) j n h =
      let e : suc j + k ≡ j + suc k = omega arith in
      let f : suc (k + n) ≡ suc k + n = omega arith in
      let a = ap (λ (i : ℕ). leavings n (at i)) e in
      let b = ap (λ (i : ℕ). leavings i (at j)) f in
      omega (arith, leavings-over k (suc j) n (omega arith), first j (k + n) (omega arith))

  -- and less than it, if one of them counts
  pub leavings-within : (k j i n : ℕ) → j + k ≤ r → i < k → 0 < leaving (at (j + i)).board → leavings n (at (j + k)) < leavings (k + n) (at j)
  leavings-within zero j i n h l p = absurd (omega arith)
  leavings-within (suc k) j zero n h l p =
      let e : suc j + k ≡ j + suc k = omega arith in
      let f : suc (k + n) ≡ suc k + n = omega arith in
      let z : j + 0 ≡ j = omega arith in
      let a = ap (λ (i : ℕ). leavings n (at i)) e in
      let b = ap (λ (i : ℕ). leavings i (at j)) f in
      let c = ap (λ (i : ℕ). leaving (at i).board) z in
      omega (arith, leavings-over k (suc j) n (omega arith), first j (k + n) (omega arith))
  leavings-within (suc k) j (suc i) n h l p =
      let e : suc j + k ≡ j + suc k = omega arith in
      let f : suc (k + n) ≡ suc k + n = omega arith in
      let z : suc j + i ≡ j + suc i = omega arith in
      let a = ap (λ (i : ℕ). leavings n (at i)) e in
      let b = ap (λ (i : ℕ). leavings i (at j)) f in
      let c = ap (λ (i : ℕ). leaving (at i).board) z in
      omega (arith, leavings-within k (suc j) i n (omega arith) (omega arith) (omega arith), first j (k + n) (omega arith))

-- ---- a pair that leaves its line or is at an edge in a leap does so on one of the boards that are leapt over

or-first : (a b : Bool) → a ≡ true → (a || b) ≡ true
or-first true b e = refl
or-first false b e = absurd (true≢false (sym e))

or-second : (a b : Bool) → b ≡ true → (a || b) ≡ true
or-second true b e = refl
or-second false b e = e

module _ (present : ℕ) (ts : List Track) (r : ℕ) where
  abbrev Left : List ℕ → Type 0
  Left fs = (j : ℕ) × (j < r) × (one_leaves (leap_tracks j present ts) fs ≡ true)

  -- the follower i and its master do so after the ticks in which they are said to
  module _ (i : ℕ) (here : is_present present i ≡ true) (there : is_present present (track_at ts i).master ≡ true)
      (w : PairLeaves r (track_at ts i) (master_of ts i)) where
    abbrev us : List Track
    us = leap_tracks w.at present ts

    t-is : track_at us i ≡ goes w.at (track_at ts i)
    t-is = leap-tracks-at w.at present ts i here

    m-is : master_of us i ≡ goes w.at (master_of ts i)
    m-is = leap-master-at w.at present ts i here there

    -- the band held is the same
    edge-is : at_edge (low_held (track_at us i)) (high_held (track_at us i)) (track_at us i) (master_of us i)
        ≡ at_edge (low_held (track_at ts i)) (high_held (track_at ts i)) (goes w.at (track_at ts i)) (goes w.at (master_of ts i))
    edge-is =
        let f = leapt-follower w.at present ts i in
        λ j. at_edge (low_of (up_to_zero (f.thresholds j)) (f.band j)) (high_of (up_to_zero (f.thresholds j)) (f.band j)) (t-is j) (m-is j)

    pair_left : pair_leaves (track_at us i) (master_of us i) ≡ true
    pair_left = go w.which
      where
        go : (turns_back (goes w.at (track_at ts i)) ≡ true) ⊎ (turns_back (goes w.at (master_of ts i)) ≡ true)
            ⊎ (at_edge (low_held (track_at ts i)) (high_held (track_at ts i)) (goes w.at (track_at ts i)) (goes w.at (master_of ts i)) ≡ true)
            → pair_leaves (track_at us i) (master_of us i) ≡ true
        go (inl e) = or-first (turns_back (track_at us i)) _ (ap turns_back t-is ∙ e)
        go (inr (inl e)) = or-second (turns_back (track_at us i)) _ (or-first (turns_back (master_of us i)) _ (ap turns_back m-is ∙ e))
        go (inr (inr e)) = or-second (turns_back (track_at us i)) _ (or-second (turns_back (master_of us i)) _ (edge-is ∙ e))

  left_one : (fs : List ℕ) → Mastered present ts fs → AnyOf (λ i. PairLeaves r (track_at ts i) (master_of ts i)) fs → Left fs
  unfolding Each AnyOf one_leaves
  left_one [] m s = absurd s
  left_one (i ∷ fs) m (inl w) = (w.at, w.before, or-first _ _ (pair_left i m.0.0 m.0.1 w))
  left_one (i ∷ fs) m (inr s) =
      let w = left_one fs m.1 s in
      let us = leap_tracks w.0 present ts in
      (w.0, w.1, or-second (pair_leaves (track_at us i) (master_of us i)) _ w.2)

-- on a board with these tracks
pub leap-leaves : (b : Board) (ts : List Track) (clock held r : ℕ) → Mastered b.present ts (members (follow_word b.present ts))
    → AnyOf (λ i. PairLeaves r (track_at ts i) (master_of ts i)) (members (follow_word b.present ts))
    → (j : ℕ) × (j < r) × (0 < leaving (board_at b (leap_tracks j b.present ts) (clock + j) held))
unfolding leaving
leap-leaves b ts clock held r m s =
    let w = left_one b.present ts r (members (follow_word b.present ts)) m s in
    let us = leap_tracks w.0 b.present ts in
    let e : leaving (board_at b us (clock + w.0) held) ≡ 1 =
    ap (λ (f : ℕ). cond (one_leaves us (members f)) 1 0) (leap-follow-word w.0 b.present ts) ∙ ap (λ (x : Bool). cond x 1 0) w.2 in
    (w.0, w.1, omega (arith, e))
