-- Quiet ticks (01, "Advance"; 02, 2.1 and 2.4): no step of a playing track reaches a point of its own or stops it, and no follower's band
-- changes, so that they are leapt.
use Rattle.std.specs.Prelude.{ℕ, zero, suc, ◌/◌, ◌%◌, ◌≤◌, ◌<◌, ◌≡◌, ◌⊎◌, List, [], ◌∷◌, Bool, true, false, ◌&&◌, ◌||◌, length, set}
use mathlib.Core.HLevel.{×_prop, Unit-prop}
use denote.Struct.Props.{props}
use Rattle.track.specs.declared.Track.{Track}
use Rattle.track.specs.Rule.{PLAYING, Valid, clock_end}
use Rattle.track.specs.Walk.{arrival, stops}
use Rattle.track.specs.Stride.{stride}
use Rattle.track.specs.Leap.{moves, leap}
use Rattle.track.specs.Follow.{thresholds_of, pairs_test}
use Rattle.board.specs.Points.{key, has_key, track_count}
use Rattle.board.specs.Replay.{Each}
use Rattle.board.specs.Board.{track_at}
use Rattle.board.specs.Tick.{play_bit}
use Rattle.board.specs.Steady.{SteadyFor, Unsteady}

-- one number of a list at least
unfoldable pub AnyOf : (ℕ → Type 0) → List ℕ → Type 0
AnyOf P [] = ⊥
AnyOf P (i ∷ is) = P i ⊎ AnyOf P is

-- the next step of track t, number i, reaches a point of its own
abbrev pub reaches : List ℕ → ℕ → Track → Bool
reaches ks i t = has_key (key i (arrival t)) ks

-- a loud step: the next one reaches a point of its own, or stops the track
unfoldable pub loud_step : List ℕ → ℕ → Track → Bool
loud_step ks i t = stops t || reaches ks i t

-- the next tick makes a step that stops the track
unfoldable pub stops_next : Track → Bool
stops_next t = moves t && stops t

-- the next tick makes a loud step
unfoldable pub ends_quiet : List ℕ → ℕ → Track → Bool
ends_quiet ks i t = moves t && loud_step ks i t

-- none of the first r ticks ends the quiet
abbrev pub QuietFor : List ℕ → ℕ → ℕ → Track → Type 0
QuietFor ks r i t = (j : ℕ) → j < r → ends_quiet ks i (leap t j) ≡ false

-- r is the number of steps before the first that reaches a point, or the clock's end where that is less
pub record ToPoint (ks : List ℕ) (i : ℕ) (t : Track) (r : ℕ) : Type 0 where
  pub small : r ≤ clock_end
  pub none : (j : ℕ) → j < r → reaches ks i (stride t j) ≡ false
  pub exact : r < clock_end → reaches ks i (stride t r) ≡ true

-- r is the number of steps before the first that is loud, or the clock's end where that is less
pub record QuietSteps (ks : List ℕ) (i : ℕ) (t : Track) (r : ℕ) : Type 0 where
  pub small : r ≤ clock_end
  pub quiet : (j : ℕ) → j < r → loud_step ks i (stride t j) ≡ false
  pub exact : r < clock_end → loud_step ks i (stride t r) ≡ true

-- r is the number of ticks before the first that ends the quiet, or the clock's end where that is less
pub record QuietTicks (ks : List ℕ) (i : ℕ) (t : Track) (r : ℕ) : Type 0 where
  pub small : r ≤ clock_end
  pub quiet : QuietFor ks r i t
  pub exact : r < clock_end → ends_quiet ks i (leap t r) ≡ true

-- the master of the follower of this number
abbrev pub master_of : List Track → ℕ → Track
master_of ts i = track_at ts (track_at ts i).master

-- r ticks, or a where that is less, in which no step of the players ends the quiet and each of the followers keeps its band; then a step
-- ends the quiet, or a band changes, or up to that tick a track of a follower's pair leaves its line
pub record Fewest (ks : List ℕ) (ts : List Track) (players followers : List ℕ) (a r : ℕ) : Type 0 where
  pub small : r ≤ a
  pub quiet : Each (λ i. QuietFor ks r i (track_at ts i)) players
  pub steady : Each (λ i. SteadyFor r (track_at ts i) (master_of ts i)) followers
  pub exact : r < a → AnyOf (λ i. ends_quiet ks i (leap (track_at ts i) r) ≡ true) players
      ⊎ AnyOf (λ i. Unsteady r (track_at ts i) (master_of ts i)) followers

-- the follower of this number and its master are tracks, and its thresholds and its band keep their rules
pub record WithMaster (ts : List Track) (i : ℕ) : Type 0 where
  pub master : (track_at ts i).master < track_count
  pub valid : Valid (track_at ts i)
  pub valid_master : Valid (master_of ts i)
  pub pairs : pairs_test 0 (track_at ts i).thresholds (track_at ts i).events ≡ true
  pub band : (track_at ts i).band ≤ length (thresholds_of (track_at ts i))

-- a playing track that can be leapt, and the tracks of these numbers can
pub record CanLeap (t : Track) : Type 0 where
  pub valid : Valid t
  pub plays : t.mode ≡ PLAYING
  pub passes : t.passes.0 ≤ clock_end

abbrev pub Leapable : List Track → List ℕ → Type 0
Leapable ts is = Each (λ i. CanLeap (track_at ts i)) is

-- a fact without cases, so that a type can carry it
pub Leapable-prop : (ts : List Track) (is : List ℕ) → IsProp (Leapable ts is)
unfolding Each
Leapable-prop ts [] = Unit-prop
Leapable-prop ts (i ∷ is) = ×_prop (Prim.hlevel props) (Leapable-prop ts is)

-- the tracks of these numbers k ticks on, read from ts and put into us
unfoldable pub leap_into : ℕ → List Track → List ℕ → List Track → List Track
leap_into k ts [] us = us
leap_into k ts (i ∷ is) us = leap_into k ts is (set us i (leap (track_at ts i) k))

-- x where the bit is set, else y
abbrev pub where_set : {A : Type 0} → ℕ → A → A → A
where_set zero x y = y
where_set (suc bit) x y = x

-- the playing tracks k ticks on, the others as they are
unfoldable pub leap_tracks : ℕ → ℕ → List Track → List Track
leap_tracks k present [] = []
leap_tracks k present (t ∷ ts) = where_set (play_bit (present % 2) t) (leap t k) t ∷ leap_tracks k (present / 2) ts
