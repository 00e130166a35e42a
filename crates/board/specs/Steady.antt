-- A follower and its master in ticks in which neither reaches a point or stops (02, 2.1 and 2.4): how long the band stays.
use Rattle.std.specs.Prelude.{ℕ, suc, ◌+◌, ◌-◌, ◌*◌, ◌≤◌, ◌<◌, ◌≡◌, ◌⊎◌, Bool, true, cond, not, ◌&&◌, ◌||◌, List, eqb, leb, length, get_or}
use Rattle.track.specs.declared.Track.{Track}
use Rattle.track.specs.Rule.{PLAYING, clock_end, coordinate_last, rate_most, threshold_most, is_due}
use Rattle.track.specs.Stride.{span}
use Rattle.track.specs.Leap.{moves, leap, ticks_before}
use Rattle.track.specs.Follow.{up_to_zero, thresholds_of, distance, apart, low_of, high_of, judged}

-- a track that plays, so that a tick adds to its remainder
abbrev pub is_playing : Track → Bool
is_playing t = eqb t.mode PLAYING

-- a track n quiet ticks on: only a PLAYING one steps
unfoldable pub goes : ℕ → Track → Track
goes n t = cond (is_playing t) (leap t n) t

-- the steps of a track that each go one further from home
unfoldable pub straight_steps : Track → ℕ
straight_steps t = cond (is_due t) 0 (span t - 1 - distance t)

-- the ticks in which each step that is made goes one further from home; all of them where it stands
unfoldable pub straight : Track → ℕ
straight t = cond (is_playing t) (ticks_before t (straight_steps t)) clock_end

-- the ticks before the next one that makes a step; all of them where it stands
unfoldable pub still : Track → ℕ
still t = cond (is_playing t) (ticks_before t 0) clock_end

-- a distance in parts of a location, as many as the rate has ticks: a playing track is on its way to the next one. Along a line it grows
-- evenly, by the steps of the rate in each tick.
unfoldable pub fine : Track → ℕ
fine t = distance t * t.ticks + cond (is_playing t) t.remainder 0

-- none of them is above this
abbrev pub fine_most : ℕ
fine_most = coordinate_last * rate_most + rate_most

-- how many of these parts it goes in each tick of a line; none where it stands
unfoldable pub pace : Track → ℕ
pace t = cond (is_playing t) t.steps 0

-- the distances that a track can have: the least one, and how far they go beyond it
unfoldable pub least : Track → ℕ
least t = cond (is_playing t) 0 (distance t)

unfoldable pub width : Track → ℕ
width t = cond (is_playing t) (span t - 1) 0

-- a playing track turns back, or leaves its line: the next tick makes a step that is not one further from home, since it is due or at far
unfoldable pub turns_back : Track → Bool
turns_back t = is_playing t && moves t && (is_due t || eqb (distance t + 1) (span t))

-- the drift of two tracks n ticks on
abbrev pub drift_after : ℕ → Track → Track → ℕ
drift_after n t m = apart (distance (goes n t)) (distance (goes n m))

-- a drift from lo to hi, and the same of the fine distances of two tracks, brought to equal parts
abbrev pub drift_in_range : ℕ → ℕ → ℕ → Bool
drift_in_range lo hi d = leb lo d && leb d hi

unfoldable pub fine_in_range : ℕ → ℕ → Track → Track → Bool
fine_in_range lo hi t m =
    drift_in_range (lo * (t.ticks * m.ticks)) (hi * (t.ticks * m.ticks)) (apart (fine t * m.ticks) (fine m * t.ticks))

-- the two are at an edge: after the next tick the drift is from lo to hi, but the fine one is not, so that a line does not tell it
unfoldable pub at_edge : ℕ → ℕ → Track → Track → Bool
at_edge lo hi t m = drift_in_range lo hi (drift_after 1 t m) && not (fine_in_range lo hi (goes 1 t) (goes 1 m))

-- a row of thresholds, none above the greatest, and a band that is none or one of them
pub record BandRow (xs : List ℕ) (k : ℕ) : Type 0 where
  pub small : (j : ℕ) → get_or (up_to_zero xs) j 0 ≤ threshold_most
  pub one : k ≤ length (up_to_zero xs)

-- the drift is from lo to hi in each of r ticks
pub record Drifts (lo hi : ℕ) (t m : Track) (r : ℕ) : Type 0 where
  pub small : r ≤ clock_end
  pub within : (n : ℕ) → 0 < n → n ≤ r → (lo ≤ drift_after n t m) × (drift_after n t m ≤ hi)

-- in one of the next r ticks one of the two leaves its line, or they are at an edge
pub record LeavesWithin (lo hi r : ℕ) (t m : Track) : Type 0 where
  pub at : ℕ
  pub before : at < r
  pub which : (turns_back (goes at t) ≡ true) ⊎ (turns_back (goes at m) ≡ true) ⊎ (at_edge lo hi (goes at t) (goes at m) ≡ true)

-- the drift is from lo to hi in each of r ticks; in the next it is not, or up to that tick a line is left or an edge met, or r is the clock's end
pub record Holds (lo hi : ℕ) (t m : Track) (r : ℕ) : Type 0 where
  pub stretch : Drifts lo hi t m r
  pub exact : r < clock_end → ((lo ≤ drift_after (suc r) t m) × (drift_after (suc r) t m ≤ hi) → ⊥) ⊎ LeavesWithin lo hi (suc r) t m

-- after each of the next r quiet ticks the follower t of the master m is judged to be in the band that it holds
abbrev pub SteadyFor : ℕ → Track → Track → Type 0
SteadyFor r t m = (n : ℕ) → 0 < n → n ≤ r → judged (goes n t) (goes n m) ≡ t.band

-- the drifts of the band that a follower holds
abbrev pub low_held : Track → ℕ
low_held t = low_of (thresholds_of t) t.band

abbrev pub high_held : Track → ℕ
high_held t = high_of (thresholds_of t) t.band

-- in one of the next r ticks the follower t or its master m leaves its line, or they are at an edge of the band held
abbrev pub PairLeaves : ℕ → Track → Track → Type 0
PairLeaves r t m = LeavesWithin (low_held t) (high_held t) r t m

-- why a stretch of r ticks ends: the tick behind it changes the band, or up to that tick a line is left or an edge met
abbrev pub Unsteady : ℕ → Track → Track → Type 0
Unsteady r t m = (judged (goes (suc r) t) (goes (suc r) m) ≡ t.band → ⊥) ⊎ PairLeaves (suc r) t m

-- r ticks in which the band stays, at most the clock's end, and why they end
pub record Steadies (t m : Track) (r : ℕ) : Type 0 where
  pub small : r ≤ clock_end
  pub steady : SteadyFor r t m
  pub exact : r < clock_end → Unsteady r t m
