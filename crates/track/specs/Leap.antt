-- Slower tracks (02, 2.4): what a tick does with a playing track of a rate of p steps in q ticks, and many ticks at once.
use Rattle.std.specs.Prelude.{ℕ, suc, ◌+◌, ◌-◌, ◌*◌, ◌/◌, ◌%◌, min, Bool, cond, leb}
use Rattle.track.specs.Rule.{clock_end, with_remainder}
use Rattle.track.specs.Walk.{step}
use Rattle.track.specs.Stride.{stride}
use Rattle.track.specs.declared.Track.{Track}

-- "In each tick that it plays, p is added to a remainder."
abbrev pub added : Track → ℕ
added t = t.remainder + t.steps

-- "At q or more", a step is made
unfoldable pub moves : Track → Bool
moves t = leb t.ticks (added t)

-- "q is taken off": the remainder that the tick leaves, but for rewinding
unfoldable pub remainder_left : Track → ℕ
remainder_left t = cond (moves t) (added t - t.ticks) (added t)

-- one tick of a playing track: "one step made", or none, and then the remainder alone changes
unfoldable pub played : Track → Bool → Track
played t wait = cond (moves t) (step (with_remainder t (remainder_left t)) wait) (with_remainder t (remainder_left t))

-- the steps made in n such ticks, and the remainder then
unfoldable pub steps_in : Track → ℕ → ℕ
steps_in t n = (t.remainder + n * t.steps) / t.ticks

unfoldable pub remainder_after : Track → ℕ → ℕ
remainder_after t n = (t.remainder + n * t.steps) % t.ticks

-- n ticks of a playing track, none of which stops it or makes it wait
unfoldable pub leap : Track → ℕ → Track
leap t n = with_remainder (stride t (steps_in t n)) (remainder_after t n)

-- the ticks before the one that makes step s + 1, at most the clock's end
unfoldable pub ticks_before : Track → ℕ → ℕ
ticks_before t s = min clock_end ((suc s * t.ticks - t.remainder - 1) / t.steps)
