-- Many steps at once. The walk is counted in locations from home, which is free of direction.
use Rattle.std.specs.Prelude.{ℕ, zero, suc, ◌+◌, ◌-◌, ◌*◌, ◌/◌, ◌%◌, max, min, Bool, cond, leb}
use Rattle.track.specs.Rule.{clock_end, VISITED, backward, repeats, moved}
use Rattle.track.specs.Walk.{arrival, step}
use Rattle.track.specs.declared.Track.{Track}

-- the number of locations of the span, the distance of a location from home, and the location at a distance
abbrev pub span : Track → ℕ
span t = t.end.0 - t.start.0 + 1

abbrev pub phase : Track → ℕ → ℕ
phase t l = cond (backward t) (t.end.0 - l) (l - t.start.0)

abbrev pub place : Track → ℕ → ℕ
place t k = cond (backward t) (t.end.0 - k) (t.start.0 + k)

-- the distance from home of the location that the next step reaches
unfoldable pub next : Track → ℕ
next t = phase t (arrival t)

-- n steps that neither stop the track nor make it wait: the last of them reaches the location n - 1 after the next one,
-- counted round the span, and each end of a round is a pass
abbrev pub stride_position : Track → ℕ → ℕ
stride_position t zero = t.position.0
stride_position t (suc n) = place t ((next t + n) % span t)

abbrev pub stride_due : ℕ → ℕ → ℕ
stride_due due zero = due
stride_due due (suc n) = VISITED

unfoldable pub stride : Track → ℕ → Track
stride t n = moved t t.mode (stride_position t n) (t.passes.0 + (next t + n) / span t) (stride_due t.due n)

-- n single steps, where `wait` says at which locations a point has a wait flag
unfoldable pub walk : (ℕ → Bool) → Track → ℕ → Track
walk wait t zero = t
walk wait t (suc n) = step (walk wait t n) (wait (arrival (walk wait t n)))

-- the number of the step, counted from 1, that stops a track with repeat off
unfoldable pub stop_step : Track → ℕ
stop_step t = max 1 (t.loops - t.passes.0) * span t - next t

-- the steps before the one that stops the track, at most the clock's end
unfoldable pub running : Track → ℕ
running t = cond (repeats t) clock_end (min clock_end (stop_step t - 1))

-- the steps from place c to place f of a cycle of n places
abbrev pub ahead : ℕ → ℕ → ℕ → ℕ
ahead c f n = cond (leb c f) (f - c) (f + n - c)

-- the steps before the first that reaches the location l of the span
unfoldable pub steps_to : Track → ℕ → ℕ
steps_to t l = ahead (next t) (phase t l) (span t)
