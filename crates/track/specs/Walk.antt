-- One step of a PLAYING track reaches one location (01, "Track", rules 1 to 4).
use Rattle.std.specs.Prelude.{ℕ, ◌+◌, ◌-◌, Bool, cond, not, ◌&&◌, leb, eqb}
use Rattle.track.specs.Rule.{WAITING, VISITED, backward, repeats, is_due, home, far, moved, stopped}
use Rattle.track.specs.declared.Track.{Track}

-- 1. Due: the position itself. Else, at far: home. Else one further in the direction.
unfoldable pub arrival : Track → ℕ
arrival t =
    cond (is_due t) t.position.0
    (cond (eqb t.position.0 (far t)) (home t) (cond (backward t) (t.position.0 - 1) (t.position.0 + 1)))

-- 3. At far, passes grow by 1.
unfoldable pub passes_at : Track → ℕ → ℕ
passes_at t l = cond (eqb l (far t)) (t.passes.0 + 1) t.passes.0

-- 3. If repeat is off and passes ≥ loops, the track goes to STOPPED and rewinds.
unfoldable pub stops : Track → Bool
stops t = eqb (arrival t) (far t) && not (repeats t) && leb t.loops (passes_at t (arrival t))

-- the track after an arrival that does not stop it: due is cleared
unfoldable pub visited : Track → ℕ → Track
visited t mode = moved t mode (arrival t) (passes_at t (arrival t)) VISITED

-- 4. Otherwise a wait flag on the point takes it to WAITING. `wait` says that there is one at the location reached.
unfoldable pub step : Track → Bool → Track
step t wait = cond (stops t) (stopped t) (visited t (cond wait WAITING t.mode))
