-- What the laws of turning a track speak of (02, 2.3).
use Rattle.std.specs.Prelude.{ℕ, ◌≤◌, ◌≡◌, pos}
use Rattle.track.specs.declared.Track.{Track}
use Rattle.track.specs.declared.setup.Change.TheVariants as change
use Rattle.track.specs.Rule.{PLAYING, PAUSED, BACKWARD, VISITED, Valid, far, entered}
use Rattle.track.specs.Setup.{Changed, turned, changed_by}

-- what the direction call gives for the direction k, and the track resumed behind it
abbrev pub directed : Track → ℕ → Changed
directed t k = changed_by t (change.Direction (pos k))

abbrev pub resumed : Track → ℕ → Track
resumed t k = entered (directed t k).track PLAYING

-- "flips a PAUSED, visited track standing on its new far position", of a valid track and a direction 0 or 1
pub record Closing (t : Track) (k : ℕ) : Type 0 where
  pub valid : Valid t
  pub direction : k ≤ BACKWARD
  pub flips : k ≡ t.direction → ⊥
  pub paused : t.mode ≡ PAUSED
  pub visited : t.due ≡ VISITED
  pub at_far : t.position.0 ≡ far (turned t k)
