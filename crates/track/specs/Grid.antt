-- The mode grid (01, "Track"; 001, section 4.1).
use Rattle.std.specs.Prelude.{ℕ, cond, ◌&&◌, ◌||◌, leb, eqb, Option, Some, None}
use Rattle.track.specs.Rule.{STOPPED, PLAYING, PAUSED, WAITING}

-- the four mode calls, as the commands of points number them
abbrev pub PLAY : ℕ
PLAY = 1

abbrev pub PAUSE : ℕ
PAUSE = 2

abbrev pub RESUME : ℕ
RESUME = 3

abbrev pub STOP : ℕ
STOP = 4

-- Play from STOPPED to PLAYING; pause from PLAYING or WAITING to PAUSED; resume from PAUSED or WAITING to PLAYING;
-- stop from any mode to STOPPED. Every other pair is refused.
unfoldable pub grid_of : ℕ → ℕ → Option ℕ
grid_of mode call =
    cond (eqb call PLAY && eqb mode STOPPED) (Some PLAYING)
    (cond (eqb call PAUSE && (eqb mode PLAYING || eqb mode WAITING)) (Some PAUSED)
    (cond (eqb call RESUME && (eqb mode PAUSED || eqb mode WAITING)) (Some PLAYING)
    (cond (eqb call STOP && leb mode WAITING) (Some STOPPED) None)))
