-- Followers (02, 2.1): a track that names another as its master, and the band that its drift from the master lies in.
use Rattle.std.specs.Prelude.{ℕ, zero, suc, ◌+◌, ◌-◌, ◌≤◌, ◌≡◌, Bool, true, cond, not, ◌&&◌, ◌||◌, List, [], ◌∷◌, get_or, length, ltb, leb, eqb}
use Rattle.track.specs.Rule.{STOPPED, coordinate_last, threshold_count, threshold_most, event_most, every}
use Rattle.track.specs.Stride.{phase}
use Rattle.track.specs.declared.Track.{Track}
use Rattle.track.specs.declared.Ticks.{Ticks}

-- a row of thresholds as a list: those before the first 0
unfoldable pub up_to_zero : List ℕ → List ℕ
up_to_zero [] = []
up_to_zero (zero ∷ xs) = []
up_to_zero (suc x ∷ xs) = suc x ∷ up_to_zero xs

abbrev pub thresholds_of : Track → List ℕ
thresholds_of t = up_to_zero t.thresholds

-- "No thresholds means no master": a track follows another if it has a threshold
abbrev pub follows : Track → Bool
follows t = not (eqb (get_or t.thresholds 0 0) 0)

-- "their distances from home"
abbrev pub distance : Track → ℕ
distance t = phase t t.position.0

-- "the drift is the absolute difference between their distances"
abbrev pub apart : ℕ → ℕ → ℕ
apart x y = (x - y) + (y - x)

-- "The band is the highest threshold exceeded": 0 is none, k the k-th of rising thresholds
unfoldable pub band_of : List ℕ → ℕ → ℕ
band_of [] d = 0
band_of (x ∷ xs) d = cond (ltb x d) (suc (band_of xs d)) 0

-- the drifts of a band, from the least to the greatest; no drift is above 2,000,000
abbrev pub low_of : List ℕ → ℕ → ℕ
low_of xs zero = 0
low_of xs (suc k) = suc (get_or xs k 0)

abbrev pub high_of : List ℕ → ℕ → ℕ
high_of xs k = get_or xs k coordinate_last

-- "If either is STOPPED then, the band is none": the band of the follower t of the master m
unfoldable pub judged : Track → Track → ℕ
judged t m =
    cond (eqb t.mode STOPPED || eqb m.mode STOPPED) 0 (band_of (thresholds_of t) (apart (distance t) (distance m)))

-- the track with another band
abbrev pub banded : Track → ℕ → Track
banded t band = record t { band = band }

-- "Setting it makes the band none": the track with another master, other thresholds and their events
abbrev pub following : Track → ℕ → List ℕ → List ℕ → Track
following t master thresholds events = record t { master = master; band = 0; thresholds = thresholds; events = events }

-- ---- the ranges and rules of a follower, for a lent track

unfoldable pub zeros_test : List ℕ → Bool
zeros_test [] = true
zeros_test (x ∷ xs) = eqb x 0 && zeros_test xs

-- "strictly rising thresholds, 1 to 1,000,000, each with an event 1 to 255": each above lo; behind a 0, which stands for none, only 0
unfoldable pub pairs_test : ℕ → List ℕ → List ℕ → Bool
pairs_test lo [] es = zeros_test es
pairs_test lo (x ∷ xs) [] = zeros_test (x ∷ xs)
pairs_test lo (x ∷ xs) (e ∷ es) =
    cond (eqb x 0) (zeros_test xs && zeros_test (e ∷ es))
    (ltb lo x && (leb x threshold_most && (leb 1 e && (leb e event_most && pairs_test x xs es))))

-- every range and rule of a follower by itself: four thresholds with their events, a band that is none or one of them, "none, as it is at clock 0"
pub record Follower (t : Track) (clock : Ticks) : Type 0 where
  pub thresholds : length t.thresholds ≡ threshold_count
  pub events : length t.events ≡ threshold_count
  pub pairs : pairs_test 0 t.thresholds t.events ≡ true
  pub band : t.band ≤ length (thresholds_of t)
  pub start : clock.0 ≡ 0 → t.band ≡ 0

-- the same as a test
unfoldable pub follower_test : Track → Ticks → Bool
follower_test t clock =
    every
    (eqb (length t.thresholds) threshold_count
    ∷ eqb (length t.events) threshold_count
    ∷ pairs_test 0 t.thresholds t.events
    ∷ leb t.band (length (thresholds_of t))
    ∷ (not (eqb clock.0 0) || eqb t.band 0)
    ∷ [])
