-- A leap changes no master, thresholds, events or band.
use Prim.Native.Nat.{ℕ, zero, suc, ◌/◌, ◌%◌}
use mathlib.Core.Path.{◌≡◌}
use mathlib.Core.List.{List, [], ◌∷◌}
use Rattle.track.specs.declared.Track.{Track}
use Rattle.track.specs.Leap.{leap}
use Rattle.track.proofs.Follows.{SameFollower, same-follower, then-follower, leap-follower}
use Rattle.board.specs.Board.{track_at}
use Rattle.board.specs.Tick.{play_bit, follow_word, band_count}
use Rattle.board.specs.Quiet.{where_set, leap_tracks}
use Rattle.board.proofs.follow.Following.{following-same, bands-same}
use Rattle.board.proofs.quiet.Leaps.{leap-tracks-long}

module _ (k : ℕ) where
  -- what a leap keeps of every track, it keeps at every index
  pub leap-at : (P : Track → Type 0) → ((t : Track) → P t → P (leap t k)) → (present : ℕ) (ts : List Track) (i : ℕ)
      → P (track_at ts i) → P (track_at (leap_tracks k present ts) i)
  unfolding leap_tracks
  leap-at P f present [] i p = p
  leap-at P f present (t ∷ ts) zero p = go (play_bit (present % 2) t)
    where
      go : (d : ℕ) → P (where_set d (leap t k) t)
      go zero = p
      go (suc d) = f t p
  leap-at P f present (t ∷ ts) (suc i) p = leap-at P f (present / 2) ts i p

  module _ (present : ℕ) (ts : List Track) where
    pub leapt-follower : (i : ℕ) → SameFollower (track_at ts i) (track_at (leap_tracks k present ts) i)
    leapt-follower i = let t = track_at ts i in leap-at (SameFollower t) (λ u e. then-follower e (leap-follower u k)) present ts i (same-follower t)

    -- the same tracks follow after it
    pub leap-follow-word : follow_word present (leap_tracks k present ts) ≡ follow_word present ts
    leap-follow-word = following-same present ts (leap_tracks k present ts) (leap-tracks-long k present ts) (λ i. (leapt-follower i).thresholds)

    -- and the same bands are held
    pub leap-bands : band_count present (leap_tracks k present ts) ≡ band_count present ts
    leap-bands = bands-same present ts (leap_tracks k present ts) (leap-tracks-long k present ts) (λ i. (leapt-follower i).band)
