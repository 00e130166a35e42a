-- A track n quiet ticks on.
use Prim.Native.Nat.{ℕ, suc}
use mathlib.Core.Path.{◌≡◌, refl, sym, ap, ◌∙◌}
use mathlib.Core.Bool.{Bool, true, false}
use native.Mathlib.Omega.{arith}
use borrow.Author.Tests.{eqb-true, eq-eqb}
use Rattle.track.specs.declared.Track.{Track}
use Rattle.track.specs.Rule.{STOPPED, PLAYING, Valid}
use Rattle.track.specs.Stride.{stride}
use Rattle.track.specs.Leap.{leap}
use Rattle.track.proofs.Tests.{cond_cases}
use Rattle.track.proofs.Leaps.{leap-add, leap-valid}
use Rattle.board.specs.Steady.{is_playing, goes}

-- a PLAYING one goes, another stands
module _ (n : ℕ) (t : Track) where
  pub goes-plays : is_playing t ≡ true → goes n t ≡ leap t n
  unfolding goes
  goes-plays e = simp e

  pub goes-stands : is_playing t ≡ false → goes n t ≡ t
  unfolding goes
  goes-stands e = simp e

  pub goes_on : t.mode ≡ PLAYING → goes n t ≡ leap t n
  goes_on e = goes-plays (eq-eqb t.mode PLAYING e)

-- what stays
module _ (n : ℕ) (t : Track) where
  pub goes-mode : (goes n t).mode ≡ t.mode
  unfolding goes leap stride
  goes-mode = cond_cases (λ (u : Track). u.mode ≡ t.mode) (is_playing t) (λ _. refl) (λ _. refl)

  pub goes-thresholds : (goes n t).thresholds ≡ t.thresholds
  unfolding goes leap stride
  goes-thresholds = cond_cases (λ (u : Track). u.thresholds ≡ t.thresholds) (is_playing t) (λ _. refl) (λ _. refl)

  pub goes-band : (goes n t).band ≡ t.band
  unfolding goes leap stride
  goes-band = cond_cases (λ (u : Track). u.band ≡ t.band) (is_playing t) (λ _. refl) (λ _. refl)

  pub goes-ticks : (goes n t).ticks ≡ t.ticks
  unfolding goes leap stride
  goes-ticks = cond_cases (λ (u : Track). u.ticks ≡ t.ticks) (is_playing t) (λ _. refl) (λ _. refl)

-- a playing track is not STOPPED
pub not_stopped : (t : Track) → is_playing t ≡ true → t.mode ≡ STOPPED → ⊥
not_stopped t e s = omega (arith, eqb-true t.mode PLAYING e)

pub leap-playing : (t : Track) (n : ℕ) → is_playing (leap t n) ≡ is_playing t
unfolding leap stride
leap-playing t n = refl

module _ (t : Track) (v : Valid t) where
  pub goes-valid : (n : ℕ) → Valid (goes n t)
  unfolding goes
  goes-valid n = cond_cases Valid (is_playing t) (λ e. leap-valid t v (not_stopped t e) n) (λ _. v)

  -- one tick more
  pub goes-next : (n : ℕ) → goes 1 (goes n t) ≡ goes (suc n) t
  goes-next n = go (is_playing t) refl
    where
      go : (b : Bool) → is_playing t ≡ b → goes 1 (goes n t) ≡ goes (suc n) t
      go true e =
          ap (goes 1) (goes-plays n t e)
          ∙ goes-plays 1 (leap t n) (leap-playing t n ∙ e)
          ∙ leap-add t v n 1
          ∙ ap (leap t) (omega arith)
          ∙ sym (goes-plays (suc n) t e)
      go false e = ap (goes 1) (goes-stands n t e) ∙ goes-stands 1 t e ∙ sym (goes-stands (suc n) t e)
