-- The mode grid, pair by pair, and what other numbers give.
use Rattle.std.specs.Prelude.{Some, None}
use Prim.Native.Nat.{ℕ}
use mathlib.Core.Path.{◌≡◌, refl}
use mathlib.Core.Bool.{and-false}
use mathlib.Core.List.{[], ◌∷◌, map}
use native.Mathlib.Omega.{arith}
use borrow.Author.Tests.{ne_eqb, lt-leb}
use Rattle.track.specs.Rule.{STOPPED, PLAYING, PAUSED, WAITING}
use Rattle.track.specs.Grid.{PLAY, PAUSE, RESUME, STOP, grid_of}

-- the sixteen pairs: a row for each mode, a column for each of play, pause, resume, stop
pub grid-table : map (λ mode. map (grid_of mode) (PLAY ∷ PAUSE ∷ RESUME ∷ STOP ∷ [])) (STOPPED ∷ PLAYING ∷ PAUSED ∷ WAITING ∷ [])
    ≡ (Some PLAYING ∷ None ∷ None ∷ Some STOPPED ∷ [])
    ∷ (None ∷ Some PAUSED ∷ None ∷ Some STOPPED ∷ [])
    ∷ (None ∷ None ∷ Some PLAYING ∷ Some STOPPED ∷ [])
    ∷ (None ∷ Some PAUSED ∷ Some PLAYING ∷ Some STOPPED ∷ [])
    ∷ []
unfolding grid_of
grid-table = refl

module _ (m c : ℕ) where
  -- a number that is no call, or no mode, is refused
  pub grid-no-call : (c ≡ PLAY → ⊥) → (c ≡ PAUSE → ⊥) → (c ≡ RESUME → ⊥) → (c ≡ STOP → ⊥) → None ≡ grid_of m c
  unfolding grid_of
  grid-no-call p q r s = simp (ne_eqb c PLAY p, ne_eqb c PAUSE q, ne_eqb c RESUME r, ne_eqb c STOP s)

  pub grid-no-mode : (m ≡ STOPPED → ⊥) → (m ≡ PLAYING → ⊥) → (m ≡ PAUSED → ⊥) → (m ≡ WAITING → ⊥) → None ≡ grid_of m c
  unfolding grid_of
  grid-no-mode p q r s =
      simp (ne_eqb m STOPPED p, ne_eqb m PLAYING q, ne_eqb m PAUSED r, ne_eqb m WAITING s, lt-leb m WAITING (omega arith), and-false)
