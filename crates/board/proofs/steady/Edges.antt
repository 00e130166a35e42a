-- The edge of a range of drifts: where a drift is in it and the drift in parts of a location is not.
use Prim.Native.Nat.{ℕ, ◌+◌, ◌*◌, ◌≤◌}
use mathlib.Core.Path.{◌≡◌, refl, sym, ap, ap₂, ◌∙◌}
use mathlib.Core.Bool.{Bool, true, false, not, ◌&&◌}
use native.Mathlib.Nat.{mul-one}
use native.Mathlib.Omega.{arith}
use lib.Dec.{leb}
use borrow.Author.Tests.{leb-true, le-leb}
use Rattle.track.specs.declared.Track.{Track}
use Rattle.track.specs.Rule.{Valid}
use Rattle.track.specs.Follow.{distance, apart}
use Rattle.track.proofs.Tests.{cond_cases, both, both_is}
use Rattle.board.specs.Steady.{is_playing, goes, fine, drift_after, drift_in_range, fine_in_range, at_edge}
use Rattle.board.proofs.steady.Going.{goes-ticks, goes-valid}

-- a range as a test
pub in-range : (lo hi d : ℕ) → drift_in_range lo hi d ≡ true → (lo ≤ d) × (d ≤ hi)
in-range lo hi d e = let b = both (leb lo d) (leb d hi) e in (leb-true lo d b.0, leb-true d hi b.1)

pub in-range-is : (lo hi d : ℕ) → (lo ≤ d) × (d ≤ hi) → drift_in_range lo hi d ≡ true
in-range-is lo hi d h = both_is (le-leb lo d h.0) (le-leb d hi h.1)

-- in parts: of two tracks whose rates and places are these
pub fine-in-range : (lo hi : ℕ) (u w : Track) (q k x y : ℕ) → u.ticks ≡ q → w.ticks ≡ k → fine u ≡ x → fine w ≡ y → fine_in_range lo hi u w ≡ true
    → (lo * (q * k) ≤ apart (x * k) (y * q)) × (apart (x * k) (y * q) ≤ hi * (q * k))
unfolding fine_in_range
fine-in-range lo hi u w q k x y eq ek ex ey h =
    rw (sym eq, sym ek, sym ex, sym ey)
    (in-range (lo * (u.ticks * w.ticks)) (hi * (u.ticks * w.ticks)) (apart (fine u * w.ticks) (fine w * u.ticks)) h)

-- the next tick leads to an edge
pub edge-is : (lo hi : ℕ) (t m u w : Track) → goes 1 t ≡ u → goes 1 m ≡ w → drift_in_range lo hi (apart (distance u) (distance w)) ≡ true
    → fine_in_range lo hi u w ≡ false → at_edge lo hi t m ≡ true
unfolding at_edge
edge-is lo hi t m u w a b c d = rw (a, b) (simp (c, d))

-- ---- at 1 in 1 a part is a location: there is no edge

one-fine : (t : Track) → Valid t → t.ticks ≡ 1 → fine t ≡ distance t
unfolding fine
one-fine t v one =
    let d : distance t * t.ticks ≡ distance t = ap (λ (q : ℕ). distance t * q) one ∙ mul-one (distance t) in
    cond_cases (λ (r : ℕ). distance t * t.ticks + r ≡ distance t) (is_playing t) (λ _. omega (arith, v.rate.below)) (λ _. omega arith)

same-range : {a b d a' b' d' : ℕ} → a ≡ a' → b ≡ b' → d ≡ d' → drift_in_range a b d ≡ drift_in_range a' b' d'
same-range p q r i = drift_in_range (p i) (q i) (r i)

one-in-range : (lo hi : ℕ) (t m : Track) → Valid t → Valid m → t.ticks ≡ 1 → m.ticks ≡ 1
    → fine_in_range lo hi t m ≡ drift_in_range lo hi (apart (distance t) (distance m))
unfolding fine_in_range
one-in-range lo hi t m v w a b =
    same-range (times lo (product a b)) (times hi (product a b))
    (ap₂ apart (times (fine t) b ∙ one-fine t v a) (times (fine m) a ∙ one-fine m w b))
  where
    times : (x : ℕ) {k : ℕ} → k ≡ 1 → x * k ≡ x
    times x e = ap (λ (k : ℕ). x * k) e ∙ mul-one x

    product : {q k : ℕ} → q ≡ 1 → k ≡ 1 → q * k ≡ 1
    product e f = ap₂ (λ (q k : ℕ). q * k) e f

pub no_edge : (lo hi : ℕ) (t m : Track) → Valid t → Valid m → t.ticks ≡ 1 → m.ticks ≡ 1 → at_edge lo hi t m ≡ false
unfolding at_edge
no_edge lo hi t m v w a b =
    ap (λ (f : Bool). drift_in_range lo hi (drift_after 1 t m) && not f)
    (one-in-range lo hi (goes 1 t) (goes 1 m) (goes-valid t v 1) (goes-valid m w 1) (goes-ticks 1 t ∙ a) (goes-ticks 1 m ∙ b))
    ∙ never (drift_in_range lo hi (drift_after 1 t m))
  where
    never : (b : Bool) → (b && not b) ≡ false
    never true = refl
    never false = refl
