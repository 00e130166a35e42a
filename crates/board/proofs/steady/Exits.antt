-- The drifts of a band, and what is asked of two on their paths.
use Prim.Native.Nat.{ℕ, zero, suc, ◌+◌, ◌-◌, ◌*◌, ◌≤◌, ◌<◌}
use mathlib.Core.Path.{◌≡◌, refl, sym, ap, ◌∙◌}
use mathlib.Core.Logic.{◌⊎◌, inl, inr}
use mathlib.Core.List.{List, [], ◌∷◌}
use native.Mathlib.Nat.{zero-mul, mul-pos, mul-le-mul, mul-le-mul_right}
use native.Mathlib.Omega.{arith}
use lib.ListN.{length, get_or}
use Rattle.track.specs.Rule.{coordinate_last, rate_most, threshold_most}
use Rattle.track.specs.Follow.{up_to_zero, low_of, high_of}
use Rattle.board.specs.Stay.{Asked, asked_most}
use Rattle.board.specs.Steady.{BandRow, fine_most}
use Rattle.board.proofs.stay.Bands.{row_at, row-behind, row_next}

-- ---- the drifts of a band

-- behind the last element there is none
past : (xs : List ℕ) (k : ℕ) → length xs ≤ k → get_or xs k 0 ≡ 0
past [] k h = refl
past (x ∷ xs) zero h = absurd (omega arith)
past (x ∷ xs) (suc k) h = past xs k (omega arith)

module _ (xs : List ℕ) (k : ℕ) (row : BandRow xs k) where
  pub row_small : (k ≡ 0 → ⊥) → get_or xs (k - 1) 0 ≤ threshold_most
  row_small n = let e = row_at xs (k - 1) (omega (arith, some k n, row.one)) in let s = row.small (k - 1) in omega arith
    where
      some : (k : ℕ) → (k ≡ 0 → ⊥) → 0 < k
      some zero n = absurd (n refl)
      some (suc k) n = omega arith

  pub low-some : (k ≡ 0 → ⊥) → (get_or xs (k - 1) 0 + 1 ≡ low_of (up_to_zero xs) k) × (get_or xs (k - 1) 0 + 1 ≤ threshold_most + 1)
  low-some n = (go k row.one n, let s = row_small n in omega arith)
    where
      go : (k : ℕ) → k ≤ length (up_to_zero xs) → (k ≡ 0 → ⊥) → get_or xs (k - 1) 0 + 1 ≡ low_of (up_to_zero xs) k
      go zero h n = absurd (n refl)
      go (suc k) h n =
          let e : suc k - 1 ≡ k = omega arith in
          let r = row_at xs k (omega arith) in
          ap (λ (i : ℕ). get_or xs i 0 + 1) e ∙ omega arith

  pub high-last : length xs ≤ k → (coordinate_last ≡ high_of (up_to_zero xs) k) × (coordinate_last ≤ coordinate_last)
  high-last h = (sym (row-behind xs k coordinate_last row.one (past xs k h)), omega arith)

  pub high-none : get_or xs k 0 ≡ 0 → (coordinate_last ≡ high_of (up_to_zero xs) k) × (coordinate_last ≤ coordinate_last)
  high-none e = (sym (row-behind xs k coordinate_last row.one e), omega arith)

  pub high-some : (get_or xs k 0 ≡ 0 → ⊥) → (get_or xs k 0 ≡ high_of (up_to_zero xs) k) × (get_or xs k 0 ≤ coordinate_last)
  high-some n =
      let e = row_next xs k 0 row.one n in
      let s = row.small k in
      (row_next xs k coordinate_last row.one n, omega arith)

-- ---- what is asked of two numbers

-- a pace of at most one location in a tick, of q parts
pub asked : (x y w v q lo hi : ℕ) → x ≤ asked_most → y ≤ asked_most → w ≤ asked_most → v ≤ q → 0 < q → q ≤ rate_most * rate_most
    → lo ≤ threshold_most + 1 → hi ≤ coordinate_last → Asked asked_most x y w v (lo * q) (hi * q)
asked x y w v q lo hi hx hy hw hv some hq hl hh =
    record {
      first = hx;
      second = hy;
      width = hw;
      pace = omega arith;
      low = omega (arith, mul-le-mul {n₁ = lo} {m₁ = q} {n₂ = threshold_most + 1} {m₂ = rate_most * rate_most} hl hq);
      high = omega (arith, mul-le-mul {n₁ = hi} {m₁ = q} {n₂ = coordinate_last} {m₂ = rate_most * rate_most} hh hq);
      slow = go lo;
    }
  where
    go : (lo : ℕ) → (lo * q ≡ 0) ⊎ (v < lo * q + lo * q)
    go zero = inl (zero-mul q)
    go (suc lo) = inr (omega arith)

-- two on their paths, brought to the parts of both
module _ (x u g p y w h q lo hi : ℕ) (hx : x ≤ fine_most) (hu : u ≤ coordinate_last) (hg : g ≤ p) (hp : 0 < p) (lp : p ≤ rate_most)
    (hy : y ≤ fine_most) (hw : w ≤ coordinate_last) (hh : h ≤ q) (hq : 0 < q) (lq : q ≤ rate_most)
    (hl : lo ≤ threshold_most + 1) (hm : hi ≤ coordinate_last) where
  asked-at : (v : ℕ) → v ≤ p * q → Asked asked_most (x * q) ((y + w) * p) (u * q + w * p) v (lo * (p * q)) (hi * (p * q))
  asked-at v hv =
      asked (x * q) ((y + w) * p) (u * q + w * p) v (p * q) lo hi (omega (arith, mul-le-mul {n₁ = x} {m₁ = q} {n₂ = fine_most} {m₂ = rate_most} hx lq))
      (omega (arith, mul-le-mul {n₁ = y + w} {m₁ = p} {n₂ = fine_most + coordinate_last} {m₂ = rate_most} (omega arith) lp))
      (omega (arith, mul-le-mul {n₁ = u} {m₁ = q} {n₂ = coordinate_last} {m₂ = rate_most} hu lq, mul-le-mul {n₁ = w} {m₁ = p} {n₂ = coordinate_last} {m₂ = rate_most} hw lp))
      hv (mul-pos hp hq) (mul-le-mul {n₁ = p} {m₁ = q} {n₂ = rate_most} {m₂ = rate_most} lp lq) hl hm

  pub asked-first : Asked asked_most (x * q) ((y + w) * p) (u * q + w * p) (g * q) (lo * (p * q)) (hi * (p * q))
  asked-first = asked-at (g * q) (mul-le-mul_right {m = g} {n = p} q hg)

  pub asked-second : Asked asked_most (x * q) ((y + w) * p) (u * q + w * p) (h * p) (lo * (p * q)) (hi * (p * q))
  asked-second = asked-at (h * p) (omega (arith, mul-le-mul_right {m = h} {n = q} p hh))
