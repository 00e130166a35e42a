-- Places in parts: q parts are one location.
use Prim.Native.Nat.{ℕ, ◌+◌, ◌-◌, ◌*◌, ◌/◌, ◌%◌, ◌≤◌, ◌<◌}
use mathlib.Core.Path.{◌≡◌, sym, ap, ◌∙◌}
use mathlib.Core.Logic.{⊎_elim}
use native.Mathlib.Nat.{
  mod-lt,
  mod-eq_of_lt,
  div-eq_of_lt,
  div-add-mod',
  add-mul,
  mul_assoc,
  mul_comm,
  mul-pos,
  mul-le-mul_right,
  mul-add-div_right,
  mul-add-mod_self_right,
  div-mul-le_self,
  le-div_iff_mul-le,
  div-lt_iff_lt-mul,
  lt-div-mul-add,
  mul-div-mul_right,
}
use native.Mathlib.Omega.{arith}
use Rattle.track.specs.Follow.{apart}
use Rattle.board.specs.Stay.{Rounds}
use Rattle.board.proofs.stay.Rounding.{lt-or}

module _ (q lo hi : ℕ) (some : 0 < q) where
  ordered : (x y : ℕ) → y ≤ x → lo * q ≤ x - y → x - y ≤ hi * q → (y / q + lo ≤ x / q) × (x / q ≤ y / q + hi)
  ordered x y o a b =
      let l : y / q + lo ≤ x / q = (le-div_iff_mul-le {k = q} {x = y / q + lo} {y = x} some).1 (omega (arith, add-mul (y / q) lo q, div-mul-le_self y q)) in
      let h : x / q < y / q + hi + 1 = (div-lt_iff_lt-mul {k = q} {x = x} {y = y / q + hi + 1} some).1
      (omega (arith, add-mul (y / q + hi) 1 q, add-mul (y / q) hi q, lt-div-mul-add {a = y} {b = q} some)) in
      (l, omega arith)

  -- parts that are lo to hi locations apart stand on locations that are
  pub fine-apart : (x y : ℕ) → lo * q ≤ apart x y → apart x y ≤ hi * q → (lo ≤ apart (x / q) (y / q)) × (apart (x / q) (y / q) ≤ hi)
  fine-apart x y a b =
      ⊎_elim (λ (h : x < y). omega (arith, ordered y x (omega arith) (omega arith) (omega arith)))
      (λ (h : y ≤ x). omega (arith, ordered x y h (omega arith) (omega arith)))
      (lt-or x y)

-- two places, in parts of a q-th and of a k-th: both brought to equal parts, which are of the same locations
module _ (q k : ℕ) (hq : 0 < q) (hk : 0 < k) where
  pub first-scaled : (x : ℕ) → x * k / (q * k) ≡ x / q
  first-scaled x = mul-div-mul_right x q hk

  pub second-scaled : (y : ℕ) → y * q / (q * k) ≡ y / k
  second-scaled y = ap (λ (d : ℕ). y * q / d) (mul_comm q k) ∙ mul-div-mul_right y k hq

  pub scaled-apart : (lo hi x y : ℕ) → lo * (q * k) ≤ apart (x * k) (y * q) → apart (x * k) (y * q) ≤ hi * (q * k)
      → (lo ≤ apart (x / q) (y / k)) × (apart (x / q) (y / k) ≤ hi)
  scaled-apart lo hi x y a b =
      rw (sym (first-scaled x), sym (second-scaled y)) (fine-apart (q * k) lo hi (mul-pos hq hk) (x * k) (y * q) a b)

-- the location of a part on a round of l locations is that of the part, taken round
pub ring-fine : (l q x : ℕ) → 0 < l → 0 < q → x % (l * q) / q ≡ x / q % l
ring-fine l q x hl hq =
    let b = x / q % l in
    let r = x % q in
    let hb = mod-lt (x / q) {m = l} hl in
    let hr = mod-lt x {m = q} hq in
    let e : x / q / l * (l * q) + (b * q + r) ≡ x =
    omega (arith, div-add-mod' x q, ap (λ (k : ℕ). k * q) (div-add-mod' (x / q) l), add-mul (x / q / l * l) b q, mul_assoc (x / q / l) l q) in
    let s : b * q + r < l * q = omega (arith, mul-le-mul_right {m = b + 1} {n = l} q (omega arith), add-mul b 1 q) in
    let m : x % (l * q) ≡ b * q + r =
    ap (λ (k : ℕ). k % (l * q)) (sym e) ∙ mul-add-mod_self_right (x / q / l) (l * q) (b * q + r) ∙ mod-eq_of_lt s in
    ap (λ (k : ℕ). k / q) m ∙ mul-add-div_right {m = q} hq b r ∙ omega (arith, div-eq_of_lt hr)

-- two that go round in parts and never leave the range: nor do their locations
module _ (p p' l k q lo hi r : ℕ) (hl : 0 < l) (hk : 0 < k) (hq : 0 < q) (s : Rounds p p' (l * q) (k * q) (lo * q) (hi * q) r) (hr : 0 < r) where
  pub fine-rounds : (n : ℕ) → (lo ≤ apart ((p + n) / q % l) ((p' + n) / q % k)) × (apart ((p + n) / q % l) ((p' + n) / q % k) ≤ hi)
  fine-rounds n =
      let w = s.within hr n in
      let a = ring-fine l q (p + n) hl hq in
      let b = ring-fine k q (p' + n) hk hq in
      rw (sym a, sym b) (fine-apart q lo hi hq ((p + n) % (l * q)) ((p' + n) % (k * q)) w.0 w.1)

-- the same of two of one speed, in parts of a q-th and of a k-th
module _ (x y g h q k l l' lo hi r : ℕ) (hq : 0 < q) (hk : 0 < k) (hl : 0 < l) (hl' : 0 < l') (same : g * k ≡ h * q)
    (s : Rounds (x * k) (y * q) (l * (q * k)) (l' * (q * k)) (lo * (q * k)) (hi * (q * k)) r) (hr : 0 < r) where
  pub scaled-rounds : (n : ℕ) → (lo ≤ apart ((x + n * g) / q % l) ((y + n * h) / k % l')) × (apart ((x + n * g) / q % l) ((y + n * h) / k % l') ≤ hi)
  scaled-rounds n =
      let w = fine-rounds (x * k) (y * q) l l' (q * k) lo hi r hl hl' (mul-pos hq hk) s hr (n * (g * k)) in
      let a : (x * k + n * (g * k)) / (q * k) ≡ (x + n * g) / q =
      ap (λ (z : ℕ). z / (q * k)) (omega arith) ∙ first-scaled q k hq hk (x + n * g) in
      let e : n * (g * k) ≡ n * (h * q) = ap (λ (z : ℕ). n * z) same in
      let b : (y * q + n * (g * k)) / (q * k) ≡ (y + n * h) / k =
      ap (λ (z : ℕ). z / (q * k)) (omega arith) ∙ second-scaled q k hq hk (y + n * h) in
      rw (sym a, sym b) w
