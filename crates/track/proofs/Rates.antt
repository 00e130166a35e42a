-- Steps and remainder of ticks at a rate of p steps in q ticks, in plain numbers: r is the remainder at first.
use Prim.Native.Nat.{ℕ, suc, ◌+◌, ◌-◌, ◌*◌, ◌/◌, ◌%◌, ◌≤◌, ◌<◌}
use mathlib.Core.Path.{◌≡◌, sym, ap, ap₂, ◌∙◌}
use native.Mathlib.Nat.{div-one, mod-one, mod-eq_of_lt, div-eq_of_lt, div-add-mod', add-mul, zero-mul, mul-add-div_right, mul-add-mod_self_right, div-lt_iff_lt-mul, le-div_iff_mul-le, lt-div-mul-add, mul-le-mul_left}
use native.Mathlib.Omega.{arith}

module _ (q p r : ℕ) (some : 0 < q) where
  -- no tick
  pub steps-zero : r < q → (r + 0 * p) / q ≡ 0
  steps-zero h = ap (λ (k : ℕ). k / q) (omega (arith, zero-mul p)) ∙ div-eq_of_lt h

  pub remainder-zero : r < q → (r + 0 * p) % q ≡ r
  remainder-zero h = ap (λ (k : ℕ). k % q) (omega (arith, zero-mul p)) ∙ mod-eq_of_lt h

  -- two stretches are one
  both : (a b : ℕ) → r + (a + b) * p ≡ (r + a * p) / q * q + ((r + a * p) % q + b * p)
  both a b = omega (arith, add-mul a b p, div-add-mod' (r + a * p) q)

  pub steps-add : (a b : ℕ) → (r + (a + b) * p) / q ≡ (r + a * p) / q + ((r + a * p) % q + b * p) / q
  steps-add a b = ap (λ (k : ℕ). k / q) (both a b) ∙ mul-add-div_right {m = q} some ((r + a * p) / q) ((r + a * p) % q + b * p)

  pub remainder-add : (a b : ℕ) → (r + (a + b) * p) % q ≡ ((r + a * p) % q + b * p) % q
  remainder-add a b = ap (λ (k : ℕ). k % q) (both a b) ∙ mul-add-mod_self_right ((r + a * p) / q) q ((r + a * p) % q + b * p)

  -- at 1 in 1 a tick is a step, and nothing remains
  pub one-made : q ≡ 1 → r < q → 0 < p → p ≤ q → (n : ℕ) → (n ≡ (r + n * p) / q) × (0 ≡ (r + n * p) % q)
  one-made e h one l n =
      let ep : p ≡ 1 = omega arith in
      let er : r ≡ 0 = omega arith in
      let sum : r + n * p ≡ n = ap₂ (λ (a b : ℕ). a + n * b) er ep ∙ omega arith in
      (sym (ap₂ (λ (k m : ℕ). k / m) sum e ∙ div-one n), sym (ap₂ (λ (k m : ℕ). k % m) sum e ∙ mod-one n))

  -- never more steps than ticks
  pub steps-few : r < q → p ≤ q → (n : ℕ) → (r + n * p) / q ≤ n
  steps-few h l n =
      let k : (r + n * p) / q < n + 1 =
      (div-lt_iff_lt-mul {k = q} {x = r + n * p} {y = n + 1} some).1 (omega (arith, add-mul n 1 q, mul-le-mul_left {m = p} {n = q} n l)) in
      omega arith

  -- the ticks before the one that makes step s + 1
  module _ (h : r < q) (one : 0 < p) (s : ℕ) where
    room : r + 1 ≤ suc s * q
    room = omega (arith, add-mul s 1 q)

    -- in so many, and in fewer, it is not made
    pub not-before : (n : ℕ) → n ≤ (suc s * q - r - 1) / p → (r + n * p) / q ≤ s
    not-before n le =
        let k : n * p ≤ suc s * q - r - 1 = (le-div_iff_mul-le {k = p} {x = n} {y = suc s * q - r - 1} one).0 le in
        let m : (r + n * p) / q < suc s = (div-lt_iff_lt-mul {k = q} {x = r + n * p} {y = suc s} some).1 (omega (arith, room)) in
        omega arith

    -- and the one behind them makes it
    module _ (few : p ≤ q) (n : ℕ) (e : n ≡ (suc s * q - r - 1) / p) where
      last-large : suc s * q ≤ r + n * p + p
      last-large = omega (arith, ap (λ (k : ℕ). k * p) e, lt-div-mul-add {a = suc s * q - r - 1} {b = p} one, room)

      pub made-till : (r + n * p) / q ≡ s
      made-till =
          let k : s ≤ (r + n * p) / q = (le-div_iff_mul-le {k = q} {x = s} {y = r + n * p} some).1 (omega (arith, add-mul s 1 q, last-large)) in
          omega (arith, not-before n (omega (arith, e)))

      pub made_then : q ≤ (r + n * p) % q + p
      made_then = omega (arith, made-till, div-add-mod' (r + n * p) q, ap (λ (k : ℕ). k * q) made-till, add-mul s 1 q, last-large)
