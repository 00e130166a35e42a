-- Two that go round: modulo a number that divides both rounds they are always as far apart.
use Prim.Native.Nat.{ℕ, zero, suc, ◌+◌, ◌-◌, ◌*◌, ◌/◌, ◌%◌, ◌≤◌, ◌<◌, ◌∣◌}
use mathlib.Core.Path.{◌≡◌, refl, sym, ap, subst, ◌∙◌}
use mathlib.Core.Logic.{◌⊎◌, inl, inr, ⊎_elim}
use mathlib.Core.Bool.{Bool, true, false}
use native.Mathlib.Nat.{
  mod-lt,
  mod-mod,
  mod-add-mod,
  add-mod_right,
  mod-mod_of_dvd,
  div-add-mod',
  dvd_refl,
  dvd-zero,
  dvd-add,
  dvd-sub,
  dvd-mul_left,
  dvd-mod_iff,
  le_of_dvd,
}
use native.Mathlib.Omega.{arith}
use lib.Dec.{ltb}
use borrow.Author.Tests.{ltb-true, ltb-false}
use Rattle.track.specs.Follow.{apart}
use Rattle.board.specs.Stay.{Divisor, Covers, Rounds}

pub lt-or : (a b : ℕ) → (a < b) ⊎ (b ≤ a)
lt-or a b = go (ltb a b) refl
  where
    go : (t : Bool) → ltb a b ≡ t → (a < b) ⊎ (b ≤ a)
    go true e = inl (ltb-true a b e)
    go false e = inr (ltb-false a b e)

-- ---- Euclid's steps

-- what divides x and y divides a and b, and the other way
pub record Alike (a b x y : ℕ) : Type 0 where
  pub some : 0 < x
  pub there : (k : ℕ) → k ∣ a → k ∣ b → (k ∣ x) × (k ∣ y)
  pub back : (k : ℕ) → k ∣ x → k ∣ y → (k ∣ a) × (k ∣ b)

pub alike-begin : (a b : ℕ) → 0 < a → Alike a b a b
alike-begin a b h = record { some = h; there = λ k p q. (p, q); back = λ k p q. (p, q) }

pub alike_next : (a b x y : ℕ) → 0 < y → Alike a b x y → Alike a b y (x % y)
alike_next a b x y h s =
    record {
      some = h;
      there = λ k p q. let e = s.there k p q in (e.1, (dvd-mod_iff k {m = x} {n = y} e.1).1 e.0);
      back = λ k p q. s.back k ((dvd-mod_iff k {m = x} {n = y} p).0 q) p;
    }

pub alike_end : (a b x y : ℕ) → y ≤ 0 → Alike a b x y → Divisor a b x
alike_end a b x zero h s =
    let d = s.back x (dvd_refl x) (dvd-zero x) in
    record { some = s.some; first = d.0; second = d.1; greatest = λ k p q. (s.there k p q).0 }
alike_end a b x (suc y) h s = absurd (omega arith)

-- it is above neither
pub divisor-small : (a b r : ℕ) → 0 < a → 0 < b → Divisor a b r → (r ≤ a) × (r ≤ b)
divisor-small a b r ha hb d = (le_of_dvd ha d.first, le_of_dvd hb d.second)

-- ---- modulo g

module _ (g : ℕ) (some : 0 < g) where
  -- multiples less than g apart are in order
  multiples : (x y : ℕ) → g ∣ x → g ∣ y → x < y + g → x ≤ y
  multiples x y dx dy h =
      ⊎_elim (λ (l : y < x). let e = le_of_dvd {m = g} {n = x - y} (omega arith) (dvd-sub g {m = x} {n = y} dx dy) in absurd (omega arith))
      (λ (l : x ≤ y). l) (lt-or y x)

  differ : (x y : ℕ) → x % g ≡ y % g → g ∣ x - y
  differ x y e =
      let d = dvd-sub g {m = x / g * g} {n = y / g * g} (dvd-mul_left g (x / g)) (dvd-mul_left g (y / g)) in
      subst (λ (k : ℕ). g ∣ k) (omega (arith, div-add-mod' x g, div-add-mod' y g)) d

  -- a is ahead of b, and c so modulo g
  in-front : (l a b c : ℕ) → g ∣ l → c < g → a < l → (b + c) % g ≡ a % g → b ≤ a → (c ≤ a - b) × (a - b + g ≤ l + c)
  in-front l a b c dl hc ha e o =
      ⊎_elim
      (λ (h : a < b + c). let m = le_of_dvd {m = g} {n = b + c - a} (omega arith) (differ (b + c) a e) in absurd (omega arith))
      (λ (h : b + c ≤ a).
      let m = multiples (a - (b + c) + g) l (dvd-add g {b = a - (b + c)} {c = g} (differ a (b + c) (sym e)) (dvd_refl g)) dl (omega arith) in
      (omega arith, omega arith))
      (lt-or a (b + c))

  -- both one further, and so on
  shifted : (p q c n l k : ℕ) → g ∣ l → g ∣ k → (q + c) % g ≡ p % g → ((q + n) % k + c) % g ≡ (p + n) % l % g
  shifted p q c n l k dl dk e =
      sym (mod-add-mod ((q + n) % k) g c)
      ∙ ap (λ (x : ℕ). (x + c) % g) (mod-mod_of_dvd g {b = k} (q + n) dk)
      ∙ mod-add-mod (q + n) g c
      ∙ ap (λ (x : ℕ). x % g) (omega arith)
      ∙ sym (mod-add-mod (q + c) g n)
      ∙ ap (λ (x : ℕ). (x + n) % g) e
      ∙ mod-add-mod p g n
      ∙ sym (mod-mod_of_dvd g {b = l} (p + n) dl)

  -- the difference of the rests
  rest-is : (p q c : ℕ) → q % g + c ≡ p % g → (q + c) % g ≡ p % g
  rest-is p q c e = sym (mod-add-mod q g c) ∙ ap (λ (x : ℕ). x % g) e ∙ mod-mod p g

  rest_over : (p q c : ℕ) → q % g + c ≡ p % g + g → (q + c) % g ≡ p % g
  rest_over p q c e = sym (mod-add-mod q g c) ∙ ap (λ (x : ℕ). x % g) e ∙ add-mod_right (p % g) g ∙ mod-mod p g

module _ (p q l k g lo hi : ℕ) (u : Divisor l k g) (hl : 0 < l) (hk : 0 < k) where
  -- the first is c ahead modulo g, the second d
  turning : (c d r : ℕ) → c < g → d < g → (q + c) % g ≡ p % g → (p + d) % g ≡ q % g → Covers c (l - g) d (k - g) lo hi r → Rounds p q l k lo hi r
  turning c d r hc hd ec ed s = record { small = s.small; within = λ h n. go h n (lt-or ((p + n) % l) ((q + n) % k)) }
    where
      go : 0 < r → (n : ℕ) → ((p + n) % l < (q + n) % k) ⊎ ((q + n) % k ≤ (p + n) % l)
          → (lo ≤ apart ((p + n) % l) ((q + n) % k)) × (apart ((p + n) % l) ((q + n) % k) ≤ hi)
      go h n (inl o) =
          let f = in-front g u.some k ((q + n) % k) ((p + n) % l) d u.second hd (mod-lt (q + n) hk)
          (shifted g u.some q p d n k l u.second u.first ed) (omega arith) in
          let a = s.low h in
          let b = s.high h in
          (omega arith, omega arith)
      go h n (inr o) =
          let f = in-front g u.some l ((p + n) % l) ((q + n) % k) c u.first hc (mod-lt (p + n) hl)
          (shifted g u.some p q c n l k u.first u.second ec) o in
          let a = s.low h in
          let b = s.high h in
          (omega arith, omega arith)

  pub rounds-more : (r : ℕ) → q % g < p % g → Covers (p % g - q % g) (l - g) (g - (p % g - q % g)) (k - g) lo hi r → Rounds p q l k lo hi r
  rounds-more r h =
      let a = mod-lt p u.some in
      turning (p % g - q % g) (g - (p % g - q % g)) r (omega arith) (omega arith) (rest-is g u.some p q _ (omega arith))
      (rest_over g u.some q p _ (omega arith))

  pub rounds-less : (r : ℕ) → p % g < q % g → Covers (g - (q % g - p % g)) (l - g) (q % g - p % g) (k - g) lo hi r → Rounds p q l k lo hi r
  rounds-less r h =
      let a = mod-lt q u.some in
      turning (g - (q % g - p % g)) (q % g - p % g) r (omega arith) (omega arith) (rest_over g u.some p q _ (omega arith))
      (rest-is g u.some q p _ (omega arith))

  pub rounds-same : (r : ℕ) → p % g ≤ q % g → q % g ≤ p % g → Covers 0 (l - g) 0 (k - g) lo hi r → Rounds p q l k lo hi r
  rounds-same r h i = turning 0 0 r u.some u.some (rest-is g u.some p q 0 (omega arith)) (rest-is g u.some q p 0 (omega arith))
