-- The laws of two numbers that move evenly.
use Prim.Native.Nat.{ℕ, zero, suc, ◌+◌, ◌-◌, ◌*◌, ◌/◌, ◌≤◌, ◌<◌}
use mathlib.Core.Path.{◌≡◌, refl, sym, ap, ◌∙◌}
use mathlib.Core.Logic.{◌⊎◌, inl, inr, ⊎_elim}
use native.Mathlib.Nat.{suc-mul, mul-zero, zero-mul, mul-add, le-div_iff_mul-le, lt-div-mul-add}
use native.Mathlib.Omega.{arith}
use mathlib.Core.Bool.{Bool, true, false}
use lib.Dec.{leb}
use borrow.Author.Tests.{leb-true, leb-false}
use Rattle.track.specs.Rule.{clock_end}
use Rattle.track.specs.Follow.{apart}
use Rattle.board.specs.Stay.{Known, Above, Between, Stays}

-- numbers that are known so are from lo to hi apart
pub between-apart : (x y w lo hi a b : ℕ) → Known x y w a b → Between x y w lo hi → (lo ≤ apart a b) × (apart a b ≤ hi)
between-apart x y w lo hi a b k (inr f) = omega arith
between-apart x y w lo hi a b k (inl f) = go f.off
  where
    go : (lo ≡ 0) ⊎ (y + lo ≤ x) → (lo ≤ apart a b) × (apart a b ≤ hi)
    go (inl e) = omega (arith, f.low, f.high)
    go (inr e) = omega (arith, f.low, f.high)

-- and the other way, where they are known whole
pub apart-between : (x y lo hi : ℕ) → (lo ≤ apart x y) × (apart x y ≤ hi) → Between x y 0 lo hi
apart-between x y zero hi h = inl (record { off = inl refl; low = omega arith; high = omega arith })
apart-between x y (suc lo) hi h = go (leb y x) refl
  where
    go : (b : Bool) → leb y x ≡ b → Between x y 0 (suc lo) hi
    go true e = let l = leb-true y x e in inl (record { off = inr (omega arith); low = omega arith; high = omega arith })
    go false e = let l = leb-false y x e in inr (record { off = omega arith; low = omega arith })

-- a first tick is at least v
grows : (n v : ℕ) → 0 < n → v ≤ n * v
grows zero v h = absurd (omega arith)
grows (suc n) v h = omega (arith, suc-mul n v)

module _ (x y w v lo hi : ℕ) (low : y ≤ x + v + hi) where
  -- where the first is ahead, or lo is 0
  module _ (off : (lo ≡ 0) ⊎ (y + lo ≤ x + v)) where
    above_at : (n : ℕ) → 0 < n → x + n * v + w ≤ y + hi → Above (x + n * v) y w lo hi
    above_at n p h =
        record {
          off = ⊎_elim inl (λ (e : y + lo ≤ x + v). inr (omega (arith, grows n v p))) off;
          low = omega (arith, grows n v p);
          high = h;
        }

    above-not : (n : ℕ) → 0 < n → y + hi < x + n * v + w → Between (x + n * v) y w lo hi → ⊥
    above-not n p h (inl f) = omega (arith, f.high)
    above-not n p h (inr f) =
        ⊎_elim (λ (e : lo ≡ 0). omega (arith, f.off)) (λ (e : y + lo ≤ x + v). omega (arith, f.off, grows n v p)) off

-- what the second does not move
rests : (y n : ℕ) → y + n * 0 ≡ y
rests y n = omega (arith, mul-zero n)

module _ (x y w v lo hi : ℕ) where
  abbrev at : ℕ → Type 0
  at n = Between (x + n * v) (y + n * 0) w lo hi

  told : (n : ℕ) → Between (x + n * v) y w lo hi → at n
  told n f = rw (rests y n) f

  heard : (n : ℕ) → at n → Between (x + n * v) y w lo hi
  heard n f = rw (rests y n) at f

  once : x + 1 * v ≡ x + v
  once = omega (arith, suc-mul 0 v, zero-mul v)

  -- not even in the first tick
  stays-none : (Between (x + v) y w lo hi → ⊥) → Stays x y w v 0 lo hi 0
  stays-none never =
      record {
        small = omega arith;
        within = λ n p l. absurd (omega arith);
        exact = λ _ f. never (rw once at (heard 1 f));
      }

  -- nothing moves
  pub stays-ever : v ≡ 0 → Between (x + v) y w lo hi → Stays x y w v 0 lo hi clock_end
  stays-ever e f =
      record {
        small = omega arith;
        within = λ n p l. told n (let k : x + n * v ≡ x + v = rw e (omega (arith, mul-zero n)) in rw k f);
        exact = λ l _. absurd (omega arith);
      }

  -- the first tick is above the range
  pub stays-high : (lo ≡ 0) ⊎ (y + lo ≤ x + v) → y + hi < x + v + w → Stays x y w v 0 lo hi 0
  stays-high off h = stays-none (λ f. go f off)
    where
      go : Between (x + v) y w lo hi → (lo ≡ 0) ⊎ (y + lo ≤ x + v) → ⊥
      go (inl f) o = omega (arith, f.high)
      go (inr f) (inl e) = omega (arith, f.off)
      go (inr f) (inr e) = omega (arith, f.off)

  module _ (low : y ≤ x + v + hi) (p : 0 < v) (r : ℕ) (small : r ≤ clock_end) where
    pub stays-above : (lo ≡ 0) ⊎ (y + lo ≤ x + v) → x + v + w ≤ y + hi → r ≤ (y + hi - w - x) / v
        → (r < clock_end → r ≡ (y + hi - w - x) / v) → Stays x y w v 0 lo hi r
    stays-above off high le is =
        record {
          small = small;
          within = λ n q l. told n (inl (above_at x y w v lo hi low off n q
              (omega (arith, (le-div_iff_mul-le {k = v} {x = n} {y = y + hi - w - x} p).0 (omega arith)))));
          exact = λ l f. above-not x y w v lo hi low off (suc r) (omega arith)
              (omega (arith, is l, suc-mul r v, lt-div-mul-add {a = y + hi - w - x} {b = v} p, ap (λ (k : ℕ). k * v) (is l))) (heard (suc r) f);
        }

-- ---- the two change places

turned : (x y w lo hi : ℕ) → Between y (x + w) w lo hi → Between x y w lo hi
turned x y w lo hi (inl f) =
    ⊎_elim (λ (e : lo ≡ 0). inl (record { off = inl e; low = omega (arith, f.high); high = f.low }))
    (λ (e : x + w + lo ≤ y). inr (record { off = e; low = omega (arith, f.high) })) f.off
turned x y w lo hi (inr f) = inl (record { off = inr (omega (arith, f.off)); low = omega (arith, f.off); high = f.low })

back : (x y w lo hi : ℕ) → Between x y w lo hi → Between y (x + w) w lo hi
back x y w lo hi (inl f) =
    ⊎_elim (λ (e : lo ≡ 0). inl (record { off = inl e; low = f.high; high = omega (arith, f.low) }))
    (λ (e : y + lo ≤ x). inr (record { off = omega arith; low = f.high })) f.off
back x y w lo hi (inr f) = inl (record { off = inr f.off; low = omega (arith, f.off); high = omega (arith, f.low) })

-- both moved on by k
on : (x y w lo hi k : ℕ) → Between x y w lo hi → Between (x + k) (y + k) w lo hi
on x y w lo hi k (inl f) =
    inl (record { off = ⊎_elim inl (λ (e : y + lo ≤ x). inr (omega arith)) f.off; low = omega (arith, f.low); high = omega (arith, f.high) })
on x y w lo hi k (inr f) = inr (record { off = omega (arith, f.off); low = omega (arith, f.low) })

off : (x y w lo hi k : ℕ) → Between (x + k) (y + k) w lo hi → Between x y w lo hi
off x y w lo hi k (inl f) =
    inl (record { off = ⊎_elim inl (λ (e : y + k + lo ≤ x + k). inr (omega arith)) f.off; low = omega (arith, f.low); high = omega (arith, f.high) })
off x y w lo hi k (inr f) = inr (record { off = omega (arith, f.off); low = omega (arith, f.low) })

-- a number of ticks times a difference
gap : (n g h : ℕ) → g ≤ h → n * (h - g) + n * g ≡ n * h
gap n g h l = sym (mul-add n (h - g) g) ∙ ap (λ (k : ℕ). n * k) (omega arith)

module _ (x y w g h lo hi r : ℕ) where
  -- the first is as fast or faster
  pub stays-first : h ≤ g → Stays x y w (g - h) 0 lo hi r → Stays x y w g h lo hi r
  stays-first l s = record { small = s.small; within = λ n p q. there n (s.within n p q); exact = λ q f. s.exact q (here (suc r) f) }
    where
      same : (n : ℕ) → x + n * (g - h) + n * h ≡ x + n * g
      same n = omega (arith, gap n h g l)

      there : (n : ℕ) → Between (x + n * (g - h)) (y + n * 0) w lo hi → Between (x + n * g) (y + n * h) w lo hi
      there n f = rw (sym (same n)) (on (x + n * (g - h)) y w lo hi (n * h) (rw (rests y n) at f))

      here : (n : ℕ) → Between (x + n * g) (y + n * h) w lo hi → Between (x + n * (g - h)) (y + n * 0) w lo hi
      here n f = rw (rests y n) (off (x + n * (g - h)) y w lo hi (n * h) (rw (sym (same n)) at f))

  -- the second is faster
  pub stays-second : g < h → Stays y (x + w) w (h - g) 0 lo hi r → Stays x y w g h lo hi r
  stays-second l s = record { small = s.small; within = λ n p q. there n (s.within n p q); exact = λ q f. s.exact q (here (suc r) f) }
    where
      same : (n : ℕ) → y + n * (h - g) + n * g ≡ y + n * h
      same n = omega (arith, gap n g h (omega arith))

      there : (n : ℕ) → Between (y + n * (h - g)) (x + w + n * 0) w lo hi → Between (x + n * g) (y + n * h) w lo hi
      there n f = rw (sym (same n)) (on x (y + n * (h - g)) w lo hi (n * g) (turned x (y + n * (h - g)) w lo hi (rw (rests (x + w) n) at f)))

      here : (n : ℕ) → Between (x + n * g) (y + n * h) w lo hi → Between (y + n * (h - g)) (x + w + n * 0) w lo hi
      here n f = rw (rests (x + w) n) (back x (y + n * (h - g)) w lo hi (off x (y + n * (h - g)) w lo hi (n * g) (rw (sym (same n)) at f)))
