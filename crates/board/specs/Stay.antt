-- Two numbers that move evenly, and two that go round: how long they stay in a range of drifts (02, "Followers").
use Rattle.std.specs.Prelude.{ℕ, suc, ◌+◌, ◌*◌, ◌%◌, ◌≤◌, ◌<◌, ◌≡◌, ◌⊎◌, min}
use Rattle.std.specs.Int.{◌∣◌}
use Rattle.track.specs.Rule.{clock_end}
use Rattle.track.specs.Follow.{apart}

-- the greatest of the numbers asked of, and a sum of two of them
abbrev pub asked_most : ℕ
asked_most = 1000000000000000

abbrev pub sum_most : ℕ
sum_most = 2000000000000000

-- Two numbers a and b of which a - b is known to w: it is at least x - y and at most x - y + w.
pub record Known (x y w a b : ℕ) : Type 0 where
  pub least : x + b ≤ a + y
  pub most : a + y ≤ x + b + w

-- whatever they are, they are from lo to hi apart: the first is ahead (or lo is 0), or the second is
pub record Above (x y w lo hi : ℕ) : Type 0 where
  pub off : (lo ≡ 0) ⊎ (y + lo ≤ x)
  pub low : y ≤ x + hi
  pub high : x + w ≤ y + hi

pub record Below (x y w lo hi : ℕ) : Type 0 where
  pub off : x + w + lo ≤ y
  pub low : y ≤ x + hi

abbrev pub Between : ℕ → ℕ → ℕ → ℕ → ℕ → Type 0
Between x y w lo hi = Above x y w lo hi ⊎ Below x y w lo hi

-- r is the number of ticks in which x, moved by g in each, and y, moved by h, stay from lo to hi apart, or the clock's end
pub record Stays (x y w g h lo hi r : ℕ) : Type 0 where
  pub small : r ≤ clock_end
  pub within : (n : ℕ) → 0 < n → n ≤ r → Between (x + n * g) (y + n * h) w lo hi
  pub exact : r < clock_end → Between (x + suc r * g) (y + suc r * h) w lo hi → ⊥

-- r is the least of three: such a number of ticks, a and b
pub record Together (x y w g h lo hi a b r : ℕ) : Type 0 where
  pub whole : ℕ
  pub stays : Stays x y w g h lo hi whole
  pub least : r ≡ min (min whole a) b

-- what may be asked: numbers up to a most, and no pace that steps over the numbers below lo
pub record Asked (most x y w v lo hi : ℕ) : Type 0 where
  pub first : x ≤ most
  pub second : y ≤ most
  pub width : w ≤ most
  pub pace : v ≤ most
  pub low : lo ≤ most
  pub high : hi ≤ most
  pub slow : (lo ≡ 0) ⊎ (v < lo + lo)

-- r is the greatest number that divides both
pub record Divisor (a b r : ℕ) : Type 0 where
  pub some : 0 < r
  pub first : r ∣ a
  pub second : r ∣ b
  pub greatest : (k : ℕ) → k ∣ a → k ∣ b → k ∣ r

-- r is at most the clock's end, and where it is not 0 the numbers from c to c + v and from d to d + w are within lo to hi
pub record Covers (c v d w lo hi r : ℕ) : Type 0 where
  pub small : r ≤ clock_end
  pub low : 0 < r → (lo ≤ c) × (lo ≤ d)
  pub high : 0 < r → (v + c ≤ hi) × (w + d ≤ hi)

-- r is at most the clock's end, and where it is not 0 two that go round l places from p and round k places from q are always from
-- lo to hi apart
pub record Rounds (p q l k lo hi r : ℕ) : Type 0 where
  pub small : r ≤ clock_end
  pub within : 0 < r → (n : ℕ) → (lo ≤ apart ((p + n) % l) ((q + n) % k)) × (apart ((p + n) % l) ((q + n) % k) ≤ hi)
