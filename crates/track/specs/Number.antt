-- The numbers of a call, integers of either sign, and what a track keeps of them: `pos k` is k, `negsuc k` is -(k + 1).
use Rattle.std.specs.Prelude.{ℕ, suc, ◌+◌, ◌-◌, min, cond, ◌&&◌, ltb, leb, ℤ, pos, negsuc, ◌-ℤ◌, Option, Some, None}
use Rattle.track.specs.declared.Coordinate.{Coordinate}

-- the number itself, if it is from least to most
unfoldable pub natural_of : ℤ → ℕ → ℕ → Option ℕ
natural_of (pos k) least most = cond (leb k most && leb least k) (Some k) None
natural_of (negsuc k) least most = None

-- the number brought down to most, if it is not negative
unfoldable pub capped_of : ℤ → ℕ → Option ℕ
capped_of (pos k) most = Some (min k most)
capped_of (negsuc k) most = None

-- the coordinate of the position n, n + 1,000,000, if n is from -1,000,000 to 1,000,000
unfoldable pub coordinate_of : ℤ → Option Coordinate
coordinate_of (pos k) = cond (ltb 1000000 k) None (Some (record { 0 = k + 1000000 }))
coordinate_of (negsuc k) = cond (ltb 999999 k) None (Some (record { 0 = 1000000 - suc k }))

-- the same coordinate, if it is from low to high
unfoldable pub within : ℕ → ℕ → Option Coordinate → Option Coordinate
within low high (Some c) = cond (leb low c.0 && leb c.0 high) (Some c) None
within low high None = None

-- the position of a coordinate
unfoldable pub value_of : Coordinate → ℤ
value_of c = pos c.0 -ℤ pos 1000000

-- and the coordinate of a position, n + 1,000,000, of any n from -1,000,000 on
unfoldable pub coordinate_at : ℤ → Coordinate
coordinate_at (pos k) = record { 0 = k + 1000000 }
coordinate_at (negsuc k) = record { 0 = 1000000 - suc k }

-- n brought into -1,000,001 to 1,000,001, counted from the lowest: a bound of a range of positions
unfoldable pub clamped_of : ℤ → ℕ
clamped_of (pos k) = cond (ltb 1000000 k) 2000002 (k + 1000001)
clamped_of (negsuc k) = cond (ltb 999999 k) 0 (1000001 - suc k)

-- what is done with a number or a position in its range, and what with one outside
abbrev pub on_some : {A B : Type 0} → Option A → (A → B) → B → B
on_some (Some x) f other = f x
on_some None f other = other
