-- Keys in a range: how many, and the first and the last of them.
use Rattle.std.specs.Prelude.{Option, Some, None}
use Prim.Native.Nat.{ℕ, zero, suc, ◌+◌, ◌-◌, ◌*◌, ◌≤◌, ◌<◌, suc-le-suc, zero-le}
use native.Mathlib.Nat.{le_of_suc-le-suc, not-suc-le-zero, zero-lt-suc}
use native.Mathlib.Omega.{arith}
use mathlib.Core.Path.{◌≡◌, refl, sym, ap, ◌∙◌}
use mathlib.Core.Logic.{◌⊎◌, inl, inr, ⊎_elim}
use mathlib.Core.Bool.{Bool, true, false, cond, and-false, true≢false}
use mathlib.Core.List.{List, [], ◌∷◌}
use lib.ListN.{length, take, get_or}
use lib.Seq.{get_or-take}
use lib.Dec.{leb, ltb}
use borrow.Author.Tests.{lt-ltb, le-ltb, le-leb, lt-leb, leb-true, ltb-true}
use Rattle.track.specs.declared.Coordinate.{Coordinate}
use Rattle.track.proofs.Tests.{cond_cases, both}
use Rattle.board.specs.Points.{stride, key, ascending_from, has_key, first_from, count_of, between, find_first, or_else, find_last, nearest}
use Rattle.board.proofs.points.Keys.{lt-or-ge, ascending-rest, ascending-low, ascending-le, first-unique, first_at, first-length, has-head, has-tail, has-none, has-past, has-low, has-below}

between_in : (from past x : ℕ) → from ≤ x → x < past → between from past x ≡ true
unfolding between
between_in from past x l h = rw (le-leb from x l, lt-ltb x past h)

between-low : (from past x : ℕ) → x < from → between from past x ≡ false
unfolding between
between-low from past x l = rw (lt-leb from x l)

between-high : (from past x : ℕ) → past ≤ x → between from past x ≡ false
unfolding between
between-high from past x h = rw (le-ltb x past h, and-false)

between-of : (from past x : ℕ) → between from past x ≡ true → (from ≤ x) × (x < past)
unfolding between
between-of from past x h = let b = both (leb from x) (ltb x past) h in (leb-true from x b.0, ltb-true x past b.1)

-- ---- counting

first-skip : (x : ℕ) (xs : List ℕ) (k : ℕ) → x < k → first_from (x ∷ xs) k ≡ suc (first_from xs k)
unfolding first_from
first-skip x xs k h = rw (lt-ltb x k h)

first-stop : (x : ℕ) (xs : List ℕ) (k : ℕ) → k ≤ x → first_from (x ∷ xs) k ≡ 0
unfolding first_from
first-stop x xs k h = rw (le-ltb x k h)

first-zero : (lo k : ℕ) (xs : List ℕ) → ascending_from lo xs ≡ true → k ≤ lo → first_from xs k ≡ 0
first-zero lo k xs a h =
    sym
    (first-unique xs k 0 (record {
      le = zero-le;
      below = λ j m. absurd (not-suc-le-zero m);
      at = λ m. let g = ascending-low lo xs a 0 m in omega arith;
    }))

count-in : (p : ℕ → Bool) (x : ℕ) (xs : List ℕ) → p x ≡ true → count_of p (x ∷ xs) ≡ suc (count_of p xs)
unfolding count_of
count-in p x xs h = rw h

count-out : (p : ℕ → Bool) (x : ℕ) (xs : List ℕ) → p x ≡ false → count_of p (x ∷ xs) ≡ count_of p xs
unfolding count_of
count-out p x xs h = rw h

-- no key stands in an empty range
pub count_none : (from past : ℕ) → past ≤ from → (xs : List ℕ) → count_of (between from past) xs ≡ 0
count_none from past h [] = unfold count_of in refl
count_none from past h (x ∷ xs) =
    count-out (between from past) x xs
    (⊎_elim (between-low from past x) (λ l. between-high from past x (omega arith)) (lt-or-ge x from))
    ∙ count_none from past h xs

-- the keys in a range are those between the first ones from its two ends on
module _ (from past : ℕ) (order : from ≤ past) where
  count-cons : (x : ℕ) (xs : List ℕ) → ascending_from (suc x) xs ≡ true
      → first_from xs from + count_of (between from past) xs ≡ first_from xs past → (x < from) ⊎ (from ≤ x) → (x < past) ⊎ (past ≤ x)
      → first_from (x ∷ xs) from + count_of (between from past) (x ∷ xs) ≡ first_from (x ∷ xs) past
  count-cons x xs a e (inl b) (inl c) =
      rw (first-skip x xs from b, first-skip x xs past c, count-out (between from past) x xs (between-low from past x b)) (omega arith)
  count-cons x xs a e (inl b) (inr c) = absurd (omega arith)
  count-cons x xs a e (inr b) (inl c) =
      let z = first-zero (suc x) from xs a (omega arith) in
      rw (first-stop x xs from b, first-skip x xs past c, count-in (between from past) x xs (between_in from past x b c)) (omega arith)
  count-cons x xs a e (inr b) (inr c) =
      let z = first-zero (suc x) from xs a (omega arith) in
      let w = first-zero (suc x) past xs a (omega arith) in
      rw (first-stop x xs from b, first-stop x xs past c, count-out (between from past) x xs (between-high from past x c)) (omega arith)

  pub count-ranks : (lo : ℕ) (xs : List ℕ) → ascending_from lo xs ≡ true
      → first_from xs from + count_of (between from past) xs ≡ first_from xs past
  count-ranks lo [] a = unfold first_from count_of in refl
  count-ranks lo (x ∷ xs) a =
      let r = ascending-rest lo x xs a in
      count-cons x xs r (count-ranks (suc x) xs r) (lt-or-ge x from) (lt-or-ge x past)

-- ---- the first and the last key that a test accepts

abbrev found : ℕ → ℕ → Option Coordinate
found track x = Some (record { 0 = x - track * stride })

module _ (p : ℕ → Bool) (track : ℕ) where
  find_none : (xs : List ℕ) → ((j : ℕ) → j < length xs → p (get_or xs j 0) ≡ false) → find_first p track xs ≡ None
  unfolding find_first
  find_none [] h = refl
  find_none (x ∷ xs) h = rw (h zero (zero-lt-suc (length xs))) (find_none xs (λ j m. h (suc j) (suc-le-suc m)))

  find_at : (i : ℕ) (xs : List ℕ) → i < length xs → ((j : ℕ) → j < i → p (get_or xs j 0) ≡ false) → p (get_or xs i 0) ≡ true
      → find_first p track xs ≡ found track (get_or xs i 0)
  unfolding find_first
  find_at i [] l h e = absurd (not-suc-le-zero l)
  find_at zero (x ∷ xs) l h e = rw e
  find_at (suc i) (x ∷ xs) l h e = rw (h zero (zero-lt-suc i)) (find_at i xs (le_of_suc-le-suc l) (λ j m. h (suc j) (suc-le-suc m)) e)

  last_none : (xs : List ℕ) → ((j : ℕ) → j < length xs → p (get_or xs j 0) ≡ false) → find_last p track xs ≡ None
  unfolding find_last
  last_none [] h = refl
  last_none (x ∷ xs) h = rw (last_none xs (λ j m. h (suc j) (suc-le-suc m)), h zero (zero-lt-suc (length xs)))

  last-at : (i : ℕ) (xs : List ℕ) → i < length xs → p (get_or xs i 0) ≡ true
      → ((j : ℕ) → i < j → j < length xs → p (get_or xs j 0) ≡ false) → find_last p track xs ≡ found track (get_or xs i 0)
  unfolding find_last
  last-at i [] l e h = absurd (not-suc-le-zero l)
  last-at zero (x ∷ xs) l e h = rw (last_none xs (λ j m. h (suc j) (zero-lt-suc j) (suc-le-suc m)), e)
  last-at (suc i) (x ∷ xs) l e h = rw (last-at i xs (le_of_suc-le-suc l) e (λ j m m'. h (suc j) (suc-le-suc m) (suc-le-suc m')))

-- ---- the ways out of first_between and last_between

module _ (ks : List ℕ) (track from past : ℕ) (asc : ascending_from 0 ks ≡ true) where
  module _ (i : ℕ) (ei : i ≡ first_from ks from) where
    low : (j : ℕ) → j < i → between from past (get_or ks j 0) ≡ false
    low j h = between-low from past _ ((first_at ks from i ei).below j h)

    pub first-end : length ks ≤ i → None ≡ find_first (between from past) track ks
    first-end h = sym (find_none (between from past) track ks (λ j m. low j (omega arith)))

    -- the key that stands there
    module _ (x : ℕ) (g : (i < length ks) × ((d : ℕ) → x ≡ get_or ks i d)) where
      pub first-least : from ≤ x
      first-least = let a = (first_at ks from i ei).at g.0 in omega (arith, g.1 0)

      pub first-over : past ≤ x → None ≡ find_first (between from past) track ks
      first-over h =
          sym
          (find_none (between from past) track ks
          (λ j m. ⊎_elim (low j)
          (λ (l : i ≤ j). let o = ascending-le 0 ks asc i j l m in between-high from past _ (omega (arith, g.1 0)))
          (lt-or-ge j i)))

      pub first-here : x < past → found track x ≡ find_first (between from past) track ks
      first-here h =
          ap (found track) (g.1 0)
          ∙ sym (find_at (between from past) track i ks g.0 low (between_in from past _ (omega (arith, g.1 0, first-least)) (omega (arith, g.1 0))))

  module _ (i : ℕ) (ei : i ≡ first_from ks past) where
    high : (j : ℕ) → i ≤ j → j < length ks → between from past (get_or ks j 0) ≡ false
    high j h m =
        let g = (first_at ks past i ei).at (omega arith) in
        let o = ascending-le 0 ks asc i j h m in
        between-high from past _ (omega arith)

    len : length (take i ks) ≡ i
    len = first-length ks past i ei

    pub last_end : length (take i ks) ≤ 0 → None ≡ find_last (between from past) track ks
    last_end h = sym (last_none (between from past) track ks (λ j m. high j (omega (arith, len)) m))

    -- the last key before there
    module _ (x : ℕ) (g : (0 < length (take i ks)) × ((d : ℕ) → x ≡ get_or (take i ks) (length (take i ks) - 1) d)) where
      inside : i - 1 < length ks
      inside = let l = (first_at ks past i ei).le in omega (arith, len, g.0)

      is : x ≡ get_or ks (i - 1) 0
      is = g.1 0 ∙ ap (λ (n : ℕ). get_or (take i ks) (n - 1) 0) len ∙ get_or-take i ks (i - 1) 0 (omega (arith, len, g.0))

      pub last_under : x < from → None ≡ find_last (between from past) track ks
      last_under h =
          sym
          (last_none (between from past) track ks
          (λ j m. ⊎_elim
          (λ (l : j < i).
          let o = ascending-le 0 ks asc j (i - 1) (omega arith) inside in
          between-low from past _ (omega (arith, is)))
          (λ (l : i ≤ j). high j l m)
          (lt-or-ge j i)))

      pub last-here : from ≤ x → found track x ≡ find_last (between from past) track ks
      last-here h =
          let b = (first_at ks past i ei).below (i - 1) (omega (arith, len, g.0)) in
          ap (found track) is
          ∙ sym
          (last-at (between from past) track (i - 1) ks inside
          (between_in from past _ (omega (arith, is)) (omega arith)) (λ j l m. high j (omega arith) m))

-- ---- the nearest point further on

-- what the first and the last key of a range are: a key in it with none of the range sooner, or none
record Found (track from past : ℕ) (ks : List ℕ) (Sooner : ℕ → ℕ → Type 0) (r : Option Coordinate) : Type 0 where
  pub inside : (c : Coordinate) → r ≡ Some c → (from ≤ key track c.0) × (key track c.0 < past)
  pub there : (c : Coordinate) → r ≡ Some c → has_key (key track c.0) ks ≡ true
  pub sooner : (c : Coordinate) → r ≡ Some c → (y : ℕ) → from ≤ y → y < past → Sooner y (key track c.0) → has_key y ks ≡ false
  pub none : r ≡ None → (y : ℕ) → from ≤ y → y < past → has_key y ks ≡ false

not_at : (c : Coordinate) → None ≡ Some c → ⊥
not_at c q = let z : ◌≡◌ {A = ℕ} 0 1 = cc in omega arith

module _ (track from past : ℕ) (low : track * stride ≤ from) where
  found_none : (Sooner : ℕ → ℕ → Type 0) → Found track from past [] Sooner None
  found_none Sooner = record {
    inside = λ c q. absurd (not_at c q);
    there = λ c q. absurd (not_at c q);
    sooner = λ c q. absurd (not_at c q);
    none = λ q y a b. has-none y;
  }

  module _ (x : ℕ) (xs : List ℕ) (Sooner : ℕ → ℕ → Type 0) where
    found_here : from ≤ x → x < past → ((y : ℕ) → from ≤ y → y < past → Sooner y x → has_key y (x ∷ xs) ≡ false)
        → Found track from past (x ∷ xs) Sooner (found track x)
    found_here l h s = record {
      inside = λ c q. let e = back c q in (omega arith, omega arith);
      there = λ c q. has-head (key track c.0) x xs (sym (back c q));
      sooner = λ c q y a b w. s y a b (rw (back c q) at w);
      none = λ q. absurd (not_at (record { 0 = x - track * stride }) (sym q));
    }
      where
        back : (c : Coordinate) → found track x ≡ Some c → key track c.0 ≡ x
        back c q = let e : c.0 ≡ x - track * stride = cc in omega arith

    found-skip : (between from past x ≡ false) → (r : Option Coordinate) → Found track from past xs Sooner r → Found track from past (x ∷ xs) Sooner r
    found-skip e r f = record {
      inside = f.inside;
      there = λ c q. has-tail (key track c.0) x xs (f.there c q);
      sooner = λ c q y a b w. has-past y x xs (out y a b) (f.sooner c q y a b w);
      none = λ q y a b. has-past y x xs (out y a b) (f.none q y a b);
    }
      where
        out : (y : ℕ) → from ≤ y → y < past → x ≡ y → ⊥
        out y a b w = true≢false (sym (between_in from past x (omega arith) (omega arith)) ∙ e)

  first_found : (lo : ℕ) (ks : List ℕ) → ascending_from lo ks ≡ true
      → Found track from past ks (λ y x. y < x) (find_first (between from past) track ks)
  unfolding find_first
  first_found lo [] asc = found_none (λ y x. y < x)
  first_found lo (x ∷ xs) asc =
      let r = ascending-rest lo x xs asc in
      let f = first_found (suc x) xs r in
      cond_cases (Found track from past (x ∷ xs) (λ y x. y < x)) (between from past x)
      (λ e.
      let b = between-of from past x e in
      found_here x xs (λ y x. y < x) b.0 b.1 (λ y l h w. has-past y x xs (omega arith) (has-below (suc x) y xs r (omega arith))))
      (λ e. found-skip x xs (λ y x. y < x) e (find_first (between from past) track xs) f)

  last_step : (x : ℕ) (xs : List ℕ) → ascending_from (suc x) xs ≡ true → (r : Option Coordinate) → Found track from past xs (λ y x. x < y) r
      → Found track from past (x ∷ xs) (λ y x. x < y) (or_else r (cond (between from past x) (found track x) None))
  last_step x xs asc (Some c) f = record {
    inside = f.inside;
    there = λ c q. has-tail (key track c.0) x xs (f.there c q);
    sooner =
        λ c q y a b w.
        let g = has-low (suc x) (key track c.0) xs asc (f.there c q) in
        has-past y x xs (omega arith) (f.sooner c q y a b w);
    none = λ q. absurd (not_at c (sym q));
  }
  last_step x xs asc None f =
      cond_cases (Found track from past (x ∷ xs) (λ y x. x < y)) (between from past x)
      (λ e.
      let b = between-of from past x e in
      found_here x xs (λ y x. x < y) b.0 b.1 (λ y l h w. has-past y x xs (omega arith) (f.none refl y l h)))
      (λ e. found-skip x xs (λ y x. x < y) e None f)

  last_found : (lo : ℕ) (ks : List ℕ) → ascending_from lo ks ≡ true
      → Found track from past ks (λ y x. x < y) (find_last (between from past) track ks)
  unfolding find_last
  last_found lo [] asc = found_none (λ y x. x < y)
  last_found lo (x ∷ xs) asc =
      let r = ascending-rest lo x xs asc in
      last_step x xs r (find_last (between from past) track xs) (last_found (suc x) xs r)

-- x lies strictly further on than l in a direction, within start to end
abbrev pub Further : Bool → ℕ → ℕ → ℕ → ℕ → Type 0
Further true l start end x = (start ≤ x) × (x < l)
Further false l start end x = (l < x) × (x ≤ end)

-- x is passed on the way from l to c
abbrev pub Passed : Bool → ℕ → ℕ → ℕ → Type 0
Passed true l c x = (c < x) × (x < l)
Passed false l c x = (l < x) × (x < c)

-- the nearest point lies further on, and none is passed on the way to it; where there is none, none lies further on
pub record Nearest (backward : Bool) (track l start end : ℕ) (ks : List ℕ) (r : Option Coordinate) : Type 0 where
  pub further : (c : Coordinate) → r ≡ Some c → Further backward l start end c.0
  pub there : (c : Coordinate) → r ≡ Some c → has_key (key track c.0) ks ≡ true
  pub passed : (c : Coordinate) → r ≡ Some c → (x : ℕ) → Passed backward l c.0 x → has_key (key track x) ks ≡ false
  pub none : r ≡ None → (x : ℕ) → Further backward l start end x → has_key (key track x) ks ≡ false

-- what nearest answers is the nearest
pub nearest-is : (backward : Bool) (track l start end : ℕ) (ks : List ℕ) → ascending_from 0 ks ≡ true
    → Nearest backward track l start end ks (nearest backward track l start end ks)
unfolding nearest
nearest-is true track l start end ks asc =
    let f = last_found track (key track start) (key track l) (omega arith) 0 ks asc in
    record {
      further = λ c q. let g = f.inside c q in (omega arith, omega arith);
      there = f.there;
      passed = λ c q x w. let g = f.inside c q in f.sooner c q (key track x) (omega arith) (omega arith) (omega arith);
      none = λ q x w. f.none q (key track x) (omega arith) (omega arith);
    }
nearest-is false track l start end ks asc =
    let f = first_found track (key track l + 1) (key track end + 1) (omega arith) 0 ks asc in
    record {
      further = λ c q. let g = f.inside c q in (omega arith, omega arith);
      there = f.there;
      passed = λ c q x w. let g = f.inside c q in f.sooner c q (key track x) (omega arith) (omega arith) (omega arith);
      none = λ q x w. f.none q (key track x) (omega arith) (omega arith);
    }
