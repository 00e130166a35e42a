-- One element put into a row or taken out of it.
use Prim.Native.Nat.{ℕ, zero, suc, ◌+◌, ◌-◌, ◌≤◌, ◌<◌, suc-le-suc}
use native.Mathlib.Nat.{le_of_suc-le-suc, not-suc-le-zero, zero-lt-suc}
use native.Mathlib.Numerals.{add-one}
use native.Mathlib.Omega.{arith}
use mathlib.Core.Path.{◌≡◌, refl, ap, ◌∙◌}
use mathlib.Core.Bool.{true}
use mathlib.Core.List.{List, [], ◌∷◌, ◌++◌}
use lib.ListN.{length, take, drop, get_or, set, length-append, length-drop}
use lib.Seq.{take-nil, take_at, length-take-le}
use Rattle.std.specs.List.{copy_within}
use Rattle.board.specs.Points.{ascending_from, insert_at, remove_at, insert_row, remove_row}
use Rattle.board.proofs.points.Keys.{ascending-head, ascending-rest, ascending-cons}

module _ {A : Type 0} where
  pub length-insert : (i : ℕ) (v : A) (a : List A) → length (insert_at i v a) ≡ suc (length a)
  unfolding insert_at
  length-insert zero v a = refl
  length-insert (suc i) v [] = refl
  length-insert (suc i) v (x ∷ xs) = ap suc (length-insert i v xs)

  pub length-remove : (i : ℕ) (a : List A) → i < length a → suc (length (remove_at i a)) ≡ length a
  unfolding remove_at
  length-remove i [] l = absurd (not-suc-le-zero l)
  length-remove zero (x ∷ xs) l = refl
  length-remove (suc i) (x ∷ xs) l = ap suc (length-remove i xs (le_of_suc-le-suc l))

-- the elements from i to n copied one place up, and v put into the place that is then free
inserted : (i k n v : ℕ) (a : List ℕ) → i + k ≡ n → i < length a →
    set ((take (suc i) a ++ take k (drop i a)) ++ drop (suc n) a) i v ≡ insert_at i v (take n a) ++ drop (suc n) a
unfolding insert_at
inserted i k n v [] e h = absurd (not-suc-le-zero h)
inserted zero k n v (x ∷ xs) e h = let m : k ≡ n = omega arith in ap (λ (j : ℕ). v ∷ (take j (x ∷ xs) ++ drop n xs)) m
inserted (suc i) k zero v (x ∷ xs) e h = absurd (omega arith)
inserted (suc i) k (suc n) v (x ∷ xs) e h = ap (λ (r : List ℕ). x ∷ r) (inserted i k n v xs (omega arith) (le_of_suc-le-suc h))

pub row-inserted : (a b : List ℕ) (n i v : ℕ) → i ≤ n → n < length a → b ≡ copy_within a i n (i + 1) → set b i v ≡ insert_row n i v a
unfolding insert_row
row-inserted a b n i v h l e =
    let p : i + 1 + (n - i) ≡ suc n = omega arith in
    rw (e, p, add-one) (inserted i (n - i) n v a (omega arith) (omega arith))

-- the elements above i, up to n, copied one place down
removed : (i k n : ℕ) (a : List ℕ) → i + suc k ≡ n → take i a ++ take k (drop (suc i) a) ≡ remove_at i (take n a)
unfolding remove_at
removed i k zero a e = absurd (omega arith)
removed zero k (suc n) [] e = take-nil k
removed zero k (suc n) (x ∷ xs) e = let m : k ≡ n = omega arith in ap (λ (j : ℕ). take j xs) m
removed (suc i) k (suc n) [] e = take-nil k
removed (suc i) k (suc n) (x ∷ xs) e = ap (λ (r : List ℕ). x ∷ r) (removed i k n xs (omega arith))

pub row-removed : (a b : List ℕ) (n i : ℕ) → i < n → b ≡ copy_within a (i + 1) n i → b ≡ remove_row n i a
unfolding remove_row
row-removed a b n i h e =
    let p : i + (n - suc i) ≡ n - 1 = omega arith in
    e ∙ rw (add-one, p) (ap (λ (r : List ℕ). r ++ drop (n - 1) a) (removed i (n - suc i) n a (omega arith)))

-- ---- the elements that count afterwards, and the length of the row

module _ (n i v : ℕ) (a : List ℕ) where
  pub insert-row-take : n ≤ length a → take (n + 1) (insert_row n i v a) ≡ insert_at i v (take n a)
  unfolding insert_row
  insert-row-take l =
      let t = length-take-le n a l in
      take_at (insert_at i v (take n a)) (drop (suc n) a) (n + 1) (length-insert i v (take n a) ∙ omega arith)

  pub insert-row-length : n < length a → length (insert_row n i v a) ≡ length a
  unfolding insert_row
  insert-row-length l =
      let t = length-take-le n a (omega arith) in
      rw (length-append, length-insert i v (take n a), length-drop (suc n) a) (omega arith)

module _ (n i : ℕ) (a : List ℕ) (below : i < n) (fits : n ≤ length a) where
  left : suc (length (remove_at i (take n a))) ≡ n
  left = let t = length-take-le n a fits in length-remove i (take n a) (omega arith) ∙ t

  pub remove-row-take : take (n - 1) (remove_row n i a) ≡ remove_at i (take n a)
  unfolding remove_row
  remove-row-take = take_at (remove_at i (take n a)) (drop (n - 1) a) (n - 1) (omega (arith, left))

  pub remove-row-length : length (remove_row n i a) ≡ length a
  unfolding remove_row
  remove-row-length = rw (length-append, length-drop (n - 1) a) (omega (arith, left))

-- ---- keys stay ascending

pub ascending-insert : (i lo k : ℕ) (ks : List ℕ) → ascending_from lo ks ≡ true → lo ≤ k → i ≤ length ks
    → ((j : ℕ) → j < i → get_or ks j 0 < k) → (i < length ks → k < get_or ks i 0) → ascending_from lo (insert_at i k ks) ≡ true
unfolding insert_at
ascending-insert zero lo k [] a l n b h = ascending-cons lo k [] l (unfold ascending_from in refl)
ascending-insert (suc i) lo k [] a l n b h = absurd (not-suc-le-zero n)
ascending-insert zero lo k (x ∷ ks) a l n b h =
    ascending-cons lo k (x ∷ ks) l (ascending-cons (suc k) x ks (h (zero-lt-suc (length ks))) (ascending-rest lo x ks a))
ascending-insert (suc i) lo k (x ∷ ks) a l n b h =
    ascending-cons lo x (insert_at i k ks) (ascending-head lo x ks a)
    (ascending-insert i (suc x) k ks (ascending-rest lo x ks a) (b zero (zero-lt-suc i)) (le_of_suc-le-suc n)
    (λ j m. b (suc j) (suc-le-suc m)) (λ m. h (suc-le-suc m)))

pub ascending-weaken : (lo hi : ℕ) (ks : List ℕ) → lo ≤ hi → ascending_from hi ks ≡ true → ascending_from lo ks ≡ true
ascending-weaken lo hi [] l a = unfold ascending_from in refl
ascending-weaken lo hi (x ∷ ks) l a =
    let m = ascending-head hi x ks a in
    ascending-cons lo x ks (omega arith) (ascending-rest hi x ks a)

pub ascending-remove : (i lo : ℕ) (ks : List ℕ) → ascending_from lo ks ≡ true → ascending_from lo (remove_at i ks) ≡ true
unfolding remove_at
ascending-remove zero lo [] a = a
ascending-remove (suc i) lo [] a = a
ascending-remove zero lo (x ∷ ks) a =
    let m = ascending-head lo x ks a in
    ascending-weaken lo (suc x) ks (omega arith) (ascending-rest lo x ks a)
ascending-remove (suc i) lo (x ∷ ks) a =
    ascending-cons lo x (remove_at i ks) (ascending-head lo x ks a) (ascending-remove i (suc x) ks (ascending-rest lo x ks a))
