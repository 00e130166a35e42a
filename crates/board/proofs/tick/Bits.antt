-- The laws of the walk over a word's members, lowest first.
use Prim.Native.Nat.{ℕ, zero, suc, ◌+◌, ◌-◌, ◌*◌, ◌/◌, ◌%◌, ◌^◌, ◌≤◌, ◌<◌, suc-le-suc}
use mathlib.Core.Path.{◌≡◌, refl, sym, ap, subst, ◌∙◌}
use mathlib.Core.List.{List, [], ◌∷◌}
use native.Mathlib.Omega.{arith}
use native.Mathlib.Nat.{pow-suc, add-zero, zero-add, add-suc, suc-add}
use lib.ListN.{length}
use lib.Arith.{lt-one}
use lib.Count.{ones, ones_step, count_trailing_zeros}
use Rattle.board.specs.Replay.{Each}
use Rattle.board.specs.Tick.{keep, members_from, members}
use Rattle.board.proofs.rules.Present.{bit_is}
use Rattle.board.proofs.rules.Broken.{half-bit}

halved : (k w : ℕ) → w < 2 ^ suc k → w / 2 < 2 ^ k
halved k w h = let e = pow-suc 2 k in omega arith

none_from : (k t : ℕ) → members_from k t 0 ≡ []
unfolding members_from
none_from zero t = refl
none_from (suc k) t = none_from k (suc t)

-- 0 has no members
pub no-members : (w : ℕ) → w ≤ 0 → members w ≡ []
no-members w h = let z : w ≡ 0 = omega arith in ap members z ∙ none_from 16 0

-- ---- how many members there are

count_at : (k t w d : ℕ) → w % 2 ≡ d → length (members_from k (suc t) (w / 2)) ≡ ones (w / 2) → length (members_from (suc k) t w) ≡ ones w
unfolding members_from
count_at k t w zero e ih = rw e (ih ∙ (let s = ones_step w in omega arith))
count_at k t w (suc d) e ih = rw e (let s = ones_step w in omega arith)

count-from : (k t w : ℕ) → w < 2 ^ k → length (members_from k t w) ≡ ones w
unfolding members_from ones
count-from zero t w h = let z = lt-one h in sym (ap ones z)
count-from (suc k) t w h = count_at k t w (w % 2) refl (count-from k (suc t) (w / 2) (halved k w h))

-- as many as the word has ones
pub members-count : (w : ℕ) → w < 65536 → length (members w) ≡ ones w
members-count w h = count-from 16 0 w h

-- a word without ones has no member
pub none_left : (rest : ℕ) → rest < 65536 → ones rest ≤ 0 → members rest ≡ []
none_left rest small l = empty (members rest) (omega (arith, members-count rest small))
  where
    empty : (is : List ℕ) → length is ≤ 0 → is ≡ []
    empty [] l = refl
    empty (i ∷ is) l = absurd (omega arith)

-- ---- the lowest member of a word that is not 0 is its trailing zeros; the word without it has the other members

next-at : (k t w d : ℕ) → w % 2 ≡ d → 0 < w
    → (0 < w / 2 → members_from k (suc t) (w / 2) ≡ (suc t + count_trailing_zeros k (w / 2)) ∷ members_from k (suc t) (w / 2 - 2 ^ count_trailing_zeros k (w / 2)))
    → members_from (suc k) t w ≡ (t + count_trailing_zeros (suc k) w) ∷ members_from (suc k) t (w - 2 ^ count_trailing_zeros (suc k) w)
unfolding members_from count_trailing_zeros
next-at k t w zero e p ih =
    let z = count_trailing_zeros k (w / 2) in
    let q = pow-suc 2 z in
    let e₁ : (w - 2 ^ suc z) % 2 ≡ 0 = omega arith in
    let e₂ : (w - 2 ^ suc z) / 2 ≡ w / 2 - 2 ^ z = omega arith in
    let e₃ : t + suc z ≡ suc t + z = omega arith in
    rw (e, e₁, e₂, e₃) (ih (omega arith))
next-at k t w (suc d) e p ih =
    let e₁ : (w - 1) % 2 ≡ 0 = omega arith in
    let e₂ : (w - 1) / 2 ≡ w / 2 = omega arith in
    rw (e, e₁, e₂, add-zero)

next : (k t w : ℕ) → w < 2 ^ k → 0 < w → members_from k t w ≡ (t + count_trailing_zeros k w) ∷ members_from k t (w - 2 ^ count_trailing_zeros k w)
next zero t w h p = absurd (omega arith)
next (suc k) t w h p = next-at k t w (w % 2) refl p (λ q. next k (suc t) (w / 2) (halved k w h) q)

low-at : (k w d : ℕ) → w % 2 ≡ d → 0 < w → (0 < w / 2 → (count_trailing_zeros k (w / 2) < k) × (2 ^ count_trailing_zeros k (w / 2) ≤ w / 2))
    → (count_trailing_zeros (suc k) w < suc k) × (2 ^ count_trailing_zeros (suc k) w ≤ w)
unfolding count_trailing_zeros
low-at k w zero e p ih =
    let z = count_trailing_zeros k (w / 2) in
    let q = pow-suc 2 z in
    let l = ih (omega arith) in
    rw e (omega arith)
low-at k w (suc d) e p ih = rw e (omega arith)

low : (k w : ℕ) → w < 2 ^ k → 0 < w → (count_trailing_zeros k w < k) × (2 ^ count_trailing_zeros k w ≤ w)
low zero w h p = absurd (omega arith)
low (suc k) w h p = low-at k w (w % 2) refl p (λ q. low k (w / 2) (halved k w h) q)

-- what the walk uses where the lowest member is cleared by `word - (1 << t)`, in the numbers of that code
abbrev pub cleared : ℕ → ℕ
cleared w = w - 1 * 2 ^ count_trailing_zeros 16 w % 65536

pub record Lowest (w : ℕ) : Type 0 where
  pub inside : count_trailing_zeros 16 w < 16
  pub under : 1 * 2 ^ count_trailing_zeros 16 w % 65536 ≤ w
  pub rest : members w ≡ count_trailing_zeros 16 w ∷ members (cleared w)
  pub fewer : ones w ≡ suc (ones (cleared w))
  pub fits : cleared w < 65536

-- a word that is not 0 has a lowest member
pub lowest : (w : ℕ) → w < 65536 → 0 < w → Lowest w
lowest w h p =
    let l = low 16 w h p in
    let e = bit_is (count_trailing_zeros 16 w) l.0 in
    let rest : members w ≡ count_trailing_zeros 16 w ∷ members (cleared w) = rw e (rw zero-add at (next 16 0 w h p)) in
    let fits : cleared w < 65536 = omega arith in
    record {
      inside = l.0;
      under = rw e l.1;
      rest = rest;
      fewer = sym (members-count w h) ∙ ap length rest ∙ ap suc (members-count (cleared w) fits);
      fits = fits;
    }

-- what holds of each number whose bit is set holds of every member
pub each_from : (P : ℕ → Type 0) (k n w : ℕ) → ((i : ℕ) → i < k → w / 2 ^ i % 2 ≡ 1 → P (n + i)) → Each P (members_from k n w)
unfolding members_from Each
each_from P zero n w f = tt
each_from P (suc k) n w f =
    go (w % 2) refl
    (each_from P k (suc n) (w / 2)
    (λ i l e. subst P (add-suc n i ∙ sym (suc-add n i)) (f (suc i) (suc-le-suc l) (ap (λ (m : ℕ). m % 2) (sym (half-bit w i)) ∙ e))))
  where
    go : (d : ℕ) → w % 2 ≡ d → Each P (members_from k (suc n) (w / 2)) → Each P (keep d n (members_from k (suc n) (w / 2)))
    go zero e a = a
    go (suc d) e a = (subst P (add-zero n) (f zero (omega arith) (omega arith)), a)

-- the first member is one of the 16 bits
pub first_inside : (w i : ℕ) (is : List ℕ) → members w ≡ i ∷ is → i < 16
unfolding Each
first_inside w i is e = (rw e at (each_from (λ j. j < 16) 16 0 w (λ j l s. omega arith))).0
