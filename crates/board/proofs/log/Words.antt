-- The laws of numbers as bytes, and of a part of a list that is written over.
use mathlib.Core.Path.{◌≡◌, refl, sym, ap, subst, ◌∙◌}
use mathlib.Core.List.{List, [], ◌∷◌, ◌++◌, append_assoc}
use Prim.Native.Nat.{ℕ, zero, suc, ◌+◌, ◌-◌, ◌*◌, ◌≤◌, ◌<◌, ◌/◌, ◌%◌, ◌^◌}
use native.Mathlib.Omega.{arith}
use native.Mathlib.Nat.{div-add-mod', mod-lt, div-lt_iff_lt-mul, div-div-eq-div-mul, pow-suc}
use lib.ListN.{length, get_or, set, take, drop, length-append, length-drop, get_or-append}
use lib.Seq.{sets-eq, drop-cons, length-take-le, take_at, drop_at, drop-append-add, drop-drop, get_or-append-add, get_or-take, get_or-drop}
use Rattle.std.specs.Int.{w32, to_le_bytes, from_le_bytes}
use borrow.Rule.Slice.PartMut.{put_mid}
use Rattle.board.specs.Log.{le, from_le, write_at}

-- ---- lists of bytes

-- a byte before bytes
pub small-cons : (b : ℕ) (bs : List ℕ) → b < 256 → ((i : ℕ) → get_or bs i 0 < 256) → (i : ℕ) → get_or (b ∷ bs) i 0 < 256
small-cons b bs h t zero = h
small-cons b bs h t (suc i) = t i

-- bytes behind bytes
pub small-append : (xs ys : List ℕ) → ((i : ℕ) → get_or xs i 0 < 256) → ((i : ℕ) → get_or ys i 0 < 256) → (i : ℕ) → get_or (xs ++ ys) i 0 < 256
small-append [] ys s t i = t i
small-append (x ∷ xs) ys s t zero = s zero
small-append (x ∷ xs) ys s t (suc i) = small-append xs ys (λ j. s (suc j)) t i

-- the first of bytes
pub small-take : (n : ℕ) (xs : List ℕ) → ((i : ℕ) → get_or xs i 0 < 256) → (i : ℕ) → get_or (take n xs) i 0 < 256
small-take zero xs s i = omega arith
small-take (suc n) [] s i = omega arith
small-take (suc n) (x ∷ xs) s zero = s zero
small-take (suc n) (x ∷ xs) s (suc i) = small-take n xs (λ j. s (suc j)) i

-- the last of bytes
pub small-drop : (n : ℕ) (xs : List ℕ) → ((i : ℕ) → get_or xs i 0 < 256) → (i : ℕ) → get_or (drop n xs) i 0 < 256
small-drop n xs s i = subst (λ (x : ℕ). x < 256) (sym (get_or-drop n xs i 0)) (s (n + i))

-- ---- numbers as bytes

-- a number in n bytes has n bytes
pub length-le : (n x : ℕ) → length (le n x) ≡ n
unfolding le
length-le zero x = refl
length-le (suc n) x = ap suc (length-le n (x / 256))

-- the bytes of a number are bytes
pub le-small : (n x i : ℕ) → get_or (le n x) i 0 < 256
unfolding le
le-small zero x i = omega arith
le-small (suc n) x zero = mod-lt x {m = 256} (omega arith)
le-small (suc n) x (suc i) = le-small n (x / 256) i

-- the number that a number's bytes spell is that number
pub from_le-le : (n x : ℕ) → x < 256 ^ n → from_le (le n x) ≡ x
unfolding le from_le
from_le-le zero x h = omega arith
from_le-le (suc n) x h =
    let e : from_le (le n (x / 256)) ≡ x / 256 = from_le-le n (x / 256) ((div-lt_iff_lt-mul {k = 256} (omega arith)).1 (rw pow-suc at h)) in
    ap (λ (m : ℕ). x % 256 + 256 * m) e ∙ omega (arith, div-add-mod' x 256)

-- the bytes of the number that bytes spell are those bytes
pub le-from_le : (bs : List ℕ) → ((i : ℕ) → get_or bs i 0 < 256) → le (length bs) (from_le bs) ≡ bs
unfolding le from_le
le-from_le [] s = refl
le-from_le (b ∷ bs) s =
    let x : ℕ = b + 256 * from_le bs in
    let h : b < 256 = s zero in
    let q : x / 256 ≡ from_le bs = omega (arith, h, div-add-mod' x 256, mod-lt x {m = 256} (omega arith)) in
    let m : x % 256 ≡ b = omega (arith, h, q, div-add-mod' x 256) in
    λ i. m i ∷ (ap (le (length bs)) q ∙ le-from_le bs (λ j. s (suc j))) i

-- n bytes spell a number below 256 to the n
pub from_le-small : (bs : List ℕ) → ((i : ℕ) → get_or bs i 0 < 256) → from_le bs < 256 ^ length bs
unfolding from_le
from_le-small [] s = omega arith
from_le-small (b ∷ bs) s =
    let h : b < 256 = s zero in
    omega (arith, h, from_le-small bs (λ j. s (suc j)), pow-suc 256 (length bs))

-- the library's four bytes of a number are these
pub word-bytes : (x : ℕ) → to_le_bytes w32 x ≡ le 4 x
unfolding le
word-bytes x = simp (div-div-eq-div-mul x 256 256, div-div-eq-div-mul x (256 * 256) 256)

-- ---- a part of a list written over

-- a part of a list that takes other elements is a write of them
pub write_part : (at k : ℕ) (xs : List ℕ) {ys zs : List ℕ} → ys ≡ zs → k ≡ length zs → put_mid at k xs ys ≡ write_at xs at zs
unfolding write_at
write_part at k xs {ys} {zs} e l =
    (λ i. take at xs ++ (e i ++ drop (l i) (drop at xs))) ∙ ap (λ (r : List ℕ). take at xs ++ (zs ++ r)) (drop-drop (length zs) at xs)

-- four stores are a write of four
pub four-stores : (xs : List ℕ) (at a b c d : ℕ) → at + 4 ≤ length xs
    → set (set (set (set xs at a) (at + 1) b) (at + 2) c) (at + 3) d ≡ write_at xs at (a ∷ b ∷ c ∷ d ∷ [])
unfolding write_at
four-stores xs at a b c d h =
    let e₁ : at + 1 ≡ suc at = omega arith in
    let e₂ : at + 2 ≡ suc (suc at) = omega arith in
    let e₃ : at + 3 ≡ suc (suc (suc at)) = omega arith in
    let ys : List ℕ = a ∷ b ∷ c ∷ d ∷ [] in
    (λ i. set (set (set (set xs at a) (e₁ i) b) (e₂ i) c) (e₃ i) d) ∙ sets-eq ys xs at h ∙ append_assoc (take at xs) ys (drop (at + 4) xs)

-- a write behind a write is one write
pub write-write : (xs ys zs : List ℕ) (at k : ℕ) → k ≡ at + length ys → k + length zs ≤ length xs
    → write_at (write_at xs at ys) k zs ≡ write_at xs at (ys ++ zs)
unfolding write_at
write-write xs ys zs at k e h =
    let p : List ℕ = take at xs ++ ys in
    let q : List ℕ = drop (at + length ys) xs in
    let r : List ℕ = drop (at + length (ys ++ zs)) xs in
    let lp : length p ≡ k = simp (length-append, length-take-le at xs (omega arith)) (omega arith) in
    let j : at + length ys + length zs ≡ at + length (ys ++ zs) = simp length-append (omega arith) in
    let d : drop (k + length zs) (p ++ q) ≡ r =
    ap (λ (m : ℕ). drop (m + length zs) (p ++ q)) (sym lp) ∙ drop-append-add p q (length zs) ∙ drop-drop (length zs) (at + length ys) xs
    ∙ ap (λ (m : ℕ). drop m xs) j in
    ap (λ (l : List ℕ). take k l ++ (zs ++ drop (k + length zs) l)) (sym (append_assoc (take at xs) ys q))
    ∙ (λ i. take_at p q k lp i ++ (zs ++ d i))
    ∙ append_assoc (take at xs) ys (zs ++ r)
    ∙ ap (λ (l : List ℕ). take at xs ++ l) (sym (append_assoc ys zs r))

-- a write keeps the length
pub length-write : (xs ys : List ℕ) (at : ℕ) → at + length ys ≤ length xs → length (write_at xs at ys) ≡ length xs
unfolding write_at
length-write xs ys at h = simp (length-append, length-take-le at xs (omega arith), length-drop) (omega arith)

-- a write leaves the elements below it
pub write_low : (xs ys : List ℕ) (at i : ℕ) → at ≤ length xs → i < at → get_or (write_at xs at ys) i 0 ≡ get_or xs i 0
unfolding write_at
write_low xs ys at i h l =
    let n : length (take at xs) ≡ at = length-take-le at xs h in
    get_or-append (take at xs) (ys ++ drop (at + length ys) xs) 0 i (omega (arith, n)) ∙ get_or-take at xs i 0 l

-- a write leaves the elements above it
pub write-high : (xs ys : List ℕ) (at i : ℕ) → at ≤ length xs → at + length ys ≤ i → get_or (write_at xs at ys) i 0 ≡ get_or xs i 0
unfolding write_at
write-high xs ys at i h l =
    let p : List ℕ = take at xs ++ ys in
    let q : List ℕ = drop (at + length ys) xs in
    let n : ℕ = i - (at + length ys) in
    let lp : length p ≡ at + length ys = simp (length-append, length-take-le at xs h) in
    let e : i ≡ length p + n = omega (arith, lp, l) in
    let e' : at + length ys + n ≡ i = omega (arith, l) in
    ap (λ (m : List ℕ). get_or m i 0) (sym (append_assoc (take at xs) ys q))
    ∙ ap (λ (m : ℕ). get_or (p ++ q) m 0) e
    ∙ get_or-append-add p q n 0
    ∙ get_or-drop (at + length ys) xs n 0
    ∙ ap (λ (m : ℕ). get_or xs m 0) e'

-- what was written is read there
pub read-write : (xs ys : List ℕ) (at : ℕ) → at ≤ length xs → take (length ys) (drop at (write_at xs at ys)) ≡ ys
unfolding write_at
read-write xs ys at h =
    let q : List ℕ = drop (at + length ys) xs in
    ap (take (length ys)) (drop_at (take at xs) (ys ++ q) at (length-take-le at xs h)) ∙ take_at ys q (length ys) refl

-- ---- four bytes read

-- four elements of a list, and what follows them
pub next-four : (s : List ℕ) (at : ℕ) → at + 4 ≤ length s
    → drop at s ≡ get_or s at 0 ∷ get_or s (at + 1) 0 ∷ get_or s (at + 2) 0 ∷ get_or s (at + 3) 0 ∷ drop (at + 4) s
next-four s at h =
    let e₁ : suc at ≡ at + 1 = omega arith in
    let e₂ : suc (at + 1) ≡ at + 2 = omega arith in
    let e₃ : suc (at + 2) ≡ at + 3 = omega arith in
    let e₄ : suc (at + 3) ≡ at + 4 = omega arith in
    drop-cons s at 0 (omega arith) ∙ (λ i. get_or s at 0 ∷ drop (e₁ i) s)
    ∙ (λ i. get_or s at 0 ∷ (drop-cons s (at + 1) 0 (omega arith) ∙ (λ j. get_or s (at + 1) 0 ∷ drop (e₂ j) s)) i)
    ∙ (λ i. get_or s at 0 ∷ get_or s (at + 1) 0 ∷ (drop-cons s (at + 2) 0 (omega arith) ∙ (λ j. get_or s (at + 2) 0 ∷ drop (e₃ j) s)) i)
    ∙ (λ i. get_or s at 0 ∷ get_or s (at + 1) 0 ∷ get_or s (at + 2) 0 ∷ (drop-cons s (at + 3) 0 (omega arith) ∙ (λ j. get_or s (at + 3) 0 ∷ drop (e₄ j) s)) i)

-- the library's number of four bytes is the one that they spell
pub word-read : (s : List ℕ) (at : ℕ) → at + 4 ≤ length s
    → from_le_bytes w32 (get_or s at 0 ∷ get_or s (at + 1) 0 ∷ get_or s (at + 2) 0 ∷ get_or s (at + 3) 0 ∷ []) ≡ from_le (take 4 (drop at s))
unfolding from_le
word-read s at h = rw (next-four s at h) (omega arith)

length-four : (s : List ℕ) (at : ℕ) → at + 4 ≤ length s → length (take 4 (drop at s)) ≡ 4
length-four s at h = length-take-le 4 (drop at s) (simp length-drop (omega arith))

-- four bytes of a list spell a number whose bytes they are
pub le_four : (s : List ℕ) (at : ℕ) → at + 4 ≤ length s → ((i : ℕ) → get_or s i 0 < 256) → le 4 (from_le (take 4 (drop at s))) ≡ take 4 (drop at s)
le_four s at h small =
    let t : List ℕ = take 4 (drop at s) in
    ap (λ (n : ℕ). le n (from_le t)) (sym (length-four s at h)) ∙ le-from_le t (small-take 4 (drop at s) (small-drop at s small))

-- and that fits 4 bytes
pub four-small : (s : List ℕ) (at : ℕ) → at + 4 ≤ length s → ((i : ℕ) → get_or s i 0 < 256) → from_le (take 4 (drop at s)) < 4294967296
four-small s at h small =
    let t : List ℕ = take 4 (drop at s) in
    subst (λ (n : ℕ). from_le t < 256 ^ n) (length-four s at h) (from_le-small t (small-take 4 (drop at s) (small-drop at s small)))
