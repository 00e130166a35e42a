-- The laws of the log record: packing and unpacking are inverse, and only a record's own 16 bytes change.
use mathlib.Core.Path.{◌≡◌, refl, sym, ap, ◌∙◌}
use mathlib.Core.Bool.{Bool, true, false, cond, ◌&&◌}
use mathlib.Core.List.{List, [], ◌∷◌, ◌++◌}
use Prim.Native.Nat.{ℕ, suc, ◌+◌, ◌-◌, ◌%◌, ◌≤◌, ◌<◌}
use native.Mathlib.Omega.{arith}
use borrow.Author.Tests.{ltb-true, ltb-false, lt-ltb, le-ltb, leb-true, eqb-true, eq-eqb, ne_eqb}
use lib.Dec.{eqb, ltb, leb}
use lib.IntN.{ℤ, pos, negsuc}
use lib.ListN.{length, take, drop, get_or, take-append-drop, length-drop}
use lib.Seq.{drop-drop, take_all}
use Rattle.track.proofs.Tests.{both, cond_cases}
use Rattle.track.proofs.Numbers.{by_sign}
use Rattle.track.specs.Number.{value_of}
use Rattle.track.specs.Rule.{coordinate_last}
use Rattle.track.specs.declared.Coordinate.{Coordinate}
use Rattle.board.specs.Log.{le, from_le, write_at}
use Rattle.board.specs.Log.{record_width, kind_test, twos_of, signed_of, position_of, RecordValues, record_values, bytes_of, record_bytes, spelled}
use Rattle.board.specs.Log.{packed, record_is, refused, unpack_said, unpack_of, pack_answer, pack_bytes}
use Rattle.board.specs.declared.log.Record.{Record}
use Rattle.std.specs.Prelude.{Ok}
use Rattle.board.proofs.log.Words.{small-cons, small-append, le-small, from_le-le, length-write, write_low, write-high, read-write, next-four, le_four, four-small}

-- ---- positions in two's complement

-- the number that a word is, by its sign
signed-pos : (w : ℕ) → w < 2147483648 → signed_of w ≡ pos w
unfolding signed_of
signed-pos w h = simp (lt-ltb w 2147483648 h)

signed-neg : (w : ℕ) → 2147483648 ≤ w → signed_of w ≡ negsuc (4294967295 - w)
unfolding signed_of
signed-neg w h = simp (le-ltb w 2147483648 h)

-- what holds of the position of a record in each of the three ways of its coordinate holds of it: below 0, from 0 on, wrapped
module _ (P : ℤ → Type 0) (c : Coordinate) where
  by-position : (c.0 < 1000000 → P (negsuc (1000000 - suc c.0))) → (1000000 ≤ c.0 → c.0 < 2148483648 → P (pos (c.0 - 1000000))) →
      (2148483648 ≤ c.0 → P (negsuc (4295967295 - c.0))) → P (position_of c)
  unfolding position_of
  by-position low high wraps =
      cond_cases P (ltb c.0 2148483648)
      (λ e. by_sign P c.0 (λ h. high h (ltb-true _ _ e)) low) (λ e. wraps (ltb-false _ _ e))

-- the position of a record that has a track's coordinate is that coordinate's
pub position-value : (c : Coordinate) → c.0 ≤ coordinate_last → position_of c ≡ value_of c
unfolding position_of
position-value c h = simp (lt-ltb c.0 2148483648 (omega arith))

-- the two's complement of a word's number is that word
pub twos-signed : (w : ℕ) → w < 4294967296 → twos_of (signed_of w) ≡ w
unfolding twos_of
twos-signed w h = go (ltb w 2147483648) refl
  where
    go : (t : Bool) → ltb w 2147483648 ≡ t → twos_of (signed_of w) ≡ w
    go true e = ap twos_of (signed-pos w (ltb-true _ _ e))
    go false e = let l = ltb-false _ _ e in ap twos_of (signed-neg w l) ∙ omega arith

-- a position's two's complement fits 4 bytes
twos_small : (c : Coordinate) → c.0 < 4294967296 → twos_of (position_of c) < 4294967296
unfolding twos_of
twos_small c h = by-position (λ (z : ℤ). twos_of z < 4294967296) c (λ l. omega arith) (λ l m. omega arith) (λ l. omega arith)

-- and is the word of that position
pub signed-twos : (c : Coordinate) → c.0 < 4294967296 → signed_of (twos_of (position_of c)) ≡ position_of c
unfolding twos_of
signed-twos c h =
    by-position (λ (z : ℤ). signed_of (twos_of z) ≡ z) c
    (λ l. signed-neg (4294967296 - suc (1000000 - suc c.0)) (omega arith) ∙ ap negsuc (omega arith))
    (λ l m. signed-pos (c.0 - 1000000) (omega arith))
    (λ l. signed-neg (4294967296 - suc (4295967295 - c.0)) (omega arith) ∙ ap negsuc (omega arith))

-- a coordinate less 1,000,000, wrapped, is its position's two's complement; and back
pub twos_wrapped : (c : Coordinate) → c.0 < 4294967296 → (c.0 + 4293967296) % 4294967296 ≡ twos_of (position_of c)
unfolding twos_of
twos_wrapped c h =
    by-position (λ (z : ℤ). (c.0 + 4293967296) % 4294967296 ≡ twos_of z) c (λ l. omega arith) (λ l m. omega arith) (λ l. omega arith)

pub coordinate_wrapped : (w : ℕ) → w < 4294967296 → position_of (record { 0 = (w + 1000000) % 4294967296 }) ≡ signed_of w
coordinate_wrapped w h =
    by-position (λ (z : ℤ). z ≡ signed_of w) (record { 0 = (w + 1000000) % 4294967296 })
    (λ l. ap negsuc (omega arith) ∙ sym (signed-neg w (omega arith)))
    (λ l m. ap pos (omega arith) ∙ sym (signed-pos w (omega arith)))
    (λ l. ap negsuc (omega arith) ∙ sym (signed-neg w (omega arith)))

-- ---- the bytes of a record

-- a record has 16 bytes
pub length_record : (r : Record) → length (record_bytes r) ≡ record_width
unfolding record_bytes bytes_of le
length_record r = refl

abbrev middle : Record → List ℕ
middle r = r.track ∷ r.kind ∷ r.event ∷ r.detail ∷ []

-- the bytes of a record are bytes
pub record-bytes-small : (r : Record) → r.track < 256 → r.kind < 256 → r.event < 256 → r.detail < 256 → (i : ℕ) → get_or (record_bytes r) i 0 < 256
unfolding record_bytes bytes_of
record-bytes-small r t k e d =
    let tail : List ℕ = le 4 (twos_of (position_of r.position)) ++ le 4 r.passes.0 in
    small-append (le 4 r.clock.0) (middle r ++ tail) (le-small 4 r.clock.0)
    (small-append (middle r) tail
    (small-cons r.track (r.kind ∷ r.event ∷ r.detail ∷ []) t
    (small-cons r.kind (r.event ∷ r.detail ∷ []) k
    (small-cons r.event (r.detail ∷ []) e
    (small-cons r.detail [] d (λ i. omega arith)))))
    (small-append (le 4 (twos_of (position_of r.position))) (le 4 r.passes.0) (le-small 4 (twos_of (position_of r.position))) (le-small 4 r.passes.0)))

-- ---- a record's position

-- the four position bytes of a record are the two's complement of its signed position
pub position-bytes : (r : Record) → take 4 (drop 8 (record_bytes r)) ≡ le 4 (twos_of (record_values r).position)
unfolding record_bytes bytes_of le
position-bytes r = refl

-- and any four bytes there are the two's complement of the signed position that they spell
spelled-position : (s : List ℕ) → length s ≡ record_width → ((i : ℕ) → get_or s i 0 < 256) → take 4 (drop 8 s) ≡ le 4 (twos_of (spelled s).position)
unfolding spelled
spelled-position s l small =
    sym (ap (le 4) (twos-signed (from_le (take 4 (drop 8 s))) (four-small s 8 (omega arith) small)) ∙ le_four s 8 (omega arith) small)

-- ---- packing and unpacking

-- unpacking a packed record gives that record
pub unpack-pack : (r : Record) → kind_test r.kind ≡ true → r.clock.0 < 4294967296 → r.position.0 < 4294967296 → r.passes.0 < 4294967296
    → unpack_of (record_bytes r) ≡ record_is (record_values r)
unfolding unpack_of record_bytes bytes_of spelled le
unpack-pack r k hc hp hs =
    let w = twos_of (position_of r.position) in
    let p : signed_of (from_le (le 4 w)) ≡ position_of r.position = ap signed_of (from_le-le 4 w (twos_small r.position hp)) ∙ signed-twos r.position hp in
    (λ i. cond (k i)
    (record_is (record {
      clock = from_le-le 4 r.clock.0 hc i;
      track = r.track;
      kind = r.kind;
      event = r.event;
      detail = r.detail;
      position = p i;
      passes = from_le-le 4 r.passes.0 hs i;
    }))
    (refused 3))

-- packing the record that 16 bytes spell gives those bytes
pub pack-unpack : (s : List ℕ) → length s ≡ record_width → ((i : ℕ) → get_or s i 0 < 256) → bytes_of (spelled s) ≡ s
unfolding bytes_of spelled
pack-unpack s l small =
    let h : take 4 (drop 4 s) ≡ get_or s 4 0 ∷ get_or s 5 0 ∷ get_or s 6 0 ∷ get_or s 7 0 ∷ [] = ap (take 4) (next-four s 4 (omega arith)) in
    let m : length (drop 12 s) ≤ 4 = simp length-drop (omega arith) in
    let joined : (k : ℕ) → take 4 (drop k s) ++ drop (k + 4) s ≡ drop k s = λ k. ap (λ (r : List ℕ). take 4 (drop k s) ++ r) (sym (drop-drop 4 k s)) ∙ take-append-drop 4 (drop k s) in
    (λ i. le_four s 0 (omega arith) small i ++ (sym h i ++ (sym (spelled-position s l small) i ++ (le_four s 12 (omega arith) small ∙ take_all 4 (drop 12 s) m) i)))
    ∙ (λ i. take 4 s ++ (take 4 (drop 4 s) ++ joined 8 i)) ∙ (λ i. take 4 s ++ joined 4 i) ∙ take-append-drop 4 s

-- ---- refusals

and-false : (a : Bool) {b : Bool} → b ≡ false → (a && b) ≡ false
and-false true h = h
and-false false h = refl

-- another length than 16 is refused 3
pub unpack-refuses-length : (s : List ℕ) → (length s ≡ record_width → ⊥) → unpack_of s ≡ refused 3
unfolding unpack_of
unpack-refuses-length s h = simp (ne_eqb (length s) record_width h)

-- another kind than 1 to 4 is refused 3
pub unpack-refuses-kind : (s : List ℕ) → kind_test (get_or s 5 0) ≡ false → unpack_of s ≡ refused 3
unfolding unpack_of
unpack-refuses-kind s h = ap (λ (b : Bool). cond b (record_is (spelled s)) (refused 3)) (and-false (eqb (length s) record_width) h)

-- 16 bytes of kind 1 to 4 are the record that they spell
pub unpack-holds : (s : List ℕ) → length s ≡ record_width → kind_test (get_or s 5 0) ≡ true → unpack_of s ≡ record_is (spelled s)
unfolding unpack_of
unpack-holds s l k = simp (eq-eqb (length s) record_width l, k)

-- a record that unpacking holds has the values that the bytes spell
module _ (r : Record) (s : List ℕ) (says : unpack_said (Ok r) ≡ unpack_of s) where
  unpack-says : (length s ≡ record_width) × (record_values r ≡ spelled s)
  unfolding unpack_of
  unpack-says = go (eqb (length s) record_width && kind_test (get_or s 5 0)) refl says
    where
      go : (b : Bool) → (eqb (length s) record_width && kind_test (get_or s 5 0)) ≡ b → record_is (record_values r) ≡ cond b (record_is (spelled s)) (refused 3) →
          (length s ≡ record_width) × (record_values r ≡ spelled s)
      go true t e = (eqb-true _ _ (both (eqb (length s) record_width) (kind_test (get_or s 5 0)) t).0, cc)
      go false t e = let z : ◌≡◌ {A = ℕ} 0 1 = cc in absurd (omega arith)

  -- so any four bytes are the two's complement of the signed position that they unpack to
  pub unpack-position : ((i : ℕ) → get_or s i 0 < 256) → take 4 (drop 8 s) ≡ le 4 (twos_of (record_values r).position)
  unpack-position small =
      spelled-position s unpack-says.0 small ∙ ap (λ (v : RecordValues). le 4 (twos_of v.position)) (sym unpack-says.1)

  -- and packing gives the same bytes back
  pub unpack-back : ((i : ℕ) → get_or s i 0 < 256) → record_bytes r ≡ s
  unfolding record_bytes
  unpack-back small = ap bytes_of unpack-says.1 ∙ pack-unpack s unpack-says.0 small

module _ (r : Record) (s : List ℕ) (at : ℕ) where
  by-test : {b : Bool} → (kind_test r.kind && leb (at + record_width) (length s)) ≡ b
      → (pack_answer r s at ≡ cond b packed (refused 3)) × (pack_bytes r s at ≡ cond b (write_at s at (record_bytes r)) s)
  unfolding pack_answer pack_bytes
  by-test e =
      (ap (λ (b : Bool). cond b packed (refused 3)) e, ap (λ (b : Bool). cond b (write_at s at (record_bytes r)) s) e)

  -- ---- what packing leaves

  -- a record that is written leaves every byte below it
  pub record-low : at + record_width ≤ length s → (i : ℕ) → i < at → get_or (write_at s at (record_bytes r)) i 0 ≡ get_or s i 0
  record-low h i l = write_low s (record_bytes r) at i (omega arith) l

  -- and every byte above it
  pub record-high : at + record_width ≤ length s → (i : ℕ) → at + record_width ≤ i → get_or (write_at s at (record_bytes r)) i 0 ≡ get_or s i 0
  record-high h i l = write-high s (record_bytes r) at i (omega arith) (omega (arith, length_record r))

  -- and the length
  pub record-length : at + record_width ≤ length s → length (write_at s at (record_bytes r)) ≡ length s
  record-length h = length-write s (record_bytes r) at (omega (arith, length_record r))

  -- and is read there
  pub record-read : at + record_width ≤ length s → take record_width (drop at (write_at s at (record_bytes r))) ≡ record_bytes r
  record-read h =
      ap (λ (n : ℕ). take n (drop at (write_at s at (record_bytes r)))) (sym (length_record r)) ∙ read-write s (record_bytes r) at (omega arith)

  room : (kind_test r.kind && leb (at + record_width) (length s)) ≡ true → at + record_width ≤ length s
  room e = leb-true _ _ (both (kind_test r.kind) (leb (at + record_width) (length s)) e).1

  -- packing leaves every byte below the place, whatever it answers
  pub pack-low : (i : ℕ) → i < at → get_or (pack_bytes r s at) i 0 ≡ get_or s i 0
  unfolding pack_bytes
  pack-low i l =
      cond_cases (λ (m : List ℕ). get_or m i 0 ≡ get_or s i 0) (kind_test r.kind && leb (at + record_width) (length s)) (λ e. record-low (room e) i l) (λ e. refl)

  -- and every byte from 16 bytes above it on
  pub pack-high : (i : ℕ) → at + record_width ≤ i → get_or (pack_bytes r s at) i 0 ≡ get_or s i 0
  unfolding pack_bytes
  pack-high i l =
      cond_cases (λ (m : List ℕ). get_or m i 0 ≡ get_or s i 0) (kind_test r.kind && leb (at + record_width) (length s)) (λ e. record-high (room e) i l) (λ e. refl)

  -- and the length
  pub pack-length : length (pack_bytes r s at) ≡ length s
  unfolding pack_bytes
  pack-length =
      cond_cases (λ (m : List ℕ). length m ≡ length s) (kind_test r.kind && leb (at + record_width) (length s)) (λ e. record-length (room e)) (λ e. refl)

-- a record that 16 bytes spell has their kind
pub read-kind : (r : Record) (s : List ℕ) → record_values r ≡ spelled s → r.kind ≡ get_or s 5 0
unfolding spelled
read-kind r s e = ap (λ (v : RecordValues). v.kind) e
