-- The laws of calls and replies as rows of numbers.
use Rattle.std.specs.Prelude.{Option, Some, None}
use mathlib.Core.Path.{◌≡◌, refl, sym, ap, ◌∙◌}
use mathlib.Core.Bool.{Bool, true, false, cond}
use mathlib.Core.List.{List, [], ◌∷◌, ◌++◌, append_assoc}
use Prim.Native.Nat.{ℕ, zero, suc, ◌-◌, ◌^◌, ◌<◌, min}
use native.Mathlib.Nat.{zero-add}
use native.Mathlib.Omega.{arith}
use borrow.Author.Tests.{ne_eqb, eqb-true, leb-true, leb-false}
use lib.Dec.{eqb, leb}
use lib.IntN.{ℤ, pos, negsuc}
use lib.ListN.{length, take, drop, replicate, length-append}
use lib.Seq.{get_or-take}
use lib.Signed.{mag}
use mir.Syntax.{w64}
use mir.Val.{hbits}
use mir.Facts.{to_z-of_z}
use mir.Val.{of_z}
use Rattle.track.specs.Rule.{cell_count, threshold_count}
use Rattle.track.specs.Number.{natural_of, capped_of, on_some, value_of, coordinate_at}
use Rattle.track.specs.declared.Coordinate.{Coordinate}
use Rattle.track.proofs.Numbers.{natural-in, natural-of, capped-in, coordinate-at, back}
use Rattle.board.specs.Log.{write_at}
use Rattle.board.specs.Row.{call_width, reply_width, call_from, call_of, plain_at, row_number, pairs_from, pairs_in, master_code, is_code, master_call, master_in, call_at, padded, track_numbers, cells_at, master_at, thresholds_at, events_at, rate_at}
use Rattle.board.specs.Call.{TrackValues}
use Rattle.board.specs.declared.call.Call.TheVariants as call
use Rattle.board.specs.declared.call.Pairs.{Pairs}
use Rattle.board.specs.declared.call.Pairs.TheVariants as pairs
use Rattle.board.proofs.log.Words.{write-write}

-- ---- the call of a row

-- above 22 there is no call
no_code : (n : ℕ) (a b c d e f : ℤ) → 22 < n → call_from n a b c d e f ≡ None
no_code n a b c d e f h =
    simp (
      ne_eqb n 1 (omega arith),
      ne_eqb n 2 (omega arith),
      ne_eqb n 3 (omega arith),
      ne_eqb n 4 (omega arith),
      ne_eqb n 5 (omega arith),
      ne_eqb n 6 (omega arith),
      ne_eqb n 7 (omega arith),
      ne_eqb n 8 (omega arith),
      ne_eqb n 9 (omega arith),
      ne_eqb n 10 (omega arith),
      ne_eqb n 11 (omega arith),
      ne_eqb n 12 (omega arith),
      ne_eqb n 13 (omega arith),
      ne_eqb n 14 (omega arith),
      ne_eqb n 15 (omega arith),
      ne_eqb n 16 (omega arith),
      ne_eqb n 17 (omega arith),
      ne_eqb n 18 (omega arith),
      ne_eqb n 19 (omega arith),
      ne_eqb n 20 (omega arith),
      ne_eqb n 22 (omega arith),
    )

-- a number outside 1 to 22 is the code of no call
pub code_out : (z : ℤ) (a b c d e f : ℤ) → natural_of z 1 22 ≡ None → None ≡ call_of z a b c d e f
code_out (negsuc k) a b c d e f h = refl
code_out (pos k) a b c d e f h = go (leb k 22) (leb 1 k) refl refl
  where
    go : (s t : Bool) → leb k 22 ≡ s → leb 1 k ≡ t → None ≡ call_from k a b c d e f
    go false t p q = sym (no_code k a b c d e f (leb-false _ _ p))
    go true false p q = let z : 0 ≡ k = omega (arith, leb-false 1 k q) in ap (λ (n : ℕ). call_from n a b c d e f) z
    go true true p q =
        ap (λ (o : Option ℕ). on_some o (λ j. call_from j a b c d e f) None)
        (sym h ∙ natural-of k 1 22 (leb-true _ _ q) (leb-true _ _ p))

-- and one within is that code
pub code_in : (z : ℤ) {n : ℕ} (a b c d e f : ℤ) → natural_of z 1 22 ≡ Some n → call_from n a b c d e f ≡ call_of z a b c d e f
code_in z a b c d e f h = sym (ap (λ (y : ℤ). call_of y a b c d e f) (natural-in z 1 22 h).0)

-- a number that is not 21 is not the code of a master call
code-no : (z : ℤ) → (of_z w64 z ≡ master_code → ⊥) → is_code master_code z ≡ false
code-no (negsuc n) h = refl
code-no (pos n) h = go (eqb n master_code) refl
  where
    go : (t : Bool) → eqb n master_code ≡ t → eqb n master_code ≡ false
    go false p = p
    go true p = absurd (h (ap (λ (k : ℕ). of_z w64 (pos k)) (eqb-true n master_code p)))

-- then the row is a call of six numbers
pub row_plain : (zs : List ℤ) → (of_z w64 (row_number zs 0) ≡ master_code → ⊥) → plain_at zs ≡ call_at zs
row_plain zs h = sym (ap (λ (t : Bool). cond t (master_in zs) (plain_at zs)) (code-no (row_number zs 0) h))

-- five pairs or more are more than four
pub pairs-more : (n : ℕ) (a b c d e f g h i j : ℤ) → 4 < n → pairs.More a b c d e f g h i j ≡ pairs_from n a b c d e f g h i j
pairs-more zero a b c d e f g h i j l = absurd (omega arith)
pairs-more (suc zero) a b c d e f g h i j l = absurd (omega arith)
pairs-more (suc (suc zero)) a b c d e f g h i j l = absurd (omega arith)
pairs-more (suc (suc (suc zero))) a b c d e f g h i j l = absurd (omega arith)
pairs-more (suc (suc (suc (suc zero)))) a b c d e f g h i j l = absurd (omega arith)
pairs-more (suc (suc (suc (suc (suc n))))) a b c d e f g h i j l = refl

-- a number of pairs above five stands for five
pairs-five : (n : ℕ) (zs : List ℤ) → pairs_in (min n 5) zs ≡ pairs_in n zs
pairs-five n zs = go (leb n 4) refl
  where
    go : (t : Bool) → leb n 4 ≡ t → pairs_in (min n 5) zs ≡ pairs_in n zs
    go true p = let e : min n 5 ≡ n = omega (arith, leb-true n 4 p) in ap (λ (m : ℕ). pairs_in m zs) e
    go false p =
        let l = leb-false n 4 p in
        sym (pairs-more (min n 5) _ _ _ _ _ _ _ _ _ _ (omega arith)) ∙ pairs-more n _ _ _ _ _ _ _ _ _ _ l

-- a number of a row that its bits give back
abbrev pub Kept : List ℤ → ℕ → Type 0
Kept zs n = mag (row_number zs n) < 2 ^ hbits w64

module _ (zs : List ℤ) where
  kept : (n : ℕ) → Kept zs n → back (row_number zs n) ≡ row_number zs n
  kept n h = to_z-of_z {w = w64} (record { sfits = h })

  -- the numbers of a master call: a number of pairs brought down to five is read as it is
  counted : {n : ℕ} → Kept zs 3 → capped_of (back (row_number zs 3)) 5 ≡ Some n → (j : ℕ) × (row_number zs 3 ≡ pos j) × (n ≡ min j 5)
  counted h e = capped-in _ 5 (ap (λ (z : ℤ). capped_of z 5) (sym (kept 3 h)) ∙ e)

  pub master_none : Kept zs 3 → capped_of (back (row_number zs 3)) 5 ≡ None → None ≡ master_in zs
  unfolding capped_of
  master_none h e = go (row_number zs 3) (ap (λ (z : ℤ). capped_of z 5) (sym (kept 3 h)) ∙ e)
    where
      go : (z : ℤ) → capped_of z 5 ≡ None → None ≡ master_call (row_number zs 1) (row_number zs 2) z (λ n. pairs_in n zs)
      go (pos n) p = cc
      go (negsuc n) p = refl

  pub master_read : {n : ℕ} {ps : Pairs} → Kept zs 1 → Kept zs 2 → Kept zs 3 → capped_of (back (row_number zs 3)) 5 ≡ Some n → ps ≡ pairs_in n zs →
      Some (call.Master (back (row_number zs 1)) (back (row_number zs 2)) ps) ≡ master_in zs
  master_read {n} a b h e p =
      let c = counted h e in
      (λ i. Some (call.Master (kept 1 a i) (kept 2 b i) ((p ∙ ap (λ (m : ℕ). pairs_in m zs) c.2 ∙ pairs-five c.0 zs) i)))
      ∙ ap (λ (z : ℤ). master_call (row_number zs 1) (row_number zs 2) z (λ m. pairs_in m zs)) (sym c.1)

-- the 14 numbers of a row are those that its call is read from
module _ (zs : List ℤ) where
  cut : (n : ℕ) → n < call_width → row_number (take call_width zs) n ≡ row_number zs n
  cut n h = get_or-take call_width zs n (pos 0) h

  pub row-cut : call_at (take call_width zs) ≡ call_at zs
  row-cut =
      let at : (n : ℕ) → n < call_width → row_number (take call_width zs) n ≡ row_number zs n = cut in
      λ i. cond (is_code master_code (at 0 (omega arith) i))
      (master_call (at 1 (omega arith) i) (at 2 (omega arith) i) (at 3 (omega arith) i)
      (λ n. pairs_from n (at 4 (omega arith) i) (at 5 (omega arith) i) (at 6 (omega arith) i) (at 7 (omega arith) i) (at 8 (omega arith) i) (at 9 (omega arith) i)
      (at 10 (omega arith) i) (at 11 (omega arith) i) (at 12 (omega arith) i) (at 13 (omega arith) i)))
      (call_of (at 0 (omega arith) i) (at 1 (omega arith) i) (at 2 (omega arith) i) (at 3 (omega arith) i) (at 4 (omega arith) i) (at 5 (omega arith) i) (at 6 (omega arith) i))

-- ---- the row of a reply

-- a number of a coordinate is the coordinate's
pub coordinate_back : (c : Coordinate) → (coordinate_at (value_of c)).0 ≡ c.0
coordinate_back c = ap (λ (d : Coordinate). d.0) (coordinate-at c)

-- the row of a track: its cells written behind its head, its master and band behind these, then its thresholds, their events and its rate
pub track-numbers : (t : TrackValues) → length t.actions ≡ cell_count → length t.thresholds ≡ threshold_count → length t.events ≡ threshold_count →
    write_at
    (write_at
    (write_at (write_at (write_at (padded (6 ∷ take 11 (track_numbers t))) cells_at t.actions) master_at (t.master ∷ t.band ∷ [])) thresholds_at t.thresholds)
    events_at t.events)
    rate_at (t.steps ∷ t.ticks ∷ t.remainder ∷ [])
    ≡ padded (6 ∷ track_numbers t)
unfolding write_at
track-numbers t l m n =
    let zeros : List ℕ = replicate reply_width 0 in
    let head : List ℕ = 6 ∷ take 11 (track_numbers t) in
    let named : List ℕ = t.master ∷ t.band ∷ [] in
    let rate : List ℕ = t.steps ∷ t.ticks ∷ t.remainder ∷ [] in
    let one : List ℕ = head ++ t.actions in
    let two : List ℕ = one ++ named in
    let three : List ℕ = two ++ t.thresholds in
    let four : List ℕ = three ++ t.events in
    let a : length one ≡ master_at = omega (arith, l) in
    let b : length two ≡ thresholds_at = simp length-append (omega (arith, a)) in
    let c : length three ≡ events_at = simp length-append (omega (arith, b, m)) in
    let e : length four ≡ rate_at = simp length-append (omega (arith, c, n)) in
    let d : length (6 ∷ track_numbers t) ≡ 41 = simp length-append (omega (arith, l, m, n)) in
    ap (λ (r : List ℕ). write_at (write_at (write_at (write_at r master_at named) thresholds_at t.thresholds) events_at t.events) rate_at rate)
    (write-write zeros head t.actions 0 cells_at refl (omega (arith, l)))
    ∙ ap (λ (r : List ℕ). write_at (write_at (write_at r thresholds_at t.thresholds) events_at t.events) rate_at rate)
    (write-write zeros one named 0 master_at (sym a ∙ sym (zero-add _)) (omega arith))
    ∙ ap (λ (r : List ℕ). write_at (write_at r events_at t.events) rate_at rate)
    (write-write zeros two t.thresholds 0 thresholds_at (sym b ∙ sym (zero-add _)) (omega (arith, m)))
    ∙ ap (λ (r : List ℕ). write_at r rate_at rate) (write-write zeros three t.events 0 events_at (sym c ∙ sym (zero-add _)) (omega (arith, n)))
    ∙ write-write zeros four rate 0 rate_at (sym e ∙ sym (zero-add _)) (omega arith)
    ∙ ap (write_at zeros 0)
    (append_assoc three t.events rate
    ∙ append_assoc two t.thresholds (t.events ++ rate)
    ∙ append_assoc one named (t.thresholds ++ (t.events ++ rate))
    ∙ append_assoc head t.actions (named ++ (t.thresholds ++ (t.events ++ rate))))
    ∙ ap (λ (k : ℕ). (6 ∷ track_numbers t) ++ drop k zeros) (zero-add _ ∙ d)
    ∙ sym (ap (λ (k : ℕ). (6 ∷ track_numbers t) ++ replicate (reply_width - k) 0) d)
