-- A master call as a value has room for at most five pairs, and needs no more: every list of numbers has its pairs.
use Prim.Native.Nat.{ℕ, ◌<◌}
use native.Mathlib.Omega.{arith}
use mathlib.Core.Path.{◌≡◌, refl, sym, ◌∙◌, ap}
use mathlib.Core.Bool.{Bool, true, false, cond, not, ◌&&◌}
use mathlib.Core.List.{List, [], ◌∷◌}
use lib.Dec.{eqb}
use lib.IntN.{ℤ, pos}
use lib.ListN.{set, length}
use borrow.Author.Tests.{lt-leb}
use Rattle.track.specs.Rule.{STOPPED, threshold_most, event_most, threshold_count}
use Rattle.track.specs.Follow.{following}
use Rattle.track.specs.Number.{natural_of}
use Rattle.track.proofs.Tests.{both, both_is}
use Rattle.board.specs.declared.Board.{Board}
use Rattle.board.specs.Setup.{Outcome}
use Rattle.board.specs.declared.call.Pairs.{Pairs}
use Rattle.board.specs.declared.call.Pairs.TheVariants as pairs
use Rattle.board.specs.Board.{track_at}
use Rattle.board.specs.Setup.{accepted, refused, board_with, on_unbroken, on_track}
use Rattle.board.specs.Setup.{is_in, ranged_test, thresholds_in, events_in, rising_test, row_of, master_named, put_master, set_master}
use Rattle.board.specs.declared.call.Call.TheVariants as call
use Rattle.board.specs.Replay.{World}
use Rattle.board.specs.Call.{pair_numbers, does, master_does, Gives}
use Rattle.board.proofs.call.Leaving.{set-master-leaves}

-- lists with which every master call comes to the same
abbrev pub SameMaster : List ℤ → List ℤ → Type 0
SameMaster zs ys = (b : Board) (track master : ℤ) → set_master b track master zs ≡ set_master b track master ys

-- a master call by its four tests, and the board if they pass
abbrev by_tests : Board → Bool → Bool → Bool → Bool → Board → Outcome
by_tests b stopped other ranged rising c = cond stopped (cond (other && ranged) (cond rising (accepted c) (refused 10 b)) (refused 3 b)) (refused 2 b)

-- what it comes to does not go by what is behind a test that fails
past-range : (b c d : Board) (stopped other rising rises : Bool) → by_tests b stopped other false rising c ≡ by_tests b stopped other false rises d
past-range b c d false other rising rises = refl
past-range b c d true true rising rises = refl
past-range b c d true false rising rises = refl

past-rising : (b c d : Board) (stopped other : Bool) → by_tests b stopped other true false c ≡ by_tests b stopped other true false d
past-rising b c d false other = refl
past-rising b c d true true = refl
past-rising b c d true false = refl

module _ (zs ys : List ℤ) where
  -- the board that a list of numbers leads to
  abbrev led : Board → ℕ → ℕ → List ℤ → Board
  led b i m xs =
      board_with b (set b.tracks i (following (track_at b.tracks i) (master_named m xs) (row_of (thresholds_in xs)) (row_of (events_in xs))))
      b.present b.points b.held

  by-put : ((b : Board) (i m : ℕ) → put_master b i m zs ≡ put_master b i m ys) → SameMaster zs ys
  unfolding set_master
  by-put h b track master = λ j. on_unbroken b (on_track b track (λ i. on_track b master (λ m. h b i m j)))

  -- both have a number out of range, or are odd
  both-unranged : ranged_test zs ≡ false → ranged_test ys ≡ false → SameMaster zs ys
  unfolding put_master
  both-unranged p q =
      by-put
      (λ b i m.
      let s = eqb (track_at b.tracks i).mode STOPPED in
      let o = not (eqb i m) in
      let r = rising_test (thresholds_in zs) in
      let t = rising_test (thresholds_in ys) in
      ap (λ (x : Bool). by_tests b s o x r (led b i m zs)) p
      ∙ past-range b (led b i m zs) (led b i m ys) s o r t
      ∙ sym (ap (λ (x : Bool). by_tests b s o x t (led b i m ys)) q))

  -- the thresholds of both do not rise, or are over four
  both-unrising : ranged_test zs ≡ true → ranged_test ys ≡ true → rising_test (thresholds_in zs) ≡ false → rising_test (thresholds_in ys) ≡ false →
      SameMaster zs ys
  unfolding put_master
  both-unrising p q r t =
      by-put
      (λ b i m.
      let s = eqb (track_at b.tracks i).mode STOPPED in
      let o = not (eqb i m) in
      (λ j. by_tests b s o (p j) (r j) (led b i m zs))
      ∙ past-rising b (led b i m zs) (led b i m ys) s o
      ∙ sym (λ j. by_tests b s o (q j) (t j) (led b i m ys)))

-- a pair in range, and those behind it
abbrev Ranged : ℤ → ℤ → List ℤ → Type 0
Ranged x e zs = ((is_in (natural_of x 1 threshold_most) ≡ true) × (is_in (natural_of e 1 event_most) ≡ true)) × (ranged_test zs ≡ true)

ranged-split : (x e : ℤ) (zs : List ℤ) → ranged_test (x ∷ e ∷ zs) ≡ true → Ranged x e zs
unfolding ranged_test
ranged-split x e zs h =
    let a = both (is_in (natural_of x 1 threshold_most)) (is_in (natural_of e 1 event_most) && ranged_test zs) h in
    let c = both (is_in (natural_of e 1 event_most)) (ranged_test zs) a.1 in
    ((a.0, c.0), c.1)

ranged-join : (x e : ℤ) (zs ys : List ℤ) → Ranged x e zs → ranged_test ys ≡ true → ranged_test (x ∷ e ∷ ys) ≡ true
unfolding ranged_test
ranged-join x e zs ys h k = both_is h.0.0 (both_is h.0.1 k)

-- more than four thresholds are refused, whatever they are
long-falls : (xs : List ℕ) → threshold_count < length xs → rising_test xs ≡ false
unfolding rising_test
long-falls xs h = rw (lt-leb (length xs) threshold_count h)

none-ranged : ranged_test [] ≡ true
unfolding ranged_test
none-ranged = refl

module _ (x₁ e₁ x₂ e₂ x₃ e₃ x₄ e₄ x₅ e₅ : ℤ) where
  abbrev five : List ℤ → List ℤ
  five zs = x₁ ∷ e₁ ∷ x₂ ∷ e₂ ∷ x₃ ∷ e₃ ∷ x₄ ∷ e₄ ∷ x₅ ∷ e₅ ∷ zs

  five-long : (zs : List ℤ) → threshold_count < length (thresholds_in (five zs))
  unfolding thresholds_in
  five-long zs = omega arith

  -- so the first five pairs do for all
  many : (zs : List ℤ) → ranged_test (five zs) ≡ true → SameMaster (five zs) (five [])
  many zs h =
      let r₁ = ranged-split x₁ e₁ (x₂ ∷ e₂ ∷ x₃ ∷ e₃ ∷ x₄ ∷ e₄ ∷ x₅ ∷ e₅ ∷ zs) h in
      let r₂ = ranged-split x₂ e₂ (x₃ ∷ e₃ ∷ x₄ ∷ e₄ ∷ x₅ ∷ e₅ ∷ zs) r₁.1 in
      let r₃ = ranged-split x₃ e₃ (x₄ ∷ e₄ ∷ x₅ ∷ e₅ ∷ zs) r₂.1 in
      let r₄ = ranged-split x₄ e₄ (x₅ ∷ e₅ ∷ zs) r₃.1 in
      let r₅ = ranged-split x₅ e₅ zs r₄.1 in
      let k₅ = ranged-join x₅ e₅ zs [] r₅ none-ranged in
      let k₄ = ranged-join x₄ e₄ (x₅ ∷ e₅ ∷ zs) (x₅ ∷ e₅ ∷ []) r₄ k₅ in
      let k₃ = ranged-join x₃ e₃ (x₄ ∷ e₄ ∷ x₅ ∷ e₅ ∷ zs) (x₄ ∷ e₄ ∷ x₅ ∷ e₅ ∷ []) r₃ k₄ in
      let k₂ = ranged-join x₂ e₂ (x₃ ∷ e₃ ∷ x₄ ∷ e₄ ∷ x₅ ∷ e₅ ∷ zs) (x₃ ∷ e₃ ∷ x₄ ∷ e₄ ∷ x₅ ∷ e₅ ∷ []) r₂ k₃ in
      let k₁ = ranged-join x₁ e₁ (x₂ ∷ e₂ ∷ x₃ ∷ e₃ ∷ x₄ ∷ e₄ ∷ x₅ ∷ e₅ ∷ zs) (x₂ ∷ e₂ ∷ x₃ ∷ e₃ ∷ x₄ ∷ e₄ ∷ x₅ ∷ e₅ ∷ []) r₁ k₂ in
      both-unrising (five zs) (five []) h k₁ (long-falls (thresholds_in (five zs)) (five-long zs)) (long-falls (thresholds_in (five [])) (five-long []))

-- one pair that is out of range stands for every list that is
abbrev outside : Pairs
outside = pairs.One (pos 0) (pos 0)

-- The pairs of a list of numbers: up to five are the list itself; of more, the first five do if all are in range.
unfoldable pub pairs_of : List ℤ → Pairs
pairs_of [] = pairs.Nothing
pairs_of (x₁ ∷ []) = outside
pairs_of (x₁ ∷ e₁ ∷ []) = pairs.One x₁ e₁
pairs_of (x₁ ∷ e₁ ∷ x₂ ∷ []) = outside
pairs_of (x₁ ∷ e₁ ∷ x₂ ∷ e₂ ∷ []) = pairs.Two x₁ e₁ x₂ e₂
pairs_of (x₁ ∷ e₁ ∷ x₂ ∷ e₂ ∷ x₃ ∷ []) = outside
pairs_of (x₁ ∷ e₁ ∷ x₂ ∷ e₂ ∷ x₃ ∷ e₃ ∷ []) = pairs.Three x₁ e₁ x₂ e₂ x₃ e₃
pairs_of (x₁ ∷ e₁ ∷ x₂ ∷ e₂ ∷ x₃ ∷ e₃ ∷ x₄ ∷ []) = outside
pairs_of (x₁ ∷ e₁ ∷ x₂ ∷ e₂ ∷ x₃ ∷ e₃ ∷ x₄ ∷ e₄ ∷ []) = pairs.Four x₁ e₁ x₂ e₂ x₃ e₃ x₄ e₄
pairs_of (x₁ ∷ e₁ ∷ x₂ ∷ e₂ ∷ x₃ ∷ e₃ ∷ x₄ ∷ e₄ ∷ x₅ ∷ []) = outside
pairs_of (x₁ ∷ e₁ ∷ x₂ ∷ e₂ ∷ x₃ ∷ e₃ ∷ x₄ ∷ e₄ ∷ x₅ ∷ e₅ ∷ []) = pairs.More x₁ e₁ x₂ e₂ x₃ e₃ x₄ e₄ x₅ e₅
pairs_of (x₁ ∷ e₁ ∷ x₂ ∷ e₂ ∷ x₃ ∷ e₃ ∷ x₄ ∷ e₄ ∷ x₅ ∷ e₅ ∷ z ∷ zs) =
    cond (ranged_test (five x₁ e₁ x₂ e₂ x₃ e₃ x₄ e₄ x₅ e₅ (z ∷ zs))) (pairs.More x₁ e₁ x₂ e₂ x₃ e₃ x₄ e₄ x₅ e₅) outside

-- the pairs of a call's own numbers are the call's
pub pairs-own : (ps : Pairs) → pairs_of (pair_numbers ps) ≡ ps
unfolding pairs_of
pairs-own pairs.Nothing = refl
pairs-own (pairs.One x₁ e₁) = refl
pairs-own (pairs.Two x₁ e₁ x₂ e₂) = refl
pairs-own (pairs.Three x₁ e₁ x₂ e₂ x₃ e₃) = refl
pairs-own (pairs.Four x₁ e₁ x₂ e₂ x₃ e₃ x₄ e₄) = refl
pairs-own (pairs.More x₁ e₁ x₂ e₂ x₃ e₃ x₄ e₄ x₅ e₅) = refl

-- a list that is out of range, and the pair that stands for it
unranged : (zs : List ℤ) → ranged_test zs ≡ false → SameMaster zs (pair_numbers outside)
unfolding ranged_test natural_of
unranged zs h = both-unranged zs (pair_numbers outside) h refl

-- behind a pair, too
behind : (x e : ℤ) (zs : List ℤ) → ranged_test zs ≡ false → ranged_test (x ∷ e ∷ zs) ≡ false
unfolding ranged_test
behind x e zs h = neither (is_in (natural_of x 1 threshold_most)) (is_in (natural_of e 1 event_most)) h
  where
    neither : (a b : Bool) {c : Bool} → c ≡ false → (a && (b && c)) ≡ false
    neither true true h = h
    neither true false h = refl
    neither false b h = refl

one-odd : (x : ℤ) → ranged_test (x ∷ []) ≡ false
unfolding ranged_test
one-odd x = refl

-- with the pairs of a list of numbers, every master call comes to the same: nothing is lost in a call as a value
pub pairs-enough : (zs : List ℤ) → SameMaster zs (pair_numbers (pairs_of zs))
unfolding pairs_of
pairs-enough [] = λ b t m. refl
pairs-enough (x₁ ∷ []) = unranged (x₁ ∷ []) (one-odd x₁)
pairs-enough (x₁ ∷ e₁ ∷ []) = λ b t m. refl
pairs-enough (x₁ ∷ e₁ ∷ x₂ ∷ []) = unranged (x₁ ∷ e₁ ∷ x₂ ∷ []) (behind x₁ e₁ (x₂ ∷ []) (one-odd x₂))
pairs-enough (x₁ ∷ e₁ ∷ x₂ ∷ e₂ ∷ []) = λ b t m. refl
pairs-enough (x₁ ∷ e₁ ∷ x₂ ∷ e₂ ∷ x₃ ∷ []) =
    unranged (x₁ ∷ e₁ ∷ x₂ ∷ e₂ ∷ x₃ ∷ []) (behind x₁ e₁ (x₂ ∷ e₂ ∷ x₃ ∷ []) (behind x₂ e₂ (x₃ ∷ []) (one-odd x₃)))
pairs-enough (x₁ ∷ e₁ ∷ x₂ ∷ e₂ ∷ x₃ ∷ e₃ ∷ []) = λ b t m. refl
pairs-enough (x₁ ∷ e₁ ∷ x₂ ∷ e₂ ∷ x₃ ∷ e₃ ∷ x₄ ∷ []) =
    unranged (x₁ ∷ e₁ ∷ x₂ ∷ e₂ ∷ x₃ ∷ e₃ ∷ x₄ ∷ [])
    (behind x₁ e₁ (x₂ ∷ e₂ ∷ x₃ ∷ e₃ ∷ x₄ ∷ [])
    (behind x₂ e₂ (x₃ ∷ e₃ ∷ x₄ ∷ []) (behind x₃ e₃ (x₄ ∷ []) (one-odd x₄))))
pairs-enough (x₁ ∷ e₁ ∷ x₂ ∷ e₂ ∷ x₃ ∷ e₃ ∷ x₄ ∷ e₄ ∷ []) = λ b t m. refl
pairs-enough (x₁ ∷ e₁ ∷ x₂ ∷ e₂ ∷ x₃ ∷ e₃ ∷ x₄ ∷ e₄ ∷ x₅ ∷ []) =
    unranged (x₁ ∷ e₁ ∷ x₂ ∷ e₂ ∷ x₃ ∷ e₃ ∷ x₄ ∷ e₄ ∷ x₅ ∷ [])
    (behind x₁ e₁ (x₂ ∷ e₂ ∷ x₃ ∷ e₃ ∷ x₄ ∷ e₄ ∷ x₅ ∷ [])
    (behind x₂ e₂ (x₃ ∷ e₃ ∷ x₄ ∷ e₄ ∷ x₅ ∷ [])
    (behind x₃ e₃ (x₄ ∷ e₄ ∷ x₅ ∷ []) (behind x₄ e₄ (x₅ ∷ []) (one-odd x₅)))))
pairs-enough (x₁ ∷ e₁ ∷ x₂ ∷ e₂ ∷ x₃ ∷ e₃ ∷ x₄ ∷ e₄ ∷ x₅ ∷ e₅ ∷ []) = λ b t m. refl
pairs-enough (x₁ ∷ e₁ ∷ x₂ ∷ e₂ ∷ x₃ ∷ e₃ ∷ x₄ ∷ e₄ ∷ x₅ ∷ e₅ ∷ z ∷ zs) = go (ranged_test all) refl
  where
    all : List ℤ
    all = five x₁ e₁ x₂ e₂ x₃ e₃ x₄ e₄ x₅ e₅ (z ∷ zs)

    go : (t : Bool) → ranged_test all ≡ t → SameMaster all (pair_numbers (cond t (pairs.More x₁ e₁ x₂ e₂ x₃ e₃ x₄ e₄ x₅ e₅) outside))
    go true h = many x₁ e₁ x₂ e₂ x₃ e₃ x₄ e₄ x₅ e₅ (z ∷ zs) h
    go false h = unranged all h

-- and what it does with the list is what the call does with them
pub master-does : (track master : ℤ) (zs : List ℤ) (ps : Pairs) → SameMaster zs (pair_numbers ps) → (w : World Board) →
    let d = master_does track master zs w in
    Gives (does (call.Master track master ps) w) d.answer d.left.board d.left.log
unfolding master_does
master-does track master zs ps same w = set-master-leaves w.board track master ps (same w.board track master) w.log
