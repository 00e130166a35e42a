-- The word of the tracks that are PLAYING, and the laws of any word of tracks.
use mathlib.Core.Path.{◌≡◌, refl, sym, ap, subst, ◌∙◌}
use mathlib.Core.Bool.{Bool, true, false, cond}
use mathlib.Core.List.{List, [], ◌∷◌}
use Prim.Native.Nat.{ℕ, zero, suc, ◌+◌, ◌-◌, ◌*◌, ◌/◌, ◌%◌, ◌^◌, ◌≤◌, ◌<◌}
use native.Mathlib.Omega.{arith}
use native.Mathlib.Nat.{div-div-eq-div-mul, pow-suc, div-one, zero-div, zero-add}
use lib.Dec.{eqb}
use lib.ListN.{length, drop, length-drop, drop_of_length-le}
use lib.Pow.{pow_mono}
use lib.Seq.{drop-cons}
use borrow.Author.Tests.{eqb-true}
use Rattle.track.specs.declared.Track.{Track}
use Rattle.track.specs.Rule.{PLAYING}
use Rattle.track.proofs.Tests.{cond_cases}
use Rattle.board.specs.Board.{no_track, track_at}
use Rattle.board.specs.Tick.{members, play_bit, playing_word, word_by}
use Rattle.board.specs.Points.{track_count}
use Rattle.board.specs.Replay.{Each}
use Rattle.board.proofs.rules.Broken.{half-bit}
use Rattle.board.proofs.tick.Bits.{each_from}

-- a track's bit is one
pub bit-small : (bit : ℕ) (t : Track) → bit ≤ 1 → play_bit bit t ≤ 1
bit-small bit t h = cond_cases (λ (n : ℕ). n ≤ 1) (eqb t.mode PLAYING) (λ e. h) (λ e. omega arith)

-- a word's bits from i on, halved from those before
pub half : (w i : ℕ) → 0 < i → w / 2 ^ (i - 1) / 2 ≡ w / 2 ^ i
half w i p =
    let e : suc (i - 1) ≡ i = omega arith in
    div-div-eq-div-mul w (2 ^ (i - 1)) 2 ∙ ap (λ (m : ℕ). w / m) (sym (pow-suc 2 (i - 1))) ∙ ap (λ (n : ℕ). w / 2 ^ n) e

-- ---- a word of tracks: each track's bit is what `bit_of` makes of its bit in another word, the first track's the lowest

pub record WordBy (bit_of : ℕ → Track → ℕ) (word_of : ℕ → List Track → ℕ) : Type 0 where
  pub small : (bit : ℕ) (t : Track) → bit ≤ 1 → bit_of bit t ≤ 1
  pub none : (w : ℕ) → word_of w [] ≡ 0
  pub more : (w : ℕ) (t : Track) (ts : List Track) → word_of w (t ∷ ts) ≡ bit_of (w % 2) t + word_of (w / 2) ts * 2

module _ {bit_of : ℕ → Track → ℕ} {word_of : ℕ → List Track → ℕ} (W : WordBy bit_of word_of) where
  -- a word of at most n tracks has n bits
  word_below : (n w : ℕ) (ts : List Track) → length ts ≤ n → word_of w ts < 2 ^ n
  word_below n w [] h = let m : 2 ^ 0 ≤ 2 ^ n = pow_mono h in omega (arith, W.none w)
  word_below n w (t ∷ ts) h =
      let m : 2 ^ suc (length ts) ≤ 2 ^ n = pow_mono h in
      let b = W.small (w % 2) t (omega arith) in
      let r : word_of (w / 2) ts < 2 ^ length ts = word_below (length ts) (w / 2) ts (omega arith) in
      let e = pow-suc 2 (length ts) in
      omega (arith, W.more w t ts)

  -- a bit of the word that is set is set in what it is made of
  pub word-bit : (i w : ℕ) (ts : List Track) → word_of w ts / 2 ^ i % 2 ≡ 1 → bit_of (w / 2 ^ i % 2) (track_at ts i) ≡ 1
  word-bit i w [] h = absurd (let e : 0 / 2 ^ i ≡ 0 = zero-div (2 ^ i) in omega (arith, e, ap (λ (x : ℕ). x / 2 ^ i % 2) (sym (W.none w)) ∙ h))
  word-bit zero w (t ∷ ts) h =
      let b = W.small (w % 2) t (omega arith) in
      let e : w / 2 ^ zero % 2 ≡ w % 2 = omega arith in
      ap (λ (d : ℕ). bit_of d t) e ∙ omega (arith, W.more w t ts)
  word-bit (suc i) w (t ∷ ts) h =
      let b = W.small (w % 2) t (omega arith) in
      let v = word_of w (t ∷ ts) in
      let e : word_of (w / 2) ts ≡ v / 2 = omega (arith, W.more w t ts) in
      let r = word-bit i (w / 2) ts (ap (λ (x : ℕ). x / 2 ^ i % 2) e ∙ ap (λ (x : ℕ). x % 2) (half-bit v i) ∙ h) in
      ap (λ (d : ℕ). bit_of d (track_at ts i)) (ap (λ (x : ℕ). x % 2) (sym (half-bit w i))) ∙ r

  -- ---- a turn of the loop from the last track down

  module _ (ts : List Track) (l : length ts ≡ track_count) (w : ℕ) where
    -- above the last track
    pub word_none : 0 ≡ word_of (w / 2 ^ track_count) (drop track_count ts)
    word_none =
        sym (W.none (w / 2 ^ track_count)) ∙ ap (word_of (w / 2 ^ track_count)) (sym (drop_of_length-le ts {i = track_count} (omega arith)))

    -- at the first track
    pub word-all : {i : ℕ} → i ≡ 0 → word_of (w / 2 ^ i) (drop i ts) ≡ word_of w ts
    word-all e = ap (λ (n : ℕ). word_of (w / 2 ^ n) (drop n ts)) e ∙ ap (λ (v : ℕ). word_of v ts) (div-one w)

    module _ (i : ℕ) (p : 0 < i) where
      -- room for one track more
      pub word_room : word_of (w / 2 ^ i) (drop i ts) < 2 ^ 15
      word_room = word_below 15 (w / 2 ^ i) (drop i ts) (simp length-drop (omega arith))

      -- one track more
      pub word_next : i ≤ track_count → word_of (w / 2 ^ i) (drop i ts) * 2 + bit_of (w / 2 ^ (i - 1) % 2) (track_at ts (i - 1))
          ≡ word_of (w / 2 ^ (i - 1)) (drop (i - 1) ts)
      word_next q =
          let e : suc (i - 1) ≡ i = omega arith in
          let k : word_of (w / 2 ^ (i - 1) / 2) (drop i ts) ≡ word_of (w / 2 ^ i) (drop i ts) = ap (λ (v : ℕ). word_of v (drop i ts)) (half w i p) in
          let r : word_of (w / 2 ^ (i - 1)) (drop (i - 1) ts)
          ≡ bit_of (w / 2 ^ (i - 1) % 2) (track_at ts (i - 1)) + word_of (w / 2 ^ (i - 1) / 2) (drop i ts) * 2 =
          ap (word_of (w / 2 ^ (i - 1))) (drop-cons ts (i - 1) no_track (omega arith) ∙ ap (λ (n : ℕ). track_at ts (i - 1) ∷ drop n ts) e)
          ∙ W.more (w / 2 ^ (i - 1)) (track_at ts (i - 1)) (drop i ts) in
          omega arith

-- the word of the tracks of which a test holds is one
pub word-by : (holds : Track → Bool) → WordBy (λ bit t. cond (holds t) bit 0) (word_by holds)
unfolding word_by
word-by holds = record { small = λ bit t h. cond_cases (λ (n : ℕ). n ≤ 1) (holds t) (λ e. h) (λ e. omega arith); none = λ w. refl; more = λ w t ts. refl }

-- so is that of the playing tracks
pub playing-word : WordBy play_bit playing_word
unfolding playing_word
playing-word = record { small = bit-small; none = λ w. refl; more = λ w t ts. refl }

-- it is that of the test
abbrev pub plays : Track → Bool
plays t = eqb t.mode PLAYING

pub playing-by : (present : ℕ) (ts : List Track) → word_by plays present ts ≡ playing_word present ts
unfolding word_by playing_word
playing-by present [] = refl
playing-by present (t ∷ ts) = ap (λ (w : ℕ). play_bit (present % 2) t + w * 2) (playing-by (present / 2) ts)

-- its members play
pub players-play : (present : ℕ) (ts : List Track) → Each (λ i. (track_at ts i).mode ≡ PLAYING) (members (playing_word present ts))
players-play present ts =
    each_from (λ i. (track_at ts i).mode ≡ PLAYING) track_count 0 (playing_word present ts)
    (λ i l e. subst (λ (j : ℕ). (track_at ts j).mode ≡ PLAYING) (sym (zero-add i)) (plays i (word-bit playing-word i present ts e)))
  where
    plays : (i : ℕ) → play_bit (present / 2 ^ i % 2) (track_at ts i) ≡ 1 → (track_at ts i).mode ≡ PLAYING
    plays i = go (eqb (track_at ts i).mode PLAYING) refl
      where
        go : (b : Bool) → eqb (track_at ts i).mode PLAYING ≡ b → cond b (present / 2 ^ i % 2) 0 ≡ 1 → (track_at ts i).mode ≡ PLAYING
        go true e h = eqb-true _ _ e
        go false e h = absurd (omega (arith, h))
