-- The playing tracks of a board: the members of its playing word, or one after the other along the list of tracks.
use Prim.Native.Nat.{ℕ, zero, suc, ◌+◌, ◌*◌, ◌/◌, ◌%◌, ◌^◌, ◌<◌, suc-le-suc}
use mathlib.Core.Path.{◌≡◌, refl, sym, ap, subst, ◌∙◌}
use mathlib.Core.Logic.{◌⊎◌, inl, inr}
use mathlib.Core.Bool.{Bool, true, false, cond}
use mathlib.Core.List.{List, [], ◌∷◌, ◌++◌}
use native.Mathlib.Omega.{arith}
use native.Mathlib.Nat.{add-zero, zero-add, add-suc, suc-add, div-one, zero-lt-suc}
use native.Mathlib.Numerals.{add-one}
use lib.Dec.{eqb}
use lib.ListN.{length, length-append}
use lib.Seq.{get_or_at, append_snoc}
use borrow.Author.Tests.{eqb-true, eq-eqb}
use Rattle.track.specs.declared.Track.{Track}
use Rattle.track.specs.Rule.{PLAYING}
use Rattle.board.specs.Points.{track_count}
use Rattle.board.specs.Board.{no_track, track_at, is_present}
use Rattle.board.proofs.rules.Broken.{present-bit, present-small, present-set, half-bit}
use Rattle.board.specs.Tick.{keep, members_from, members, play_bit, playing_word}
use Rattle.board.specs.Replay.{Each}
use Rattle.board.proofs.tick.PlayingLaws.{bit-small}
use Rattle.board.specs.Quiet.{AnyOf}

-- the playing tracks of ts, the first of which has the number n; `present` is the word of those present
unfoldable pub EachPlaying : (ℕ → Track → Type 0) → ℕ → ℕ → List Track → Type 0
EachPlaying P n present [] = Unit {0}
EachPlaying P n present (t ∷ ts) = (0 < play_bit (present % 2) t → P n t) × EachPlaying P (suc n) (present / 2) ts

unfoldable pub SomePlaying : (ℕ → Track → Type 0) → ℕ → ℕ → List Track → Type 0
SomePlaying P n present [] = ⊥
SomePlaying P n present (t ∷ ts) = ((0 < play_bit (present % 2) t) × P n t) ⊎ SomePlaying P (suc n) (present / 2) ts

-- their numbers
unfoldable pub players : ℕ → ℕ → List Track → List ℕ
players n present [] = []
players n present (t ∷ ts) = keep (play_bit (present % 2) t) n (players (suc n) (present / 2) ts)

-- ---- the playing word

-- a track whose bit is set plays
pub bit-plays : (d : ℕ) (t : Track) → 0 < play_bit d t → (t.mode ≡ PLAYING) × (0 < d)
bit-plays d t = go (eqb t.mode PLAYING) refl
  where
    go : (b : Bool) → eqb t.mode PLAYING ≡ b → 0 < cond b d 0 → (t.mode ≡ PLAYING) × (0 < d)
    go true e h = (eqb-true t.mode PLAYING e, h)
    go false e h = absurd (omega arith)

players-from : (n present : ℕ) (ts : List Track) → members_from (length ts) n (playing_word present ts) ≡ players n present ts
unfolding members_from playing_word players
players-from n present [] = refl
players-from n present (t ∷ ts) =
    let s = bit-small (present % 2) t (omega arith) in
    let r = playing_word (present / 2) ts in
    let e₁ : (play_bit (present % 2) t + r * 2) % 2 ≡ play_bit (present % 2) t = omega arith in
    let e₂ : (play_bit (present % 2) t + r * 2) / 2 ≡ r = omega arith in
    rw (e₁, e₂, players-from (suc n) (present / 2) ts)

-- the members of the playing word are the numbers of the playing tracks
pub members-playing : (present : ℕ) (ts : List Track) → length ts ≡ track_count → members (playing_word present ts) ≡ players 0 present ts
members-playing present ts l = rw l at (players-from 0 present ts)

-- ---- from the members to the list, and back

-- what follows of every playing track
pub each-implies : (P Q : ℕ → Track → Type 0) → ((n : ℕ) (t : Track) → P n t → Q n t) → (n present : ℕ) (ts : List Track)
    → EachPlaying P n present ts → EachPlaying Q n present ts
unfolding EachPlaying
each-implies P Q f n present [] a = tt
each-implies P Q f n present (t ∷ ts) a = (λ h. f n t (a.0 h), each-implies P Q f (suc n) (present / 2) ts a.1)

-- two facts of every playing track
pub each_both : (P Q : ℕ → Track → Type 0) (n present : ℕ) (ts : List Track) → EachPlaying P n present ts → EachPlaying Q n present ts
    → EachPlaying (λ n t. P n t × Q n t) n present ts
unfolding EachPlaying
each_both P Q n present [] a b = tt
each_both P Q n present (t ∷ ts) a b = (λ h. (a.0 h, b.0 h), each_both P Q (suc n) (present / 2) ts a.1 b.1)

-- a list with one track more
pub longer : {n : ℕ} (pre : List Track) (t : Track) → length pre ≡ n → length (pre ++ (t ∷ [])) ≡ suc n
longer {n} pre t l = length-append pre (t ∷ []) ∙ ap (λ (k : ℕ). k + 1) l ∙ add-one n

module _ (P : ℕ → Track → Type 0) where
  abbrev On : List Track → ℕ → Type 0
  On ts i = P i (track_at ts i)

  module _ (n present : ℕ) (pre : List Track) (t : Track) (ts : List Track) (l : length pre ≡ n) where
    read : track_at (pre ++ t ∷ ts) n ≡ t
    read = get_or_at pre t ts no_track n l

    abbrev rest : List ℕ
    rest = players (suc n) (present / 2) ts

    each-head : (d : ℕ) → play_bit (present % 2) t ≡ d → (Each (On (pre ++ t ∷ ts)) rest → EachPlaying P (suc n) (present / 2) ts)
        → Each (On (pre ++ t ∷ ts)) (keep d n rest) → EachPlaying P n present (t ∷ ts)
    unfolding Each EachPlaying
    each-head zero e ih a = (λ h. absurd (omega arith), ih a)
    each-head (suc d) e ih a = (λ _. rw read at a.0, ih a.1)

    head-each : (d : ℕ) → play_bit (present % 2) t ≡ d → (EachPlaying P (suc n) (present / 2) ts → Each (On (pre ++ t ∷ ts)) rest)
        → EachPlaying P n present (t ∷ ts) → Each (On (pre ++ t ∷ ts)) (keep d n rest)
    unfolding Each EachPlaying
    head-each zero e ih a = ih a.1
    head-each (suc d) e ih a = (rw read (a.0 (omega arith)), ih a.1)

    some-head : (d : ℕ) → play_bit (present % 2) t ≡ d → (AnyOf (On (pre ++ t ∷ ts)) rest → SomePlaying P (suc n) (present / 2) ts)
        → AnyOf (On (pre ++ t ∷ ts)) (keep d n rest) → SomePlaying P n present (t ∷ ts)
    unfolding AnyOf SomePlaying
    some-head zero e ih a = inr (ih a)
    some-head (suc d) e ih (inl a) = inl (omega arith, rw read at a)
    some-head (suc d) e ih (inr a) = inr (ih a)

    head-some : (d : ℕ) → play_bit (present % 2) t ≡ d → (SomePlaying P (suc n) (present / 2) ts → AnyOf (On (pre ++ t ∷ ts)) rest)
        → SomePlaying P n present (t ∷ ts) → AnyOf (On (pre ++ t ∷ ts)) (keep d n rest)
    unfolding AnyOf SomePlaying
    head-some zero e ih (inl a) = absurd (omega arith)
    head-some zero e ih (inr a) = ih a
    head-some (suc d) e ih (inl a) = inl (rw read a.1)
    head-some (suc d) e ih (inr a) = inr (ih a)

  each-list : (n present : ℕ) (pre ts : List Track) → length pre ≡ n → Each (On (pre ++ ts)) (players n present ts) → EachPlaying P n present ts
  unfolding players EachPlaying
  each-list n present pre [] l a = tt
  each-list n present pre (t ∷ ts) l a =
      each-head n present pre t ts l (play_bit (present % 2) t) refl
      (λ b. each-list (suc n) (present / 2) (pre ++ (t ∷ [])) ts (longer pre t l) (rw (append_snoc pre t ts) b)) a

  list-each : (n present : ℕ) (pre ts : List Track) → length pre ≡ n → EachPlaying P n present ts → Each (On (pre ++ ts)) (players n present ts)
  unfolding players Each
  list-each n present pre [] l a = tt
  list-each n present pre (t ∷ ts) l a =
      head-each n present pre t ts l (play_bit (present % 2) t) refl
      (λ b. rw (append_snoc pre t ts) at (list-each (suc n) (present / 2) (pre ++ (t ∷ [])) ts (longer pre t l) b)) a

  some-list : (n present : ℕ) (pre ts : List Track) → length pre ≡ n → AnyOf (On (pre ++ ts)) (players n present ts) → SomePlaying P n present ts
  unfolding players AnyOf
  some-list n present pre [] l a = absurd a
  some-list n present pre (t ∷ ts) l a =
      some-head n present pre t ts l (play_bit (present % 2) t) refl
      (λ b. some-list (suc n) (present / 2) (pre ++ (t ∷ [])) ts (longer pre t l) (rw (append_snoc pre t ts) b)) a

  list-some : (n present : ℕ) (pre ts : List Track) → length pre ≡ n → SomePlaying P n present ts → AnyOf (On (pre ++ ts)) (players n present ts)
  unfolding players SomePlaying
  list-some n present pre [] l a = absurd a
  list-some n present pre (t ∷ ts) l a =
      head-some n present pre t ts l (play_bit (present % 2) t) refl
      (λ b. rw (append_snoc pre t ts) at (list-some (suc n) (present / 2) (pre ++ (t ∷ [])) ts (longer pre t l) b)) a

  module _ (present : ℕ) (ts : List Track) (l : length ts ≡ track_count) where
    -- what holds of every member's track holds of every playing track
    pub each-playing : Each (On ts) (members (playing_word present ts)) → EachPlaying P 0 present ts
    each-playing a = each-list 0 present [] ts refl (rw (members-playing present ts l) at a)

    -- and the other way
    pub each_member : EachPlaying P 0 present ts → Each (On ts) (members (playing_word present ts))
    each_member a = rw (members-playing present ts l) (list-each 0 present [] ts refl a)

    -- what holds of some member's track holds of some playing track
    pub some-playing : AnyOf (On ts) (members (playing_word present ts)) → SomePlaying P 0 present ts
    some-playing a = some-list 0 present [] ts refl (rw (members-playing present ts l) at a)

    -- and the other way
    pub some-member : SomePlaying P 0 present ts → AnyOf (On ts) (members (playing_word present ts))
    some-member a = rw (members-playing present ts l) (list-some 0 present [] ts refl a)

-- ---- the playing tracks are present

-- a playing track is PLAYING, and its bit in the word is set
all-playing : (Q : ℕ → Type 0) (n word : ℕ) (ts : List Track) → ((j : ℕ) → j < length ts → word / 2 ^ j % 2 ≡ 1 → Q (n + j))
    → EachPlaying (λ k t. (t.mode ≡ PLAYING) × Q k) n word ts
unfolding EachPlaying
all-playing Q n word [] f = tt
all-playing Q n word (t ∷ ts) f = (
  λ h. let p = bit-plays (word % 2) t h in
      let set : word % 2 ≡ 1 = omega arith in
      (p.0, subst Q (add-zero n) (f 0 (zero-lt-suc (length ts)) (ap (λ (m : ℕ). m % 2) (div-one word) ∙ set))),
  all-playing Q (suc n) (word / 2) ts
      (λ j l e. subst Q (add-suc n j ∙ sym (suc-add n j)) (f (suc j) (suc-le-suc l) (ap (λ (m : ℕ). m % 2) (sym (half-bit word j)) ∙ e))),
)

-- a member of the playing word is PLAYING, and present
pub members-present : (present : ℕ) (ts : List Track) → length ts ≡ track_count
    → Each (λ k. ((track_at ts k).mode ≡ PLAYING) × (is_present present k ≡ true)) (members (playing_word present ts))
members-present present ts l =
    each_member (λ k t. (t.mode ≡ PLAYING) × (is_present present k ≡ true)) present ts l
    (all-playing (λ k. is_present present k ≡ true) 0 present ts
    (λ j m e. rw (zero-add j) (sym (present-bit present j (omega arith)) ∙ eq-eqb _ 1 e)))

-- a track that plays and whose bit is set is one of them
one-playing : (Q : ℕ → Type 0) (n word i : ℕ) (ts : List Track) → i < length ts → word / 2 ^ i % 2 ≡ 1 → (track_at ts i).mode ≡ PLAYING → Q (n + i) →
    SomePlaying (λ k t. Q k) n word ts
unfolding SomePlaying
one-playing Q n word i [] l e m q = absurd (omega arith)
one-playing Q n word zero (t ∷ ts) l e m q =
    let set : word % 2 ≡ 1 = ap (λ (x : ℕ). x % 2) (sym (div-one word)) ∙ e in
    inl (simp (eq-eqb _ _ m) (omega arith), subst Q (add-zero n) q)
one-playing Q n word (suc i) (t ∷ ts) l e m q =
    inr (one-playing Q (suc n) (word / 2) i ts (omega arith) (ap (λ (x : ℕ). x % 2) (half-bit word i) ∙ e) m (subst Q (add-suc n i ∙ sym (suc-add n i)) q))

-- and the other way: a track that is present and PLAYING is a member
pub playing-member : (present i : ℕ) (ts : List Track) → length ts ≡ track_count → is_present present i ≡ true → (track_at ts i).mode ≡ PLAYING →
    AnyOf (λ k. k ≡ i) (members (playing_word present ts))
playing-member present i ts l p m =
    let small = present-small present i p in
    some-member (λ k t. k ≡ i) present ts l (one-playing (λ k. k ≡ i) 0 present i ts (omega arith) (present-set present i p) m (zero-add i))
