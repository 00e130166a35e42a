-- The third part of a tick: what it writes, what it leaves alone, and how many bands are held after it.
use mathlib.Core.Path.{◌≡◌, refl, sym, ap, subst, ◌∙◌}
use mathlib.Core.Bool.{Bool, true, false, cond, not, ◌||◌}
use mathlib.Core.List.{List, [], ◌∷◌, ◌++◌, append-nil, append_assoc}
use Prim.Native.Nat.{ℕ, zero, suc, ◌+◌, ◌-◌, ◌*◌, ◌/◌, ◌%◌, ◌^◌, ◌≤◌, ◌<◌}
use native.Mathlib.Omega.{arith}
use native.Mathlib.Nat.{zero-add, zero-div}
use lib.Dec.{eqb}
use lib.ListN.{length, set, get_or, length-append, length-set}
use lib.Seq.{set-get_or}
use borrow.Author.Tests.{eqb-true, eqb-false, eq-eqb, ne_eqb}
use Rattle.track.specs.declared.Track.{Track}
use Rattle.track.specs.Rule.{PLAYING, Valid}
use Rattle.track.specs.Follow.{follows, judged, banded}
use Rattle.track.proofs.Tests.{cond_cases}
use Rattle.board.specs.declared.log.Record.{Record}
use Rattle.board.specs.Points.{track_count}
use Rattle.board.specs.Replay.{Each}
use Rattle.board.specs.Board.{no_track, track_at, is_present}
use Rattle.board.specs.Tick.{members, record_of, playing_word, Stage, staged}
use Rattle.board.specs.Tick.{word_by, follow_bit, follow_word, band_records, follow_member, follow_all, band_bit, band_count}
use Rattle.board.proofs.rules.Broken.{present-bit, half-bit}
use Rattle.board.proofs.tick.Bits.{each_from}
use Rattle.board.proofs.tick.Commands.{at_set}

-- ---- one follower

-- the band that a follower is judged to be in, the tracks then, and what is written
abbrev pub band_at : ℕ → List Track → ℕ
band_at i ts = judged (track_at ts i) (track_at ts (track_at ts i).master)

abbrev pub banded_in : ℕ → List Track → List Track
banded_in i ts = set ts i (banded (track_at ts i) (band_at i ts))

abbrev pub entered_by : ℕ → ℕ → List Track → List Record
entered_by clock i ts = band_records clock i (track_at ts i) (band_at i ts)

-- its band stays
abbrev pub Still : List Track → ℕ → Type 0
Still ts i = band_at i ts ≡ (track_at ts i).band

module _ (clock i : ℕ) (t : Track) (band : ℕ) where
  -- nothing is written where the band stays
  pub band-same : band ≡ t.band → band_records clock i t band ≡ []
  unfolding band_records
  band-same e = simp (eq-eqb band t.band e)

  -- or where it is none
  pub band-none : band ≡ 0 → band_records clock i t band ≡ []
  unfolding band_records
  band-none e = go (eqb band t.band)
    where
      r : Record
      r = record_of clock i 4 (get_or t.events (band - 1) 0) t.master t.position.0 t.passes.0

      go : (b : Bool) → cond (b || eqb band 0) [] (r ∷ []) ≡ []
      go true = refl
      go false = simp (eq-eqb band 0 e)

  -- else one record
  pub band-one : (band ≡ t.band → ⊥) → (band ≡ 0 → ⊥)
      → band_records clock i t band ≡ record_of clock i 4 (get_or t.events (band - 1) 0) t.master t.position.0 t.passes.0 ∷ []
  unfolding band_records
  band-one n z = simp (ne_eqb band t.band n, ne_eqb band 0 z)

  -- at most one
  pub band-most : length (band_records clock i t band) ≤ 1
  unfolding band_records
  band-most = cond_cases (λ (rs : List Record). length rs ≤ 1) (eqb band t.band || eqb band 0) (λ e. omega arith) (λ e. omega arith)

-- a valid track is valid in any band
pub banded-valid : (t : Track) → Valid t → (k : ℕ) → Valid (banded t k)
banded-valid t v k =
    record { ordered = v.ordered; loops = v.loops; mode = v.mode; direction = v.direction; repeat = v.repeat; due = v.due; cells = v.cells; rate = v.rate }

-- ---- all followers

module _ (clock : ℕ) where
  -- the followers judged from an empty stage
  abbrev pub followed_from : List ℕ → List Track → Stage
  followed_from is ts = follow_all clock is (staged ts [] [])

  -- where no band changes the stage stays
  pub follow-still : (is : List ℕ) (s : Stage) → Each (Still s.tracks) is → follow_all clock is s ≡ s
  unfolding follow_all follow_member Each
  follow-still [] s h = refl
  follow-still (i ∷ is) s h =
      let t = track_at s.tracks i in
      ap (follow_all clock is)
      (ap (λ (k : ℕ). staged (set s.tracks i (banded t k)) (s.records ++ band_records clock i t k) s.reached) h.0
      ∙ (λ j. staged (set-get_or s.tracks i no_track j)
      ((ap (λ (x : List Record). s.records ++ x) (band-same clock i t t.band refl) ∙ append-nil s.records) j) s.reached))
      ∙ follow-still is s h.1

  -- from any stage the followers are judged as from an empty one, and what they write comes behind
  pub follow-apart : (is : List ℕ) (ts : List Track) (rs : List Record) (ds : List ℕ)
      → follow_all clock is (staged ts rs ds) ≡ staged (followed_from is ts).tracks (rs ++ (followed_from is ts).records) ds
  unfolding follow_all follow_member
  follow-apart [] ts rs ds = λ j. staged ts (sym (append-nil rs) j) ds
  follow-apart (i ∷ is) ts rs ds =
      let us = banded_in i ts in
      let os = entered_by clock i ts in
      let f = followed_from is us in
      let from : (rs : List Record) (ds : List ℕ) → follow_all clock is (staged us (rs ++ os) ds) ≡ staged f.tracks (rs ++ (os ++ f.records)) ds =
      λ rs ds. follow-apart is us (rs ++ os) ds ∙ (λ j. staged f.tracks (append_assoc rs os f.records j) ds) in
      from rs ds ∙ sym (ap (λ (s : Stage). staged s.tracks (rs ++ s.records) ds) (from [] []))

  module _ (i : ℕ) (is : List ℕ) (ts : List Track) where
    follow-first : followed_from (i ∷ is) ts
        ≡ staged (followed_from is (banded_in i ts)).tracks (entered_by clock i ts ++ (followed_from is (banded_in i ts)).records) []
    unfolding follow_all follow_member
    follow-first = follow-apart is (banded_in i ts) (entered_by clock i ts) []

    -- the first follower, then the others
    pub followed-tracks : (followed_from (i ∷ is) ts).tracks ≡ (followed_from is (banded_in i ts)).tracks
    followed-tracks = ap (λ (s : Stage). s.tracks) follow-first

    pub followed-records : (followed_from (i ∷ is) ts).records ≡ entered_by clock i ts ++ (followed_from is (banded_in i ts)).records
    followed-records = ap (λ (s : Stage). s.records) follow-first

  -- each follower writes at most one record
  pub follow-most : (is : List ℕ) (ts : List Track) → length (followed_from is ts).records ≤ length is
  unfolding follow_all
  follow-most [] ts = omega arith
  follow-most (i ∷ is) ts =
      let e = ap length (followed-records i is ts) ∙ length-append (entered_by clock i ts) (followed_from is (banded_in i ts)).records in
      omega (arith, follow-most is (banded_in i ts), band-most clock i (track_at ts i) (band_at i ts))

  -- the records only grow, by at most one for each follower
  pub follow-adds : (is : List ℕ) (s : Stage) → (length s.records ≤ length (follow_all clock is s).records)
      × (length (follow_all clock is s).records ≤ length s.records + length is)
  follow-adds is s =
      let e = ap (λ (x : Stage). length x.records) (follow-apart is s.tracks s.records s.reached) in
      let l = length-append s.records (followed_from is s.tracks).records in
      let m = follow-most is s.tracks in
      (omega arith, omega arith)

  -- there are as many tracks
  pub follow-long : (is : List ℕ) (s : Stage) → length (follow_all clock is s).tracks ≡ length s.tracks
  unfolding follow_all follow_member
  follow-long [] s = refl
  follow-long (i ∷ is) s =
      follow-long is (follow_member clock i s) ∙ length-set s.tracks i (banded (track_at s.tracks i) (band_at i s.tracks))

  -- what judging a track against any master keeps, the followers keep at every index
  pub follow-keeps : (P : Track → Type 0) → ((t m : Track) → P t → P (banded t (judged t m))) → (i : ℕ) (is : List ℕ) (s : Stage)
      → P (track_at s.tracks i) → P (track_at (follow_all clock is s).tracks i)
  unfolding follow_all follow_member
  follow-keeps P f i [] s p = p
  follow-keeps P f i (k ∷ is) s p =
      let ts = s.tracks in
      follow-keeps P f i is (follow_member clock k s)
      (at_set P ts k i (banded (track_at ts k) (band_at k ts)) p
      (λ e. f (track_at ts k) (track_at ts (track_at ts k).master) (subst (λ (j : ℕ). P (track_at ts j)) e p)))

-- ---- the words of the tracks

-- tracks of the same modes have the same playing word
playing-same : (present : ℕ) (ts us : List Track) → length us ≡ length ts → ((i : ℕ) → (track_at us i).mode ≡ (track_at ts i).mode)
    → playing_word present us ≡ playing_word present ts
unfolding playing_word
playing-same present [] [] l h = refl
playing-same present [] (u ∷ us) l h = absurd (omega arith)
playing-same present (t ∷ ts) [] l h = absurd (omega arith)
playing-same present (t ∷ ts) (u ∷ us) l h =
    let r = playing-same (present / 2) ts us (omega arith) (λ i. h (suc i)) in
    let b = ap (λ (mode : ℕ). cond (eqb mode PLAYING) (present % 2) 0) (h zero) in
    λ j. b j + r j * 2

-- tracks of the same thresholds have the same followers
pub following-same : (present : ℕ) (ts us : List Track) → length us ≡ length ts → ((i : ℕ) → (track_at us i).thresholds ≡ (track_at ts i).thresholds)
    → follow_word present us ≡ follow_word present ts
unfolding follow_word
following-same present [] [] l h = refl
following-same present [] (u ∷ us) l h = absurd (omega arith)
following-same present (t ∷ ts) [] l h = absurd (omega arith)
following-same present (t ∷ ts) (u ∷ us) l h =
    let r = following-same (present / 2) ts us (omega arith) (λ i. h (suc i)) in
    let b = ap (λ (xs : List ℕ). cond (not (eqb (get_or xs 0 0) 0)) (present % 2) 0) (h zero) in
    λ j. b j + r j * 2

-- tracks of the same bands hold as many
pub bands-same : (present : ℕ) (ts us : List Track) → length us ≡ length ts → ((i : ℕ) → (track_at us i).band ≡ (track_at ts i).band)
    → band_count present us ≡ band_count present ts
unfolding band_count
bands-same present [] [] l h = refl
bands-same present [] (u ∷ us) l h = absurd (omega arith)
bands-same present (t ∷ ts) [] l h = absurd (omega arith)
bands-same present (t ∷ ts) (u ∷ us) l h =
    let r = bands-same (present / 2) ts us (omega arith) (λ i. h (suc i)) in
    let b = ap (λ (band : ℕ). cond (eqb band 0) 0 (present % 2)) (h zero) in
    λ j. b j + r j

module _ (clock present : ℕ) (is : List ℕ) (s : Stage) where
  -- the same tracks play after the third part
  pub follow-playing : playing_word present (follow_all clock is s).tracks ≡ playing_word present s.tracks
  follow-playing =
      playing-same present s.tracks (follow_all clock is s).tracks (follow-long clock is s)
      (λ i. follow-keeps clock (λ t. t.mode ≡ (track_at s.tracks i).mode) (λ t m e. e) i is s refl)

  -- and the same follow
  pub follow-word : follow_word present (follow_all clock is s).tracks ≡ follow_word present s.tracks
  follow-word =
      following-same present s.tracks (follow_all clock is s).tracks (follow-long clock is s)
      (λ i. follow-keeps clock (λ t. t.thresholds ≡ (track_at s.tracks i).thresholds) (λ t m e. e) i is s refl)

-- ---- the word of the followers

-- a track's bit
pub follow-bit-small : (bit : ℕ) (t : Track) → bit ≤ 1 → follow_bit bit t ≤ 1
follow-bit-small bit t h = cond_cases (λ (n : ℕ). n ≤ 1) (follows t) (λ e. h) (λ e. omega arith)

-- the word of the followers is that of the test whether a track follows another
pub following-by : (present : ℕ) (ts : List Track) → word_by follows present ts ≡ follow_word present ts
unfolding word_by follow_word
following-by present [] = refl
following-by present (t ∷ ts) = ap (λ (w : ℕ). follow_bit (present % 2) t + w * 2) (following-by (present / 2) ts)

-- ---- the followers are present, and follow

-- a bit of the word of followers is set where the track follows and is present
follow-bit : (i present : ℕ) (ts : List Track) → follow_word present ts / 2 ^ i % 2 ≡ 1 → (present / 2 ^ i % 2 ≡ 1) × (follows (track_at ts i) ≡ true)
unfolding follow_word
follow-bit i present [] h = absurd (let e : 0 / 2 ^ i ≡ 0 = zero-div (2 ^ i) in omega (arith, e, h))
follow-bit zero present (t ∷ ts) h = go (follows t) refl h
  where
    go : (b : Bool) → follows t ≡ b → (cond b (present % 2) 0 + follow_word (present / 2) ts * 2) / 2 ^ zero % 2 ≡ 1
        → (present / 2 ^ zero % 2 ≡ 1) × (follows t ≡ true)
    go true e h = (omega (arith, h), e)
    go false e h = absurd (omega (arith, h))
follow-bit (suc i) present (t ∷ ts) h =
    let b = follow-bit-small (present % 2) t (omega arith) in
    let w = follow_bit (present % 2) t + follow_word (present / 2) ts * 2 in
    let e : follow_word (present / 2) ts ≡ w / 2 = omega arith in
    let r = follow-bit i (present / 2) ts (ap (λ (x : ℕ). x / 2 ^ i % 2) e ∙ ap (λ (x : ℕ). x % 2) (half-bit w i) ∙ h) in
    (ap (λ (x : ℕ). x % 2) (sym (half-bit present i)) ∙ r.0, r.1)

module _ (present : ℕ) (ts : List Track) where
  follower-bit : (P : ℕ → Type 0) → ((i : ℕ) → i < track_count → present / 2 ^ i % 2 ≡ 1 → follows (track_at ts i) ≡ true → P i)
      → Each P (members (follow_word present ts))
  follower-bit P f =
      each_from P track_count 0 (follow_word present ts)
      (λ i l e. let b = follow-bit i present ts e in subst P (sym (zero-add i)) (f i l b.0 b.1))

  -- what holds of every present track that follows holds of every follower
  pub each-follower : (P : ℕ → Type 0) → ((i : ℕ) → is_present present i ≡ true → follows (track_at ts i) ≡ true → P i)
      → Each P (members (follow_word present ts))
  each-follower P f = follower-bit P (λ i l e g. f i (sym (present-bit present i l) ∙ eq-eqb _ 1 e) g)

  -- each follower's bit is set
  pub follower-set : Each (λ i. present / 2 ^ i % 2 ≡ 1) (members (follow_word present ts))
  follower-set = follower-bit (λ i. present / 2 ^ i % 2 ≡ 1) (λ i l e g. e)

-- ---- how many bands are held

band-head : (clock n d : ℕ) (t : Track) (k : ℕ) → d ≤ 1 → band_bit d (banded t k) ≤ band_bit d t + length (band_records clock n t k)
band-head clock n d t k h = go (eqb k t.band) refl (eqb k 0) refl
  where
    go : (x : Bool) → eqb k t.band ≡ x → (y : Bool) → eqb k 0 ≡ y → band_bit d (banded t k) ≤ band_bit d t + length (band_records clock n t k)
    go true e y f = let q = ap (λ (b : ℕ). cond (eqb b 0) 0 d) (eqb-true k t.band e) in omega arith
    go false e true f = rw f (omega arith)
    go false e false f = let q = ap length (band-one clock n t k (eqb-false k t.band e) (eqb-false k 0 f)) in rw f (omega arith)

count-banded : (clock n present : ℕ) (ts : List Track) (i k : ℕ)
    → band_count present (set ts i (banded (track_at ts i) k)) ≤ band_count present ts + length (band_records clock n (track_at ts i) k)
unfolding band_count
count-banded clock n present [] i k = omega arith
count-banded clock n present (t ∷ ts) zero k = let b = band-head clock n (present % 2) t k (omega arith) in omega arith
count-banded clock n present (t ∷ ts) (suc i) k = let r = count-banded clock n (present / 2) ts i k in omega arith

band-left : (present : ℕ) (ts : List Track) (i k : ℕ) → present / 2 ^ i % 2 ≡ 1 → ((track_at ts i).band ≡ 0 → ⊥) → k ≡ 0
    → band_count present (set ts i (banded (track_at ts i) k)) < band_count present ts
unfolding band_count
band-left present [] i k h n z = absurd (n refl)
band-left present (t ∷ ts) zero k h n z = rw (eq-eqb k 0 z, ne_eqb t.band 0 n) (omega (arith, h))
band-left present (t ∷ ts) (suc i) k h n z =
    let r = band-left (present / 2) ts i k (ap (λ (m : ℕ). m % 2) (half-bit present i) ∙ h) n z in omega arith

module _ (clock present : ℕ) where
  -- no more bands are entered than records written
  pub follow-bands : (is : List ℕ) (ts : List Track)
      → band_count present (followed_from clock is ts).tracks ≤ band_count present ts + length (followed_from clock is ts).records
  unfolding follow_all
  follow-bands [] ts = omega arith
  follow-bands (i ∷ is) ts =
      let a = ap (band_count present) (followed-tracks clock i is ts) in
      let b = ap length (followed-records clock i is ts) ∙ length-append (entered_by clock i ts) (followed_from clock is (banded_in i ts)).records in
      let c = count-banded clock i present ts i (band_at i ts) in
      omega (arith, follow-bands is (banded_in i ts))

  module _ (i : ℕ) (is : List ℕ) (ts : List Track) (h : length (followed_from clock (i ∷ is) ts).records ≤ 0) where
    lengths : length (followed_from clock (i ∷ is) ts).records ≡ length (entered_by clock i ts) + length (followed_from clock is (banded_in i ts)).records
    lengths = ap length (followed-records clock i is ts) ∙ length-append (entered_by clock i ts) (followed_from clock is (banded_in i ts)).records

    -- a band that stays changes no track
    stays : Still ts i → banded_in i ts ≡ ts
    stays e = ap (λ (k : ℕ). set ts i (banded (track_at ts i) k)) e ∙ set-get_or ts i no_track

    -- one that changes and writes nothing is left for none
    leaves : (Still ts i → ⊥) → band_at i ts ≡ 0
    leaves n = go (eqb (band_at i ts) 0) refl
      where
        go : (b : Bool) → eqb (band_at i ts) 0 ≡ b → band_at i ts ≡ 0
        go true e = eqb-true (band_at i ts) 0 e
        go false e = absurd (let q = ap length (band-one clock i (track_at ts i) (band_at i ts) n (eqb-false (band_at i ts) 0 e)) in omega (arith, lengths))

    fewer-first : present / 2 ^ i % 2 ≡ 1 → (Still ts i → ⊥) → band_count present (followed_from clock (i ∷ is) ts).tracks < band_count present ts
    fewer-first p n =
        let z = leaves n in
        let a = ap (band_count present) (followed-tracks clock i is ts) in
        omega (arith, lengths, follow-bands is (banded_in i ts), band-left present ts i (band_at i ts) p (λ q. n (z ∙ sym q)) z)

    fewer-later : Still ts i → (length (followed_from clock is ts).records ≤ 0 → band_count present (followed_from clock is ts).tracks < band_count present ts)
        → band_count present (followed_from clock (i ∷ is) ts).tracks < band_count present ts
    fewer-later e ih =
        let a = ap (band_count present) (followed-tracks clock i is ts ∙ ap (λ (us : List Track). (followed_from clock is us).tracks) (stays e)) in
        let b = ap (λ (us : List Track). length (followed_from clock is us).records) (stays e) in
        omega (arith, ih (omega (arith, lengths)))

  -- where nothing is written and a follower's band changes, fewer are held
  pub follow-fewer : (is : List ℕ) (ts : List Track) → Each (λ i. present / 2 ^ i % 2 ≡ 1) is → length (followed_from clock is ts).records ≤ 0
      → (Each (Still ts) is → ⊥) → band_count present (followed_from clock is ts).tracks < band_count present ts
  unfolding Each
  follow-fewer [] ts p h n = absurd (n tt)
  follow-fewer (i ∷ is) ts p h n = go (eqb (band_at i ts) (track_at ts i).band) refl (λ l m. follow-fewer is ts p.1 l m)
    where
      go : (b : Bool) → eqb (band_at i ts) (track_at ts i).band ≡ b
          → (length (followed_from clock is ts).records ≤ 0 → (Each (Still ts) is → ⊥)
          → band_count present (followed_from clock is ts).tracks < band_count present ts)
          → band_count present (followed_from clock (i ∷ is) ts).tracks < band_count present ts
      go true e ih = let s = eqb-true (band_at i ts) (track_at ts i).band e in fewer-later i is ts h s (λ l. ih l (λ a. n (s, a)))
      go false e ih = fewer-first i is ts h p.0 (eqb-false (band_at i ts) (track_at ts i).band e)
