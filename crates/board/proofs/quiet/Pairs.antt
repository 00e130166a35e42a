-- Followers and their masters on tracks that are leapt: a present track goes as a single one does, so that a stretch in which the pairs are
-- steady leaves every band.
use Prim.Native.Nat.{ℕ, zero, suc, ◌/◌, ◌%◌, ◌^◌, ◌≤◌, ◌<◌}
use mathlib.Core.Path.{◌≡◌, refl, sym, ap, ap₂, ◌∙◌}
use mathlib.Core.Logic.{◌⊎◌, inl, inr, ⊎_elim}
use mathlib.Core.Bool.{Bool, true, false, cond}
use mathlib.Core.List.{List, [], ◌∷◌}
use native.Mathlib.Nat.{div-one}
use lib.Dec.{eqb}
use Rattle.track.specs.declared.Track.{Track}
use Rattle.track.specs.Rule.{PLAYING}
use Rattle.track.specs.Leap.{leap}
use Rattle.track.specs.Follow.{judged}
use Rattle.board.specs.declared.Board.{Board}
use Rattle.board.specs.Board.{track_at, is_present, Unbroken}
use Rattle.board.specs.Tick.{members, play_bit, follow_word}
use Rattle.board.specs.Replay.{Each}
use Rattle.board.specs.Steady.{goes, SteadyFor}
use Rattle.board.specs.Quiet.{AnyOf, master_of, WithMaster, where_set, leap_tracks}
use Rattle.board.proofs.rules.Broken.{present-set, half-bit, kept_at}
use Rattle.board.proofs.follow.Following.{Still, each-follower}
use Rattle.board.proofs.follow.Rules.{kept-number, kept-lead}
use Rattle.board.proofs.quiet.Bands.{leapt-follower}

-- these followers and their masters are present
abbrev pub Mastered : ℕ → List Track → List ℕ → Type 0
Mastered present ts fs = Each (λ i. (is_present present i ≡ true) × (is_present present (track_at ts i).master ≡ true)) fs

-- ---- what a leap leaves of a present track

head-goes : (k d : ℕ) (t : Track) → d ≡ 1 → where_set (play_bit d t) (leap t k) t ≡ goes k t
unfolding goes
head-goes k d t e = ap (λ (m : ℕ). where_set (play_bit m t) (leap t k) t) e ∙ go (eqb t.mode PLAYING)
  where
    go : (b : Bool) → where_set (cond b 1 0) (leap t k) t ≡ cond b (leap t k) t
    go true = refl
    go false = refl

at-bit : (k i present : ℕ) (ts : List Track) → present / 2 ^ i % 2 ≡ 1 → track_at (leap_tracks k present ts) i ≡ goes k (track_at ts i)
unfolding leap_tracks goes
at-bit k i present [] e = refl
at-bit k zero present (t ∷ ts) e = head-goes k (present % 2) t (ap (λ (m : ℕ). m % 2) (sym (div-one present)) ∙ e)
at-bit k (suc i) present (t ∷ ts) e = at-bit k i (present / 2) ts (ap (λ (m : ℕ). m % 2) (half-bit present i) ∙ e)

module _ (k present : ℕ) (ts : List Track) where
  -- a present track goes
  pub leap-tracks-at : (i : ℕ) → is_present present i ≡ true → track_at (leap_tracks k present ts) i ≡ goes k (track_at ts i)
  leap-tracks-at i h = at-bit k i present ts (present-set present i h)

  -- and so does its master
  pub leap-master-at : (i : ℕ) → is_present present i ≡ true → is_present present (track_at ts i).master ≡ true
      → master_of (leap_tracks k present ts) i ≡ goes k (master_of ts i)
  leap-master-at i h m =
      ap (λ (j : ℕ). track_at (leap_tracks k present ts) j) (leapt-follower k present ts i).master ∙ leap-tracks-at (track_at ts i).master m

  judged-at : (i : ℕ) → is_present present i ≡ true → is_present present (track_at ts i).master ≡ true
      → judged (track_at (leap_tracks k present ts) i) (master_of (leap_tracks k present ts) i) ≡ judged (goes k (track_at ts i)) (goes k (master_of ts i))
  judged-at i h m = ap₂ judged (leap-tracks-at i h) (leap-master-at i h m)

module _ (present : ℕ) (ts : List Track) where
  -- after each tick of a steady stretch every follower is judged to be in the band that it holds
  pub steady-still : (r n : ℕ) → 0 < n → n ≤ r → (fs : List ℕ) → Mastered present ts fs → Each (λ i. SteadyFor r (track_at ts i) (master_of ts i)) fs
      → Each (Still (leap_tracks n present ts)) fs
  unfolding Each
  steady-still r n p l [] m s = tt
  steady-still r n p l (i ∷ fs) m s = (
    judged-at n present ts i m.0.0 m.0.1 ∙ s.0 n p l ∙ sym (leapt-follower n present ts i).band,
    steady-still r n p l fs m.1 s.1,
  )

  -- a band that does not stay in the tick behind a stretch
  pub unsteady-changes : (n : ℕ) (fs : List ℕ) → Mastered present ts fs
      → AnyOf (λ i. judged (goes n (track_at ts i)) (goes n (master_of ts i)) ≡ (track_at ts i).band → ⊥) fs
      → AnyOf (λ i. Still (leap_tracks n present ts) i → ⊥) fs
  unfolding Each AnyOf
  unsteady-changes n [] m s = s
  unsteady-changes n (i ∷ fs) m (inl s) =
      inl (λ h. s (sym (judged-at n present ts i m.0.0 m.0.1) ∙ h ∙ (leapt-follower n present ts i).band))
  unsteady-changes n (i ∷ fs) m (inr s) = inr (unsteady-changes n fs m.1 s)

-- ---- lists of numbers

-- a test that all pass, or that one fails
pub all-or-one : (f : ℕ → Bool) (is : List ℕ) → Each (λ i. f i ≡ false) is ⊎ AnyOf (λ i. f i ≡ true) is
unfolding Each AnyOf
all-or-one f [] = inl tt
all-or-one f (i ∷ is) = go (f i) refl (all-or-one f is)
  where
    go : (b : Bool) → f i ≡ b → Each (λ i. f i ≡ false) is ⊎ AnyOf (λ i. f i ≡ true) is
        → ((f i ≡ false) × Each (λ i. f i ≡ false) is) ⊎ ((f i ≡ true) ⊎ AnyOf (λ i. f i ≡ true) is)
    go true e r = inr (inl e)
    go false e (inl a) = inl (e, a)
    go false e (inr s) = inr (inr s)

-- one of two ways for some number is one way for some number, or the other
pub some-either : (P Q : ℕ → Type 0) (is : List ℕ) → AnyOf (λ i. P i ⊎ Q i) is → AnyOf P is ⊎ AnyOf Q is
unfolding AnyOf
some-either P Q [] s = absurd s
some-either P Q (i ∷ is) (inl (inl p)) = inl (inl p)
some-either P Q (i ∷ is) (inl (inr q)) = inr (inl q)
some-either P Q (i ∷ is) (inr s) = ⊎_elim (λ a. inl (inr a)) (λ b. inr (inr b)) (some-either P Q is s)

-- ---- an unbroken board

module _ (b : Board) (u : Unbroken b) where
  -- its followers and their masters are present
  pub unbroken-mastered : Mastered b.present b.tracks (members (follow_word b.present b.tracks))
  unbroken-mastered =
      each-follower b.present b.tracks
      (λ i. (is_present b.present i ≡ true) × (is_present b.present (track_at b.tracks i).master ≡ true))
      (λ i h f. (h, kept-lead (kept_at b u i h) f))

  -- and keep their rules
  pub unbroken-paired : Each (WithMaster b.tracks) (members (follow_word b.present b.tracks))
  unbroken-paired =
      each-follower b.present b.tracks (WithMaster b.tracks)
      (λ i h f.
      let k = kept_at b u i h in
      record {
        master = kept-number k;
        valid = k.sound.valid;
        valid_master = (u.tracks (track_at b.tracks i).master (kept-lead k f)).valid;
        pairs = k.follower.pairs;
        band = k.follower.band;
      })
