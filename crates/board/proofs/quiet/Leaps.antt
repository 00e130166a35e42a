-- The playing tracks leapt: what the code puts in is that, leaps add up, and what a leap keeps.
use Prim.Native.Nat.{ℕ, zero, suc, ◌+◌, ◌*◌, ◌/◌, ◌%◌, ◌^◌, ◌≤◌, ◌<◌, suc-le-suc}
use mathlib.Core.Path.{◌≡◌, refl, sym, ap, ap₂, ◌∙◌}
use mathlib.Core.Logic.{inl, inr}
use mathlib.Core.Bool.{true}
use mathlib.Core.List.{List, [], ◌∷◌, ◌++◌}
use native.Mathlib.Omega.{arith}
use native.Mathlib.Nat.{zero-lt-suc}
use lib.ListN.{length, set}
use lib.Seq.{get_or_at, set_at, append_snoc, length-take-le, get_or-take}
use borrow.Author.Tests.{eq-eqb}
use Rattle.track.specs.declared.Track.{Track}
use Rattle.track.specs.declared.Ticks.{Ticks}
use Rattle.track.specs.Rule.{PLAYING, clock_end, Valid, Sound}
use Rattle.track.specs.Stride.{stride}
use Rattle.track.specs.Leap.{leap}
use Rattle.track.proofs.Leaps.{leap-zero, leap-add}
use Rattle.board.specs.declared.Board.{Board}
use Rattle.board.specs.Points.{keys_of, infos_of, first_from, point_of, track_count, NonzeroInfos, PointsRule}
use Rattle.board.specs.Board.{no_track, track_at, is_present, Unbroken}
use Rattle.board.specs.Tick.{members, play_bit, playing_word}
use Rattle.board.specs.Quiet.{CanLeap, Leapable, leap_into, where_set, leap_tracks}
use Rattle.board.proofs.rules.Broken.{present-bit, half-bit}
use Rattle.board.proofs.points.Keys.{has_first}
use Rattle.board.proofs.points.Table.{info-has}
use Rattle.board.proofs.quiet.Players.{EachPlaying, SomePlaying, players, bit-plays, members-playing, longer, each-implies, each-playing, each_member}

-- ---- what the code leaps

module _ (k n present : ℕ) (pre us : List Track) (t : Track) (ts : List Track) (l : length pre ≡ n) (l' : length us ≡ n)
    (ih : (y : Track) → leap_into k (pre ++ t ∷ ts) (players (suc n) (present / 2) ts) (us ++ y ∷ ts) ≡ us ++ y ∷ leap_tracks k (present / 2) ts) where
  into-head : (d : ℕ) → play_bit (present % 2) t ≡ d
      → leap_into k (pre ++ t ∷ ts) (players n present (t ∷ ts)) (us ++ t ∷ ts) ≡ us ++ leap_tracks k present (t ∷ ts)
  unfolding players leap_into leap_tracks
  into-head zero e = rw e (ih t)
  into-head (suc d) e =
      rw e
      (ap (leap_into k (pre ++ t ∷ ts) (players (suc n) (present / 2) ts))
      (ap (λ (y : Track). set (us ++ t ∷ ts) n (leap y k)) (get_or_at pre t ts no_track n l) ∙ set_at us t ts (leap t k) n l')
      ∙ ih (leap t k))

into-list : (k n present : ℕ) (pre us ts : List Track) → length pre ≡ n → length us ≡ n
    → leap_into k (pre ++ ts) (players n present ts) (us ++ ts) ≡ us ++ leap_tracks k present ts
unfolding players leap_into leap_tracks
into-list k n present pre us [] l l' = refl
into-list k n present pre us (t ∷ ts) l l' =
    into-head k n present pre us t ts l l'
    (λ y.
    ap₂ (λ (xs ys : List Track). leap_into k xs (players (suc n) (present / 2) ts) ys) (sym (append_snoc pre t ts)) (sym (append_snoc us y ts))
    ∙ into-list k (suc n) (present / 2) (pre ++ (t ∷ [])) (us ++ (y ∷ [])) ts (longer pre t l) (longer us y l')
    ∙ append_snoc us y (leap_tracks k (present / 2) ts))
    (play_bit (present % 2) t) refl

-- the members of the playing word leapt in their places are the playing tracks leapt
pub leap-into : (k present : ℕ) (ts : List Track) → length ts ≡ track_count
    → leap_into k ts (members (playing_word present ts)) ts ≡ leap_tracks k present ts
leap-into k present ts l = ap (λ (ms : List ℕ). leap_into k ts ms ts) (members-playing present ts l) ∙ into-list k 0 present [] [] ts refl refl

-- ---- what a leap keeps

-- a playing track is leapt, any other stands; a leap changes no bit of the playing word
pub leapt-cases : (P : ℕ → Track → Type 0) (k d : ℕ) (t : Track) → (play_bit d t ≡ 0 → P 0 t)
    → ((m : ℕ) → play_bit d t ≡ suc m → P (suc m) (leap t k))
    → P (play_bit d (where_set (play_bit d t) (leap t k) t)) (where_set (play_bit d t) (leap t k) t)
unfolding leap stride
leapt-cases P k d t f g = go (play_bit d t) refl
  where
    go : (m : ℕ) → play_bit d t ≡ m → P (play_bit d (where_set m (leap t k) t)) (where_set m (leap t k) t)
    go zero e = rw e (f e)
    go (suc m) e = rw e (g m e)

-- there are as many tracks
pub leap-tracks-long : (k present : ℕ) (ts : List Track) → length (leap_tracks k present ts) ≡ length ts
unfolding leap_tracks
leap-tracks-long k present [] = refl
leap-tracks-long k present (t ∷ ts) = ap suc (leap-tracks-long k (present / 2) ts)

-- the same tracks play
pub leap-tracks-word : (k present : ℕ) (ts : List Track) → playing_word present (leap_tracks k present ts) ≡ playing_word present ts
unfolding playing_word leap_tracks
leap-tracks-word k present [] = refl
leap-tracks-word k present (t ∷ ts) =
    ap₂ (λ (a b : ℕ). a + b * 2)
    (leapt-cases (λ (m : ℕ) (x : Track). m ≡ play_bit (present % 2) t) k (present % 2) t (λ e. sym e) (λ m e. sym e))
    (leap-tracks-word k (present / 2) ts)

-- ---- leaps add up

module _ (P : ℕ → Track → Type 0) (k : ℕ) where
  -- what holds of every playing track leapt holds of every playing track after the leap
  pub each-leapt : (n present : ℕ) (ts : List Track) → EachPlaying (λ n t. P n (leap t k)) n present ts → EachPlaying P n present (leap_tracks k present ts)
  unfolding EachPlaying leap_tracks
  each-leapt n present [] a = tt
  each-leapt n present (t ∷ ts) a = (
    leapt-cases (λ (m : ℕ) (x : Track). 0 < m → P n x) k (present % 2) t (λ e h. absurd (omega arith)) (λ m e h. a.0 (omega arith)),
    each-leapt (suc n) (present / 2) ts a.1,
  )

  -- what holds of some playing track leapt holds of some playing track after the leap
  pub some-leapt : (n present : ℕ) (ts : List Track) → SomePlaying (λ n t. P n (leap t k)) n present ts → SomePlaying P n present (leap_tracks k present ts)
  unfolding SomePlaying leap_tracks
  some-leapt n present [] a = absurd a
  some-leapt n present (t ∷ ts) (inl a) =
      inl
      (leapt-cases (λ (m : ℕ) (x : Track). (0 < m) × P n x) k (present % 2) t (λ e. absurd (omega arith)) (λ m e. (omega arith, a.1)))
  some-leapt n present (t ∷ ts) (inr a) = inr (some-leapt (suc n) (present / 2) ts a)

abbrev Fine : ℕ → ℕ → List Track → Type 0
Fine = EachPlaying (λ n t. Valid t)

head-zero : (d : ℕ) (t : Track) → (0 < d → Valid t) → where_set d (leap t 0) t ≡ t
head-zero zero t v = refl
head-zero (suc d) t v = leap-zero t (v (omega arith))

zero-list : (n present : ℕ) (ts : List Track) → Fine n present ts → leap_tracks 0 present ts ≡ ts
unfolding EachPlaying leap_tracks
zero-list n present [] a = refl
zero-list n present (t ∷ ts) a =
    ap₂ (λ (x : Track) (xs : List Track). x ∷ xs) (head-zero (play_bit (present % 2) t) t a.0) (zero-list (suc n) (present / 2) ts a.1)

head-add : (a b d : ℕ) (t : Track) → (0 < play_bit d t → Valid t)
    → where_set (play_bit d (where_set (play_bit d t) (leap t a) t)) (leap (where_set (play_bit d t) (leap t a) t) b) (where_set (play_bit d t) (leap t a) t)
    ≡ where_set (play_bit d t) (leap t (a + b)) t
head-add a b d t v =
    leapt-cases (λ (m : ℕ) (x : Track). where_set m (leap x b) x ≡ where_set (play_bit d t) (leap t (a + b)) t) a d t
    (λ e. sym (ap (λ (m : ℕ). where_set m (leap t (a + b)) t) e))
    (λ m e. leap-add t (v (omega arith)) a b ∙ sym (ap (λ (m : ℕ). where_set m (leap t (a + b)) t) e))

add-list : (a b n present : ℕ) (ts : List Track) → Fine n present ts → leap_tracks b present (leap_tracks a present ts) ≡ leap_tracks (a + b) present ts
unfolding EachPlaying leap_tracks
add-list a b n present [] f = refl
add-list a b n present (t ∷ ts) f =
    ap₂ (λ (x : Track) (xs : List Track). x ∷ xs) (head-add a b (present % 2) t f.0) (add-list a b (suc n) (present / 2) ts f.1)

module _ (present : ℕ) (ts : List Track) (l : length ts ≡ track_count) (leapable : Leapable ts (members (playing_word present ts))) where
  -- playing tracks that can be leapt are valid
  pub leapable-valid : EachPlaying (λ n t. Valid t) 0 present ts
  leapable-valid = each-implies (λ n t. CanLeap t) (λ n t. Valid t) (λ n t a. a.valid) 0 present ts (each-playing (λ n t. CanLeap t) present ts l leapable)

  -- no tick leapt is no change
  pub leap-tracks-zero : leap_tracks 0 present ts ≡ ts
  leap-tracks-zero = zero-list 0 present ts leapable-valid

  -- two leaps are one
  pub leap-tracks-add : (a b : ℕ) → leap_tracks b present (leap_tracks a present ts) ≡ leap_tracks (a + b) present ts
  leap-tracks-add a b = add-list a b 0 present ts leapable-valid

-- ---- which tracks can be leapt

each-present : (P : Track → Type 0) (n present : ℕ) (ts : List Track)
    → ((j : ℕ) → j < length ts → 0 < present / 2 ^ j % 2 → (track_at ts j).mode ≡ PLAYING → P (track_at ts j))
    → EachPlaying (λ n t. P t) n present ts
unfolding EachPlaying
each-present P n present [] f = tt
each-present P n present (t ∷ ts) f = (
  λ h. f 0 (zero-lt-suc (length ts)) (let b = bit-plays (present % 2) t h in omega arith) (bit-plays (present % 2) t h).0,
  each-present P (suc n) (present / 2) ts (λ j m b p. f (suc j) (suc-le-suc m) (rw (half-bit present j) at b) p),
)

-- the playing ones, where the present ones keep the rules
pub sound-leapable : (present : ℕ) (ts : List Track) (clock : Ticks) → length ts ≡ track_count → clock.0 ≤ clock_end
    → ((i : ℕ) → is_present present i ≡ true → Sound (track_at ts i) clock) → Leapable ts (members (playing_word present ts))
sound-leapable present ts clock l c f =
    each_member (λ n t. CanLeap t) present ts l
    (each-present CanLeap 0 present ts
    (λ j m b p.
    let e : present / 2 ^ j % 2 ≡ 1 = omega arith in
    let s = f j (sym (present-bit present j (omega arith)) ∙ eq-eqb (present / 2 ^ j % 2) 1 e) in
    record { valid = s.valid; plays = p; passes = omega (arith, s.passes) }))

-- ---- an unbroken board

module _ (b : Board) (u : Unbroken b) where
  -- its playing tracks can be leapt
  pub unbroken-leapable : Leapable b.tracks (members (playing_word b.present b.tracks))
  unbroken-leapable = sound-leapable b.present b.tracks b.clock u.shape.tracks u.clock u.tracks

  -- an event is at least 1, so that an info of 0 says that there is no point
  pub unbroken-infos : NonzeroInfos (keys_of b.points) (infos_of b.points)
  unfolding point_of
  unbroken-infos k h z =
      let n = b.points.count in
      let ks = keys_of b.points in
      let j = first_from ks k in
      let c = u.count in
      let lk = length-take-le n b.points.keys (omega (arith, u.shape.keys)) in
      let li = length-take-le n b.points.infos (omega (arith, u.shape.infos)) in
      let l : j < n = omega (arith, (has_first k j ks u.order refl h).0) in
      let e = info-has k ks (infos_of b.points) u.order (lk ∙ sym li) h in
      let g = get_or-take n b.points.infos j 0 l in
      let r = (u.points j l).event.0 in
      omega arith

  -- its points are as lookups rely on them
  pub unbroken-points : PointsRule b.points
  unbroken-points = record { keys = u.shape.keys; infos = u.shape.infos; count = u.count; order = u.order; nonzero = unbroken-infos }
