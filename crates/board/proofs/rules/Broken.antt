-- What makes a board broken: the tests and the rules say the same.
use Prim.Native.Nat.{ℕ, zero, suc, ◌+◌, ◌/◌, ◌%◌, ◌^◌, ◌≤◌, ◌<◌, suc-le-suc}
use mathlib.Core.Path.{◌≡◌, refl, sym, ◌∙◌, ap, subst}
use mathlib.Core.Bool.{Bool, true, false, cond, not, ◌&&◌, ◌||◌, and-false}
use mathlib.Core.List.{List, [], ◌∷◌}
use native.Mathlib.Nat.{le_of_suc-le-suc, not-suc-le-zero, zero-lt-suc, pow-suc, div-div-eq-div-mul, mul_comm}
use native.Mathlib.Omega.{arith}
use lib.Dec.{leb, ltb, eqb}
use lib.ListN.{length, get_or, take}
use lib.Seq.{length-take-le, get_or-take}
use borrow.Author.Tests.{eqb-true, ltb-true, leb-true, lt-ltb, le-ltb, le-leb, eq-eqb}
use Rattle.track.specs.declared.Track.{Track}
use Rattle.track.specs.declared.Ticks.{Ticks}
use Rattle.track.specs.Rule.{clock_end, Sound, sound_test, event_most}
use Rattle.track.proofs.Tests.{both, both_is}
use Rattle.track.proofs.Checks.{sound-of, sound-is}
use Rattle.track.specs.Follow.{follows, thresholds_of, banded, Follower, follower_test}
use Rattle.track.proofs.Follows.{SameFollower, follower-of, follower-is, follower-same, follower-later, follower-banded, follower-sound}
use Rattle.board.specs.declared.Board.{Board}
use Rattle.board.specs.declared.points.Point.{Point}
use Rattle.board.specs.Points.{point_most, ascending_from, point_of, track_count}
use Rattle.board.specs.Board.{track_at, is_present, master_test, PointRule, Unbroken, track_test, tracks_test, place_test, allowed_test, points_test, shape_test, unbroken_parts, unbroken_test, board_of, rows_whole}

-- ---- presence

pub present-not : (word i : ℕ) → track_count ≤ i → false ≡ is_present word i
unfolding is_present
present-not word i h = simp (le-ltb i track_count h)

pub present-bit : (word i : ℕ) → i < track_count → eqb (word / 2 ^ i % 2) 1 ≡ is_present word i
unfolding is_present
present-bit word i h = simp (lt-ltb i track_count h)

-- a present track has a number below 16
pub present-small : (word i : ℕ) → is_present word i ≡ true → i < track_count
unfolding is_present
present-small word i h = ltb-true _ _ (both (ltb i track_count) (eqb (word / 2 ^ i % 2) 1) h).0

pub present-set : (word i : ℕ) → is_present word i ≡ true → word / 2 ^ i % 2 ≡ 1
unfolding is_present
present-set word i h = eqb-true _ _ (both (ltb i track_count) (eqb (word / 2 ^ i % 2) 1) h).1

-- ---- the tracks

-- bit i + 1 of a word is bit i of its half
pub half-bit : (word i : ℕ) → word / 2 / 2 ^ i ≡ word / 2 ^ suc i
half-bit word i = div-div-eq-div-mul word 2 (2 ^ i) ∙ ap (λ (m : ℕ). word / m) (mul_comm 2 (2 ^ i) ∙ sym (pow-suc 2 i))

-- a present track, number i, that keeps every range and rule
pub record Kept (present i : ℕ) (t : Track) (clock : Ticks) : Type 0 where
  pub sound : Sound t clock
  pub follower : Follower t clock
  pub master : master_test present i t ≡ true

module _ (present i : ℕ) (t : Track) (clock : Ticks) where
  kept_of : track_test present i t clock ≡ true → Kept present i t clock
  unfolding track_test
  kept_of h =
      let a = both (sound_test t clock) (follower_test t clock && master_test present i t) h in
      let b = both (follower_test t clock) (master_test present i t) a.1 in
      record { sound = sound-of t a.0; follower = follower-of t clock b.0; master = b.1 }

  kept-is : Kept present i t clock → track_test present i t clock ≡ true
  unfolding track_test
  kept-is k = both_is (sym (sound-is t k.sound)) (both_is (sym (follower-is t clock k.follower)) k.master)

-- a track with the same master and thresholds has one that is present, or none, as the other does
pub master-same : (present i : ℕ) {t u : Track} → SameFollower t u → master_test present i u ≡ master_test present i t
unfolding master_test
master-same present i s =
    λ j. cond (not (eqb (get_or (s.thresholds j) 0 0) 0)) (is_present present (s.master j) && not (eqb (s.master j) i)) (eqb (s.master j) 0)

-- and so it does where those present stay so
pub master-still : (word word' i : ℕ) (t : Track) → ((j : ℕ) → is_present word j ≡ true → is_present word' j ≡ true) →
    master_test word i t ≡ true → master_test word' i t ≡ true
unfolding master_test
master-still word word' i t still = go (follows t)
  where
    go : (f : Bool) → cond f (is_present word t.master && not (eqb t.master i)) (eqb t.master 0) ≡ true →
        cond f (is_present word' t.master && not (eqb t.master i)) (eqb t.master 0) ≡ true
    go true e =
        let b = both (is_present word t.master) (not (eqb t.master i)) e in
        both_is (still t.master b.0) b.1
    go false e = e

-- a track that follows as another does, sound by then, keeps the rules as the other did
pub kept_same : {present i : ℕ} {t u : Track} {now later : Ticks} → Kept present i t now → now.0 ≤ later.0 → SameFollower t u → Sound u later →
    Kept present i u later
kept_same {present} {i} k l s sound =
    record { sound = sound; follower = follower-same s (follower-later l k.follower); master = master-same present i s ∙ k.master }

-- and with another band of its thresholds, but at clock 0
pub kept-banded : {present i : ℕ} {t : Track} {clock : Ticks} (k : ℕ) → 0 < clock.0 → k ≤ length (thresholds_of t) → Kept present i t clock →
    Kept present i (banded t k) clock
unfolding master_test
kept-banded k c l h =
    record { sound = follower-sound h.sound; follower = follower-banded k c l h.follower; master = h.master }

-- the tracks that the word says are present keep the rules, where the test holds; the first of them has the number n
pub tracks-at : (ts : List Track) (present word n : ℕ) (clock : Ticks) → tracks_test present word n ts clock ≡ true →
    (i j : ℕ) → n + i ≡ j → i < length ts → word / 2 ^ i % 2 ≡ 1 → Kept present j (track_at ts i) clock
unfolding tracks_test
tracks-at [] present word n clock h i j q l e = absurd (not-suc-le-zero l)
tracks-at (t ∷ ts) present word n clock h zero j q l e =
    let b = both (not (eqb (word % 2) 1) || track_test present n t clock) (tracks_test present (word / 2) (suc n) ts clock) h in
    let w : word % 2 ≡ 1 = omega arith in
    let same : n ≡ j = omega arith in
    subst (λ (k : ℕ). Kept present k t clock) same (kept_of present n t clock (simp (eq-eqb (word % 2) 1 w) at b.0))
tracks-at (t ∷ ts) present word n clock h (suc i) j q l e =
    let b = both (not (eqb (word % 2) 1) || track_test present n t clock) (tracks_test present (word / 2) (suc n) ts clock) h in
    tracks-at ts present (word / 2) (suc n) clock b.1 i j (omega arith) (le_of_suc-le-suc l) (ap (λ (m : ℕ). m % 2) (half-bit word i) ∙ e)

-- and the test holds where they do
pub tracks-are : (ts : List Track) (present word n : ℕ) (clock : Ticks) →
    ((i j : ℕ) → n + i ≡ j → i < length ts → word / 2 ^ i % 2 ≡ 1 → Kept present j (track_at ts i) clock) →
    tracks_test present word n ts clock ≡ true
unfolding tracks_test
tracks-are [] present word n clock h = refl
tracks-are (t ∷ ts) present word n clock h =
    both_is (first (eqb (word % 2) 1) refl)
    (tracks-are ts present (word / 2) (suc n) clock
    (λ i j q l e. h (suc i) j (omega arith) (suc-le-suc l) (ap (λ (m : ℕ). m % 2) (sym (half-bit word i)) ∙ e)))
  where
    first : (b : Bool) → eqb (word % 2) 1 ≡ b → (not b || track_test present n t clock) ≡ true
    first true e =
        kept-is present n t clock
        (h zero n (omega arith) (zero-lt-suc (length ts)) (let w = eqb-true (word % 2) 1 e in omega arith))
    first false e = refl

-- ---- the points

module _ (present : ℕ) (ts : List Track) (p : Point) where
  owner : Track
  owner = track_at ts p.track

  target : Bool
  target = cond (eqb p.command 0) (eqb p.target 0) (is_present present p.target)

  pub point-of : place_test present (track_at ts p.track) p ≡ true → allowed_test present p ≡ true → PointRule present ts p
  unfolding place_test allowed_test owner target
  point-of h k =
      let a = both (is_present present p.track) (leb owner.min.0 p.position.0 && leb p.position.0 owner.max.0) h in
      let b = both (leb owner.min.0 p.position.0) (leb p.position.0 owner.max.0) a.1 in
      let e = both (leb 1 p.event) (leb p.event event_most && (leb p.wait 1 && (leb p.command 4 && target))) k in
      let f = both (leb p.event event_most) (leb p.wait 1 && (leb p.command 4 && target)) e.1 in
      let w = both (leb p.wait 1) (leb p.command 4 && target) f.1 in
      let g = both (leb p.command 4) target w.1 in
      record {
        track = a.0;
        low = leb-true _ _ b.0;
        high = leb-true _ _ b.1;
        event = (leb-true _ _ e.0, leb-true _ _ f.0);
        wait = leb-true _ _ w.0;
        command = leb-true _ _ g.0;
        target = g.1;
      }

  point-is : PointRule present ts p → (place_test present (track_at ts p.track) p ≡ true) × (allowed_test present p ≡ true)
  unfolding place_test allowed_test
  point-is r = (
    both_is r.track (both_is (le-leb _ _ r.low) (le-leb _ _ r.high)),
    both_is (le-leb _ _ r.event.0) (both_is (le-leb _ _ r.event.1) (both_is (le-leb _ _ r.wait) (both_is (le-leb _ _ r.command) r.target))),
  )

module _ (present : ℕ) (ts : List Track) where
  -- every entry of two rows keeps the rules of a point
  abbrev pub Entries : List ℕ → List ℕ → Type 0
  Entries ks ds = (j : ℕ) → j < length ks → PointRule present ts (point_of (get_or ks j 0) (get_or ds j 0))

  points-of : (lo : ℕ) (ks ds : List ℕ) → length ks ≤ length ds → points_test present ts lo ks ds ≡ true →
      (ascending_from lo ks ≡ true) × Entries ks ds
  unfolding points_test ascending_from
  points-of lo [] ds l h = (refl, λ j m. absurd (not-suc-le-zero m))
  points-of lo (k ∷ ks) [] l h = absurd (not-suc-le-zero l)
  points-of lo (k ∷ ks) (d ∷ ds) l h =
      let p = point_of k d in
      let place = place_test present (track_at ts p.track) p in
      let rest = points_test present ts (suc k) ks ds in
      let a = both (leb lo k) (place && (allowed_test present p && rest)) h in
      let b = both place (allowed_test present p && rest) a.1 in
      let c = both (allowed_test present p) rest b.1 in
      let r = points-of (suc k) ks ds (le_of_suc-le-suc l) c.1 in
      (both_is a.0 r.0, at (point-of present ts p b.0 c.0) r.1)
    where
      at : PointRule present ts (point_of k d) → Entries ks ds → Entries (k ∷ ks) (d ∷ ds)
      at here there zero m = here
      at here there (suc j) m = there j (le_of_suc-le-suc m)

  points_are : (lo : ℕ) (ks ds : List ℕ) → ascending_from lo ks ≡ true → Entries ks ds → points_test present ts lo ks ds ≡ true
  unfolding points_test ascending_from
  points_are lo [] ds a e = refl
  points_are lo (k ∷ ks) [] a e = refl
  points_are lo (k ∷ ks) (d ∷ ds) a e =
      let b = both (leb lo k) (ascending_from (suc k) ks) a in
      let p = point-is present ts (point_of k d) (e zero (zero-lt-suc (length ks))) in
      both_is b.0 (both_is p.0 (both_is p.1 (points_are (suc k) ks ds b.1 (λ j m. e (suc j) (suc-le-suc m)))))

-- ---- the board

module _ (present : ℕ) (ts : List Track) (keys infos : List ℕ) where
  shape_of : shape_test present ts keys infos ≡ true →
      (length ts ≡ track_count) × (present < 2 ^ track_count) × (length keys ≡ point_most) × (length infos ≡ point_most)
  unfolding shape_test
  shape_of h =
      let last = eqb (length keys) point_most && eqb (length infos) point_most in
      let a = both (eqb (length ts) track_count) (ltb present (2 ^ track_count) && last) h in
      let b = both (ltb present (2 ^ track_count)) last a.1 in
      let c = both (eqb (length keys) point_most) (eqb (length infos) point_most) b.1 in
      (eqb-true _ _ a.0, ltb-true _ _ b.0, eqb-true _ _ c.0, eqb-true _ _ c.1)

  pub shape_is : length ts ≡ track_count → present < 2 ^ track_count → length keys ≡ point_most → length infos ≡ point_most →
      shape_test present ts keys infos ≡ true
  unfolding shape_test
  shape_is t p k i = both_is (eq-eqb _ _ t) (both_is (lt-ltb _ _ p) (both_is (eq-eqb _ _ k) (eq-eqb _ _ i)))

-- tracks of the same number have the same shape
pub shape_same : (present : ℕ) (ts us : List Track) (keys infos : List ℕ) → length us ≡ length ts →
    shape_test present us keys infos ≡ shape_test present ts keys infos
unfolding shape_test
shape_same present ts us keys infos e =
    ap (λ (n : ℕ). eqb n track_count && (ltb present (2 ^ track_count) && (eqb (length keys) point_most && eqb (length infos) point_most))) e

module _ (b : Board) where
  -- a board that passes the test keeps the rules
  pub unbroken-of : unbroken_test b ≡ true → Unbroken b
  unfolding unbroken_parts
  unbroken-of h =
      let n = b.points.count in
      let ks = take n b.points.keys in
      let ds = take n b.points.infos in
      let tests = points_test b.present b.tracks 0 ks ds in
      let shape = shape_test b.present b.tracks b.points.keys b.points.infos in
      let tracks = tracks_test b.present b.present 0 b.tracks b.clock in
      let p = both (leb b.clock.0 clock_end) (leb n point_most && (tracks && (tests && shape))) h in
      let q = both (leb n point_most) (tracks && (tests && shape)) p.1 in
      let r = both tracks (tests && shape) q.1 in
      let t = both tests shape r.1 in
      let s = shape_of b.present b.tracks b.points.keys b.points.infos t.1 in
      let m : n ≤ point_most = leb-true _ _ q.0 in
      let lk : length ks ≡ n = length-take-le n b.points.keys (omega (arith, s.2)) in
      let ld : length ds ≡ n = length-take-le n b.points.infos (omega (arith, s.3)) in
      let e = points-of b.present b.tracks 0 ks ds (omega arith) t.0 in
      let kept : (i : ℕ) → is_present b.present i ≡ true → Kept b.present i (track_at b.tracks i) b.clock =
      λ i h. tracks-at b.tracks b.present b.present 0 b.clock r.0 i i (omega arith)
      (let l = present-small b.present i h in omega (arith, s.0)) (present-set b.present i h) in
      record {
        shape = record { tracks = s.0; present = s.1; keys = s.2; infos = s.3 };
        clock = leb-true _ _ p.0;
        tracks = λ i h. (kept i h).sound;
        followers = λ i h. (kept i h).follower;
        masters = λ i h. (kept i h).master;
        count = m;
        order = e.0;
        points = λ j l.
            let x = get_or-take n b.points.keys j 0 l in
            let y = get_or-take n b.points.infos j 0 l in
            rw (x, y) at (e.1 j (omega (arith, lk)));
      }

  -- its present tracks keep theirs
  pub kept_at : Unbroken b → (i : ℕ) → is_present b.present i ≡ true → Kept b.present i (track_at b.tracks i) b.clock
  kept_at u i h = record { sound = u.tracks i h; follower = u.followers i h; master = u.masters i h }

  -- and a board that keeps them passes it
  pub unbroken-is : Unbroken b → unbroken_test b ≡ true
  unfolding unbroken_parts
  unbroken-is u =
      let n = b.points.count in
      let ks = take n b.points.keys in
      let ds = take n b.points.infos in
      let s = u.shape in
      let lk : length ks ≡ n = length-take-le n b.points.keys (omega (arith, s.keys, u.count)) in
      both_is (le-leb _ _ u.clock)
      (both_is (le-leb _ _ u.count)
      (both_is
      (tracks-are b.tracks b.present b.present 0 b.clock
      (λ i j q l e.
      let same : i ≡ j = omega arith in
      subst (λ (k : ℕ). Kept b.present k (track_at b.tracks i) b.clock) same
      (kept_at u i (sym (present-bit b.present i (omega (arith, s.tracks))) ∙ eq-eqb _ _ e))))
      (both_is
      (points_are b.present b.tracks 0 ks ds u.order
      (λ j l.
      let m : j < n = omega (arith, lk) in
      let x = get_or-take n b.points.keys j 0 m in
      let y = get_or-take n b.points.infos j 0 m in
      rw (x, y) (u.points j m)))
      (shape_is b.present b.tracks b.points.keys b.points.infos s.tracks s.present s.keys s.infos))))

-- ---- parts with rows of another length are a broken board's
pub parts-broken : (ts : List Track) (present : ℕ) (keys infos : List ℕ) (n clock held : ℕ) → rows_whole keys infos ≡ false
    → unbroken_test (board_of ts present keys infos n clock held) ≡ false
unfolding unbroken_parts shape_test
parts-broken ts present keys infos n clock held h = simp (h, and-false)
