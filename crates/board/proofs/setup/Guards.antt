-- What the guards of a call let through.
use Rattle.std.specs.Prelude.{Option, Some, None, Ok}
use Prim.Native.Nat.{ℕ, zero, suc, ◌+◌, ◌*◌, ◌/◌, ◌%◌, ◌^◌, ◌-◌, ◌≤◌, ◌<◌, suc-le-suc}
use mathlib.Core.Path.{◌≡◌, refl, sym, ◌∙◌, ap, subst}
use mathlib.Core.Bool.{Bool, true, false, cond, ◌&&◌}
use mathlib.Core.List.{List, [], ◌∷◌}
use native.Mathlib.Nat.{zero-lt-suc, div-add-mod'}
use native.Mathlib.Omega.{arith}
use lib.Dec.{eqb, leb, ltb}
use lib.ListN.{get_or, length, set}
use lib.Seq.{length-take-le, get_or-take}
use lib.IntN.{ℤ}
use lib.Signed.{le_z}
use borrow.Author.Tests.{eqb-true, eq-eqb, ne_eqb, leb-true, ltb-true, le-leb, lt-ltb}
use Rattle.track.specs.Number.{natural_of, on_some, within, coordinate_of, value_of, clamped_of}
use Rattle.board.specs.Board.{is_present, Unbroken, PointRule, track_at, allowed_test, place_test}
use Rattle.track.specs.declared.Coordinate.{Coordinate}
use Rattle.track.specs.declared.Track.{Track}
use Rattle.board.specs.declared.points.Point.{Point}
use Rattle.board.specs.Points.{Stored, stored_as}
use Rattle.board.specs.declared.points.Points.{Points}
use Rattle.board.specs.Setup.{Outcome}
use Rattle.track.specs.Rule.{coordinate_last, event_most}
use Rattle.track.proofs.Numbers.{between-clamped, clamped-most, natural-in, within_in}
use Rattle.track.proofs.Tests.{both, both_is, same_tests}
use Rattle.board.specs.Points.{stride, keys_of, infos_of, info_at, point_of, count_of, between, command_of, target_of, key_end, info_end}
use Rattle.board.specs.Query.{in_range, point_read}
use Rattle.board.specs.Setup.{described_by, allowed_only, point_with, accepted, refused, board_with, put_points}
use Rattle.board.specs.declared.Board.{Board}
use Rattle.board.specs.declared.call.PointNumbers.{PointNumbers}
use Rattle.board.proofs.rules.Broken.{present-small, point-of}
use Rattle.board.proofs.points.Table.{info-entry}
use Rattle.board.proofs.rules.Present.{target_below}

-- ---- the point that a call describes

Good? : Option Point → (Point → Type 0) → Type 0
Good? (Some p) P = P p
Good? None P = Unit {0}

module _ (P : Point → Type 0) where
  good-natural : (n : ℤ) (least most : ℕ) (f : ℕ → Option Point) → ((k : ℕ) → least ≤ k → k ≤ most → Good? (f k) P) →
      Good? (on_some (natural_of n least most) f None) P
  unfolding Good?
  good-natural n least most f h = go (natural_of n least most) refl
    where
      go : (r : Option ℕ) → natural_of n least most ≡ r → Good? (on_some r f None) P
      go (Some k) e = let b = natural-in n least most e in h k b.1 b.2
      go None e = tt

  good-place : (low high : ℕ) (q : Option Coordinate) (f : Coordinate → Option Point) → ((c : Coordinate) → low ≤ c.0 → c.0 ≤ high → Good? (f c) P) →
      Good? (on_some (within low high q) f None) P
  unfolding Good?
  good-place low high q f h = go (within low high q) refl
    where
      go : (r : Option Coordinate) → within low high q ≡ r → Good? (on_some r f None) P
      go (Some c) e = let b = within_in low high q e in h c b.0 b.1
      go None e = tt

  good-allowed : (present : ℕ) (p : Point) → (allowed_test present p ≡ true → P p) → Good? (allowed_only present p) P
  unfolding Good?
  good-allowed present p h = go (allowed_test present p) refl
    where
      go : (b : Bool) → allowed_test present p ≡ b → Good? (cond b (Some p) None) P
      go true e = h e
      go false e = tt

-- a point that is described for a present track keeps the rules of a point
pub described-rule : (present i : ℕ) (ts : List Track) (given : PointNumbers) {p : Point} → is_present present i ≡ true →
    described_by present i (track_at ts i) given ≡ Some p → PointRule present ts p
unfolding described_by Good? place_test
described-rule present i ts given h e =
    subst (λ (r : Option Point). Good? r (PointRule present ts)) e
    (good-place (PointRule present ts) (track_at ts i).min.0 (track_at ts i).max.0 (coordinate_of given.position) _
    (λ l low high. good-natural (PointRule present ts) given.event 1 event_most _
    (λ ev _ _. good-natural (PointRule present ts) given.wait 0 1 _
    (λ w _ _. good-natural (PointRule present ts) given.command 0 4 _
    (λ c _ _. good-natural (PointRule present ts) given.target 0 15 _
    (λ g _ _. good-allowed (PointRule present ts) present (point_with i l ev w c g)
    (λ d. point-of present ts (point_with i l ev w c g) (both_is h (both_is (le-leb _ _ low) (le-leb _ _ high))) d)))))))

-- ---- the keys of an unbroken board

module _ (b : Board) (u : Unbroken b) where
  -- a coordinate of a point is at most that of position 1,000,000, its track's number below 16, its info below 2^24
  pub point-small : (j : ℕ) → j < b.points.count →
      (get_or b.points.keys j 0 % stride ≤ coordinate_last) × (get_or b.points.keys j 0 < key_end) × (get_or b.points.infos j 0 < info_end)
  unfolding point_of
  point-small j l =
      let r = u.points j l in
      let k = get_or b.points.keys j 0 in
      let d = get_or b.points.infos j 0 in
      let t = present-small b.present (k / stride) r.track in
      let v = (u.tracks (k / stride) r.track).valid.ordered in
      let g = target_below b.present (command_of d) (target_of d) r.target in
      (omega (arith, r.high, v.last), omega arith, omega arith)

  -- an info that is found is below 2^24
  pub info-small : (k : ℕ) → (info_at k (keys_of b.points) (infos_of b.points) ≡ 0 → ⊥) →
      info_at k (keys_of b.points) (infos_of b.points) < info_end
  info-small k n =
      let e = info-entry k (keys_of b.points) (infos_of b.points) n in
      let lk = length-take-le b.points.count b.points.keys (omega (arith, u.count, u.shape.keys)) in
      let l : e.0 < b.points.count = omega (arith, e.1) in
      let g = get_or-take b.points.count b.points.infos e.0 0 l in
      omega (arith, (point-small e.0 l).2, e.3)

-- ---- counting from a position to another

-- the keys between two clamped bounds are those of the track whose positions are in the range
pub range-key : (i : ℕ) (from to : ℤ) (k : ℕ) → k % stride ≤ coordinate_last →
    between (i * stride + (clamped_of from - 1)) (i * stride + clamped_of to) k ≡ in_range i from to k
unfolding between in_range
range-key i from to k h =
    let low : ℕ = clamped_of from in
    let high : ℕ = clamped_of to in
    let top : high ≤ 2000002 = clamped-most to in
    let l : Coordinate = record { 0 = k % stride } in
    let values = le_z from (value_of l) && le_z (value_of l) to in
    let same = between-clamped l h from to in
    same_tests (leb (i * stride + (low - 1)) k && ltb k (i * stride + high)) (eqb (k / stride) i && values)
    (λ e.
    let b = both (leb (i * stride + (low - 1)) k) (ltb k (i * stride + high)) e in
    let x : i * stride + (low - 1) ≤ k = leb-true _ _ b.0 in
    let y : k < i * stride + high = ltb-true _ _ b.1 in
    let q : k / stride ≡ i = omega arith in
    let c : (leb low (k % stride + 1) && leb (k % stride + 1) high) ≡ true =
    both_is (le-leb low (k % stride + 1) (omega arith)) (le-leb (k % stride + 1) high (omega arith)) in
    both_is (eq-eqb (k / stride) i q) (same ∙ c))
    (λ e.
    let b = both (eqb (k / stride) i) values e in
    let q : k / stride ≡ i = eqb-true _ _ b.0 in
    let c = both (leb low (k % stride + 1)) (leb (k % stride + 1) high) (sym same ∙ b.1) in
    let x : low ≤ k % stride + 1 = leb-true _ _ c.0 in
    let y : k % stride + 1 ≤ high = leb-true _ _ c.1 in
    let d = div-add-mod' k stride in
    both_is (le-leb (i * stride + (low - 1)) k (omega arith)) (lt-ltb k (i * stride + high) (omega arith)))

-- tests that agree on every key of a list count alike
pub count_same : (p q : ℕ → Bool) (xs : List ℕ) → ((j : ℕ) → j < length xs → p (get_or xs j 0) ≡ q (get_or xs j 0)) → count_of p xs ≡ count_of q xs
unfolding count_of
count_same p q [] h = refl
count_same p q (x ∷ xs) h =
    rw (h zero (zero-lt-suc (length xs)), count_same p q xs (λ j l. h (suc j) (suc-le-suc l)))

-- the count that the code takes from the clamped bounds
pub counted : (b : Board) → Unbroken b → (i : ℕ) (from to : ℤ) {x y z n : ℕ} → x ≡ clamped_of from → y ≡ x - 1 → z ≡ clamped_of to →
    n ≡ count_of (between (i * stride + y) (i * stride + z)) (keys_of b.points) → n ≡ count_of (in_range i from to) (keys_of b.points)
counted b u i from to {x} {y} {z} ex ey ez en =
    en
    ∙ (λ j. count_of (between (i * stride + (ey ∙ ap (λ (m : ℕ). m - 1) ex) j) (i * stride + ez j)) (keys_of b.points))
    ∙ count_same (between (i * stride + (clamped_of from - 1)) (i * stride + clamped_of to)) (in_range i from to) (keys_of b.points)
    (λ j l.
    let n = b.points.count in
    let lk = length-take-le n b.points.keys (omega (arith, u.count, u.shape.keys)) in
    let m : j < n = omega arith in
    range-key i from to (get_or (keys_of b.points) j 0)
    (rw (get_or-take n b.points.keys j 0 m) (point-small b u j m).0))

-- ---- the ways out of the queries and of `add_track`

pub found-small : {r d : ℕ} → r ≡ d → (r ≡ 0 → ⊥) → ((d ≡ 0 → ⊥) → d < info_end) → r < info_end
found-small e n f = let h = f (λ z. n (e ∙ z)) in omega arith

pub point-shown : (k : ℕ) {r d : ℕ} {p : Point} → r ≡ d → (r ≡ 0 → ⊥) → p ≡ point_of k r → Ok p ≡ point_read k d
point-shown k {r} {d} e n q = ap Ok (q ∙ ap (point_of k) e) ∙ simp (ne_eqb d 0 (λ z. n (e ∙ z)))

pub track-added : (b : Board) (i : ℕ) {w : ℕ} {t u : Track} → t ≡ u → w ≡ b.present + 2 ^ i →
    accepted (board_with b (set b.tracks i t) w b.points b.held) ≡ accepted (board_with b (set b.tracks i u) (b.present + 2 ^ i) b.points b.held)
track-added b i e q = λ j. accepted (board_with b (set b.tracks i (e j)) (q j) b.points b.held)

-- ---- the ways out of `set_point`, where o is the table after the change, or none

module _ (b : Board) (refusal : ℕ) {o : Option Points} {x : Stored} (e : stored_as b.points o ≡ x) where
  pub points-refused : o ≡ None → {r : Outcome} → r ≡ refused refusal b → r ≡ put_points b refusal x
  points-refused h q = q ∙ ap (put_points b refusal) (ap (stored_as b.points) (sym h) ∙ e)

  pub points-put : {t : Points} → o ≡ Some t → accepted (board_with b b.tracks b.present t b.held) ≡ put_points b refusal x
  points-put h = ap (put_points b refusal) (ap (stored_as b.points) (sym h) ∙ e)
