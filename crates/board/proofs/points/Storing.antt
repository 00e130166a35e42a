-- What a stored or a dropped point changes.
use Prim.Native.Nat.{ℕ, zero, suc, ◌+◌, ◌-◌, ◌≤◌, ◌<◌, suc-le-suc, zero-le}
use native.Mathlib.Nat.{le_of_suc-le-suc, not-suc-le-zero, zero-lt-suc}
use native.Mathlib.Omega.{arith}
use mathlib.Core.Path.{◌≡◌, refl, sym, ◌∙◌}
use mathlib.Core.Logic.{⊎_elim}
use mathlib.Core.Bool.{true, false, cond, true≢false, false≢true}
use mathlib.Core.List.{List, [], ◌∷◌}
use lib.ListN.{length, get_or, set, length-set}
use lib.Seq.{length-take-le, get_or-take, get_or-set_same, get_or-set_other, take-set-lt}
use lib.Dec.{ltb}
use borrow.Author.Tests.{lt-ltb, le-ltb, ltb-true, ltb-false}
use Rattle.board.specs.declared.points.Points.{Points}
use Rattle.board.specs.Points.{Stored}
use Rattle.board.specs.Points.{point_most, has_key, first_from, insert_at, remove_at, insert_row, remove_row, info_at, keys_of, infos_of, replaced, added, stored_in, dropped_from}
use Rattle.track.proofs.Tests.{cond_cases}
use Rattle.board.proofs.points.Rows.{insert-row-take, insert-row-length, remove-row-take, remove-row-length, ascending-insert, ascending-remove}
use Rattle.board.proofs.points.Keys.{same_or_not, first-is, has-index, has_first, Searched}
use Rattle.board.proofs.points.Table.{info-none, info-has, at-insert, insert-others, set-others, at-remove, remove-others, Sorted, EachPoint}

-- ---- what holds at every key and its info

module _ (P : ℕ → ℕ → Type 0) where
  abbrev Each : List ℕ → List ℕ → Type 0
  Each ks ds = (j : ℕ) → j < length ks → P (get_or ks j 0) (get_or ds j 0)

  each-insert : (i k d : ℕ) (ks ds : List ℕ) → length ks ≡ length ds → P k d → Each ks ds → Each (insert_at i k ks) (insert_at i d ds)
  unfolding insert_at
  each-insert zero k d ks ds e p a zero l = p
  each-insert zero k d ks ds e p a (suc j) l = a j (le_of_suc-le-suc l)
  each-insert (suc i) k d [] [] e p a zero l = p
  each-insert (suc i) k d [] [] e p a (suc j) l = absurd (not-suc-le-zero (le_of_suc-le-suc l))
  each-insert (suc i) k d [] (y ∷ ds) e p a j l = absurd (omega arith)
  each-insert (suc i) k d (x ∷ ks) [] e p a j l = absurd (omega arith)
  each-insert (suc i) k d (x ∷ ks) (y ∷ ds) e p a zero l = a zero (zero-lt-suc (length ks))
  each-insert (suc i) k d (x ∷ ks) (y ∷ ds) e p a (suc j) l =
      each-insert i k d ks ds (omega arith) p (λ m h. a (suc m) (suc-le-suc h)) j (le_of_suc-le-suc l)

  each_set : (i d : ℕ) (ks ds : List ℕ) → length ks ≡ length ds → P (get_or ks i 0) d → Each ks ds → Each ks (set ds i d)
  each_set i d ks ds e p a j l =
      ⊎_elim
      (λ (q : j ≡ i). let m : i < length ds = omega arith in rw (q, get_or-set_same ds i d 0 m) p)
      (λ (q : j ≡ i → ⊥). rw (get_or-set_other ds i j d 0 q) (a j l))
      (same_or_not j i)

  each-remove : (i : ℕ) (ks ds : List ℕ) → length ks ≡ length ds → Each ks ds → Each (remove_at i ks) (remove_at i ds)
  unfolding remove_at
  each-remove zero [] ds e a j l = absurd (not-suc-le-zero l)
  each-remove (suc i) [] ds e a j l = absurd (not-suc-le-zero l)
  each-remove i (x ∷ ks) [] e a j l = absurd (omega arith)
  each-remove zero (x ∷ ks) (y ∷ ds) e a j l = a (suc j) (suc-le-suc l)
  each-remove (suc i) (x ∷ ks) (y ∷ ds) e a zero l = a zero (zero-lt-suc (length ks))
  each-remove (suc i) (x ∷ ks) (y ∷ ds) e a (suc j) l =
      each-remove i ks ds (omega arith) (λ m h. a (suc m) (suc-le-suc h)) j (le_of_suc-le-suc l)

-- ---- the ways out of stored and dropped

module _ (t : Points) (k i : ℕ) where
  module _ (s : Searched (keys_of t) k i true) where
    pub stored_there : (d : ℕ) → record { done = true; points = record { keys = t.keys; infos = set t.infos i d; count = t.count } } ≡ stored_in t k d
    unfolding stored_in replaced
    stored_there d = rw (s.has, s.place)

    pub dropped-there : (ks ds : List ℕ) → ks ≡ remove_row t.count i t.keys → ds ≡ remove_row t.count i t.infos
        → record { done = true; points = record { keys = ks; infos = ds; count = t.count - 1 } } ≡ dropped_from t k
    unfolding dropped_from
    dropped-there ks ds ek ed = rw (s.has, ek, ed, s.place)

  module _ (s : Searched (keys_of t) k i false) where
    pub stored-no-room : (d : ℕ) → point_most ≤ t.count → record { done = false; points = t } ≡ stored_in t k d
    unfolding stored_in
    stored-no-room d l = rw (s.has, le-ltb t.count point_most l)

    pub stored-new : (d : ℕ) (ks ds : List ℕ) → t.count < point_most → ks ≡ insert_row t.count i k t.keys
        → ds ≡ insert_row t.count i d t.infos
        → record { done = true; points = record { keys = ks; infos = ds; count = t.count + 1 } } ≡ stored_in t k d
    unfolding stored_in added
    stored-new d ks ds l ek ed = rw (s.has, lt-ltb t.count point_most l, ek, ed, s.place)

    pub dropped-none : record { done = false; points = t } ≡ dropped_from t k
    unfolding dropped_from
    dropped-none = rw s.has

-- ---- a table after a point is stored or dropped

-- the three ways of storing, and the two of dropping
module _ (t : Points) (k : ℕ) where
  abbrev pub without : Points
  without =
      let i = first_from (keys_of t) k in
      record { keys = remove_row t.count i t.keys; infos = remove_row t.count i t.infos; count = t.count - 1 }

  pub stored-cases : (d : ℕ) (P : Stored → Type 0) → (has_key k (keys_of t) ≡ true → P (record { done = true; points = replaced t k d }))
      → (has_key k (keys_of t) ≡ false → t.count < point_most → P (record { done = true; points = added t k d }))
      → (has_key k (keys_of t) ≡ false → point_most ≤ t.count → P (record { done = false; points = t })) → P (stored_in t k d)
  unfolding stored_in
  stored-cases d P f g h =
      cond_cases P (has_key k (keys_of t)) f
      (λ e. cond_cases P (ltb t.count point_most) (λ l. g e (ltb-true t.count point_most l)) (λ l. h e (ltb-false t.count point_most l)))

  pub dropped-cases : (P : Stored → Type 0) → (has_key k (keys_of t) ≡ true → P (record { done = true; points = without }))
      → (has_key k (keys_of t) ≡ false → P (record { done = false; points = t })) → P (dropped_from t k)
  unfolding dropped_from
  dropped-cases P f g = cond_cases P (has_key k (keys_of t)) f g

  -- a point whose key is there is replaced, and no point more is held
  pub stored-replaces : (d : ℕ) → has_key k (keys_of t) ≡ true → ((stored_in t k d).done ≡ true) × ((stored_in t k d).points.count ≡ t.count)
  unfolding replaced
  stored-replaces d h =
      stored-cases d (λ r. (r.done ≡ true) × (r.points.count ≡ t.count)) (λ e. (refl, refl)) (λ e. absurd (true≢false (sym h ∙ e)))
      (λ e. absurd (true≢false (sym h ∙ e)))

  -- a point whose key is not there is added where there is room
  pub stored-adds : (d : ℕ) → has_key k (keys_of t) ≡ false → t.count < point_most
      → ((stored_in t k d).done ≡ true) × ((stored_in t k d).points.count ≡ t.count + 1)
  unfolding added
  stored-adds d h l =
      stored-cases d (λ r. (r.done ≡ true) × (r.points.count ≡ t.count + 1)) (λ e. absurd (true≢false (sym e ∙ h))) (λ e m. (refl, refl))
      (λ e m. absurd (omega arith))

  -- a point whose key is not there changes nothing where there is no room
  pub stored-full : (d : ℕ) → has_key k (keys_of t) ≡ false → point_most ≤ t.count → stored_in t k d ≡ record { done = false; points = t }
  stored-full d h l =
      stored-cases d (λ r. r ≡ record { done = false; points = t }) (λ e. absurd (true≢false (sym e ∙ h))) (λ e m. absurd (omega arith))
      (λ e m. refl)

  -- a stored point is one more exactly if its key was not there
  pub stored-count : (d : ℕ) → (stored_in t k d).done ≡ true
      → (stored_in t k d).points.count ≡ cond (has_key k (keys_of t)) t.count (t.count + 1)
  unfolding replaced added
  stored-count d =
      stored-cases d (λ r. r.done ≡ true → r.points.count ≡ cond (has_key k (keys_of t)) t.count (t.count + 1)) (λ h e. rw h)
      (λ h l e. rw h) (λ h l e. absurd (false≢true e))

  -- a point is dropped exactly if its key is there
  pub dropped-done : (dropped_from t k).done ≡ has_key k (keys_of t)
  dropped-done = dropped-cases (λ r. r.done ≡ has_key k (keys_of t)) sym sym

module _ (t : Points) (k : ℕ) (s : Sorted t) where
  abbrev place : ℕ
  place = first_from (keys_of t) k

  keys_len : length (keys_of t) ≡ t.count
  keys_len = length-take-le t.count t.keys (omega arith)

  infos-len : length (infos_of t) ≡ t.count
  infos-len = length-take-le t.count t.infos (omega arith)

  lens : length (keys_of t) ≡ length (infos_of t)
  lens = keys_len ∙ sym infos-len

  there : has_key k (keys_of t) ≡ true → (place < t.count) × (get_or (keys_of t) place 0 ≡ k)
  there h = let f = has_first k place (keys_of t) s.ascending refl h in (omega (arith, keys_len), f.1)

  above : has_key k (keys_of t) ≡ false → place < length (keys_of t) → k < get_or (keys_of t) place 0
  above h l =
      let g = (first-is (keys_of t) k).at l in
      let n : get_or (keys_of t) place 0 ≡ k → ⊥ = λ e. true≢false (sym (has-index k place (keys_of t) l e) ∙ h) in
      omega arith

  module _ (h : has_key k (keys_of t) ≡ true) where
    keys-without : keys_of (without t k) ≡ remove_at place (keys_of t)
    keys-without = let b = there h in remove-row-take t.count place t.keys b.0 (omega arith)

    infos-without : infos_of (without t k) ≡ remove_at place (infos_of t)
    infos-without = let b = there h in remove-row-take t.count place t.infos b.0 (omega arith)

  module _ (d : ℕ) where
    infos-replaced : has_key k (keys_of t) ≡ true → infos_of (replaced t k d) ≡ set (infos_of t) place d
    unfolding replaced
    infos-replaced h = take-set-lt t.count t.infos place d (there h).0

    keys-added : keys_of (added t k d) ≡ insert_at place k (keys_of t)
    unfolding added
    keys-added = insert-row-take t.count place k t.keys (omega arith)

    infos-added : infos_of (added t k d) ≡ insert_at place d (infos_of t)
    unfolding added
    infos-added = insert-row-take t.count place d t.infos (omega arith)

    -- a table stays sorted by storing
    pub stored-sorted : Sorted (stored_in t k d).points
    unfolding replaced added
    stored-sorted =
        stored-cases t k d (λ r. Sorted r.points)
        (λ h. record {
          most = s.most;
          keys_long = s.keys_long;
          infos_long = length-set t.infos place d ∙ s.infos_long;
          ascending = s.ascending;
        })
        (λ h l. record {
          most = omega arith;
          keys_long = insert-row-length t.count place k t.keys (omega arith) ∙ s.keys_long;
          infos_long = insert-row-length t.count place d t.infos (omega arith) ∙ s.infos_long;
          ascending =
              rw keys-added
              (ascending-insert place 0 k (keys_of t) s.ascending zero-le (first-is (keys_of t) k).le (first-is (keys_of t) k).below (above h));
        })
        (λ h l. s)

    -- the info stored stands at its key
    pub stored-info : (stored_in t k d).done ≡ true → info_at k (keys_of (stored_in t k d).points) (infos_of (stored_in t k d).points) ≡ d
    unfolding replaced
    stored-info =
        stored-cases t k d (λ r. r.done ≡ true → info_at k (keys_of r.points) (infos_of r.points) ≡ d)
        (λ h e.
        let m : place < length (infos_of t) = omega (arith, infos-len, there h) in
        rw (infos-replaced h)
        (info-has k (keys_of t) (set (infos_of t) place d) s.ascending (lens ∙ sym (length-set (infos_of t) place d)) h
        ∙ get_or-set_same (infos_of t) place d 0 m))
        (λ h l e.
        rw (keys-added, infos-added) (at-insert place k d (keys_of t) (infos_of t) lens (first-is (keys_of t) k).le (first-is (keys_of t) k).below))
        (λ h l e. absurd (false≢true e))

    -- every key but the stored one has the info that it had
    pub stored-others : (j : ℕ) → (j ≡ k → ⊥)
        → info_at j (keys_of (stored_in t k d).points) (infos_of (stored_in t k d).points) ≡ info_at j (keys_of t) (infos_of t)
    unfolding replaced
    stored-others j n =
        stored-cases t k d (λ r. info_at j (keys_of r.points) (infos_of r.points) ≡ info_at j (keys_of t) (infos_of t))
        (λ h.
        rw (infos-replaced h)
        (set-others place j k d (keys_of t) (infos_of t) (omega (arith, keys_len, there h)) (there h).1 (λ e. n (sym e))))
        (λ h l. rw (keys-added, infos-added) (insert-others place j k d (keys_of t) (infos_of t) lens (λ e. n (sym e))))
        (λ h l. refl)

  -- a table stays sorted by dropping
  pub dropped-sorted : Sorted (dropped_from t k).points
  dropped-sorted =
      dropped-cases t k (λ r. Sorted r.points)
      (λ h.
      let b = there h in
      record {
        most = omega arith;
        keys_long = remove-row-length t.count place t.keys b.0 (omega arith) ∙ s.keys_long;
        infos_long = remove-row-length t.count place t.infos b.0 (omega arith) ∙ s.infos_long;
        ascending = rw (keys-without h) (ascending-remove place 0 (keys_of t) s.ascending);
      })
      (λ h. s)

  -- no info stands at the key dropped
  pub dropped-info : info_at k (keys_of (dropped_from t k).points) (infos_of (dropped_from t k).points) ≡ 0
  dropped-info =
      dropped-cases t k (λ r. info_at k (keys_of r.points) (infos_of r.points) ≡ 0)
      (λ h.
      rw (keys-without h, infos-without h)
      (at-remove place 0 k (keys_of t) (infos_of t) s.ascending lens (omega (arith, keys_len, there h)) (there h).1))
      (info-none k (keys_of t) (infos_of t))

  -- every key but the dropped one has the info that it had
  pub dropped-others : (j : ℕ) → (j ≡ k → ⊥)
      → info_at j (keys_of (dropped_from t k).points) (infos_of (dropped_from t k).points) ≡ info_at j (keys_of t) (infos_of t)
  dropped-others j n =
      dropped-cases t k (λ r. info_at j (keys_of r.points) (infos_of r.points) ≡ info_at j (keys_of t) (infos_of t))
      (λ h.
      rw (keys-without h, infos-without h)
      (remove-others place j k (keys_of t) (infos_of t) lens (omega (arith, keys_len, there h)) (there h).1 (λ e. n (sym e))))
      (λ h. refl)

  -- a dropped point is one less
  pub dropped-count : (dropped_from t k).done ≡ true → (dropped_from t k).points.count + 1 ≡ t.count
  dropped-count =
      dropped-cases t k (λ r. r.done ≡ true → r.points.count + 1 ≡ t.count) (λ h e. omega (arith, there h)) (λ h e. absurd (false≢true e))

module _ (P : ℕ → ℕ → Type 0) where
  each-listed : (t : Points) → Sorted t → EachPoint P t → Each P (keys_of t) (infos_of t)
  each-listed t s a j l =
      let m : j < t.count = omega (arith, keys_len t 0 s) in
      rw (get_or-take t.count t.keys j 0 m, get_or-take t.count t.infos j 0 m) (a j m)

  each-point : (t : Points) → Sorted t → Each P (keys_of t) (infos_of t) → EachPoint P t
  each-point t s a j l =
      let m : j < length (keys_of t) = omega (arith, keys_len t 0 s) in
      rw (get_or-take t.count t.keys j 0 l, get_or-take t.count t.infos j 0 l) at (a j m)

  module _ (t : Points) (k : ℕ) (s : Sorted t) (a : EachPoint P t) where
    -- what holds at every point, and at one that is stored, holds at every point afterwards
    pub stored-each : (d : ℕ) → P k d → EachPoint P (stored_in t k d).points
    unfolding replaced
    stored-each d p =
        let b = each-listed t s a in
        each-point (stored_in t k d).points (stored-sorted t k s d)
        (stored-cases t k d (λ r. Each P (keys_of r.points) (infos_of r.points))
        (λ h. rw (infos-replaced t k s d h) (each_set P (place t k s) d (keys_of t) (infos_of t) (lens t k s) (rw (there t k s h).1 p) b))
        (λ h l. rw (keys-added t k s d, infos-added t k s d) (each-insert P (place t k s) k d (keys_of t) (infos_of t) (lens t k s) p b))
        (λ h l. b))

    -- what holds at every point holds at every point left
    pub dropped-each : EachPoint P (dropped_from t k).points
    dropped-each =
        let b = each-listed t s a in
        each-point (dropped_from t k).points (dropped-sorted t k s)
        (dropped-cases t k (λ r. Each P (keys_of r.points) (infos_of r.points))
        (λ h. rw (keys-without t k s h, infos-without t k s h) (each-remove P (place t k s) (keys_of t) (infos_of t) (lens t k s) b))
        (λ h. b))
