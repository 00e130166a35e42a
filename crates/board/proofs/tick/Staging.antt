-- The records that a tick stages: their bytes behind one another, and how many each part of a tick writes.
use Rattle.std.specs.Prelude.{Option, Some, None}
use mathlib.Core.Path.{◌≡◌, refl, sym, ap, ◌∙◌}
use mathlib.Core.Bool.{Bool, true, false, cond}
use mathlib.Core.List.{List, [], ◌∷◌, ◌++◌, append-nil, append_assoc}
use Prim.Native.Nat.{ℕ, zero, suc, ◌+◌, ◌-◌, ◌*◌, ◌≤◌}
use native.Mathlib.Omega.{arith}
use native.Mathlib.Nat.{add-zero}
use lib.Dec.{eqb}
use lib.ListN.{length, take, drop, take-append-drop, length-append}
use lib.Seq.{take_at, length-take-le}
use borrow.Author.Tests.{eq-eqb, ne_eqb}
use Rattle.track.specs.declared.Track.{Track}
use Rattle.track.specs.Rule.{STOPPED, Valid, action_cell, with_remainder}
use Rattle.track.specs.Grid.{grid_of}
use Rattle.track.specs.Walk.{arrival, passes_at, step}
use Rattle.track.specs.Leap.{added, moves, played}
use Rattle.track.proofs.Leaps.{played-stands, played-left}
use Rattle.track.proofs.Tests.{cond_cases}
use Rattle.board.specs.declared.log.Record.{Record}
use Rattle.board.specs.Log.{write_at, record_bytes, log_bytes, record_width}
use Rattle.board.specs.Tick.{record_of, point_records, change_records, stepped, step_records, command_records, obeyed_records, reached_by}
use Rattle.board.specs.Points.{waits, command_of, target_of, event_of}
use Rattle.board.proofs.log.Records.{length_record}

-- ---- bytes

-- every record has 16 bytes
pub length-log : (rs : List Record) → length (log_bytes rs) ≡ length rs * record_width
unfolding log_bytes
length-log [] = refl
length-log (r ∷ rs) = simp (length-append, length_record, length-log rs) (omega arith)

-- the bytes of records behind others are behind theirs
pub log-append : (rs qs : List Record) → log_bytes (rs ++ qs) ≡ log_bytes rs ++ log_bytes qs
unfolding log_bytes
log-append [] qs = refl
log-append (r ∷ rs) qs = ap (λ (l : List ℕ). record_bytes r ++ l) (log-append rs qs) ∙ sym (append_assoc (record_bytes r) (log_bytes rs) (log_bytes qs))

-- writing nothing changes nothing
pub write-none : (xs : List ℕ) (at : ℕ) → write_at xs at [] ≡ xs
unfolding write_at
write-none xs at = ap (λ (n : ℕ). take at xs ++ drop n xs) (add-zero at) ∙ take-append-drop at xs

-- what stands before the end of a write is what stood there, and what was written
take-write : (xs ys : List ℕ) (at : ℕ) → at ≤ length xs → take (at + length ys) (write_at xs at ys) ≡ take at xs ++ ys
unfolding write_at
take-write xs ys at h =
    let l : length (take at xs ++ ys) ≡ at + length ys = length-append (take at xs) ys ∙ ap (λ (n : ℕ). n + length ys) (length-take-le at xs h) in
    ap (take (at + length ys)) (sym (append_assoc (take at xs) ys (drop (at + length ys) xs)))
    ∙ take_at (take at xs ++ ys) (drop (at + length ys) xs) (at + length ys) l

-- a record written behind the first n
pub put-one : (xs : List ℕ) (n : ℕ) (r : Record) {ys : List ℕ} → n * record_width ≤ length xs → ys ≡ write_at xs (n * record_width) (record_bytes r)
    → take ((n + 1) * record_width) ys ≡ take (n * record_width) xs ++ log_bytes (r ∷ [])
unfolding log_bytes
put-one xs n r h e =
    let w : (n + 1) * record_width ≡ n * record_width + length (record_bytes r) = omega (arith, length_record r) in
    (λ j. take (w j) (e j)) ∙ take-write xs (record_bytes r) (n * record_width) h
    ∙ ap (λ (l : List ℕ). take (n * record_width) xs ++ l) (sym (append-nil (record_bytes r)))

-- no records more
pub staged-none : (xs : List ℕ) {rs : List Record} → rs ≡ [] → xs ≡ xs ++ log_bytes rs
unfolding log_bytes
staged-none xs e = sym (append-nil xs) ∙ ap (λ (rs : List Record). xs ++ log_bytes rs) (sym e)

-- records staged behind others
pub staged-more : (xs : List ℕ) (rs qs : List Record) {ys zs : List ℕ} → ys ≡ xs ++ log_bytes rs → zs ≡ ys ++ log_bytes qs → zs ≡ xs ++ log_bytes (rs ++ qs)
staged-more xs rs qs a b =
    b ∙ ap (λ (ys : List ℕ). ys ++ log_bytes qs) a ∙ append_assoc xs (log_bytes rs) (log_bytes qs) ∙ ap (λ (l : List ℕ). xs ++ l) (sym (log-append rs qs))

-- how many bytes there are then
pub staged-long : (xs : List ℕ) (rs : List Record) {ys : List ℕ} → ys ≡ xs ++ log_bytes rs → length ys ≡ length xs + length rs * record_width
staged-long xs rs e = ap length e ∙ length-append xs (log_bytes rs) ∙ ap (λ (n : ℕ). length xs + n) (length-log rs)

-- ---- the record of a point reached

module _ (clock track l passes d : ℕ) where
  -- none where there is no point, else one
  pub point-none : d ≡ 0 → point_records clock track l passes d ≡ []
  unfolding point_records
  point-none e = simp (eq-eqb d 0 e)

  pub point-one : (d ≡ 0 → ⊥) → point_records clock track l passes d ≡ record_of clock track 1 (event_of d) (command_of d * record_width + target_of d) l passes ∷ []
  unfolding point_records
  point-one n = simp (ne_eqb d 0 n)

  -- at most one
  pub point-most : length (point_records clock track l passes d) ≤ 1
  unfolding point_records
  point-most = cond_cases (λ (rs : List Record). length rs ≤ 1) (eqb d 0) (λ e. omega arith) (λ e. omega arith)

-- ---- the record of a change of mode

module _ (clock track : ℕ) (t : Track) (new l passes : ℕ) {event : ℕ} (e : event ≡ action_cell t t.mode new) where
  -- none where the action cell is 0, else one
  pub change-none : event ≡ 0 → change_records clock track t new l passes ≡ []
  unfolding change_records
  change-none z = simp (eq-eqb _ 0 (sym e ∙ z))

  pub change-one : (event ≡ 0 → ⊥) → change_records clock track t new l passes ≡ record_of clock track 2 event (t.mode * record_width + new) l passes ∷ []
  unfolding change_records
  change-one n = simp (ne_eqb _ 0 (λ z. n (e ∙ z))) (ap (λ (v : ℕ). record_of clock track 2 v (t.mode * record_width + new) l passes ∷ []) (sym e))

-- none between equal modes
cell-none : (t : Track) → Valid t → (m : ℕ) → m ≤ 3 → action_cell t m m ≡ 0
cell-none t v zero h = v.cells.stopped
cell-none t v (suc zero) h = v.cells.playing
cell-none t v (suc (suc zero)) h = v.cells.paused
cell-none t v (suc (suc (suc zero))) h = v.cells.waiting
cell-none t v (suc (suc (suc (suc m)))) h = absurd (omega arith)

pub change-same : (clock track : ℕ) (t : Track) (new l passes : ℕ) → Valid t → t.mode ≡ new → change_records clock track t new l passes ≡ []
change-same clock track t new l passes v e =
    change-none clock track t new l passes refl (ap (action_cell t t.mode) (sym e) ∙ cell-none t v t.mode v.mode)

-- at most one
pub change-most : (clock track : ℕ) (t : Track) (new l passes : ℕ) → length (change_records clock track t new l passes) ≤ 1
unfolding change_records
change-most clock track t new l passes =
    cond_cases (λ (rs : List Record). length rs ≤ 1) (eqb (action_cell t t.mode new) 0) (λ e. omega arith) (λ e. omega arith)

-- ---- how many records each part writes

-- a tick of a track writes at most two
pub step-most : (clock i : ℕ) (t : Track) (d : ℕ) → length (step_records clock i t d) ≤ 2
unfolding step_records
step-most clock i t d =
    let l : ℕ = arrival t in
    cond_cases (λ (rs : List Record). length rs ≤ 2) (moves t)
    (λ _. simp length-append (omega (arith, point-most clock i l t.passes.0 d, change-most clock i t (played t (waits d)).mode l (passes_at t l))))
    (λ _. omega arith)

-- a command writes at most one
pub command-most : (clock d : ℕ) (t : Track) (r : Option ℕ) → length (command_records clock d t r) ≤ 1
unfolding command_records
command-most clock d t (Some m) = change-most clock (target_of d) t m t.position.0 t.passes.0
command-most clock d t None = omega arith

-- and so does a point that may have none
pub obeyed-most : (clock d : ℕ) (t : Track) → length (obeyed_records clock d t) ≤ 1
obeyed-most clock d t =
    cond_cases (λ (rs : List Record). length rs ≤ 1) (eqb (command_of d) 0) (λ e. omega arith) (λ e. command-most clock d t (grid_of t.mode (command_of d)))

-- at most one point is reached by a step
pub reached-most : (d : ℕ) → length (reached_by d) ≤ 1
reached-most d = cond_cases (λ (ds : List ℕ). length ds ≤ 1) (eqb d 0) (λ e. omega arith) (λ e. omega arith)

-- ---- the ways out of `step_member` and `obey`

-- a tick without a step writes nothing, and changes the remainder alone
pub unstepped-out : (clock track : ℕ) (t : Track) (d : ℕ) (xs : List ℕ) {made : Bool} → made ≡ moves t → made ≡ false →
    (stepped (with_remainder t (added t)) ≡ stepped (played t (waits d))) × (xs ≡ xs ++ log_bytes (step_records clock track t d))
unfolding step_records
unstepped-out clock track t d xs em h =
    let m : moves t ≡ false = sym em ∙ h in
    (ap stepped (sym (played-stands t (waits d) m)), staged-none xs (simp m))

-- one with a step writes its point's record, then that of its change of mode
pub step-out : (clock track : ℕ) (t : Track) (d : ℕ) (xs : List ℕ) {ys zs : List ℕ} {l p r : ℕ} {u : Track} {made : Bool} → Valid t →
    made ≡ moves t → made ≡ true → l ≡ arrival t → p ≡ passes_at t l → u ≡ step t (waits d) →
    ys ≡ xs ++ log_bytes (point_records clock track l t.passes.0 d) → zs ≡ ys ++ log_bytes (change_records clock track t u.mode l p) →
    r ≡ cond (eqb u.mode STOPPED) 0 (added t - t.ticks) →
    (stepped (with_remainder u r) ≡ stepped (played t (waits d))) × (zs ≡ xs ++ log_bytes (step_records clock track t d))
unfolding step_records
step-out clock track t d xs {l = l} {p} {r} {u} v em h el ep eu a b er =
    let y : moves t ≡ true = sym em ∙ h in
    let q : with_remainder u r ≡ played t (waits d) = (λ i. with_remainder (eu i) ((er ∙ ap (λ (u : Track). cond (eqb u.mode STOPPED) 0 (added t - t.ticks)) eu) i)) ∙ sym (played-left t v (waits d) y) in
    let f : u.mode ≡ (played t (waits d)).mode = ap (λ (u : Track). u.mode) q in
    let e : point_records clock track l t.passes.0 d ++ change_records clock track t u.mode l p ≡ step_records clock track t d =
    (λ i. point_records clock track (el i) t.passes.0 d ++ change_records clock track t (f i) (el i) ((ep ∙ ap (passes_at t) el) i)) ∙ simp y in
    let w = staged-more xs (point_records clock track l t.passes.0 d) (change_records clock track t u.mode l p) a b in
    (ap stepped q, w ∙ ap (λ (rs : List Record). xs ++ log_bytes rs) e)

-- a point without a command writes nothing
pub obeyed-none : (clock d : ℕ) (t : Track) → command_of d ≡ 0 → obeyed_records clock d t ≡ []
obeyed-none clock d t e = simp (eq-eqb (command_of d) 0 e)
