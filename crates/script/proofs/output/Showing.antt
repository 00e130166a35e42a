-- The laws of what is printed: notes of answers, and records of the log one behind the other.
use Prim.Native.Nat.{ℕ, zero, suc, ◌+◌, ◌-◌, ◌≤◌, ◌<◌, min}
use mathlib.Core.Path.{◌≡◌, refl, sym, ap, ◌∙◌}
use mathlib.Core.Bool.{Bool, true, false}
use mathlib.Core.List.{List, [], ◌∷◌, ◌++◌, append_assoc}
use native.Mathlib.Omega.{arith}
use lib.Dec.{leb}
use lib.ListN.{length, drop, take, length-drop, drop_of_length-le}
use lib.Seq.{drop-drop, take_all, take_at, drop_at}
use borrow.Author.Tests.{leb-true, leb-false}
use Rattle.board.specs.declared.log.Record.{Record}
use Rattle.board.specs.Log.{record_width, record_bytes, unpack_of, record_is, record_values}
use Rattle.board.specs.Replay.{flat, Each}
use Rattle.board.proofs.log.Records.{length_record}
use Rattle.board.specs.Call.{gridstep}
use Rattle.script.specs.Output.{unpacked_line, record_lines, line_each}

-- ---- records

-- past the end there is nothing, however far
pub drop-least : (s : List ℕ) (n k : ℕ) → k ≡ min n (length s) → drop k s ≡ drop n s
drop-least s n k e = go (leb n (length s)) refl
  where
    go : (t : Bool) → leb n (length s) ≡ t → drop k s ≡ drop n s
    go true q =
        let h = leb-true n (length s) q in
        let z : k ≡ n = omega arith in
        ap (λ (j : ℕ). drop j s) z
    go false q =
        let h = leb-false n (length s) q in
        drop_of_length-le s {i = k} (omega arith) ∙ sym (drop_of_length-le s {i = n} (omega arith))

module _ (s : List ℕ) (at end : ℕ) (within : at ≤ length s) (end_is : end ≡ min (at + record_width) (length s)) where
  record-at : take (end - at) (drop at s) ≡ take record_width (drop at s)
  record-at = go (leb (at + record_width) (length s)) refl
    where
      go : (t : Bool) → leb (at + record_width) (length s) ≡ t → take (end - at) (drop at s) ≡ take record_width (drop at s)
      go true q =
          let h = leb-true (at + record_width) (length s) q in
          let z : end - at ≡ record_width = omega arith in
          ap (λ (j : ℕ). take j (drop at s)) z
      go false q =
          let h = leb-false (at + record_width) (length s) q in
          let l = length-drop at s in
          take_all (end - at) (drop at s) (omega arith) ∙ sym (take_all record_width (drop at s) (omega arith))

  record-next : drop record_width (drop at s) ≡ drop end s
  record-next = drop-drop record_width at s ∙ sym (drop-least s (at + record_width) end end_is)

-- records whose bytes are the first in the log are shown one line each, if each unpacks to itself
pub lines-each : (rs : List Record) (rest : List ℕ) → Each (λ r. unpack_of (record_bytes r) ≡ record_is (record_values r)) rs
    → record_lines (length rs) (flat gridstep rs ++ rest) ≡ line_each rs
unfolding Each
lines-each [] rest h = refl
lines-each (r ∷ rs) rest h =
    let more = flat gridstep rs ++ rest in
    let e : flat gridstep (r ∷ rs) ++ rest ≡ record_bytes r ++ more = append_assoc (record_bytes r) (flat gridstep rs) rest in
    let l = length_record r in
    ap (λ (s : List ℕ). unpacked_line (unpack_of (take record_width s)) ++ record_lines (length rs) (drop record_width s)) e
    ∙ (λ i. unpacked_line (unpack_of (take_at (record_bytes r) more record_width l i)) ++ record_lines (length rs) (drop_at (record_bytes r) more record_width l i))
    ∙ (λ i. unpacked_line (h.0 i) ++ lines-each rs rest h.1 i)

lines_next : (n : ℕ) (s : List ℕ) → 0 < n → record_lines n s ≡ unpacked_line (unpack_of (take record_width s)) ++ record_lines (n - 1) (drop record_width s)
lines_next zero s h = absurd (omega arith)
lines_next (suc n) s h =
    let z : suc n - 1 ≡ n = omega arith in
    ap (λ (k : ℕ). unpacked_line (unpack_of (take record_width s)) ++ record_lines k (drop record_width s)) (sym z)

-- the next record, and those behind it
pub lines_at : (left at : ℕ) (s : List ℕ) → at ≤ length s → 0 < left → record_lines left (drop at s)
    ≡ unpacked_line (unpack_of (take (min (at + record_width) (length s) - at) (drop at s))) ++ record_lines (left - 1) (drop (min (at + record_width) (length s)) s)
lines_at left at s h p =
    let end = min (at + record_width) (length s) in
    lines_next left (drop at s) p
    ∙ (λ i. unpacked_line (unpack_of (sym (record-at s at end h refl) i)) ++ record_lines (left - 1) (record-next s at end h refl i))

pub ruleset showing = (lines_at, append_assoc)
