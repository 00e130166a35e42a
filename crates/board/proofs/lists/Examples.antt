-- Lists that differ only in the cut, and lists that do not (01, "Lists of calls"), by computing.
use Prim.Native.Nat.{◌+◌, ◌-◌}
use native.Mathlib.Omega.{arith}
use mathlib.Core.Path.{◌≡◌, refl, ap}
use mathlib.Core.List.{List, [], ◌∷◌, ◌++◌}
use lib.IntN.{negsuc}
use lib.ListN.{length}
use Rattle.board.specs.declared.call.Call.{Call}
use Rattle.board.specs.declared.call.Call.TheVariants as call
use Rattle.board.specs.Cut.{Recut, merged_list}
use Rattle.board.specs.Call.{most, run_count, advance_by}
use Rattle.board.proofs.lists.Runs.{ran}
use Rattle.board.proofs.lists.Cards.{track, point, play, pause, resume, advance}

-- two lists that differ only in the cut
abbrev pub Alike : List Call → List Call → Type 0
Alike = Recut most run_count advance_by

-- calls with set-up and mode calls around them, and a run behind those
abbrev pub amid : List Call → List Call
amid cs = track 0 0 10 ∷ point 0 2 7 0 0 0 ∷ play 0 ∷ (cs ++ (pause 0 ∷ resume 0 ∷ advance 1 ∷ advance 1 ∷ []))

-- an advance of -1, and one of 4,294,967,296
abbrev pub below : Call
below = call.Advance (negsuc 0)

abbrev pub beyond : Call
beyond = advance (most + 1)

-- a call parts two runs: 3 before it and 4 behind it are not 7 on either side, but each of the two runs may be cut
abbrev pub Parts : Call → Type 0
Parts c =
    (Alike (amid (advance 3 ∷ c ∷ advance 4 ∷ [])) (amid (c ∷ advance 7 ∷ [])) → ⊥)
    × (Alike (amid (advance 3 ∷ c ∷ advance 4 ∷ [])) (amid (advance 7 ∷ c ∷ [])) → ⊥)
    × Alike (amid (advance 3 ∷ c ∷ advance 4 ∷ [])) (amid (advance 1 ∷ advance 2 ∷ c ∷ advance 0 ∷ advance 4 ∷ []))

-- with each run written as one advance they are of one length
as_long : {cs ds : List Call} → Alike cs ds → length (merged_list most run_count advance_by cs) ≡ length (merged_list most run_count advance_by ds)
as_long r = ap length r.same

-- ---- the table
pub record Cuts : Type 0 where
  -- a run 3, 0, 4 is one advance of 7
  pub zero_among : Alike (amid (advance 3 ∷ advance 0 ∷ advance 4 ∷ [])) (amid (advance 7 ∷ []))
  -- advances of 0 alone are a run: they are one advance of 0, and not none
  pub zeros : Alike (amid (advance 0 ∷ advance 0 ∷ [])) (amid (advance 0 ∷ []))
  pub zero_stays : Alike (amid (advance 0 ∷ [])) (amid []) → ⊥
  -- the sum of a run is at most 4,294,967,295
  pub longest : Alike (amid (advance (most - 1) ∷ advance 1 ∷ [])) (amid (advance most ∷ []))
  pub too_long : (cs : List Call) → Alike (amid (advance most ∷ advance 1 ∷ [])) cs → ⊥
  -- an advance with another count is in no run
  pub below_parts : Parts below
  pub beyond_parts : Parts beyond
  -- nor is any other call: a query parts two runs
  pub query_parts : Parts call.Clock

pub cuts : Cuts
unfolding ran
cuts =
    record {
      zero_among = record { same = refl; within = omega arith; within' = omega arith };
      zeros = record { same = refl; within = omega arith; within' = omega arith };
      zero_stays = λ r. omega (arith, as_long r);
      longest = record { same = refl; within = omega arith; within' = omega arith };
      too_long = λ cs r. omega (arith, r.within.0);
      below_parts =
          (λ r. omega (arith, as_long r), λ r. omega (arith, as_long r), record { same = refl; within = omega arith; within' = omega arith });
      beyond_parts =
          (λ r. omega (arith, as_long r), λ r. omega (arith, as_long r), record { same = refl; within = omega arith; within' = omega arith });
      query_parts =
          (λ r. omega (arith, as_long r), λ r. omega (arith, as_long r), record { same = refl; within = omega arith; within' = omega arith });
    }
