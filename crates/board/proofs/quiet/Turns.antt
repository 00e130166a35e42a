-- The turns of the loops over a word's members: the fewest quiet ticks, of the players and of the followers, and the leap.
use Prim.Native.Nat.{ℕ, ◌≤◌, ◌<◌, min}
use mathlib.Core.Path.{◌≡◌, refl, ap}
use mathlib.Core.Logic.{inl, inr, ⊎_elim}
use mathlib.Core.List.{List, [], ◌∷◌}
use native.Mathlib.Omega.{arith}
use lib.ListN.{set}
use Rattle.track.specs.declared.Track.{Track}
use Rattle.track.specs.Rule.{clock_end}
use Rattle.track.specs.Leap.{leap}
use Rattle.board.specs.Board.{track_at}
use Rattle.board.specs.Replay.{Each}
use Rattle.board.specs.Steady.{Steadies}
use Rattle.board.specs.Quiet.{AnyOf, QuietFor, QuietTicks, master_of, Fewest, WithMaster, CanLeap, Leapable, leap_into}
use Rattle.board.proofs.points.Keys.{lt-or-ge}

module _ (ts : List Track) (ms is : List ℕ) (i : ℕ) (e : ms ≡ i ∷ is) where
  -- the first track can be leapt, and so can the others
  pub leapable-next : Leapable ts ms → CanLeap (track_at ts i) × Leapable ts is
  unfolding Each
  leapable-next a = rw e at a

  -- the first follower and its master are a pair, and so are the others
  pub pairs_next : Each (WithMaster ts) ms → WithMaster ts i × Each (WithMaster ts) is
  unfolding Each
  pairs_next a = rw e at a

  -- what is the fewest for the others, taken from the lesser of a bound and the ticks of the first, is the fewest for all
  pub fewest-next : (ks fs : List ℕ) (a q : ℕ) {b : ℕ} (r : ℕ) → a ≤ clock_end → QuietTicks ks i (track_at ts i) q → b ≡ min a q
      → Fewest ks ts is fs b r → Fewest ks ts ms fs a r
  unfolding Each AnyOf
  fewest-next ks fs a q {b} r ha s eb f =
      let l = f.small in
      rw e
      (record {
        small = omega arith;
        quiet = (λ j m. s.quiet j (omega arith), f.quiet);
        steady = f.steady;
        exact =
            λ h. ⊎_elim
            (λ (m : r < b). ⊎_elim (λ x. inl (inr x)) inr (f.exact m))
            (λ (m : b ≤ r). let k : r ≡ q = omega arith in inl (inl (rw k (s.exact (omega arith)))))
            (lt-or-ge r b);
      })

  -- the same of the followers
  pub steady-next : (ks ps : List ℕ) (a q : ℕ) {b : ℕ} (r : ℕ) → a ≤ clock_end → Steadies (track_at ts i) (master_of ts i) q → b ≡ min a q
      → Fewest ks ts ps is b r → Fewest ks ts ps ms a r
  unfolding Each AnyOf
  steady-next ks ps a q {b} r ha s eb f =
      let l = f.small in
      rw e
      (record {
        small = omega arith;
        quiet = f.quiet;
        steady = (λ n p m. s.steady n p (omega arith), f.steady);
        exact =
            λ h. ⊎_elim
            (λ (m : r < b). ⊎_elim inl (λ x. inr (inr x)) (f.exact m))
            (λ (m : b ≤ r). let k : r ≡ q = omega arith in inr (inl (rw k (s.exact (omega arith)))))
            (lt-or-ge r b);
      })

  -- the first track put in its place, the others are still to be leapt
  pub leap-next : (k : ℕ) (us : List Track) {x : Track} → x ≡ leap (track_at ts i) k → leap_into k ts is (set us i x) ≡ leap_into k ts ms us
  unfolding leap_into
  leap-next k us ex = rw e (ap (λ (y : Track). leap_into k ts is (set us i y)) ex)

-- with no track left, the fewest and the leapt tracks are those found
pub fewest-end : (ks : List ℕ) (ts : List Track) (ps fs : List ℕ) (a : ℕ) → ps ≡ [] → fs ≡ [] → Fewest ks ts ps fs a a
unfolding Each
fewest-end ks ts ps fs a e d = rw e (rw d (record { small = omega arith; quiet = tt; steady = tt; exact = λ h. absurd (omega arith) }))

pub leap-end : (k : ℕ) (ts : List Track) (ms : List ℕ) (us : List Track) → ms ≡ [] → us ≡ leap_into k ts ms us
unfolding leap_into
leap-end k ts ms us e = rw e refl

-- fewer quiet ticks are quiet
quiet-fewer : (ks : List ℕ) (ts : List Track) (q r : ℕ) → r ≤ q → (ps : List ℕ) → Each (λ i. QuietFor ks q i (track_at ts i)) ps
    → Each (λ i. QuietFor ks r i (track_at ts i)) ps
unfolding Each
quiet-fewer ks ts q r l [] a = tt
quiet-fewer ks ts q r l (i ∷ ps) a = (λ j h. a.0 j (omega arith), quiet-fewer ks ts q r l ps a.1)

-- the fewest of the players, and of these the fewest of the followers, are the fewest of both
pub fewest-both : (ks : List ℕ) (ts : List Track) (ps fs : List ℕ) (a q r : ℕ) → Fewest ks ts ps [] a q → Fewest [] ts [] fs q r → Fewest ks ts ps fs a r
unfolding AnyOf
fewest-both ks ts ps fs a q r p f =
    let l = p.small in
    let m = f.small in
    record {
      small = omega arith;
      quiet = quiet-fewer ks ts q r f.small ps p.quiet;
      steady = f.steady;
      exact =
          λ h. ⊎_elim
          (λ (n : r < q). ⊎_elim (λ x. absurd x) inr (f.exact n))
          (λ (n : q ≤ r). let k : r ≡ q = omega arith in rw k (⊎_elim inl (λ x. absurd x) (p.exact (omega arith))))
          (lt-or-ge r q);
    }

-- and where none follows, those of the players
pub fewest-alone : (ks : List ℕ) (ts : List Track) (ps fs : List ℕ) (a r : ℕ) → fs ≡ [] → Fewest ks ts ps [] a r → Fewest ks ts ps fs a r
fewest-alone ks ts ps fs a r e f = rw e f
