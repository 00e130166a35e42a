-- The turns of the tick loop are bounded by the records that it writes and the ticks in which a track of a follower's pair leaves its
-- line, and not by all ticks: `turns_left` is the measure of the loop (`decreases-ticks` in advance/run/Invariants), which every turn that goes
-- round again lessens by one at least.
use Rattle.std.specs.Prelude.{Option, Some, None}
use Prim.Native.Nat.{ℕ, zero, suc, ◌+◌, ◌-◌, ◌*◌, ◌/◌, ◌%◌, ◌^◌, ◌≤◌, ◌<◌, min, suc-le-suc}
use mathlib.Core.Path.{◌≡◌, refl, sym, ap, ◌∙◌}
use mathlib.Core.Logic.{◌⊎◌, inl, inr, ⊎_elim}
use mathlib.Core.Bool.{Bool, true, false, cond, not, true≢false}
use mathlib.Core.List.{List, [], ◌∷◌}
use native.Mathlib.Omega.{arith}
use native.Mathlib.Nat.{add-zero, div-one, zero-lt-suc}
use lib.Dec.{eqb}
use lib.ListN.{length, get_or}
use borrow.Author.Tests.{eq-eqb, ne_eqb}
use Rattle.track.specs.declared.Track.{Track}
use Rattle.track.specs.Rule.{clock_end}
use Rattle.track.specs.Follow.{up_to_zero, thresholds_of, follows}
use Rattle.track.proofs.Tests.{cond_cases}
use Rattle.board.specs.Log.{write_at, record_width, log_bytes, capacity}
use Rattle.board.specs.Points.{keys_of, infos_of, track_count, NonzeroInfos}
use Rattle.board.specs.Board.{track_at, Unbroken}
use Rattle.board.specs.declared.Board.{Board}
use Rattle.board.specs.Cut.{Ran, ticks}
use Rattle.board.specs.Replay.{World, Each, w-halt, w-step}
use Rattle.board.proofs.points.Keys.{lt-or-ge}
use Rattle.board.proofs.rules.Broken.{present-bit, half-bit, unbroken-of}
use Rattle.board.proofs.replay.Cuts.{ticks-on, ticks-off}
use Rattle.board.specs.Tick.{members, Stage, playing_word, follow_bit, follow_word, band_bit, band_count}
use Rattle.board.specs.Steady.{SteadyFor, PairLeaves}
use Rattle.board.specs.Quiet.{AnyOf, QuietFor, master_of, Fewest, Leapable, leap_tracks}
use Rattle.board.proofs.quiet.Leaps.{leap-tracks-long, leap-tracks-word, leap-tracks-zero}
use Rattle.board.proofs.quiet.Bands.{leap-bands}
use Rattle.board.proofs.quiet.Pairs.{Mastered}
use Rattle.board.proofs.tick.Steps.{members-most}
use Rattle.board.specs.Call.{Stop, gridstep, world}
use Rattle.board.specs.declared.call.Advanced.{Advanced}
use Rattle.board.specs.Advance.{records_left, leaving, leavings, turns_left}
use Rattle.board.proofs.advance.Advancing.{Going, board_at, go, stage_of, halt-none, step_is, halt-at, step-at}
use Rattle.board.proofs.advance.Leavings.{leavings-on, no-leavings, no-follower, leavings-over, leavings-within, leap-leaves}
use Rattle.board.proofs.advance.Walked.{tick-starts, walked-tick}

one : (look : Bool) → cond look 0 1 ≤ 1
one true = omega arith
one false = omega arith

-- no more bands are held than there are tracks
bands-most : (present : ℕ) (ts : List Track) → band_count present ts ≤ length ts
unfolding band_count
bands-most present [] = omega arith
bands-most present (t ∷ ts) =
    let b : band_bit (present % 2) t ≤ 1 = cond_cases (λ (n : ℕ). n ≤ 1) (eqb t.band 0) (λ e. omega arith) (λ e. omega arith) in
    omega (arith, bands-most (present / 2) ts)

-- So a loop with `left` ticks to do goes round at most three times for each record that these ticks write, once for each of them in which a
-- track of a follower's pair leaves its line or the pair is at an edge, and 34 times more, however many they are: sixteen tracks play at most, and sixteen bands are
-- held. A turn in which it is left comes behind.
pub turns-bound : (look : Bool) (left : ℕ) (u : World Board) → length u.board.tracks ≡ track_count
    → turns_left look left u ≤ 3 * records_left left u + leavings left u + 34
turns-bound look left u l =
    omega
    (arith, members-most track_count 0 (playing_word u.board.present u.board.tracks), bands-most u.board.present u.board.tracks, one look)

-- ---- where no track follows

no-threshold : (xs : List ℕ) → not (eqb (get_or xs 0 0) 0) ≡ false → up_to_zero xs ≡ []
unfolding up_to_zero
no-threshold [] e = refl
no-threshold (zero ∷ xs) e = refl
no-threshold (suc x ∷ xs) e = absurd (true≢false (ap not (sym (ne_eqb (suc x) 0 (λ q. omega arith))) ∙ e))

-- no track holds a band
no-bands : (present : ℕ) (ts : List Track)
    → ((i : ℕ) → i < length ts → present / 2 ^ i % 2 ≡ 1 → (track_at ts i).band ≤ length (thresholds_of (track_at ts i)))
    → follow_word present ts ≡ 0 → band_count present ts ≡ 0
unfolding band_count follow_word
no-bands present [] f e = refl
no-bands present (t ∷ ts) f e =
    let r = no-bands (present / 2) ts
    (λ i l h. f (suc i) (suc-le-suc l) (ap (λ (m : ℕ). m % 2) (sym (half-bit present i)) ∙ h)) (omega arith) in
    let z = head (follows t) refl (omega arith) (present % 2) refl in
    omega arith
  where
    head : (b : Bool) → follows t ≡ b → follow_bit (present % 2) t ≡ 0 → (d : ℕ) → present % 2 ≡ d → band_bit d t ≡ 0
    head b eb z zero ed = cond_cases (λ (n : ℕ). n ≡ 0) (eqb t.band 0) (λ e. refl) (λ e. refl)
    head true eb z (suc d) ed = absurd (omega (arith, rw eb at z))
    head false eb z (suc d) ed =
        let n = f 0 (zero-lt-suc (length ts)) (ap (λ (m : ℕ). m % 2) (div-one present) ∙ (let s : present % 2 ≡ 1 = omega arith in s)) in
        let k : t.band ≡ 0 = omega (arith, ap length (no-threshold t.thresholds eb)) in
        rw (eq-eqb t.band 0 k)

-- So without followers the bound goes by the records alone.
pub turns-bound-alone : (look : Bool) (left : ℕ) (u : World Board) → Unbroken u.board → follow_word u.board.present u.board.tracks ≡ 0
    → turns_left look left u ≤ 3 * records_left left u + 18
turns-bound-alone look left u w e =
    let present = u.board.present in
    let ts = u.board.tracks in
    omega (
      arith,
      members-most track_count 0 (playing_word present ts),
      no-bands present ts (λ i m h. (w.followers i (sym (present-bit present i (omega (arith, w.shape.tracks))) ∙ eq-eqb _ 1 h)).band) e,
      no-follower left u e,
      one look,
    )

-- ticks take no record back
held-grows : (n : ℕ) (u : World Board) → u.board.held ≤ (go n u).end.board.held
unfolding ticks
held-grows zero u = omega arith
held-grows (suc n) u = at (w-halt gridstep u) refl (held-grows n (w-step gridstep u))
  where
    at : (o : Option Stop) → w-halt gridstep u ≡ o → (w-step gridstep u).board.held ≤ (go n (w-step gridstep u)).end.board.held
        → u.board.held ≤ (go (suc n) u).end.board.held
    at None e h = omega (arith, ap (λ (x : Ran Stop (World Board)). x.end.board.held) (ticks-on (w-halt gridstep) (w-step gridstep) n u e))
    at (Some s) e h = omega (arith, ap (λ (x : Ran Stop (World Board)). x.end.board.held) (ticks-off (w-halt gridstep) (w-step gridstep) n u s e))

more : (left room : ℕ) → 0 < left → 0 < room → min 1 (min left room) ≡ 1
more left room p q = omega arith

no_more : (left room : ℕ) → min left room ≡ 0 → min 1 (min left room) ≡ 0
no_more left room e = omega arith

-- a leap that leaves no tick to take pays for its turn by that
leap-pays : (w v a b d e c l l' o o' : ℕ) → w ≡ v → a ≡ b → d ≡ e → l' ≡ 0 → o ≡ 1 → o' ≡ 0
    → 3 * v + b + e + l' + c + o' < 3 * w + a + d + l + c + o
leap-pays w v a b d e c l l' o o' ew ea ed el p q = omega arith

-- a tick with records pays for its turn, and one without by a track that plays no more, a band that is none, a track that left its line, or
-- by the turn that didn't look
walk-pays : (w v R a b d e l l' o o' : ℕ) (look : Bool) → w ≡ R + v → b + e ≤ a + d + R → l' ≤ l → o ≡ 1 → o' ≤ 1
    → ((look ≡ true) → (0 < R) ⊎ ((b + e < a + d) ⊎ (l' < l)))
    → 3 * v + b + e + l' + cond (eqb R 0) 0 1 + o' < 3 * w + a + d + l + cond look 0 1 + o
walk-pays w v zero a b d e l l' o o' true ew s m p q f =
    ⊎_elim (λ (r : 0 < 0). absurd (omega arith)) (λ x. ⊎_elim (λ (r : b + e < a + d). omega arith) (λ (r : l' < l). omega arith) x) (f refl)
walk-pays w v zero a b d e l l' o o' false ew s m p q f = omega arith
walk-pays w v (suc R) a b d e l l' o o' true ew s m p q f = omega (arith, one (eqb (suc R) 0))
walk-pays w v (suc R) a b d e l l' o o' false ew s m p q f = omega (arith, one (eqb (suc R) 0))

module _ (b : Board) (count : ℕ) (log₀ : List ℕ) where
  abbrev here : List Track → ℕ → ℕ → List ℕ → World Board
  here ts clock held log = world (board_at b ts clock held) log

  abbrev playing : List Track → ℕ
  playing ts = length (members (playing_word b.present ts))

  abbrev bands : List Track → ℕ
  bands ts = band_count b.present ts

  abbrev led : List Track → List ℕ
  led ts = members (follow_word b.present ts)

  -- what is records_left in the end, told from where the loop stands
  owed : {log : List ℕ} {ts : List Track} {clock held taken : ℕ} {answer : Advanced} → Going b count log₀ log ts clock held taken answer
      → (go count (world b log₀)).end.board.held ≡ held + records_left (count - taken) (here ts clock held log)
  owed {log} {ts} {clock} {held} {taken} g =
      omega (arith, ap (λ (x : Ran Stop (World Board)). x.end.board.held) g.so_far, held-grows (count - taken) (here ts clock held log))

  module _ {log log' : List ℕ} {ts ts' : List Track} {clock clock' held held' taken taken' : ℕ} {answer answer' : Advanced}
      (g : Going b count log₀ log ts clock held taken answer) (g' : Going b count log₀ log' ts' clock' held' taken' answer')
      (left : taken < count) (early : clock < clock_end) where
    -- a leap over all that can be taken
    pub leap-less : (look : Bool) → held' ≡ held → playing_word b.present ts' ≡ playing_word b.present ts → bands ts' ≡ bands ts
        → min (count - taken') (clock_end - clock') ≡ 0
        → turns_left look (count - taken') (here ts' clock' held' log') < turns_left look (count - taken) (here ts clock held log)
    leap-less look h w v e =
        let u = here ts clock held log in
        let u' = here ts' clock' held' log' in
        leap-pays (records_left (count - taken) u) (records_left (count - taken') u') (playing ts) (playing ts') (bands ts) (bands ts') (cond look 0 1)
        (leavings (count - taken) u) (leavings (count - taken') u') _ _ (omega (arith, owed g, owed g', h))
        (ap (λ (x : ℕ). length (members x)) (sym w)) (sym v) (no-leavings (count - taken') u' e)
        (more _ _ (omega arith) (omega arith)) (no_more _ _ e)

    -- the tick behind k quiet ones, all that there are if the turn looked for them, with so many records
    module _ (k : ℕ) (leapable : Leapable ts (members (playing_word b.present ts))) (mastered : Mastered b.present ts (led ts))
        (tell : NonzeroInfos (keys_of b.points) (infos_of b.points)) where
      abbrev leapt : List Track
      leapt = leap_tracks k b.present ts

      abbrev ticked : Stage
      ticked = stage_of b log leapt (clock + k) held

      starts : playing ticked.tracks + bands ticked.tracks ≤ playing ts + bands ts + length ticked.records
      starts =
          omega (
            arith,
            tick-starts (keys_of b.points) (infos_of b.points) (clock + k + 1) b.present leapt (leap-tracks-long k b.present ts ∙ g.tracks_long),
            ap (λ (w : ℕ). length (members w)) (leap-tracks-word k b.present ts),
            leap-bands k b.present ts,
          )

      -- the ticks from where the turn began to where it ends
      module _ {total : ℕ} (eh : held' ≡ held + total) (et : ts' ≡ ticked.tracks) (er : total ≡ length ticked.records)
          (ec : clock' ≡ clock + k + 1) (ek : taken' ≡ taken + k + 1) (el : log' ≡ write_at log (held * record_width) (log_bytes ticked.records))
          (r : ℕ) (kr : k ≤ r) (quiet : Each (λ i. QuietFor (keys_of b.points) r i (track_at ts i)) (members (playing_word b.present ts)))
          (steady : Each (λ i. SteadyFor r (track_at ts i) (master_of ts i)) (led ts)) where
        late : clock' ≤ clock_end
        late = (unbroken-of (board_at b ts' clock' held') g'.whole).clock

        fit : held ≤ capacity (length log)
        fit = rw g.long g.fits

        room : held + length ticked.records ≤ capacity (length log)
        room = rw g.long (omega (arith, g'.fits))

        abbrev passing : ℕ → World Board
        passing j = here (leap_tracks j b.present ts) (clock + j) held log

        -- the last is the tick that is walked
        walked : leavings (suc (count - taken')) (passing k) ≡ leaving (passing k).board + leavings (count - taken') (here ts' clock' held' log')
        walked =
            leavings-on (count - taken') (passing k) (halt-none b log leapt (clock + k) held (omega (arith, late)) room)
            ∙ ap (λ (w : World Board). leaving (passing k).board + leavings (count - taken') w)
            (step_is b log leapt (clock + k) held room ∙ (λ j. here (sym et j) (sym ec j) ((ap (λ (n : ℕ). held + n) (sym er) ∙ sym eh) j) (sym el j)))

        -- the others are leapt
        begins : leavings (count - taken) (here ts clock held log) ≡ leavings (k + suc (count - taken')) (passing 0)
        begins =
            let e : count - taken ≡ k + suc (count - taken') = omega (arith, g'.taken_le) in
            λ j. leavings (e j) (here (sym (leap-tracks-zero b.present ts g.tracks_long leapable) j) (sym (add-zero clock) j) held log)

        halts : (j : ℕ) → j < k → w-halt gridstep (passing j) ≡ None
        halts j h = halt-at b log ts clock held r g.tracks_long leapable quiet mastered steady fit j (omega arith) (omega (arith, late))

        steps : (j : ℕ) → j < k → w-step gridstep (passing j) ≡ passing (suc j)
        steps j h = step-at b log ts clock held r g.tracks_long leapable quiet mastered steady fit j (omega arith)

        zero_is : (j : ℕ) → 0 + j ≡ j
        zero_is j = omega arith

        -- they count no more behind the turn
        leavings-less : leavings (count - taken') (here ts' clock' held' log') ≤ leavings (count - taken) (here ts clock held log)
        leavings-less =
            let e = ap (λ (j : ℕ). leavings (suc (count - taken')) (passing j)) (zero_is k) in
            omega (arith, walked, begins, leavings-over passing k halts steps k 0 (suc (count - taken')) (omega arith))

        -- and less, if a track leaves its line in one of them
        leavings-fewer : AnyOf (λ i. PairLeaves (suc k) (track_at ts i) (master_of ts i)) (led ts)
            → leavings (count - taken') (here ts' clock' held' log') < leavings (count - taken) (here ts clock held log)
        leavings-fewer s =
            let w = leap-leaves b ts clock held (suc k) mastered s in
            let e = ap (λ (j : ℕ). leavings (suc (count - taken')) (passing j)) (zero_is k) in
            ⊎_elim
            (λ (h : w.0 < k).
            let z = ap (λ (j : ℕ). leaving (passing j).board) (zero_is w.0) in
            omega (arith, walked, begins, leavings-within passing k halts steps k 0 w.0 (suc (count - taken')) (omega arith) h (omega (arith, w.2))))
            (λ (h : k ≤ w.0).
            let q : w.0 ≡ k = omega (arith, w.1) in
            let z = ap (λ (j : ℕ). leaving (passing j).board) q in
            omega (arith, walked, begins, w.2, leavings-over passing k halts steps k 0 (suc (count - taken')) (omega arith)))
            (lt-or-ge w.0 k)

        pub walk-less : (look : Bool) → k < clock_end
            → ((look ≡ true) → Fewest (keys_of b.points) ts (members (playing_word b.present ts)) (led ts) clock_end k)
            → turns_left (eqb total 0) (count - taken') (here ts' clock' held' log') < turns_left look (count - taken) (here ts clock held log)
        walk-less look l f =
            let u = here ts clock held log in
            let u' = here ts' clock' held' log' in
            walk-pays (records_left (count - taken) u) (records_left (count - taken') u') total (playing ts) (playing ts') (bands ts) (bands ts')
            (leavings (count - taken) u) (leavings (count - taken') u') _ _ look (omega (arith, owed g, owed g', eh)) (rw et (rw er starts)) leavings-less (more _ _ (omega arith) (omega arith)) (omega arith)
            (λ e.
            ⊎_elim (λ w. inl (rw er w)) (λ x. ⊎_elim (λ w. inr (inl (rw et w))) (λ s. inr (inr (leavings-fewer s))) x)
            (walked-tick (keys_of b.points) (infos_of b.points) (clock + k + 1) b.present ts g.tracks_long leapable mastered tell k clock_end (f e) l))
