-- The acts of a track in a call, and in a list of calls, are a path of the automaton.
use Rattle.std.specs.Prelude.{Option, Some, None}
use Prim.Native.Nat.{ℕ, zero, suc, ◌+◌}
use mathlib.Core.Path.{◌≡◌, refl, sym, ◌∙◌, ap, subst}
use mathlib.Core.Logic.{⊎_elim}
use mathlib.Core.Bool.{Bool, true, false, cond}
use mathlib.Core.List.{List, [], ◌∷◌}
use native.Mathlib.Omega.{arith}
use lib.Dec.{eqb, leb}
use lib.IntN.{ℤ}
use lib.ListN.{length, set}
use lib.Seq.{get_or-set_same, get_or-set_other}
use borrow.Author.Tests.{eqb-true, eqb-false}
use Rattle.track.specs.declared.refusal.Refusal.{Refusal}
use Rattle.track.specs.declared.refusal.Refusal.TheVariants as refusal
use Rattle.track.specs.Refusal.{number_of}
use Rattle.track.specs.declared.Track.{Track}
use Rattle.track.specs.declared.setup.Change.{Change}
use Rattle.track.specs.declared.setup.Change.TheVariants as change
use Rattle.track.specs.Setup.{Changed}
use Rattle.track.specs.Rule.{STOPPED, new_track, entered}
use Rattle.track.specs.Grid.{PLAY, PAUSE, RESUME, STOP, grid_of}
use Rattle.track.specs.Number.{natural_of, on_some}
use Rattle.track.specs.Setup.{settled, permits, set_by, changed_by}
use Rattle.track.proofs.Tests.{cond_cases, cond_yes}
use Rattle.track.proofs.Setups.{changed-keeps}
use Rattle.board.proofs.points.Keys.{same_or_not}
use Rattle.board.specs.declared.Board.{Board}
use Rattle.board.specs.Setup.{Outcome}
use Rattle.board.specs.Board.{track_at, no_track, is_present, unbroken_test, found_in, Unbroken}
use Rattle.board.specs.Setup.{refused, board_with, put_track, set_up, add_track, set_master}
use Rattle.board.proofs.rules.Broken.{present-small}
use Rattle.board.proofs.rules.Present.{found_in_lem}
use Rattle.board.proofs.setup.Keeping.{present-added, present-others}
use Rattle.board.proofs.setup.Ways.{by-natural, add-track-ways, set-point-ways, drop-point-ways, set-master-ways, clear-ways}
use Rattle.board.proofs.tick.Commands.{at_set}
use Rattle.board.specs.Mode.{ModeResult, declined, call_records, changing, changes_to, decided, mode_result}
use Rattle.board.specs.Log.{capacity}
use Rattle.board.specs.declared.call.Call.{Call}
use Rattle.board.specs.declared.call.Call.TheVariants as call
use Rattle.board.specs.Cut.{ticks, passed, Part, run, one, performs}
use Rattle.board.specs.Replay.{World, w-halt, w-bar, w-step, perform}
use Rattle.board.proofs.replay.Cuts.{ticks-on, ticks-off, passed_on, passed-off, advance-in, advance-out, crossed-in, crossed-out}
use Rattle.board.specs.Call.{answered, Stop, stopped_by, pair_numbers, says_of, makes_of, gridstep}
use Rattle.board.specs.Call as does
use Rattle.board.proofs.call.Machine.{halt-none, tick-whole, call-whole}
use Rattle.board.specs.premo.Automaton.{Act, exc, offers, after, Path}
use Rattle.board.specs.premo.Acts.{mode_of, act_of, is_number, is_on, change_acts, deed_of, is_refusal, answered_acts, tick_acts, ticks_acts, call_acts, list_acts}
use Rattle.board.proofs.premo.Paths.{path-ends, path-append}
use Rattle.board.proofs.premo.Ticks.{Led, grid-led, entered-mode, tick-path}

-- the number of a track that is found
found_number : (present : ℕ) (track : ℤ) {j : ℕ} → found_in present track ≡ Some j → natural_of track 0 15 ≡ Some j
unfolding found_in
found_number present track {j} = go (natural_of track 0 15)
  where
    go : (n : Option ℕ) → on_some n (λ k. cond (is_present present k) (Some k) None) None ≡ Some j → n ≡ Some j
    go (Some k) e = cond_cases (λ (n : Option ℕ). n ≡ Some j → Some k ≡ Some j) (is_present present k) (λ _ e. e) (λ _ e. cc) e
    go None e = e

-- a mode call is refused, or takes the present track of its number where the grid says
pub result-cases : (b : Board) (n : ℕ) (track : ℤ) (c : ℕ) (P : ModeResult → Type 0) → ((e : Refusal) → P (declined (number_of e) b)) →
    ((j mode : ℕ) → natural_of track 0 15 ≡ Some j → is_present b.present j ≡ true
    → grid_of (track_at b.tracks j).mode c ≡ Some mode → P (changing b j mode)) → P (mode_result b n track c)
unfolding mode_result decided changes_to
result-cases b n track c P declines does =
    cond_cases P (unbroken_test b)
    (λ _. cond_cases P (leb b.held (capacity n))
    (λ _. by-natural P (found_in b.present track) _ (declined 1 b)
    (λ j e. go j (found_number b.present track e) (found_in_lem b.present track e) (grid_of (track_at b.tracks j).mode c) refl)
    (declines refusal.Track)) (λ _. declines refusal.Capacity)) (λ _. declines refusal.Value)
  where
    go : (j : ℕ) → natural_of track 0 15 ≡ Some j → is_present b.present j ≡ true → (d : Option ℕ)
        → grid_of (track_at b.tracks j).mode c ≡ d → P (decided b n j d)
    go j e h (Some mode) g =
        cond_cases P (leb (b.held + length (call_records b j mode)) (capacity n)) (λ _. does j mode e h g) (λ _. declines refusal.Room)
    go j e h None g = declines refusal.Mode

pub present-mode : (b : Board) (i : ℕ) → is_present b.present i ≡ true → (track_at b.tracks i).mode ≡ mode_of b i
present-mode b i h = cond_yes _ _ h refl

-- ---- one call

module _ (b : Board) (whole : Unbroken b) (i : ℕ) where
  abbrev mode : ℕ
  mode = mode_of b i

  -- a refused call on the track, or one on another
  refused-path : (on : Bool) → Path mode (cond on (exc ∷ []) []) mode
  unfolding offers after Path
  refused-path true = (refl, refl)
  refused-path false = refl

  -- a call that is no act where it is accepted, and keeps the mode
  kept-path : (c : Call) (n : ℕ) → deed_of c ≡ [] → mode_of (makes_of c n b).board i ≡ mode
      → Path mode (answered_acts i c (says_of c n b)) (mode_of (makes_of c n b).board i)
  unfolding offers after Path
  kept-path c n idle same =
      path-ends (answered_acts i c (says_of c n b)) refl (sym same)
      (subst (λ (xs : List Act). Path mode (cond (is_on i c) (cond (is_refusal (says_of c n b)) (exc ∷ []) xs) []) mode) (sym idle)
      (go (is_on i c) (is_refusal (says_of c n b))))
    where
      go : (on refuses : Bool) → Path mode (cond on (cond refuses (exc ∷ []) []) []) mode
      go true true = (refl, refl)
      go true false = refl
      go false refuses = refl

  -- the mode of the track once u stands in the place of track j
  placed : (j : ℕ) (u : Track) → (i ≡ j → u.mode ≡ (track_at b.tracks i).mode)
      → mode_of (board_with b (set b.tracks j u) b.present b.points b.held) i ≡ mode
  placed j u h =
      ap (λ (m : ℕ). cond (is_present b.present i) m STOPPED)
      (at_set (λ (t : Track). t.mode ≡ (track_at b.tracks i).mode) b.tracks j i u refl h)

  -- a call on the present track j: its acts if that is track i, and none otherwise
  number-path : (track : ℤ) (j : ℕ) (xs : List Act) (m : ℕ) → natural_of track 0 15 ≡ Some j
      → (j ≡ i → Path mode xs m) → ((i ≡ j → ⊥) → m ≡ mode) → Path mode (cond (is_number i track) xs []) m
  unfolding Path
  number-path track j xs m e here there =
      subst (λ (z : Option ℕ). Path mode (cond (on_some z (λ k. eqb k i) false) xs []) m) (sym e) (go (eqb j i) refl)
    where
      go : (same : Bool) → eqb j i ≡ same → Path mode (cond same xs []) m
      go true q = here (eqb-true j i q)
      go false q = sym (there (λ r. eqb-false j i q (sym r)))

  -- the mode of track j, if that is track i
  same-mode : (j : ℕ) → is_present b.present j ≡ true → j ≡ i → (track_at b.tracks j).mode ≡ mode
  same-mode j h q = present-mode b j h ∙ ap (mode_of b) q

  -- ---- set-up calls

  -- a track that is added was absent, and is STOPPED
  added : (number lo hi : ℤ) → mode_of (add_track b number lo hi).board i ≡ mode
  unfolding new_track
  added number lo hi =
      add-track-ways b (λ (o : Outcome). mode_of o.board i ≡ mode) (λ _. refl) number lo hi
      (λ j low high l absent _ _.
      ⊎_elim
      (λ (e : i ≡ j). rw (
        e,
        present-added b.present j l absent,
        absent,
        get_or-set_same b.tracks j (new_track low high) no_track (omega (arith, whole.shape.tracks)),
      ))
      (λ (n : i ≡ j → ⊥). rw (present-others b.present j l absent i n, get_or-set_other b.tracks j i (new_track low high) no_track n))
      (same_or_not i j))

  -- a track that gets a master keeps its mode
  mastered : (track master : ℤ) (zs : List ℤ) → mode_of (set_master b track master zs).board i ≡ mode
  mastered track master zs =
      set-master-ways b (λ (o : Outcome). mode_of o.board i ≡ mode) (λ _. refl) track master zs
      (λ j m _ _ _ _ _ _. placed j _ (λ q. ap (λ (n : ℕ). (track_at b.tracks n).mode) (sym q)))

  -- a change keeps the mode, and a jump is accepted only where it is offered
  change-path : (t : Track) (c : Change) → Path t.mode (cond (is_refusal (answered (changed_by t c).answer)) (exc ∷ []) (change_acts c)) t.mode
  unfolding changed_by permits settled offers after Path
  change-path t c =
      cond_cases (λ (r : Changed). Path t.mode (cond (is_refusal (answered r.answer)) (exc ∷ []) (change_acts c)) t.mode)
      (permits c t.mode) (allowed c (is_refusal (answered (set_by t c).answer))) (λ _. (refl, refl))
    where
      allowed : (c : Change) (refuses : Bool) → permits c t.mode ≡ true → Path t.mode (cond refuses (exc ∷ []) (change_acts c)) t.mode
      allowed c true e = (refl, refl)
      allowed (change.Start p) false e = refl
      allowed (change.End p) false e = refl
      allowed (change.Loops k) false e = refl
      allowed (change.Repeat f) false e = refl
      allowed (change.Direction d) false e = refl
      allowed (change.Action from to event) false e = refl
      allowed (change.Jump p) false e = (e, refl)
      allowed (change.Rate p q) false e = refl

  set-up-path : (track : ℤ) (c : Change) →
      let o = set_up b track c in
      Path mode (cond (is_number i track) (cond (is_refusal (answered o.answer)) (exc ∷ []) (change_acts c)) []) (mode_of o.board i)
  unfolding set_up Path
  set-up-path track c =
      cond_cases Traced (unbroken_test b)
      (λ _. by-natural Traced (found_in b.present track) _ (refused 1 b)
      (λ j e. at j (found_number b.present track e) (found_in_lem b.present track e))
      (refused-path (is_number i track))) (λ _. refused-path (is_number i track))
    where
      Traced : Outcome → Type 0
      Traced o = Path mode (cond (is_number i track) (cond (is_refusal (answered o.answer)) (exc ∷ []) (change_acts c)) []) (mode_of o.board i)

      at : (j : ℕ) → natural_of track 0 15 ≡ Some j → is_present b.present j ≡ true → Traced (put_track b j (changed_by (track_at b.tracks j) c))
      at j e h =
          let t = track_at b.tracks j in
          let k = changed-keeps t (whole.tracks j h).valid c in
          let same = placed j (changed_by t c).track (λ q. k.mode ∙ ap (λ (n : ℕ). (track_at b.tracks n).mode) (sym q)) in
          let xs = cond (is_refusal (answered (changed_by t c).answer)) (exc ∷ []) (change_acts c) in
          number-path track j xs _ e (λ q. let s = same-mode j h q in path-ends xs s (s ∙ sym same) (change-path t c)) (λ _. same)

  -- ---- mode calls

  mode-path : (n : ℕ) (track : ℤ) (c : ℕ) →
      let m = mode_result b n track c in
      Path mode (cond (is_number i track) (cond (is_refusal (answered m.answer)) (exc ∷ []) (act_of c ∷ [])) []) (mode_of m.board i)
  unfolding Path
  mode-path n track c =
      result-cases b n track c
      (λ (m : ModeResult). Path mode (cond (is_number i track) (cond (is_refusal (answered m.answer)) (exc ∷ []) (act_of c ∷ [])) []) (mode_of m.board i))
      (λ _. refused-path (is_number i track))
      (λ j m e h g.
      let t = track_at b.tracks j in
      let u = entered t m in
      let led = subst (Led t.mode c) g (grid-led t.mode c) in
      let here = get_or-set_same b.tracks j u no_track (omega (arith, present-small b.present j h, whole.shape.tracks)) in
      number-path track j (act_of c ∷ []) _ e
      (λ q. path-ends (act_of c ∷ []) (same-mode j h q)
      (sym (entered-mode t m) ∙ ap (λ (t : Track). t.mode) (sym here) ∙ present-mode (changing b j m).board j h ∙ ap (mode_of (changing b j m).board) q) led)
      (λ n. placed j u (λ q. absurd (n q))))

  -- ---- every call but an advance

  call-path : (c : Call) (n : ℕ) → Path mode (answered_acts i c (says_of c n b)) (mode_of (makes_of c n b).board i)
  unfolding says_of makes_of deed_of is_on act_of
  call-path (call.AddTrack track lo hi) n = kept-path (call.AddTrack track lo hi) n refl (added track lo hi)
  call-path (call.SetUp track c) n = set-up-path track c
  call-path (call.SetPoint track p) n =
      kept-path (call.SetPoint track p) n refl
      (set-point-ways b (λ (o : Outcome). mode_of o.board i ≡ mode) (λ _. refl) track p (λ _ _ _. refl))
  call-path (call.DropPoint track p) n =
      kept-path (call.DropPoint track p) n refl (drop-point-ways b (λ (o : Outcome). mode_of o.board i ≡ mode) (λ _. refl) track p (λ _ _. refl))
  call-path (call.Play track) n = mode-path n track PLAY
  call-path (call.Pause track) n = mode-path n track PAUSE
  call-path (call.Resume track) n = mode-path n track RESUME
  call-path (call.Stop track) n = mode-path n track STOP
  call-path (call.Advance k) n = kept-path (call.Advance k) n refl refl
  call-path call.Clear n = kept-path call.Clear n refl (clear-ways b (λ (o : Outcome). mode_of o.board i ≡ mode) (λ _. refl) refl)
  call-path call.Clock n = kept-path call.Clock n refl refl
  call-path (call.Track track) n = kept-path (call.Track track) n refl refl
  call-path (call.Point track p) n = kept-path (call.Point track p) n refl refl
  call-path (call.PointCount track from to) n =
      kept-path (call.PointCount track from to) n refl refl
  call-path (call.Master track master ps) n = kept-path (call.Master track master ps) n refl (mastered track master (pair_numbers ps))

-- ---- lists of calls

module _ (i : ℕ) where
  abbrev halts : World Board → Option Stop
  halts = w-halt gridstep

  abbrev steps : World Board → World Board
  steps = w-step gridstep

  abbrev From : World Board → List Act → World Board → Type 0
  From w xs v = Path (mode_of w.board i) xs (mode_of v.board i)

  ticks-path : (n : ℕ) (w : World Board) → Unbroken w.board → From w (ticks_acts i (passed halts steps n w)) (ticks halts steps n w).end
  unfolding ticks passed ticks_acts Path
  ticks-path zero w h = refl
  ticks-path (suc n) w h = go (halts w) refl (ticks-path n (steps w))
    where
      go : (o : Option Stop) → halts w ≡ o → (Unbroken (steps w).board → From (steps w) (ticks_acts i (passed halts steps n (steps w))) (ticks halts steps n (steps w)).end)
          → From w (ticks_acts i (passed halts steps (suc n) w)) (ticks halts steps (suc n) w).end
      go None e more =
          rw (ticks-on halts steps n w e, passed_on halts steps n w e)
          (path-append _ (mode_of (steps w).board i) _ (tick_acts i w.board) _ (tick-path w.board h i)
          (more (tick-whole w.board h _ (halt-none (length w.log) w.board e).0)))
      go (Some x) e more = rw (ticks-off halts steps n w x e, passed-off halts steps n w x e) refl

  part-path : (p : Part Call) (w : World Board) → Unbroken w.board → From w (call_acts i p w) (perform gridstep p w).left
  unfolding call_acts ticks_acts Path
  part-path (one c) w h = call-path w.board h i c (length w.log)
  part-path (run n) w h = go (w-bar gridstep w) refl
    where
      go : (o : Option ℕ) → w-bar gridstep w ≡ o → From w (call_acts i (run n) w) (perform gridstep (run n) w).left
      go None e =
          rw (
            advance-in halts steps (w-bar gridstep) stopped_by does.refused n w e,
            crossed-in halts steps (w-bar gridstep) stopped_by does.refused n w e,
          )
          (ticks-path n w h)
      go (Some k) e =
          rw (
            advance-out halts steps (w-bar gridstep) stopped_by does.refused n w k e,
            crossed-out halts steps (w-bar gridstep) stopped_by does.refused n w k e,
          )
          refl

  -- the acts of track i in a list of calls on a whole board lead from its mode before to its mode after
  pub list-path : (ps : List (Part Call)) (w : World Board) → Unbroken w.board → From w (list_acts i ps w) (performs (perform gridstep) ps w).last
  unfolding list_acts Path
  list-path [] w h = refl
  list-path (p ∷ ps) w h =
      path-append _ (mode_of (perform gridstep p w).left.board i) _ (call_acts i p w) (list_acts i ps (perform gridstep p w).left) (part-path p w h)
      (list-path ps (perform gridstep p w).left (call-whole p w h))
