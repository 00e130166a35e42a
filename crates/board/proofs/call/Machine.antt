-- The board as a machine of lists of calls: it keeps what the theory of lists asks of its rules.
use Rattle.std.specs.Prelude.{Option, Some, None}
use Prim.Native.Nat.{ℕ, zero, suc, ◌+◌, ◌*◌, ◌≤◌, ◌<◌}
use mathlib.Core.Path.{◌≡◌, refl, ap}
use mathlib.Core.Bool.{Bool, true, false, cond}
use mathlib.Core.List.{List, [], ◌∷◌, ◌++◌}
use native.Mathlib.Nat.{add-zero, add_assoc}
use native.Mathlib.Omega.{arith}
use lib.Dec.{leb}
use lib.IntN.{ℤ}
use lib.ListN.{length}
use borrow.Author.Tests.{leb-true, leb-false, le-leb}
use Rattle.track.specs.declared.refusal.Refusal.{Refusal}
use Rattle.track.specs.declared.refusal.Refusal.TheVariants as refusal
use Rattle.track.specs.Refusal.{number_of}
use Rattle.track.specs.declared.setup.Change.{Change}
use Rattle.track.specs.Rule.{WAITING, clock_end, entered}
use Rattle.track.specs.Grid.{PLAY, PAUSE, RESUME, STOP, grid_of}
use Rattle.track.proofs.Tests.{cond_cases}
use Rattle.board.specs.Log.{record_width, record_bytes, log_bytes, capacity}
use Rattle.board.specs.declared.Board.{Board}
use Rattle.board.specs.declared.call.PointNumbers.{PointNumbers}
use Rattle.board.specs.declared.log.Record.{Record}
use Rattle.board.specs.Setup.{Outcome}
use Rattle.board.specs.declared.call.Call.{Call}
use Rattle.board.specs.declared.call.Call.TheVariants as call
use Rattle.board.specs.Board.{track_at, is_present, unbroken_test, found_in, Unbroken}
use Rattle.board.specs.Setup.{board_with, set_up, add_track, set_point, drop_point, set_master, clear_board}
use Rattle.board.specs.Tick.{tick_of}
use Rattle.board.specs.Mode.{ModeResult, declined, call_records, changing, changes_to, decided, mode_result}
use Rattle.board.specs.Cut.{ticks, Part, run, one}
use Rattle.board.specs.Replay.{Made, World, flat, w-halt, w-bar, w-step, perform}
use Rattle.board.specs.Call.{refused, Stop, ends, fills, stopped_by, Reason, stopped, refused_with, taken_in, why_not, ticked, grown_by, halt_of, bar_of, made_of, pair_numbers, makes_of, is_accepted, clears_of, gridstep, does}
use Rattle.board.proofs.log.Records.{length_record}
use Rattle.board.proofs.rules.Broken.{unbroken-of, unbroken-is}
use Rattle.board.proofs.setup.Ways.{by-natural, set-up-ways, add-track-ways, set-point-ways, drop-point-ways, set-master-ways, clear-ways}
use Rattle.board.proofs.rules.Present.{found_in_lem}
use Rattle.board.proofs.tick.Commands.{Goes?, grid-goes}
use Rattle.board.proofs.tick.Steps.{entered-bounded, entered-sound, tick-keeps}
use Rattle.track.proofs.Follows.{entered-follower}
use Rattle.board.proofs.setup.Keeping.{put-track-whole, held_whole, set-up-whole, add-track-whole, set-point-whole, drop-point-whole, set-master-whole, clear_whole}
use Rattle.board.proofs.replay.Cuts.{ticks-on, ticks-off, advance-in, advance-out, Read}
use Rattle.board.proofs.replay.Replays.{Counts, Leaves, Room}

-- the bytes of records, as the theory of lists has them
pub flat-is : (rs : List Record) → flat gridstep rs ≡ log_bytes rs
unfolding log_bytes
flat-is [] = refl
flat-is (r ∷ rs) = ap (λ (l : List ℕ). record_bytes r ++ l) (flat-is rs)

-- ---- the mode calls

module _ (b : Board) (n : ℕ) (P : ModeResult → Type 0) (declines : (e : Refusal) → P (declined (number_of e) b)) where
  -- a mode call is refused, or takes a present track to a mode, with a record that fits
  pub result-ways :
      ((i mode : ℕ) → is_present b.present i ≡ true → mode ≤ WAITING → b.held + length (call_records b i mode) ≤ capacity n → P (changing b i mode)) →
      (track : ℤ) (call : ℕ) → P (mode_result b n track call)
  unfolding mode_result decided changes_to
  result-ways does track call =
      cond_cases P (unbroken_test b)
      (λ _. cond_cases P (leb b.held (capacity n))
      (λ _. by-natural P (found_in b.present track) _ (declined 1 b)
      (λ i e. go i (found_in_lem b.present track e) (grid_of (track_at b.tracks i).mode call) (grid-goes (track_at b.tracks i).mode call))
      (declines refusal.Track)) (λ _. declines refusal.Capacity)) (λ _. declines refusal.Value)
    where
      go : (i : ℕ) → is_present b.present i ≡ true → (d : Option ℕ) → Goes? d → P (decided b n i d)
      go i h (Some mode) g =
          cond_cases P (leb (b.held + length (call_records b i mode)) (capacity n)) (λ e. does i mode h g (leb-true _ _ e)) (λ _. declines refusal.Room)
      go i h None g = declines refusal.Mode

-- ---- records in the log

-- records have one length, and growing adds up
pub counts : Counts gridstep
counts = record {
  bytes_length = length_record;
  held_grown = λ b n. refl;
  grown_zero = λ b. ap (λ (k : ℕ). board_with b b.tracks b.present b.points k) (add-zero b.held);
  grown_grown = λ b m n. ap (λ (k : ℕ). board_with b b.tracks b.present b.points k) (add_assoc b.held m n);
}

-- a tick that nothing stops is below the clock's end, and its records fit
pub halt-none : (n : ℕ) (b : Board) → halt_of n b ≡ None → (b.clock.0 < clock_end) × (b.held + length (tick_of b).records ≤ capacity n)
unfolding halt_of
halt-none n b = go (leb clock_end b.clock.0) (leb (b.held + length (tick_of b).records) (capacity n)) refl refl
  where
    go : (p q : Bool) → leb clock_end b.clock.0 ≡ p → leb (b.held + length (tick_of b).records) (capacity n) ≡ q →
        cond p (Some ends) (cond q None (Some fills)) ≡ None → (b.clock.0 < clock_end) × (b.held + length (tick_of b).records ≤ capacity n)
    go true q ep eq h = absurd (cc)
    go false true ep eq h = (leb-false _ _ ep, leb-true _ _ eq)
    go false false ep eq h = absurd (cc)

-- an advance that nothing bars finds an unbroken board, whose held records are in the log
pub bar-none : (n : ℕ) (b : Board) → bar_of n b ≡ None → (unbroken_test b ≡ true) × (b.held ≤ capacity n)
unfolding bar_of
bar-none n b = go (unbroken_test b) (leb b.held (capacity n)) refl refl
  where
    go : (p q : Bool) → unbroken_test b ≡ p → leb b.held (capacity n) ≡ q →
        cond {A = Option ℕ} p (cond {A = Option ℕ} q None (Some 7)) (Some 3) ≡ None → (unbroken_test b ≡ true) × (b.held ≤ capacity n)
    go true true ep eq h = (ep, leb-true _ _ eq)
    go true false ep eq h = absurd (cc)
    go false q ep eq h = absurd (cc)

-- a tick that is taken brings no bar
pub kept : (n : ℕ) (b : Board) → bar_of n b ≡ None → halt_of n b ≡ None → bar_of n (grown_by (ticked b) (length (tick_of b).records)) ≡ None
unfolding bar_of
kept n b g h =
    let u = tick-keeps b (b.held + length (tick_of b).records) (bar-none n b g).0 (halt-none n b h).0 in
    rw (u, le-leb (b.held + length (tick_of b).records) (capacity n) (halt-none n b h).1)

-- ---- what a call leaves of the held records

module _ (b : Board) where
  -- a set-up call leaves them
  abbrev Same : Outcome → Type 0
  Same o = o.board.held ≡ b.held

  set-up-held : (track : ℤ) (c : Change) → Same (set_up b track c)
  set-up-held track c = set-up-ways b Same (λ k. refl) track c (λ i _. refl)

  add-track-held : (number min max : ℤ) → Same (add_track b number min max)
  add-track-held number min max = add-track-ways b Same (λ k. refl) number min max (λ i low high _ _ _ _. refl)

  set-point-held : (track : ℤ) (given : PointNumbers) → Same (set_point b track given)
  set-point-held track given =
      set-point-ways b Same (λ k. refl) track given (λ p _ _. refl)

  drop-point-held : (track position : ℤ) → Same (drop_point b track position)
  drop-point-held track position = drop-point-ways b Same (λ k. refl) track position (λ k _. refl)

  set-master-held : (track master : ℤ) (zs : List ℤ) → Same (set_master b track master zs)
  set-master-held track master zs = set-master-ways b Same (λ k. refl) track master zs (λ i m _ _ _ _ _ _. refl)

  mode-held : (n : ℕ) (track : ℤ) (code : ℕ) → (mode_result b n track code).board.held ≡ b.held
  mode-held n = result-ways b n (λ (m : ModeResult). m.board.held ≡ b.held) (λ k. refl) (λ i mode _ _ _. refl)

  -- a clear that is accepted lets them go
  clear-held : Leaves gridstep (is_accepted (clear_board b).answer) b (made_of (clear_board b))
  clear-held = clear-ways b (λ (o : Outcome). Leaves gridstep (is_accepted o.answer) b (made_of o)) (λ k. refl) (refl, refl)

  mode-fits : (n : ℕ) → record_width * b.held ≤ n → (track : ℤ) (code : ℕ) →
      let m = mode_result b n track code in
      record_width * (m.board.held + length m.records) ≤ n
  mode-fits n h =
      result-ways b n (λ (m : ModeResult). record_width * (m.board.held + length m.records) ≤ n) (λ k. omega arith) (λ i mode _ _ fits. omega arith)

-- every call leaves them or, if it is a clear that is accepted, lets them go
call_held : (c : Call) (n : ℕ) (b : Board) → Leaves gridstep (clears_of c b) b (makes_of c n b)
unfolding makes_of clears_of
call_held (call.AddTrack i lo hi) n b = add-track-held b i lo hi
call_held (call.SetUp i c) n b = set-up-held b i c
call_held (call.SetPoint i p) n b = set-point-held b i p
call_held (call.DropPoint i p) n b = drop-point-held b i p
call_held (call.Play i) n b = mode-held b n i PLAY
call_held (call.Pause i) n b = mode-held b n i PAUSE
call_held (call.Resume i) n b = mode-held b n i RESUME
call_held (call.Stop i) n b = mode-held b n i STOP
call_held (call.Advance k) n b = refl
call_held call.Clear n b = clear-held b
call_held call.Clock n b = refl
call_held (call.Track i) n b = refl
call_held (call.Point i p) n b = refl
call_held (call.PointCount i from to) n b = refl
call_held (call.Master i m ps) n b = set-master-held b i m (pair_numbers ps)

abbrev FitsIn : ℕ → Made Board Record → Type 0
FitsIn n m = record_width * (m.board.held + length m.records) ≤ n

same-fits : (b : Board) (n : ℕ) (o : Outcome) → Same b o → record_width * b.held ≤ n → FitsIn n (made_of o)
same-fits b n o e h = omega arith

call_fits : (c : Call) (n : ℕ) (b : Board) → record_width * b.held ≤ n → FitsIn n (makes_of c n b)
unfolding makes_of
call_fits (call.AddTrack i lo hi) n b h = same-fits b n (add_track b i lo hi) (add-track-held b i lo hi) h
call_fits (call.SetUp i c) n b h = same-fits b n (set_up b i c) (set-up-held b i c) h
call_fits (call.SetPoint i p) n b h = same-fits b n (set_point b i p) (set-point-held b i p) h
call_fits (call.DropPoint i p) n b h = same-fits b n (drop_point b i p) (drop-point-held b i p) h
call_fits (call.Play i) n b h = mode-fits b n h i PLAY
call_fits (call.Pause i) n b h = mode-fits b n h i PAUSE
call_fits (call.Resume i) n b h = mode-fits b n h i RESUME
call_fits (call.Stop i) n b h = mode-fits b n h i STOP
call_fits (call.Advance k) n b h = omega arith
call_fits call.Clear n b h = clear-ways b (λ (o : Outcome). FitsIn n (made_of o)) (λ k. omega arith) (omega arith)
call_fits call.Clock n b h = omega arith
call_fits (call.Track i) n b h = omega arith
call_fits (call.Point i p) n b h = omega arith
call_fits (call.PointCount i from to) n b h = omega arith
call_fits (call.Master i m ps) n b h = same-fits b n (set_master b i m (pair_numbers ps)) (set-master-held b i m (pair_numbers ps)) h

-- records are written only where they fit, and a call leaves the held ones or lets them go
pub room : Room gridstep
room = record {
  tick_held = λ b. refl;
  tick_fits = λ n b e. let f = (halt-none n b e).1 in omega arith;
  call_held = call_held;
  call_fits = call_fits;
}

-- ---- answers to an advance

-- the ticks taken and the reason are read from the answer
unfoldable pub read : Read Reason stopped_by refused
read = record {
  taken = taken_in;
  why = why_not;
  stop = stopped;
  refusal = refused_with;
  taken_done = taken_done;
  taken_refuse = λ k. refl;
  why_none = λ t. refl;
  why_some = why_some;
  why_refuse = λ k. refl;
}
  where
    taken_done : (t : ℕ) (o : Option Stop) → taken_in (stopped_by t o) ≡ t
    taken_done t None = refl
    taken_done t (Some ends) = refl
    taken_done t (Some fills) = refl

    why_some : (t : ℕ) (e : Stop) → why_not (stopped_by t (Some e)) ≡ Some (stopped e)
    why_some t ends = refl
    why_some t fills = refl

-- ---- no mode call and no tick makes a broken board

module _ (b : Board) (w : Unbroken b) (held : ℕ) where
  -- no mode call breaks a board, whatever is held
  pub mode-whole : (n : ℕ) (track : ℤ) (code : ℕ) →
      let c = (mode_result b n track code).board in
      Unbroken (board_with c c.tracks c.present c.points held)
  mode-whole n track code =
      held_whole (mode_result b n track code).board
      (result-ways b n (λ (m : ModeResult). Unbroken m.board) (λ k. w)
      (λ i mode h l _.
      let t = track_at b.tracks i in
      let s = w.tracks i h in
      let k = entered-bounded t.min t.max t (refl, refl) mode in
      put-track-whole b w i (entered t mode) h (entered-sound t b.clock s mode l) (entered-follower t mode) k.0 k.1)
      track code) held

  -- nor does a tick below the clock's end
  pub tick-whole : b.clock.0 < clock_end →
      let c = ticked b in
      Unbroken (board_with c c.tracks c.present c.points held)
  tick-whole l = unbroken-of _ (tick-keeps b held (unbroken-is b w) l)

  -- nor any other call
  pub made-whole : (c : Call) (n : ℕ) →
      let m = (makes_of c n b).board in
      Unbroken (board_with m m.tracks m.present m.points held)
  unfolding makes_of
  made-whole (call.AddTrack i lo hi) n = held_whole _ (add-track-whole b w i lo hi) held
  made-whole (call.SetUp i c) n = held_whole _ (set-up-whole b w i c) held
  made-whole (call.SetPoint i p) n = held_whole _ (set-point-whole b w i p) held
  made-whole (call.DropPoint i p) n = held_whole _ (drop-point-whole b w i p) held
  made-whole (call.Play i) n = mode-whole n i PLAY
  made-whole (call.Pause i) n = mode-whole n i PAUSE
  made-whole (call.Resume i) n = mode-whole n i RESUME
  made-whole (call.Stop i) n = mode-whole n i STOP
  made-whole (call.Advance k) n = held_whole b w held
  made-whole call.Clear n = held_whole _ (clear_whole b w) held
  made-whole call.Clock n = held_whole b w held
  made-whole (call.Track i) n = held_whole b w held
  made-whole (call.Point i p) n = held_whole b w held
  made-whole (call.PointCount i from to) n = held_whole b w held
  made-whole (call.Master i m ps) n = held_whole _ (set-master-whole b w i m (pair_numbers ps)) held

-- nor any number of ticks
ticks-whole : (n : ℕ) (w : World Board) → Unbroken w.board → Unbroken (ticks (w-halt gridstep) (w-step gridstep) n w).end.board
unfolding ticks
ticks-whole zero w h = h
ticks-whole (suc n) w h = go (w-halt gridstep w) refl (ticks-whole n (w-step gridstep w))
  where
    go : (o : Option Stop) → w-halt gridstep w ≡ o →
        (Unbroken (w-step gridstep w).board → Unbroken (ticks (w-halt gridstep) (w-step gridstep) n (w-step gridstep w)).end.board) →
        Unbroken (ticks (w-halt gridstep) (w-step gridstep) (suc n) w).end.board
    go None e more =
        rw (ticks-on (w-halt gridstep) (w-step gridstep) n w e)
        (more (tick-whole w.board h _ (halt-none (length w.log) w.board e).0))
    go (Some x) e more = rw (ticks-off (w-halt gridstep) (w-step gridstep) n w x e) h

-- no call makes a broken board
pub call-whole : (p : Part Call) (w : World Board) → Unbroken w.board → Unbroken (perform gridstep p w).left.board
call-whole (one c) w h = made-whole w.board h _ c (length w.log)
call-whole (run n) w h = go (w-bar gridstep w) refl
  where
    go : (o : Option ℕ) → w-bar gridstep w ≡ o → Unbroken (perform gridstep (run n) w).left.board
    go None e = rw (advance-in (w-halt gridstep) (w-step gridstep) (w-bar gridstep) stopped_by refused n w e) (ticks-whole n w h)
    go (Some k) e = rw (advance-out (w-halt gridstep) (w-step gridstep) (w-bar gridstep) stopped_by refused n w k e) h
