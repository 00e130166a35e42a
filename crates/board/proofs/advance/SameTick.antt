-- A tick apart from the log (02, 2.2): what a taken tick writes, and the board after it but for held, are told by the board alone; of the
-- tick rule, and of `advance` by its own contract.
use Rattle.std.specs.Prelude.{Option, Some, None}
use Prim.Native.Nat.{ℕ, ◌+◌, ◌*◌, ◌≤◌, ◌<◌, zero-le}
use mathlib.Core.Path.{◌≡◌, refl, sym, ◌∙◌, ap, subst}
use mathlib.Core.Bool.{true}
use mathlib.Core.List.{List}
use native.Mathlib.Omega.{arith}
use lib.IntN.{pos}
use lib.ListN.{length}
use lib.Seq.{sets}
use contract.Lifetimes.{Lfts}
use denote.Ref.{MutBor}
use Rattle.track.specs.Rule.{clock_end}
use Rattle.track.proofs.Numbers.{natural-of}
use Rattle.board.specs.declared.Board.{Board}
use Rattle.board.specs.declared.advance.Progress.{Progress}
use Rattle.board.specs.declared.call.Advanced.{Advanced}
use Rattle.board.specs.declared.call.Advanced.TheVariants as advanced
use Rattle.board.specs.declared.call.Call.TheVariants as call
use Rattle.board.specs.Log.{record_width, log_bytes, capacity}
use Rattle.board.specs.Board.{unbroken_test}
use Rattle.board.specs.Tick.{tick_of, tick_most}
use Rattle.board.specs.Cut.{Ran, ticks, run}
use Rattle.board.specs.Replay.{World, w-halt, w-bar, w-step, written, perform}
use Rattle.board.specs.Call.{refused, done, log_full, Stop, fills, stopped_by, taken_in, advanced_said, held_at, ticked, gridstep, most, run_count, does, world, Gives}
use Rattle.board.specs.Full.{full_board}
use Rattle.board.specs.SameTick.{IsTaken, OnlyBehind, SameTick}
use Rattle.board.proofs.replay.Cuts.{ticks-on, ticks-off, advance-in, advance-out}
use Rattle.board.proofs.replay.Replays.{tick-written}
use Rattle.board.proofs.call.Machine.{flat-is, counts, room, read}
use Rattle.board.proofs.call.Machine as machine
use Rattle.board.proofs.tick.Full.{full-tick}
use Rattle.board.proofs.advance.Advancing.{halt-none, halt-fills, open-bar}
use Rattle.board.proofs.advance.advance.Reads as advance-says

-- ---- the tick

module _ (b : Board) (h : ℕ) (log : List ℕ) where
  -- the board with h records held in this log
  abbrev lent : World Board
  lent = world (held_at h b) log

  -- below the clock's end a tick is taken if its records fit, and only then
  pub tick-taken : b.clock.0 < clock_end → h + length (tick_of b).records ≤ capacity (length log) → IsTaken b h log
  tick-taken = halt-none b log b.tracks b.clock.0 h

  pub tick_fits : IsTaken b h log → (b.clock.0 < clock_end) × (h + length (tick_of b).records ≤ capacity (length log))
  tick_fits = machine.halt-none (length log) (held_at h b)

  -- what it writes is told by the board alone
  pub tick-writes : IsTaken b h log → written gridstep lent (w-step gridstep lent) ≡ log_bytes (tick_of b).records
  tick-writes t = tick-written gridstep counts room lent t ∙ flat-is (tick_of b).records

  -- it stands behind the held records, and nothing else is written
  pub tick-behind : IsTaken b h log → OnlyBehind lent (w-step gridstep lent)
  tick-behind t = ap (sets log (record_width * h)) (sym (tick-written gridstep counts room lent t))

  -- the board after it is told by the board alone but for held, which grows by its records
  pub tick-leaves : (w-step gridstep lent).board ≡ held_at (h + length (tick_of b).records) (ticked b)
  tick-leaves = refl

-- "the same for every log and count held"
pub tick-alike : (b : Board) (h h' : ℕ) (log log' : List ℕ) → IsTaken b h log → IsTaken b h' log' →
    SameTick (lent b h log) (w-step gridstep (lent b h log)) (lent b h' log') (w-step gridstep (lent b h' log'))
tick-alike b h h' log log' t t' =
    record {
      writes = tick-writes b h log t ∙ sym (tick-writes b h' log' t');
      nowhere_else = (tick-behind b h log t, tick-behind b h' log' t');
      counts = (length (tick_of b).records, refl, refl);
      leaves = refl;
    }

-- ---- the function

-- an advance by 1 on any board and log
module _ (w : World Board) where
  one-run : does (call.Advance (pos 1)) w ≡ perform gridstep (run 1) w
  unfolding run_count
  one-run = rw (natural-of 1 0 most zero-le (omega arith))

  -- where nothing bars it, it comes to one tick
  abbrev went : Ran Stop (World Board)
  went = ticks (w-halt gridstep) (w-step gridstep) 1 w

  one-went : w-bar gridstep w ≡ None → does (call.Advance (pos 1)) w ≡ record { answer = stopped_by went.taken went.why; left = went.end }
  one-went e = one-run ∙ advance-in (w-halt gridstep) (w-step gridstep) (w-bar gridstep) stopped_by refused 1 w e

  one_on : w-halt gridstep w ≡ None → went ≡ record { taken = 1; why = None; end = w-step gridstep w }
  unfolding ticks
  one_on e = ticks-on (w-halt gridstep) (w-step gridstep) 0 w e

  one-off : (x : Stop) → w-halt gridstep w ≡ Some x → went ≡ record { taken = 0; why = Some x; end = w }
  one-off x e = ticks-off (w-halt gridstep) (w-step gridstep) 0 w x e

  -- if it answers Done with 1, that tick is taken, and nothing else is done
  pub one-taken : (does (call.Advance (pos 1)) w).answer ≡ done 1 → (w-halt gridstep w ≡ None) × ((does (call.Advance (pos 1)) w).left ≡ w-step gridstep w)
  unfolding read
  one-taken a = bars (w-bar gridstep w) refl
    where
      halts : (o : Option Stop) → w-halt gridstep w ≡ o → went.taken ≡ 1 → (w-halt gridstep w ≡ None) × (went.end ≡ w-step gridstep w)
      halts None e n = (e, ap (λ (r : Ran Stop (World Board)). r.end) (one_on e))
      halts (Some x) e n = absurd (omega (arith, n, ap (λ (r : Ran Stop (World Board)). r.taken) (one-off x e)))

      bars : (o : Option ℕ) → w-bar gridstep w ≡ o → (w-halt gridstep w ≡ None) × ((does (call.Advance (pos 1)) w).left ≡ w-step gridstep w)
      bars None e =
          let taken = sym (read.taken_done went.taken went.why) ∙ ap taken_in (rw (one-went e) at a) in
          rw (one-went e) (halts (w-halt gridstep w) refl taken)
      bars (Some k) e =
          let out = one-run ∙ advance-out (w-halt gridstep) (w-step gridstep) (w-bar gridstep) stopped_by refused 1 w k e in
          absurd (omega (arith, ap taken_in (rw out at a)))

-- an advance by 1 of an unbroken board, whose held records are in the log, below the clock's end: its tick is kept if its records fit
module _ (b : Board) (h : ℕ) (log : List ℕ) (u : unbroken_test b ≡ true) (f : h ≤ capacity (length log)) (l : b.clock.0 < clock_end) where
  goes : w-bar gridstep (lent b h log) ≡ None
  goes = open-bar (held_at h b) log (pos 1) u f

  pub one_kept : h + length (tick_of b).records ≤ capacity (length log) →
      does (call.Advance (pos 1)) (lent b h log) ≡ record { answer = done 1; left = w-step gridstep (lent b h log) }
  one_kept r = one-went (lent b h log) goes ∙ rw (one_on (lent b h log) (tick-taken b h log l r))

  -- else the board and the log are left as they were
  pub one-stopped : capacity (length log) < h + length (tick_of b).records → does (call.Advance (pos 1)) (lent b h log) ≡ record { answer = log_full 0; left = lent b h log }
  one-stopped r = one-went (lent b h log) goes ∙ rw (one-off (lent b h log) fills (halt-fills b log b.tracks b.clock.0 h l r))

-- any function that gives what an advance by 1 does has taken that tick if it answers Done with 1
pub gives-tick : (b : Board) (h : ℕ) (log : List ℕ) {board : Board} {log' : List ℕ} →
    Gives (does (call.Advance (pos 1)) (lent b h log)) (done 1) board log' → IsTaken b h log × (world board log' ≡ w-step gridstep (lent b h log))
gives-tick b h log g =
    let t = one-taken (lent b h log) (sym g.answer_is) in
    (t.0, (λ i. world (g.board_is i) (g.log_is i)) ∙ t.1)

-- so two of them write the same and leave the same board but for held, whatever the logs and the counts held
pub gives-alike : (b : Board) (h h' : ℕ) {log log' after after' : List ℕ} {board board' : Board} →
    Gives (does (call.Advance (pos 1)) (lent b h log)) (done 1) board after → Gives (does (call.Advance (pos 1)) (lent b h' log')) (done 1) board' after' →
    SameTick (lent b h log) (world board after) (lent b h' log') (world board' after')
gives-alike b h h' {log} {log'} g g' =
    let t = gives-tick b h log g in
    let t' = gives-tick b h' log' g' in
    rw (t.1, t'.1) (tick-alike b h h' log log' t.0 t'.0)

-- The same of `advance` itself, by its own contract: two calls by 1 that answer Done with 1.
pub advance-alike : (b : Board) (h h' : ℕ) (κs κs' : Lfts 1) (x y x' y' : MutBor (List ℕ)) (r r' : Progress) →
    advance-says.Learnt κs (held_at h b, (pos 1, (x, tt))) r (held_at h b, (pos 1, (y, tt))) →
    advance-says.Learnt κs' (held_at h' b, (pos 1, (x', tt))) r' (held_at h' b, (pos 1, (y', tt))) →
    r.answer ≡ advanced.Done (record { 0 = 1 }) → r'.answer ≡ advanced.Done (record { 0 = 1 }) →
    SameTick (world (held_at h b) x.now) (world r.board y.now) (world (held_at h' b) x'.now) (world r'.board y'.now)
advance-alike b h h' κs κs' x y x' y' r r' p p' e e' =
    gives-alike b h h' (subst (λ (a : Advanced). Gives (does (call.Advance (pos 1)) (lent b h x.now)) (advanced_said a) r.board y.now) e p)
    (subst (λ (a : Advanced). Gives (does (call.Advance (pos 1)) (lent b h' x'.now)) (advanced_said a) r'.board y'.now) e' p')

-- ---- the board of 64 records: an advance by 1 takes its tick on a log with room for all of them, and stops before it on any shorter one

module _ (log : List ℕ) where
  pub full-kept : tick_most * record_width ≤ length log →
      does (call.Advance (pos 1)) (world full_board log) ≡ record { answer = done 1; left = w-step gridstep (world full_board log) }
  unfolding full_board
  full-kept h = one_kept full_board 0 log full-tick.whole (omega arith) (omega arith) (omega (arith, full-tick.most))

  pub full-stopped : length log < tick_most * record_width → does (call.Advance (pos 1)) (world full_board log) ≡ record { answer = log_full 0; left = world full_board log }
  unfolding full_board
  full-stopped h = one-stopped full_board 0 log full-tick.whole (omega arith) (omega arith) (omega (arith, full-tick.most))
