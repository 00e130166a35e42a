-- What a mode call comes to on each way out, and that what follows its result is what the call gives.
use Rattle.std.specs.Prelude.{Some, Result, Err}
use Rattle.track.specs.declared.refusal.Refusal.{Refusal}
use Prim.Native.Nat.{ℕ, ◌+◌, ◌*◌, ◌≤◌, ◌<◌}
use mathlib.Core.Path.{◌≡◌, refl, sym, ◌∙◌, ap, subst}
use mathlib.Core.List.{List, [], ◌∷◌, append-nil}
use native.Mathlib.Nat.{add-zero, mul_comm}
use native.Mathlib.Omega.{arith}
use lib.IntN.{ℤ}
use lib.ListN.{length, set}
use lib.Seq.{sets}
use borrow.Author.Tests.{le-leb, lt-leb}
use Rattle.track.specs.declared.Track.{Track}
use Rattle.track.specs.Refusal.{Accepted, number_of}
use Rattle.track.specs.Rule.{entered}
use Rattle.track.proofs.Tests.{cond_yes, cond_no}
use Rattle.board.specs.Log.{write_at, record_bytes, record_width, log_bytes, capacity}
use Rattle.board.specs.declared.Board.{Board}
use Rattle.board.specs.declared.log.Record.{Record}
use Rattle.board.specs.Setup.{Outcome}
use Rattle.board.proofs.tick.Staging.{length-log, write-none}
use Rattle.board.specs.Board.{track_at, found_in, Unbroken}
use Rattle.board.specs.Setup.{refused, accepted, board_with}
use Rattle.board.specs.Mode.{ModeResult, declined, call_records, changing, changes_to, decided, mode_result}
use Rattle.board.specs.declared.mode.ModeChange.{ModeChange}
use Rattle.board.specs.Replay.{flat}
use Rattle.track.specs.Grid.{grid_of}
use Rattle.board.specs.Call.{answered, gridstep, mode_does, world, Gives, ChangesMode}
use Rattle.board.proofs.replay.Replays.{sets-write}
use Rattle.board.proofs.rules.Broken.{unbroken-is}
use Rattle.board.proofs.call.Machine.{flat-is, result-ways}

-- an outcome, and the log before and after it, follow a result: the records go behind the held ones, and held grows by them
pub record Follows (m : ModeResult) (o : Outcome) (before after : List ℕ) : Type 0 where
  pub answer_is : o.answer ≡ m.answer
  pub board_is : o.board ≡ board_with m.board m.board.tracks m.board.present m.board.points (m.board.held + length m.records)
  pub log_is : after ≡ write_at before (m.board.held * record_width) (log_bytes m.records)

-- ---- what follows a result is what the call gives

module _ (b : Board) (log : List ℕ) where
  -- storing the records of a mode call is writing them
  result-log : (track : ℤ) (code : ℕ) →
      let m = mode_result b (length log) track code in
      write_at log (m.board.held * record_width) (log_bytes m.records) ≡ sets log (record_width * m.board.held) (flat gridstep m.records)
  unfolding log_bytes
  result-log =
      result-ways b (length log)
      (λ (m : ModeResult). write_at log (m.board.held * record_width) (log_bytes m.records) ≡ sets log (record_width * m.board.held) (flat gridstep m.records))
      (λ k. write-none log (b.held * record_width))
      (λ i mode _ _ fits.
      let rs = call_records b i mode in
      let l = length-log rs in
      sym (sets-write log (log_bytes rs) (b.held * record_width) (omega arith))
      ∙ (λ j. sets log (mul_comm b.held record_width j) (sym (flat-is rs) j)))

  -- what follows a mode call's result is what the call gives
  pub result-gives : (track : ℤ) (code : ℕ) {r : Outcome} {after : List ℕ} → Follows (mode_result b (length log) track code) r log after →
      Gives (mode_does code track (world b log)) (answered r.answer) r.board after
  unfolding mode_does
  result-gives track code f =
      record { answer_is = ap answered f.answer_is; board_is = f.board_is; log_is = f.log_is ∙ result-log track code }

-- what the grid lets act is accepted on an unbroken board, if its record, where it writes one, fits
pub mode-goes : (b : Board) → Unbroken b → (n : ℕ) (track : ℤ) (i code mode : ℕ) → found_in b.present track ≡ Some i →
    grid_of (track_at b.tracks i).mode code ≡ Some mode → b.held + length (call_records b i mode) ≤ capacity n →
    mode_result b n track code ≡ changing b i mode
unfolding mode_result decided changes_to
mode-goes b w n track i code mode found goes fits =
    rw (unbroken-is b w, le-leb b.held (capacity n) (omega arith), found, goes, le-leb _ (capacity n) fits)

-- ---- the ways out

-- a refusal follows a result that declines
follows-declined : (k : ℕ) (b : Board) (log : List ℕ) {m : ModeResult} → declined k b ≡ m → Follows m (refused k b) log log
unfolding log_bytes
follows-declined k b log e =
    subst (λ (m : ModeResult). Follows m (refused k b) log log) e
    (record {
      answer_is = refl;
      board_is = ap (λ (h : ℕ). board_with b b.tracks b.present b.points h) (sym (add-zero b.held));
      log_is = sym (write-none log (b.held * record_width));
    })

-- what a mode call gives that is refused
pub refused-gives : (b : Board) (log : List ℕ) (track : ℤ) (code : ℕ) (e : Refusal) {r : Result ModeChange Refusal} →
    mode_result b (length log) track code ≡ declined (number_of e) b → r ≡ Err e → ChangesMode code track b log r log
refused-gives b log track code e m q =
    subst (λ (r : Result ModeChange Refusal). ChangesMode code track b log r log) (sym q)
    (result-gives b log track code (follows-declined (number_of e) b log (sym m)), tt)

-- the board after a change, from the track that the callee gave
pub changed-with : (b : Board) (i held : ℕ) {t u : Track} → t ≡ u →
    accepted (board_with b (set b.tracks i t) b.present b.points held) ≡ accepted (board_with b (set b.tracks i u) b.present b.points held)
changed-with b i held e = ap (λ (t : Track). accepted (board_with b (set b.tracks i t) b.present b.points held)) e

module _ (b : Board) (n i mode : ℕ) where
  abbrev pub changed : Board
  changed = board_with b (set b.tracks i (entered (track_at b.tracks i) mode)) b.present b.points b.held

  module _ {r : Outcome} {before : List ℕ} {m : ModeResult} (e : changes_to b n i mode ≡ m) where
    -- a change without a record never gets 8
    pub follows-silent : call_records b i mode ≡ [] → b.held ≤ capacity n → r ≡ accepted changed → Follows m r before before
    unfolding changes_to log_bytes
    follows-silent z h q =
        subst (λ (m : ModeResult). Follows m r before before) (made ∙ e)
        (record {
          answer_is = ap (λ (o : Outcome). o.answer) q;
          board_is = ap (λ (o : Outcome). o.board) q
              ∙ ap (λ (h : ℕ). board_with changed changed.tracks changed.present changed.points h) (sym (add-zero b.held));
          log_is = sym (write-none before (b.held * record_width));
        })
      where
        made : record { answer = Accepted; board = changed; records = [] } ≡ changes_to b n i mode
        made =
            cond_yes _ _ (le-leb (b.held + length (call_records b i mode)) (capacity n) (omega (arith, ap length z)))
            (ap (λ (rs : List Record). record { answer = Accepted; board = changed; records = rs }) (sym z))

    -- the change's record is written behind the held ones
    pub follows-noted : {held : ℕ} {after : List ℕ} {x : Record} → call_records b i mode ≡ x ∷ [] → b.held < capacity n →
        r ≡ accepted (board_with b (set b.tracks i (entered (track_at b.tracks i) mode)) b.present b.points held) →
        held ≡ b.held + 1 → after ≡ write_at before (b.held * record_width) (record_bytes x) →
        Follows m r before after
    unfolding changes_to log_bytes
    follows-noted {held} {after} {x} z h q c l =
        subst (λ (m : ModeResult). Follows m r before after) (made ∙ e)
        (record {
          answer_is = ap (λ (o : Outcome). o.answer) q;
          board_is = ap (λ (o : Outcome). o.board) q
              ∙ ap (λ (k : ℕ). board_with changed changed.tracks changed.present changed.points k) (c ∙ ap (λ (rs : List Record). b.held + length rs) (sym z));
          log_is = l ∙ ap (write_at before (b.held * record_width)) (sym (append-nil (record_bytes x)))
              ∙ ap (λ (rs : List Record). write_at before (b.held * record_width) (log_bytes rs)) (sym z);
        })
      where
        made : record { answer = Accepted; board = changed; records = call_records b i mode } ≡ changes_to b n i mode
        made =
            cond_yes _ _ (le-leb (b.held + length (call_records b i mode)) (capacity n) (omega (arith, ap length z))) refl

  pub full-declines : {x : Record} → call_records b i mode ≡ x ∷ [] → capacity n ≤ b.held → declined 8 b ≡ changes_to b n i mode
  unfolding changes_to
  full-declines z h =
      cond_no _ _ (lt-leb (b.held + length (call_records b i mode)) (capacity n) (omega (arith, ap length z))) refl
