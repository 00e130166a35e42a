-- Demand 3 of the calls that the firmware makes: mode calls and advances over the board that it lends, and any call through the door.
use Rattle.std.specs.Prelude.{Option, Some, None}
use Prim.Native.Nat.{ℕ}
use mathlib.Core.Path.{◌≡◌, refl, sym, ◌∙◌, ap, subst, subst⁻¹}
use mathlib.Core.List.{List, [], ◌∷◌}
use lib.IntN.{ℤ, pos}
use lib.ListN.{length, get_or}
use contract.Lifetimes.{Lfts}
use denote.Ref.{Bor, MutBor}
use Rattle.track.specs.Refusal as refusal
use Rattle.track.specs.declared.setup.Change.{Change}
use Rattle.track.specs.declared.setup.Change.TheVariants as change
use Rattle.track.specs.Grid.{PLAY, PAUSE, RESUME, STOP}
use Rattle.board.specs.declared.Board.{Board}
use Rattle.board.specs.Board.{fresh_board}
use Rattle.board.specs.Mode.{mode_result}
use Rattle.board.specs.Cut.{performs}
use Rattle.board.specs.Replay.{World, perform}
use Rattle.board.specs.declared.call.Advanced.{Advanced}
use Rattle.board.specs.declared.call.Advanced.TheVariants as advance
use Rattle.board.specs.declared.call.Call.{Call}
use Rattle.board.specs.declared.call.Call.TheVariants as call
use Rattle.board.specs.declared.call.Pairs.{Pairs}
use Rattle.board.specs.Call.{Reply, refused, answered, advanced_said, pair_numbers, master_does, says_of, makes_of, run_count, gridstep, does, world, Gives}
use Rattle.board.specs.Row.{plain_at, numbers_of, row_does}
use Rattle.board.specs.Lists.{cut_up}
use Rattle.board.proofs.call.Enough.{pairs_of, pairs-own, pairs-enough, master-does}
use Rattle.board.proofs.row.Replies.{reply_in}
use Rattle.board.proofs.lists.Answers.{answer-told}
use Rattle.board.proofs.lists.Replayed.{Step, Trace, nothing, then, Demand3, demand-3, gives-step, advance-said}
use Rattle.firmware.specs.declared.value.Ending.{Ending}
use Rattle.firmware.specs.declared.door.Replied.{Replied}
use Rattle.firmware.specs.Numbers.{number_of, number_said, ending_said}
use Rattle.firmware.specs.Door.{RowGives}
use Rattle.firmware.proofs.Numbering.{result-numbered, gives_as}
use Rattle.firmware.proofs.Lent.{promised}
use Rattle.firmware.proofs.door.gridstep_call.Reads as door-says
use Rattle.firmware.proofs.door.gridstep_master.Reads as master-says

-- ---- the door, as its contract has it

-- its arguments behind the board: the code and six numbers of a row, and the log
abbrev passed : List ℤ → MutBor (List ℕ) → ℤ × (ℤ × (ℤ × (ℤ × (ℤ × (ℤ × (ℤ × (MutBor (List ℕ) × Unit {0})))))))
passed zs log =
    let x : ℕ → ℤ = λ j. get_or zs j (pos 0) in
    (x 0, (x 1, (x 2, (x 3, (x 4, (x 5, (x 6, (log, tt))))))))

-- A row done through the door: `Learnt` is what its `ensures` tells a caller, of the lifetimes, the arguments, the result and the
-- arguments at exit. It returns the numbers of a reply, and leaves a board and a log.
pub record Opened (zs : List ℤ) (w : World Board) (numbers : List ℕ) (v : World Board) : Type 0 where
  pub lifetimes : Lfts 1
  pub entry : MutBor (List ℕ)
  pub exit : MutBor (List ℕ)
  pub replied : Replied
  pub learnt : door-says.Learnt lifetimes (w.board, passed zs entry) replied (w.board, passed zs exit)
  pub log_in : entry.now ≡ w.log
  pub numbers_are : numbers ≡ replied.reply
  pub left_is : v ≡ world replied.board exit.now

-- what a row comes to by the rule
abbrev Comes : Option Call → World Board → List ℕ → World Board → Type 0
Comes o w numbers v = (numbers ≡ numbers_of (row_does o w).answer) × (v ≡ (row_does o w).left)

-- the door does what the row says
opened-is : (zs : List ℤ) (w : World Board) {numbers : List ℕ} {v : World Board} → Opened zs w numbers v → Comes (plain_at zs) w numbers v
opened-is zs w d =
    let g : RowGives (row_does (plain_at zs) w) d.replied d.exit.now =
    subst (λ (l : List ℕ). RowGives (row_does (plain_at zs) (world w.board l)) d.replied d.exit.now) d.log_in d.learnt in
    (d.numbers_are ∙ g.reply_is, d.left_is ∙ (λ i. world (g.board_is i) (g.log_is i)))

-- a row that is a call: the numbers are those of its answer, the board and the log those that it leaves
pub door-does : (zs : List ℤ) (w : World Board) {c : Call} {numbers : List ℕ} {v : World Board} → plain_at zs ≡ Some c → Opened zs w numbers v
    → (numbers ≡ numbers_of (does c w).answer) × (v ≡ (does c w).left)
unfolding row_does
door-does zs w {numbers = numbers} {v = v} e d = subst (λ (o : Option Call). Comes o w numbers v) e (opened-is zs w d)

-- a row that is no call: it is refused 9, the board and the log equal to before
pub door-refuses : (zs : List ℤ) (w : World Board) {numbers : List ℕ} {v : World Board} → plain_at zs ≡ None → Opened zs w numbers v
    → (numbers ≡ numbers_of (refused 9)) × (v ≡ w)
unfolding row_does
door-refuses zs w {numbers} {v} e d = subst (λ (o : Option Call). Comes o w numbers v) e (opened-is zs w d)

-- A master call with any numbers, as its contract has it. It takes no log.
pub record Named (track master : ℤ) (zs : List ℤ) (w : World Board) (numbers : List ℕ) (v : World Board) : Type 0 where
  pub lifetimes : Lfts 1
  pub entry : Bor (List ℤ)
  pub exit : Bor (List ℤ)
  pub replied : Replied
  pub learnt : master-says.Learnt lifetimes (w.board, (track, (master, (entry, tt)))) replied (w.board, (track, (master, (exit, tt))))
  pub pairs_are : entry.now ≡ zs
  pub numbers_are : numbers ≡ replied.reply
  pub left_is : v ≡ world replied.board w.log

-- it does what the rule says of those numbers
named-is : (track master : ℤ) (zs : List ℤ) (w : World Board) {numbers : List ℕ} {v : World Board} → Named track master zs w numbers v →
    (numbers ≡ numbers_of (master_does track master zs w).answer) × (v ≡ (master_does track master zs w).left)
named-is track master zs w d =
    let g : RowGives (master_does track master zs w) d.replied w.log =
    subst (λ (ys : List ℤ). RowGives (master_does track master ys w) d.replied w.log) d.pairs_are (d.learnt w.log) in
    (d.numbers_are ∙ g.reply_is, d.left_is ∙ (λ i. world (g.board_is i) (g.log_is i)))

-- whatever its numbers are, it is a call as a value: its reply is that call's answer, the board and the log those that it leaves
pub every-master-gives : (track master : ℤ) (zs : List ℤ) (w : World Board) {numbers : List ℕ} {v : World Board} →
    Named track master zs w numbers v → Gives (does (call.Master track master (pairs_of zs)) w) (reply_in numbers) v.board v.log
every-master-gives track master zs w d =
    let l = named-is track master zs w d in
    let g = master-does track master zs (pairs_of zs) (pairs-enough zs) w in
    let c = call.Master track master (pairs_of zs) in
    record {
      answer_is = ap reply_in l.0 ∙ ap (λ (a : Reply). reply_in (numbers_of a)) g.answer_is ∙ answer-told c w ∙ refl;
      board_is = ap (λ (v : World Board). v.board) l.1 ∙ g.board_is;
      log_is = ap (λ (v : World Board). v.log) l.1 ∙ g.log_is;
    }

-- ---- lists of calls

-- one of the four mode calls
pub data ModeCall : (ℤ → Call) → Type 0 where
  plays : ModeCall call.Play
  pauses : ModeCall call.Pause
  resumes : ModeCall call.Resume
  stops : ModeCall call.Stop

-- A list of calls: each mode call and each advance by what its function over the lent board promises (`promised`, which is what the
-- function's contract tells: proofs/Lent), any call by the contract of the door or of its function by value. A row that is no call does
-- not count as a call of the list.
pub data Lending : List Call → World Board → List Reply → World Board → Type 0 where
  ended : {w : World Board} → Lending [] w [] w
  moded : {calls : ℤ → Call} → ModeCall calls → (i : ℤ) (number : ℕ) {cs : List Call} {w v u : World Board} {a : Reply} {xs : List Reply}
      → promised calls number_said w.board i w.log v.board number v.log → a ≡ number_said number → Lending cs v xs u
      → Lending (calls i ∷ cs) w (a ∷ xs) u
  advanced : (count : ℤ) (ending : Ending) {cs : List Call} {w v u : World Board} {a : Reply} {xs : List Reply}
      → promised call.Advance ending_said w.board count w.log v.board ending v.log → a ≡ ending_said ending → Lending cs v xs u
      → Lending (call.Advance count ∷ cs) w (a ∷ xs) u
  opened : (zs : List ℤ) {c : Call} {cs : List Call} {w v u : World Board} {numbers : List ℕ} {a : Reply} {xs : List Reply}
      → plain_at zs ≡ Some c → Opened zs w numbers v → a ≡ reply_in numbers → Lending cs v xs u → Lending (c ∷ cs) w (a ∷ xs) u
  named : (track master : ℤ) (zs : List ℤ) {cs : List Call} {w v u : World Board} {numbers : List ℕ} {a : Reply} {xs : List Reply}
      → Named track master zs w numbers v → a ≡ reply_in numbers → Lending cs v xs u
      → Lending (call.Master track master (pairs_of zs) ∷ cs) w (a ∷ xs) u
  uncalled : (zs : List ℤ) {cs : List Call} {w v u : World Board} {numbers : List ℕ} {xs : List Reply}
      → plain_at zs ≡ None → Opened zs w numbers v → Lending cs v xs u → Lending cs w xs u
  other : {c : Call} {cs : List Call} {w v u : World Board} {a : Reply} {xs : List Reply} → Step c w a v → Lending cs v xs u
      → Lending (c ∷ cs) w (a ∷ xs) u

-- it is a list of calls as demand 3 speaks of
pub lent-trace : Lfts 1 → {cs : List Call} {w u : World Board} {xs : List Reply} → Lending cs w xs u → Trace cs w xs u
lent-trace κs ended = nothing
lent-trace κs (moded {calls = calls} m i number {w = w} p e t) = then (gives-step κs (calls i) w (gives_as e p)) (lent-trace κs t)
lent-trace κs (advanced count ending {w = w} p e t) = then (gives-step κs (call.Advance count) w (gives_as e p)) (lent-trace κs t)
lent-trace κs (opened zs {c = c} {w = w} e d q t) =
    let l = door-does zs w e d in
    then
    (gives-step κs c w
    (record {
      answer_is = q ∙ ap reply_in l.0 ∙ answer-told c w;
      board_is = ap (λ (v : World Board). v.board) l.1;
      log_is = ap (λ (v : World Board). v.log) l.1;
    }))
    (lent-trace κs t)
lent-trace κs (named track master zs {w = w} d q t) =
    then (gives-step κs (call.Master track master (pairs_of zs)) w (gives_as q (every-master-gives track master zs w d))) (lent-trace κs t)
lent-trace κs (uncalled zs {cs = cs} {w = w} {u = u} {xs = xs} e d t) =
    subst (λ (v : World Board). Trace cs v xs u) (door-refuses zs w e d).1 (lent-trace κs t)
lent-trace κs (other s t) = then s (lent-trace κs t)

-- so of every such list from a fresh board, on any log: answers, end board, log bytes, records, arrivals and cuts are the replay's
pub lent-demand-3 : (κs : Lfts 1) {cs : List Call} {log : List ℕ} {xs : List Reply} {u : World Board} (t : Lending cs (world fresh_board log) xs u)
    → Demand3 (lent-trace κs t)
lent-demand-3 κs t = demand-3 (lent-trace κs t)

-- ---- such lists exist, of any calls, from any board and on any log

-- no call is by value
abbrev pub FromC : {cs : List Call} {w u : World Board} {xs : List Reply} → Lending cs w xs u → Type 0
FromC ended = Unit {0}
FromC (moded m i number p e t) = FromC t
FromC (advanced count ending p e t) = FromC t
FromC (opened zs e d q t) = FromC t
FromC (named track master zs d q t) = FromC t
FromC (uncalled zs e d t) = FromC t
FromC (other s t) = ⊥

-- a list of calls that C can make
abbrev pub Made : List Call → World Board → List Reply → World Board → Type 0
Made cs w xs u = (t : Lending cs w xs u) × FromC t

-- a row of each call
abbrev Rowed : Call → Type 0
Rowed c = (zs : List ℤ) × (plain_at zs ≡ Some c)

rowed : (i : ℤ) (c : Change) → Rowed (call.SetUp i c)
rowed i (change.Start p) = (pos 2 ∷ i ∷ p ∷ [], refl)
rowed i (change.End p) = (pos 3 ∷ i ∷ p ∷ [], refl)
rowed i (change.Loops n) = (pos 4 ∷ i ∷ n ∷ [], refl)
rowed i (change.Repeat f) = (pos 5 ∷ i ∷ f ∷ [], refl)
rowed i (change.Direction d) = (pos 6 ∷ i ∷ d ∷ [], refl)
rowed i (change.Action from to event) = (pos 9 ∷ i ∷ from ∷ to ∷ event ∷ [], refl)
rowed i (change.Jump p) = (pos 10 ∷ i ∷ p ∷ [], refl)
rowed i (change.Rate p q) = (pos 22 ∷ i ∷ p ∷ q ∷ [], refl)

-- a list, lent to be read, and one lent to be written
abbrev lends : {A : Type 0} → List A → Bor (List A)
lends l = record { ref_ptr = (0, 0); now = l }

abbrev lends_mut : {A : Type 0} → List A → MutBor (List A)
lends_mut l = record { ref_ptr = (0, 0); ghost_name = 0; now = l }

-- what the door can answer and leave is what its row does
opens : (κs : Lfts 1) (zs : List ℤ) (c : Call) (w : World Board) → plain_at zs ≡ Some c → Opened zs w (numbers_of (does c w).answer) (does c w).left
unfolding row_does
opens κs zs c w e =
    let d = does c w in
    let r : Replied = record { board = d.left.board; reply = numbers_of d.answer } in
    record {
      lifetimes = κs;
      entry = lends_mut w.log;
      exit = lends_mut d.left.log;
      replied = r;
      learnt =
          subst⁻¹ (λ (o : Option Call). RowGives (row_does o w) r d.left.log) e (record { reply_is = refl; board_is = refl; log_is = refl });
      log_in = refl;
      numbers_are = refl;
      left_is = refl;
    }

-- ---- one call more, in front of such a list

module _ (κs : Lfts 1) {cs : List Call} (w : World Board) {xs : List Reply} {u : World Board} where
  by-door : {c : Call} → Rowed c → Made cs (does c w).left xs u → Made (c ∷ cs) w ((does c w).answer ∷ xs) u
  by-door {c} z t = (opened z.0 z.1 (opens κs z.0 c w z.1) (sym (answer-told c w)) t.0, t.1)

  -- a mode call
  by_mode : {calls : ℤ → Call} → ModeCall calls → (i : ℤ) (code : ℕ) → (does (calls i) w).answer ≡ answered (mode_result w.board (length w.log) i code).answer
      → Made cs (does (calls i) w).left xs u → Made (calls i ∷ cs) w ((does (calls i) w).answer ∷ xs) u
  by_mode m i code e t =
      let s = result-numbered w.board (length w.log) i code in (
        moded m i (number_of (mode_result w.board (length w.log) i code).answer)
            (record { answer_is = s ∙ sym e; board_is = refl; log_is = refl }) (e ∙ sym s) t.0,
        t.1,
      )

  -- a master call with its own numbers
  by-master : (track master : ℤ) (ps : Pairs) → Made cs (does (call.Master track master ps) w).left xs u
      → Made (call.Master track master ps ∷ cs) w ((does (call.Master track master ps) w).answer ∷ xs) u
  unfolding master_does run_count says_of makes_of
  by-master track master ps t =
      let c = call.Master track master ps in
      let d = does c w in
      let zs = pair_numbers ps in
      let n : Named track master zs w (numbers_of d.answer) d.left =
      record {
        lifetimes = κs;
        entry = lends zs;
        exit = lends zs;
        replied = record { board = d.left.board; reply = numbers_of d.answer };
        learnt = λ log.
            let g = master-does track master zs ps (λ b t m. refl) (world w.board log) in
            record { reply_is = ap numbers_of (sym g.answer_is); board_is = sym g.board_is; log_is = sym g.log_is };
        pairs_are = refl;
        numbers_are = refl;
        left_is = refl;
      } in
      subst (λ (qs : Pairs). Made (call.Master track master qs ∷ cs) w (d.answer ∷ xs) u) (pairs-own ps)
      (named track master zs n (sym (answer-told c w)) t.0, t.1)

-- an advance's answer in numbers
abbrev ending_of : Advanced → Ending
ending_of (advance.Done n) = record { reason = 0; number = n.0 }
ending_of (advance.LogFull n) = record { reason = 1; number = n.0 }
ending_of (advance.ClockEnd n) = record { reason = 2; number = n.0 }
ending_of (advance.Refused e) = record { reason = 3; number = refusal.number_of e }

ending-says : (a : Advanced) → ending_said (ending_of a) ≡ advanced_said a
ending-says (advance.Done n) = refl
ending-says (advance.LogFull n) = refl
ending-says (advance.ClockEnd n) = refl
ending-says (advance.Refused n) = refl

by-advance : (κs : Lfts 1) {cs : List Call} (w : World Board) {xs : List Reply} {u : World Board} (n : ℤ)
    → Made cs (does (call.Advance n) w).left xs u → Made (call.Advance n ∷ cs) w ((does (call.Advance n) w).answer ∷ xs) u
by-advance κs w n t =
    let s = advance-said n w in
    let e = ending-says s.told ∙ s.is in
    (advanced n (ending_of s.told) (record { answer_is = e; board_is = refl; log_is = refl }) (sym e) t.0, t.1)

by_call : (κs : Lfts 1) (c : Call) {cs : List Call} (w : World Board) {xs : List Reply} {u : World Board}
    → Made cs (does c w).left xs u → Made (c ∷ cs) w ((does c w).answer ∷ xs) u
unfolding run_count says_of
by_call κs (call.AddTrack i lo hi) w t = by-door κs w (pos 1 ∷ i ∷ lo ∷ hi ∷ [], refl) t
by_call κs (call.SetUp i c) w t = by-door κs w (rowed i c) t
by_call κs (call.SetPoint i p) w t = by-door κs w (pos 7 ∷ i ∷ p.position ∷ p.event ∷ p.wait ∷ p.command ∷ p.target ∷ [], refl) t
by_call κs (call.DropPoint i p) w t = by-door κs w (pos 8 ∷ i ∷ p ∷ [], refl) t
by_call κs (call.Play i) w t = by_mode κs w plays i PLAY refl t
by_call κs (call.Pause i) w t = by_mode κs w pauses i PAUSE refl t
by_call κs (call.Resume i) w t = by_mode κs w resumes i RESUME refl t
by_call κs (call.Stop i) w t = by_mode κs w stops i STOP refl t
by_call κs (call.Advance n) w t = by-advance κs w n t
by_call κs call.Clear w t = by-door κs w (pos 16 ∷ [], refl) t
by_call κs call.Clock w t = by-door κs w (pos 17 ∷ [], refl) t
by_call κs (call.Track i) w t = by-door κs w (pos 18 ∷ i ∷ [], refl) t
by_call κs (call.Point i p) w t = by-door κs w (pos 19 ∷ i ∷ p ∷ [], refl) t
by_call κs (call.Master track master ps) w t = by-master κs w track master ps t
by_call κs (call.PointCount i from to) w t = by-door κs w (pos 20 ∷ i ∷ from ∷ to ∷ [], refl) t

-- every list of calls, the mode calls and advances over the lent board and the others through the door: no contract contradicts another
pub lendings : (κs : Lfts 1) (cs : List Call) (w : World Board)
    → Made cs w (performs (perform gridstep) (cut_up cs) w).answers (performs (perform gridstep) (cut_up cs) w).last
lendings κs [] w = (ended, tt)
lendings κs (c ∷ cs) w = by_call κs c w (lendings κs cs (does c w).left)
