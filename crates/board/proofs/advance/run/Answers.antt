-- The tick loop keeps its invariants, and ends as so many ticks come to (proofs/advance/Standing has the steps of the proof, told of plain values).
use Prim.Native.Nat.{◌-◌, ◌<◌}
use Rattle.board.proofs.advance.Advancing.{going-ends, going_done}
use Rattle.board.proofs.advance.Judged.{played-room, played-judged, played-alone}
use Rattle.board.proofs.advance.Standing.{SkipsHere, Starts, PlayedHere, TickedHere, whole, skips-looked, skips-none, all-leapt, all-less}
use Rattle.board.proofs.advance.Standing.{pass-points, pass-rules, full-early, full-late, walked}
use Rattle.board.proofs.advance.Standing.{starts-leapt, starts-none, starts-roomy, pass-start, turning-begun, walked-less, stepping, met-found}
use Rattle.board.proofs.advance.Turning.{turning-leapable, turning-room, turning-store, turning-rule, turning-commands, turning-more, turning-still}
use Rattle.board.proofs.quiet.Leaps.{unbroken-points}
use Rattle.board.proofs.rules.Broken.{unbroken-of}
use Rattle.board.proofs.tick.Bits.{first_inside}
use Rattle.board.proofs.tick.Found.{found-rule}
use Rattle.board.specs.Log.{capacity}
use Rattle.board.specs.Tick.{playing_word}
use Rattle.track.proofs.Arrivals.{arrival-inside}
use lib.ListN.{length}
use mathlib.Core.Path.{refl, sym, ◌∙◌, ap}
use native.Mathlib.Omega.{arith}
use borrow.Author.Rules.{rules}
use Rattle.board.proofs.advance.run.Goals as goal
use Rattle.board.proofs.advance.run.Goals.{then-look, else-look, then-room-lt-MOST+then-skipped-gt0, then-room-lt-MOST+else-skipped-gt0, else-room-lt-MOST}
use Rattle.board.proofs.advance.run.Goals.{then-more, else-more, then-led-ne0, else-led-ne0}

pub ordered-points-requires : goal.ordered-points-requires
ordered-points-requires c = record { rule = unbroken-points _ (unbroken-of c.args.b.now c.requires.kept_value) }

-- ---- the head of the loop, and the leap

pub overflow_sub-clock : goal.overflow_sub-clock
overflow_sub-clock c = (whole c.ticks.invariant).clock

-- the ticks that the turn leaps, where it leaps all that can be taken
skips-all : (c : goal.After-leapt-tracks) → SkipsHere c.ticks.invariant c.ticks.look c.min-most.result c.if-look.skipped
skips-all c =
    elim c.if-look.branch [
      | then-look w ↦ skips-looked c.ticks.invariant c.ticks.look (rw c.ordered-points.ensures.keys at w.quiet-stretch.ensures) (w.skipped-is ∙ w.min-skipped.ensures)
      | else-look w ↦ skips-none c.ticks.invariant w.if-look.false w.skipped-is
    ]

pub ticks-smaller-then-skipped-most : goal.ticks-smaller-then-skipped-most
ticks-smaller-then-skipped-most c =
    all-less c.ticks.invariant (skips-all c) c.min-most.ensures c.if-skipped-most.true c.leapt-tracks.ensures c.ticks-test.true
    (omega (arith, (whole c.ticks.invariant).clock))

pub ticks-preserved-then-skipped-most : goal.ticks-preserved-then-skipped-most
ticks-preserved-then-skipped-most c = all-leapt c.ticks.invariant (skips-all c) c.min-most.ensures c.if-skipped-most.true c.leapt-tracks.ensures

-- ---- the pass over the playing tracks

pub loop-i-init : goal.loop-i-init
loop-i-init c =
    let q : SkipsHere c.ticks.invariant c.ticks.look c.min-most.result c.if-look.skipped =
    elim c.if-look.branch [
      | then-look w ↦ skips-looked c.ticks.invariant c.ticks.look (rw c.ordered-points.ensures.keys at w.quiet-stretch.ensures) (w.skipped-is ∙ w.min-skipped.ensures)
      | else-look w ↦ skips-none c.ticks.invariant w.if-look.false w.skipped-is
    ] in
    let short : c.if-look.skipped < c.min-most.result = omega (arith, q.few) in
    let s : Starts c.ticks.invariant q c.min-most.ensures (capacity (length c.args.log.now) - c.ticks.held) c.if-room-lt-MOST.skipped c.if-room-lt-MOST.tracks c.if-room-lt-MOST.back =
    elim c.if-room-lt-MOST.branch [
      | then-room-lt-MOST+then-skipped-gt0 w ↦ starts-leapt c.ticks.invariant q c.min-most.ensures w.leapt-tracks-then-skipped-gt0.ensures w.tracks-is w.skipped-is w.back-is
      | then-room-lt-MOST+else-skipped-gt0 w ↦ starts-none c.ticks.invariant q c.min-most.ensures (omega arith) w.tracks-is w.skipped-is w.back-is
      | else-room-lt-MOST w ↦ starts-roomy c.ticks.invariant q c.min-most.ensures w.if-room-lt-MOST.false w.tracks-is w.skipped-is
    ] in
    record {
      can_next = search rules;
      is_finite = tt;
      pass = pass-start c.ticks.invariant q c.min-most.ensures c.ticks-test.true short s refl;
      turning = turning-begun c.ticks.invariant q c.min-most.ensures c.ticks-test.true short s c.clear.ensures c.clear-in-ticks.ensures (search rules);
    }

pub invariant_of-before : goal.invariant_of-before
invariant_of-before c = record { valid = (turning-leapable c.loop-i.invariant.turning _ _ c.in-Some.ensures.steps).valid }

pub invariant_of-before-in-loop-i : goal.invariant_of-before-in-loop-i
invariant_of-before-in-loop-i c = record { counted = (turning-leapable c.loop-i.invariant.turning _ _ c.in-Some.ensures.steps).passes }

pub invariant_of-t : goal.invariant_of-t
invariant_of-t c = record { valid = (stepping c.loop-i.invariant.turning _ _ c.in-Some.ensures.steps c.leap.ensures).valid }

pub invariant_of-t-in-loop-i : goal.invariant_of-t-in-loop-i
invariant_of-t-in-loop-i c = record { counted = (stepping c.loop-i.invariant.turning _ _ c.in-Some.ensures.steps c.leap.ensures).passes }

pub overflow_add-here : goal.overflow_add-here
overflow_add-here c =
    let v = (stepping c.loop-i.invariant.turning _ _ c.in-Some.ensures.steps c.leap.ensures).valid in
    omega (arith, first_inside _ _ _ c.in-Some.ensures.steps, arrival-inside _ v, c.arrival-l.ensures, v.ordered)

pub info_met-met-requires : goal.info_met-met-requires
info_met-met-requires c =
    rw (c.ordered-points.ensures.keys, c.ordered-points.ensures.infos) (found-rule _ _ _ _ (pass-points c.loop-i.invariant.pass) _ _)

pub step_member-r-requires-clause-room : goal.step_member-r-requires-clause-room
step_member-r-requires-clause-room c = turning-room c.loop-i.invariant.turning _ _ c.in-Some.ensures.steps

pub loop-i-preserved : goal.loop-i-preserved
loop-i-preserved c =
    record {
      can_next = search rules;
      is_finite = tt;
      pass = c.loop-i.invariant.pass;
      turning = turning-store c.loop-i.invariant.turning _ _ c.in-Some.ensures.steps _ (pass-points c.loop-i.invariant.pass) c.leap.ensures
          (met-found _ _ _ _ (rw (c.ordered-points.ensures.keys, c.ordered-points.ensures.infos) at c.info_met-met.ensures) c.moves-made.ensures c.arrival-l.ensures)
          c.step_member-r.ensures.stepped c.step_member-r.ensures.records c.note.ensures c.needs_more-more.ensures;
    }

pub returns-then-room-count : goal.returns-then-room-count
returns-then-room-count c =
    full-early c.loop-i.invariant.pass
    (turning-store c.loop-i.invariant.turning _ _ c.in-Some.ensures.steps _ (pass-points c.loop-i.invariant.pass) c.leap.ensures
    (met-found _ _ _ _ (rw (c.ordered-points.ensures.keys, c.ordered-points.ensures.infos) at c.info_met-met.ensures) c.moves-made.ensures c.arrival-l.ensures)
    c.step_member-r.ensures.stepped c.step_member-r.ensures.records c.note.ensures c.needs_more-more.ensures)
    c.count.ensures c.if-room-count.true

-- ---- behind the pass: the commands and the bands

pub run_commands-word-requires : goal.run_commands-word-requires
run_commands-word-requires c =
    let p = c.loop-i.invariant.pass in
    let t = c.loop-i.invariant.turning in
    record {
      tracks_rule = turning-rule p.word_is t c.in-None.ensures.steps.0;
      room = turning-commands p.word_is t c.in-None.ensures.steps.0;
    }

pub judge_bands-requires : goal.judge_bands-requires
judge_bands-requires c =
    let p = c.loop-i.invariant.pass in
    let t : PlayedHere p c.if-more.tracks c.if-more.stage c.if-more.word =
    elim c.if-more.branch [
      | then-more w ↦ turning-more p.word_is c.loop-i.invariant.turning c.in-None.ensures.steps.0
          (w.tracks-is ∙ w.run_commands-word.ensures.tracks) (w.stage-is ∙ w.run_commands-word.ensures.records)
          (w.word-is ∙ w.run_commands-word.ensures.word ∙ ap (playing_word _) (sym w.tracks-is))
      | else-more w ↦ turning-still p.word_is c.loop-i.invariant.turning c.in-None.ensures.steps.0 w.if-more.false
          w.tracks-is w.stage-is w.word-is
    ] in
    record { follow_rules = pass-rules p t; room = played-room t }

-- the tick that the turn works out
ticked : (c : goal.After-slice_known-in-ticks-1) → TickedHere c.loop-i.invariant.pass c.if-led-ne0.tracks c.if-led-ne0.stage c.if-more.word
ticked c =
    let p = c.loop-i.invariant.pass in
    let t : PlayedHere p c.if-more.tracks c.if-more.stage c.if-more.word =
    elim c.if-more.branch [
      | then-more w ↦ turning-more p.word_is c.loop-i.invariant.turning c.in-None.ensures.steps.0
          (w.tracks-is ∙ w.run_commands-word.ensures.tracks) (w.stage-is ∙ w.run_commands-word.ensures.records)
          (w.word-is ∙ w.run_commands-word.ensures.word ∙ ap (playing_word _) (sym w.tracks-is))
      | else-more w ↦ turning-still p.word_is c.loop-i.invariant.turning c.in-None.ensures.steps.0 w.if-more.false
          w.tracks-is w.stage-is w.word-is
    ] in
    elim c.if-led-ne0.branch [
      | then-led-ne0 w ↦ played-judged t p.led_is
          (w.tracks-is ∙ w.judge_bands.ensures.tracks) (w.stage-is ∙ w.judge_bands.ensures.records)
      | else-led-ne0 w ↦ played-alone t p.led_is w.if-led-ne0.false w.tracks-is w.stage-is
    ]

pub ticks-smaller : goal.ticks-smaller
ticks-smaller c =
    let p = c.loop-i.invariant.pass in
    let q : SkipsHere c.ticks.invariant c.ticks.look c.min-most.result c.if-look.skipped =
    elim c.if-look.branch [
      | then-look w ↦ skips-looked c.ticks.invariant c.ticks.look (rw c.ordered-points.ensures.keys at w.quiet-stretch.ensures) (w.skipped-is ∙ w.min-skipped.ensures)
      | else-look w ↦ skips-none c.ticks.invariant w.if-look.false w.skipped-is
    ] in
    let short : c.if-look.skipped < c.min-most.result = omega (arith, q.few) in
    let s : Starts c.ticks.invariant q c.min-most.ensures (capacity (length c.args.log.now) - c.ticks.held) c.if-room-lt-MOST.skipped c.if-room-lt-MOST.tracks c.if-room-lt-MOST.back =
    elim c.if-room-lt-MOST.branch [
      | then-room-lt-MOST+then-skipped-gt0 w ↦ starts-leapt c.ticks.invariant q c.min-most.ensures w.leapt-tracks-then-skipped-gt0.ensures w.tracks-is w.skipped-is w.back-is
      | then-room-lt-MOST+else-skipped-gt0 w ↦ starts-none c.ticks.invariant q c.min-most.ensures (omega arith) w.tracks-is w.skipped-is w.back-is
      | else-room-lt-MOST w ↦ starts-roomy c.ticks.invariant q c.min-most.ensures w.if-room-lt-MOST.false w.tracks-is w.skipped-is
    ] in
    let g = (walked p (ticked c) c.count-total.ensures c.if-room-total.false c.commit.ensures).going in
    walked-less c.ticks.invariant q c.min-most.ensures c.ticks-test.true short s _ (ticked c) c.count-total.ensures g c.commit.ensures

pub ticks-preserved : goal.ticks-preserved
ticks-preserved c = walked c.loop-i.invariant.pass (ticked c) c.count-total.ensures c.if-room-total.false c.commit.ensures

pub returns-then-room-total : goal.returns-then-room-total
returns-then-room-total c =
    let p = c.loop-i.invariant.pass in
    let t : PlayedHere p c.if-more.tracks c.if-more.stage c.if-more.word =
    elim c.if-more.branch [
      | then-more w ↦ turning-more p.word_is c.loop-i.invariant.turning c.in-None.ensures.steps.0
          (w.tracks-is ∙ w.run_commands-word.ensures.tracks) (w.stage-is ∙ w.run_commands-word.ensures.records)
          (w.word-is ∙ w.run_commands-word.ensures.word ∙ ap (playing_word _) (sym w.tracks-is))
      | else-more w ↦ turning-still p.word_is c.loop-i.invariant.turning c.in-None.ensures.steps.0 w.if-more.false
          w.tracks-is w.stage-is w.word-is
    ] in
    let d : TickedHere p c.if-led-ne0.tracks c.if-led-ne0.stage c.if-more.word =
    elim c.if-led-ne0.branch [
      | then-led-ne0 w ↦ played-judged t p.led_is
          (w.tracks-is ∙ w.judge_bands.ensures.tracks) (w.stage-is ∙ w.judge_bands.ensures.records)
      | else-led-ne0 w ↦ played-alone t p.led_is w.if-led-ne0.false w.tracks-is w.stage-is
    ] in
    full-late p d c.count-total.ensures c.if-room-total.true

-- ---- the other ways out

pub returns-after-ticks : goal.returns-after-ticks
returns-after-ticks c = going_done _ _ _ _ _ _ _ _ _ c.ticks.invariant.going c.ticks-test.false

pub returns-then-clock-eq-END : goal.returns-then-clock-eq-END
returns-then-clock-eq-END c = going-ends _ _ _ _ _ _ _ _ _ c.ticks.invariant.going c.ticks-test.true c.if-clock-eq-END.true
