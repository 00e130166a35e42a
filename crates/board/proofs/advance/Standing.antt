-- Where the tick loop of `run` stands: what the invariants of its two loops say, told of plain values, and what follows in a turn.
use Prim.Native.Nat.{ℕ, ◌+◌, ◌-◌, ◌*◌, ◌≤◌, ◌<◌, min}
use mathlib.Core.Path.{◌≡◌, refl, sym, ◌∙◌, ap, subst}
use mathlib.Core.Bool.{Bool, true, false, cond, true≢false}
use mathlib.Core.List.{List, [], ◌∷◌}
use native.Mathlib.Omega.{arith}
use lib.Dec.{eqb}
use lib.ListN.{length}
use Rattle.track.specs.declared.Track.{Track}
use Rattle.track.specs.Rule.{clock_end, Valid}
use Rattle.track.specs.Walk.{arrival}
use Rattle.track.specs.Leap.{leap, moves}
use Rattle.board.specs.declared.Board.{Board}
use Rattle.board.specs.declared.call.Advanced.{Advanced}
use Rattle.board.specs.declared.call.Advanced.TheVariants.{Done, LogFull}
use Rattle.board.specs.Log.{write_at, record_width, log_bytes, capacity}
use Rattle.board.specs.Points.{keys_of, infos_of, info_at, key}
use Rattle.board.specs.Board.{Unbroken, track_at, is_present, points_test}
use Rattle.board.specs.Tick.{Stage, tick_from, found_by, members, playing_word, follow_word, band_count, tick_most, FollowRules}
use Rattle.board.specs.Replay.{Each}
use Rattle.board.specs.Steady.{SteadyFor}
use Rattle.board.specs.Quiet.{QuietFor, master_of, Fewest, WithMaster, CanLeap, Leapable, leap_tracks, leap_into}
use Rattle.board.specs.Call.{world}
use Rattle.board.specs.Advance.{Ended, turns_left}
use Rattle.board.proofs.rules.Broken.{unbroken-of}
use Rattle.board.proofs.log.Words.{length-write}
use Rattle.board.proofs.tick.Staging.{length-log}
use Rattle.board.proofs.tick.Steps.{tick-few, tick-long, tick-follow-word}
use Rattle.board.proofs.quiet.Leaps.{unbroken-leapable, unbroken-infos, leap-tracks-word, leap-tracks-zero}
use Rattle.board.proofs.quiet.Bands.{leap-follow-word, leap-bands}
use Rattle.board.proofs.quiet.Pairs.{Mastered, unbroken-mastered, unbroken-paired}
use Rattle.board.proofs.follow.Rules.{unbroken-rules}
use Rattle.board.proofs.advance.Advancing.{Going, going-full, going-leap, going-tick, board_at, stage_of, go, quiet_none, steady-none, leap-is, whole-points}
use Rattle.board.proofs.advance.Turning.{Begins, begins-before, begins-leapt, Turning, turning-start, turning-leapt, turning-over, Played}
use Rattle.board.proofs.advance.Judged.{fewest-same, Ticked, played-rules}
use Rattle.board.proofs.advance.Cost.{leap-less, walk-less}

-- what is known at the head of the tick loop: `taken` ticks done of `count`, and the words and rows that it keeps
pub record Standing (b : Board) (count : ℕ) (log₀ log : List ℕ) (ts : List Track) (clock held taken : ℕ) (answer : Advanced) (word led : ℕ) : Type 0 where
  pub going : Going b count log₀ log ts clock held taken answer
  pub word_is : word ≡ playing_word b.present ts
  pub led_is : led ≡ follow_word b.present ts

-- `skipped` quiet ticks, of at most `most`, are leapt in this turn: all that there are, if it looked and they are fewer than `most`
pub record Skips (b : Board) (ts : List Track) (look : Bool) (most skipped : ℕ) : Type 0 where
  pub quiet_for : ℕ
  pub within : skipped ≤ quiet_for
  pub few : skipped ≤ most
  pub quiet : Each (λ i. QuietFor (keys_of b.points) quiet_for i (track_at ts i)) (members (playing_word b.present ts))
  pub steady : Each (λ i. SteadyFor quiet_for (track_at ts i) (master_of ts i)) (members (follow_word b.present ts))
  pub longest : skipped < most → look ≡ true → Fewest (keys_of b.points) ts (members (playing_word b.present ts)) (members (follow_word b.present ts)) clock_end skipped

-- What is known in the pass over the playing tracks, which works out the tick behind the leap. `unleapt` ticks of the leap are still to be
-- made of the tracks `ts` that the pass begins with, and `back` are the tracks to go back to, if the tick's records might not fit.
pub record Pass (b : Board) (count : ℕ) (log₀ log : List ℕ) (ts back : List Track) (clock held taken word led unleapt room : ℕ) : Type 0 where
  pub going : Going b count log₀ log (leap_tracks unleapt b.present ts) clock held taken (Done (record { 0 = taken }))
  pub behind : taken < count
  pub early : clock < clock_end
  pub few : unleapt ≤ clock_end
  pub word_is : word ≡ playing_word b.present ts
  pub led_is : led ≡ follow_word b.present (leap_tracks unleapt b.present ts)
  pub room_is : room ≡ capacity (length log₀) - held
  pub back_is : room < tick_most → back ≡ leap_tracks unleapt b.present ts

-- the number of a tick's records, by their bytes
ticked-count : {b : Board} {ts after : List Track} {clock word total : ℕ} {stage : List ℕ} → Ticked b ts clock after stage word → length stage ≡ total * record_width
    → total ≡ length (tick_from (keys_of b.points) (infos_of b.points) (clock + 1) b.present ts).records
ticked-count {b} {ts} {clock = clock} t e =
    omega (arith, e, ap length t.bytes, length-log (tick_from (keys_of b.points) (infos_of b.points) (clock + 1) b.present ts).records)

-- ---- at the head of the loop

module _ {b : Board} {count : ℕ} {log₀ log : List ℕ} {ts : List Track} {clock held taken : ℕ} {answer : Advanced} {word led : ℕ}
    (s : Standing b count log₀ log ts clock held taken answer word led) where
  -- the board as it stands keeps the rules
  pub whole : Unbroken (board_at b ts clock held)
  whole = unbroken-of _ s.going.whole

  -- the playing tracks can be leapt
  pub leapable : Leapable ts (members word)
  leapable = subst (λ (w : ℕ). Leapable ts (members w)) (sym s.word_is) (unbroken-leapable _ whole)

  -- the followers and their masters are present, and are pairs
  mastered : Mastered b.present ts (members (follow_word b.present ts))
  mastered = unbroken-mastered _ whole

  pub pairs : Each (WithMaster ts) (members led)
  pairs = subst (λ (w : ℕ). Each (WithMaster ts) (members w)) (sym s.led_is) (unbroken-paired _ whole)

  -- the leap of a turn that looks for quiet ticks, and of one that doesn't
  abbrev pub SkipsHere : (look : Bool) (most skipped : ℕ) → Type 0
  SkipsHere = Skips b ts

  pub skips-looked : (look : Bool) {r most skipped : ℕ} → Fewest (keys_of b.points) ts (members word) (members led) clock_end r → skipped ≡ min r most
      → SkipsHere look most skipped
  skips-looked look {r} {most} {skipped} f e =
      let f' : Fewest (keys_of b.points) ts (members (playing_word b.present ts)) (members (follow_word b.present ts)) clock_end r =
      fewest-same s.word_is s.led_is refl f in
      record {
        quiet_for = r;
        within = omega arith;
        few = omega arith;
        quiet = f'.quiet;
        steady = f'.steady;
        longest = λ l q. let same : r ≡ skipped = omega arith in fewest-same s.word_is s.led_is same f;
      }

  pub skips-none : {look : Bool} {most skipped : ℕ} → look ≡ false → skipped ≡ 0 → SkipsHere look most skipped
  skips-none {look} {most} {skipped} e z =
      record {
        quiet_for = 0;
        within = omega arith;
        few = omega arith;
        quiet = quiet_none (keys_of b.points) ts (members (playing_word b.present ts));
        steady = steady-none ts (members (follow_word b.present ts));
        longest = λ l q. absurd (true≢false (sym q ∙ e));
      }

  leapt-is : (k : ℕ) → leap_into k ts (members word) ts ≡ leap_tracks k b.present ts
  leapt-is k = leap-is k b.present word ts s.word_is s.going.tracks_long

  module _ {look : Bool} {most skipped : ℕ} (q : Skips b ts look most skipped) (m : most ≡ min (count - taken) (clock_end - clock)) where
    -- where the loop stands after the leap
    ahead : {next : List Track} → next ≡ leap_into skipped ts (members word) ts →
        Going b count log₀ log next (clock + skipped) held (taken + skipped) (Done (record { 0 = taken + skipped }))
    ahead {next} e =
        going-leap b count log₀ log ts clock held taken answer s.going (playing_word b.present ts) q.quiet_for skipped refl (unbroken-leapable _ whole) q.quiet mastered q.steady
        q.within (omega (arith, q.few)) (omega (arith, q.few)) (e ∙ ap (λ (w : ℕ). leap_into skipped ts (members w) ts) s.word_is) whole.clock

    -- all that can be taken is quiet: the loop stands there again, with fewer turns left
    module _ (all : skipped ≡ most) {next : List Track} (e : next ≡ leap_into most ts (members word) ts) where
      next-is : next ≡ leap_tracks most b.present ts
      next-is = e ∙ leapt-is most

      going-all : Going b count log₀ log next (clock + most) held (taken + most) (Done (record { 0 = taken + most }))
      going-all =
          subst (λ (k : ℕ). Going b count log₀ log next (clock + k) held (taken + k) (Done (record { 0 = taken + k }))) all
          (ahead (e ∙ ap (λ (k : ℕ). leap_into k ts (members word) ts) (sym all)))

      same-word : playing_word b.present next ≡ playing_word b.present ts
      same-word = ap (playing_word b.present) next-is ∙ leap-tracks-word most b.present ts

      pub all-leapt : Standing b count log₀ log next (clock + most) held (taken + most) (Done (record { 0 = taken + most })) word led
      all-leapt =
          record {
            going = going-all;
            word_is = s.word_is ∙ sym same-word;
            led_is = s.led_is ∙ sym (leap-follow-word most b.present ts) ∙ ap (follow_word b.present) (sym next-is);
          }

      pub all-less : taken < count → clock < clock_end →
          turns_left look (count - (taken + most)) (world (board_at b next (clock + most) held) log) < turns_left look (count - taken) (world (board_at b ts clock held) log)
      all-less l c =
          leap-less b count log₀ s.going going-all l c look refl same-word (ap (band_count b.present) next-is ∙ leap-bands most b.present ts) (omega arith)

    -- the tracks that the leap leads to
    abbrev led-to : List Track
    led-to = leap_tracks skipped b.present ts

    going-on : Going b count log₀ log led-to (clock + skipped) held (taken + skipped) (Done (record { 0 = taken + skipped }))
    going-on = ahead (sym (leapt-is skipped))

    whole-on : Unbroken (board_at b led-to (clock + skipped) held)
    whole-on = unbroken-of _ going-on.whole

    -- The tracks `us` that the pass begins with, with `unleapt` ticks still to leap, and those to go back to where there is little room:
    -- the leap is made before the pass; there is none to make; or there is room enough.
    abbrev pub Starts : (room unleapt : ℕ) (us back : List Track) → Type 0
    Starts room unleapt us back = Begins b.present skipped ts unleapt us × (room < tick_most → back ≡ led-to)

    pub starts-leapt : {room unleapt : ℕ} {us back next : List Track} → next ≡ leap_into skipped ts (members word) ts → us ≡ next → unleapt ≡ 0 → back ≡ next
        → Starts room unleapt us back
    starts-leapt e eu z eb =
        let n = e ∙ leapt-is skipped in
        (begins-leapt b.present skipped ts s.going.tracks_long (eu ∙ n) z (unbroken-leapable _ whole-on), λ _. eb ∙ n)

    pub starts-none : {room unleapt : ℕ} {us back : List Track} → skipped ≡ 0 → us ≡ ts → unleapt ≡ skipped → back ≡ ts → Starts room unleapt us back
    starts-none z eu e eb =
        let still = unbroken-leapable _ whole in (
          begins-before b.present skipped ts s.going.tracks_long eu e still,
          λ _. eb ∙ sym (ap (λ (k : ℕ). leap_tracks k b.present ts) z ∙ leap-tracks-zero b.present ts s.going.tracks_long still),
        )

    pub starts-roomy : {room unleapt : ℕ} {us back : List Track} → tick_most ≤ room → us ≡ ts → unleapt ≡ skipped → Starts room unleapt us back
    starts-roomy h eu e =
        (begins-before b.present skipped ts s.going.tracks_long eu e (unbroken-leapable _ whole), λ l. absurd (omega arith))

    -- a tick is left to walk behind the leap
    module _ (behind : taken < count) (short : skipped < most) {room unleapt : ℕ} {us back : List Track} (begun : Starts room unleapt us back) where
      pub pass-start : room ≡ capacity (length log₀) - held → Pass b count log₀ log us back (clock + skipped) held (taken + skipped) word led unleapt room
      pass-start r =
          let l = begun.0.leaps in
          record {
            going = subst (λ (vs : List Track). Going b count log₀ log vs (clock + skipped) held (taken + skipped) (Done (record { 0 = taken + skipped }))) (sym l)
                going-on;
            behind = omega arith;
            early = omega arith;
            few = omega (arith, begun.0.few);
            word_is = s.word_is ∙ sym begun.0.word;
            led_is = s.led_is ∙ sym (leap-follow-word skipped b.present ts) ∙ ap (follow_word b.present) (sym l);
            room_is = r;
            back_is = λ h. begun.1 h ∙ sym l;
          }

      pub turning-begun : {stage reached : List ℕ} {rest : ℕ} → stage ≡ [] → reached ≡ [] → word ≡ rest →
          Turning b us (clock + skipped) word unleapt stage reached us rest false
      turning-begun {stage} {reached} es er ew =
          let l = begun.0.leaps in
          let w = s.word_is ∙ sym begun.0.word in
          subst (λ (v : ℕ). Turning b us (clock + skipped) word unleapt stage reached us v false) ew
          (subst (λ (xs : List ℕ). Turning b us (clock + skipped) word unleapt xs reached us word false) (sym es)
          (subst (λ (ds : List ℕ). Turning b us (clock + skipped) word unleapt [] ds us word false) (sym er)
          (turning-start b us (clock + skipped) word unleapt w begun.0.long
          (subst (λ (v : ℕ). Leapable us (members v)) (sym w) begun.0.leapable)
          (subst (λ (vs : List Track). Leapable vs (members (playing_word b.present vs))) (sym l) (unbroken-leapable _ whole-on))
          (subst (λ (vs : List Track). (i : ℕ) → is_present b.present i ≡ true → Valid (track_at vs i)) (sym l) (λ i h. (whole-on.tracks i h).valid)))))

      -- the tick is walked and taken: fewer turns are left
      pub walked-less : (total : ℕ) {after : List Track} {stage' log' : List ℕ} {word' : ℕ} {answer' : Advanced} →
          Ticked b (leap_tracks unleapt b.present us) (clock + skipped) after stage' word' → length stage' ≡ total * record_width →
          Going b count log₀ log' after (clock + skipped + 1) (held + total) (taken + skipped + 1) answer' → log' ≡ write_at log (held * record_width) stage' →
          turns_left (eqb total 0) (count - (taken + skipped + 1)) (world (board_at b after (clock + skipped + 1) (held + total)) log')
          < turns_left look (count - taken) (world (board_at b ts clock held) log)
      walked-less total {after} {stage'} {log'} {word'} {answer'} t es g el =
          let t' : Ticked b led-to (clock + skipped) after stage' word' =
          subst (λ (vs : List Track). Ticked b vs (clock + skipped) after stage' word') begun.0.leaps t in
          walk-less b count log₀ s.going g behind (omega arith) skipped (unbroken-leapable _ whole) mastered (unbroken-infos _ whole)
          refl t'.tracks (ticked-count t' es) refl refl (el ∙ ap (write_at log (held * record_width)) t'.bytes)
          q.quiet_for q.within q.quiet q.steady look (omega (arith, whole.clock)) (q.longest short)

-- ---- a member of the pass

-- the track leapt can step
pub stepping : {b : Board} {ts next : List Track} {stage reached : List ℕ} {clock word skipped rest : ℕ} {more : Bool} {x : Track} →
    Turning b ts clock word skipped stage reached next rest more → (i rest' : ℕ) → members rest ≡ i ∷ members rest' → x ≡ leap (track_at next i) skipped → CanLeap x
stepping t i rest' h e = subst CanLeap (sym e) (turning-leapt t i rest' h)

-- what is met where the track arrives is what the tick finds there
pub met-found : (ks is : List ℕ) (i : ℕ) (x : Track) {made : Bool} {l d : ℕ} → d ≡ cond made (info_at (key i l) ks is) 0 → made ≡ moves x → l ≡ arrival x
    → d ≡ found_by ks is i x
unfolding found_by
met-found ks is i x {made} {l} e em el =
    e ∙ ap (λ (m : Bool). cond m (info_at (key i l) ks is) 0) em ∙ ap (λ (a : ℕ). cond (moves x) (info_at (key i a) ks is) 0) el

-- ---- in the pass, and behind it

module _ {b : Board} {count : ℕ} {log₀ log : List ℕ} {ts back : List Track} {clock held taken word led unleapt room : ℕ}
    (p : Pass b count log₀ log ts back clock held taken word led unleapt room) where
  -- the tracks that the tick is worked out from, and the tick
  abbrev leapt : List Track
  leapt = leap_tracks unleapt b.present ts

  abbrev tick : Stage
  tick = stage_of b log leapt clock held

  pub pass-whole : Unbroken (board_at b leapt clock held)
  pass-whole = unbroken-of _ p.going.whole

  pub pass-points : points_test b.present leapt 0 (keys_of b.points) (infos_of b.points) ≡ true
  pass-points = whole-points (board_at b leapt clock held) p.going.whole

  -- the records don't fit: the loop ends with the tracks that the leap left
  full : room < tick_most → room < length tick.records →
      Ended b (go count (world b log₀)) (record { answer = LogFull (record { 0 = taken }); tracks = back; clock = record { 0 = clock }; held = held }) log
  full h r =
      subst
      (λ (vs : List Track).
      Ended b (go count (world b log₀)) (record { answer = LogFull (record { 0 = taken }); tracks = vs; clock = record { 0 = clock }; held = held }) log)
      (sym (p.back_is h))
      (going-full b count log₀ log leapt clock held taken _ p.going p.behind p.early (omega (arith, p.room_is)))

  -- within the pass
  pub full-early : {stage reached : List ℕ} {next : List Track} {rest n : ℕ} {more : Bool} →
      Turning b ts clock word unleapt stage reached next rest more → length stage ≡ n * record_width → room < n →
      Ended b (go count (world b log₀)) (record { answer = LogFull (record { 0 = taken }); tracks = back; clock = record { 0 = clock }; held = held }) log
  full-early {stage} {n = n} t el r =
      let o = turning-over p.word_is t el in
      full (omega (arith, t.steps.few_records, length-log t.steps.records, ap length t.steps.bytes_are)) (omega arith)

  -- the steps and the commands of the tick are worked out, and the whole tick
  abbrev pub PlayedHere : (after : List Track) (stage : List ℕ) (word' : ℕ) → Type 0
  PlayedHere = Played b leapt clock

  abbrev pub TickedHere : (after : List Track) (stage : List ℕ) (word' : ℕ) → Type 0
  TickedHere = Ticked b leapt clock

  -- behind the steps and the commands the followers can be judged
  pub pass-rules : {after : List Track} {stage : List ℕ} {word' : ℕ} → PlayedHere after stage word' → FollowRules after (members led)
  pass-rules {after} {stage} {word'} t = played-rules t p.led_is (unbroken-rules _ _ pass-whole)

  -- the whole tick is worked out
  module _ {after : List Track} {total : ℕ} {stage : List ℕ} {word' : ℕ} (t : TickedHere after stage word') (el : length stage ≡ total * record_width) where
    pub total-few : total ≤ tick_most
    total-few = omega (arith, ticked-count t el, tick-few (keys_of b.points) (infos_of b.points) (clock + 1) b.present leapt)

    pub full-late : room < total →
        Ended b (go count (world b log₀)) (record { answer = LogFull (record { 0 = taken }); tracks = back; clock = record { 0 = clock }; held = held }) log
    full-late r = full (omega (arith, total-few)) (omega (arith, ticked-count t el))

    -- and taken
    module _ (fit : total ≤ room) {log' : List ℕ} (e : log' ≡ write_at log (held * record_width) stage) where
      going-walked : Going b count log₀ log' after (clock + 1) (held + total) (taken + 1) (Done (record { 0 = taken + 1 }))
      going-walked =
          let bytes = e ∙ ap (write_at log (held * record_width)) t.bytes in
          let c = ticked-count t el in
          going-tick b count log₀ log leapt clock held taken _ p.going p.behind p.early t.tracks c (omega (arith, p.room_is)) bytes
          (ap length bytes ∙ length-write log (log_bytes tick.records) (held * record_width)
          (omega (arith, length-log tick.records, c, p.going.fits, p.going.long, p.room_is)))
          (ap length t.tracks ∙ tick-long _ _ _ _ _ ∙ p.going.tracks_long)

      pub walked : Standing b count log₀ log' after (clock + 1) (held + total) (taken + 1) (Done (record { 0 = taken + 1 })) word' led
      walked =
          record {
            going = going-walked;
            word_is = t.word_is;
            led_is = p.led_is ∙ sym (tick-follow-word _ _ _ _ _) ∙ ap (follow_word b.present) (sym t.tracks);
          }
