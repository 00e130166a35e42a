-- The laws of the track loop of a tick: its members stepped so far, staged apart from the log.
use Prim.Native.Nat.{ℕ, ◌+◌, ◌*◌, ◌≤◌}
use mathlib.Core.Path.{◌≡◌, refl, sym, ◌∙◌, ap, subst}
use mathlib.Core.Bool.{true}
use mathlib.Core.List.{List, [], ◌∷◌, ◌++◌}
use native.Mathlib.Omega.{arith}
use lib.ListN.{length, set, length-append, length-set}
use Rattle.track.specs.declared.Track.{Track}
use Rattle.track.specs.Rule.{Valid}
use Rattle.track.specs.Walk.{arrival}
use Rattle.track.specs.Leap.{moves, played}
use Rattle.board.specs.declared.Board.{Board}
use Rattle.board.specs.declared.log.Record.{Record}
use Rattle.board.specs.Log.{record_width, log_bytes}
use Rattle.board.specs.Points.{ascending_from, key, keys_of, infos_of, waits, command_of, target_of, track_count, InfoRule}
use Rattle.board.specs.Board.{track_at, is_present, points_test}
use Rattle.board.specs.Tick.{Stage, staged, Room, step_records, reached_by, found_by, step_member, step_all, run_all, play_from, playing_word, TracksRule}
use Rattle.board.specs.Tick.{members}
use Rattle.board.specs.Replay.{Each}
use Rattle.board.specs.Quiet.{CanLeap, Leapable}
use Rattle.board.proofs.points.Keys.{ascending-rest}
use Rattle.board.proofs.tick.Staging.{length-log, staged-more, step-most, reached-most}
use Rattle.board.proofs.tick.Commands.{each_set, tracks_run, records_run, run-apart, run_more}
use Rattle.board.proofs.tick.Steps.{members-ascend, members-most, steps-more}
use Rattle.board.proofs.tick.Found.{step-rule, found-rule, found_target}

-- the members of a word of `rest` that are still to step
pub record Stepping (b : Board) (ts : List Track) (clock word : ℕ) (stage reached : List ℕ) (next : List Track) (rest : ℕ) : Type 0 where
  pub records : List Record
  pub work : step_all (keys_of b.points) (infos_of b.points) (clock + 1) (members rest) (staged next records reached)
      ≡ step_all (keys_of b.points) (infos_of b.points) (clock + 1) (members word) (staged ts [] [])
  pub bytes_are : stage ≡ log_bytes records
  pub leapable : Leapable next (members rest)
  pub rule : TracksRule b.present next reached
  pub few_records : length records + 2 * length (members rest) ≤ 2 * track_count
  pub few_reached : length reached + length (members rest) ≤ track_count
  pub next_long : length next ≡ track_count

pub stepping-start : (b : Board) (ts : List Track) (clock word : ℕ) → Leapable ts (members word) →
    ((i : ℕ) → is_present b.present i ≡ true → Valid (track_at ts i)) → length ts ≡ track_count → Stepping b ts clock word [] [] ts word
unfolding log_bytes
stepping-start b ts clock word a v l =
    let few = members-most track_count 0 word in
    record {
      records = [];
      work = refl;
      bytes_are = refl;
      leapable = a;
      rule = record { tracks = v; infos = λ j h. absurd (omega arith); targets = λ j h. absurd (omega arith) };
      few_records = omega arith;
      few_reached = omega arith;
      next_long = l;
    }

module _ (b : Board) (ts : List Track) (clock word : ℕ) (stage reached : List ℕ) (next : List Track) (rest : ℕ)
    (s : Stepping b ts clock word stage reached next rest) (i rest' : ℕ) (h : members rest ≡ i ∷ members rest') where
  abbrev t : Track
  t = track_at next i

  -- there is room for the records of a step
  pub stepping-room : Room 2 stage
  stepping-room = omega (arith, length-log s.records, ap length s.bytes_are, s.few_records, ap length h)

  -- one member stepped: its records staged, its point noted
  pub stepping-step : (us : List Track) → points_test b.present us 0 (keys_of b.points) (infos_of b.points) ≡ true →
      {u : Track} {d : ℕ} {stage' reached' : List ℕ} → d ≡ found_by (keys_of b.points) (infos_of b.points) i t → u ≡ played t (waits d) →
      stage' ≡ stage ++ log_bytes (step_records (clock + 1) i t d) → reached' ≡ reached ++ reached_by d →
      Stepping b ts clock word stage' reached' (set next i u) rest'
  unfolding step_all step_member found_by Each
  stepping-step us p {u} {d} {stage'} {reached'} ed eu es er =
      let rs = step_records (clock + 1) i t d in
      let most = step-most (clock + 1) i t d in
      let one = reached-most d in
      let leapable = subst (λ (is : List ℕ). Leapable next is) h s.leapable in
      let ascends = subst (λ (is : List ℕ). ascending_from 0 is ≡ true) h (members-ascend track_count 0 rest) in
      record {
        records = s.records ++ rs;
        work =
            (λ j. step_all (keys_of b.points) (infos_of b.points) (clock + 1) (members rest')
            (staged (set next i ((eu ∙ ap (λ (x : ℕ). played t (waits x)) ed) j)) (s.records ++ step_records (clock + 1) i t (ed j)) ((er ∙ ap (λ (x : ℕ). reached ++ reached_by x) ed) j)))
            ∙ ap (λ (is : List ℕ). step_all (keys_of b.points) (infos_of b.points) (clock + 1) is (staged next s.records reached)) (sym h)
            ∙ s.work;
        bytes_are = staged-more [] s.records rs s.bytes_are es;
        leapable = each_set CanLeap next i u (members rest') (ascending-rest 0 i (members rest') ascends) leapable.1;
        rule = subst (λ (x : Track). TracksRule b.present (set next i x) reached') (sym eu)
            (subst (TracksRule b.present (set next i (played t (waits d)))) (sym er)
            (step-rule b.present next reached i (waits d) d s.rule
            (subst InfoRule (sym ed) (found-rule b.present us (keys_of b.points) (infos_of b.points) p (moves t) (key i (arrival t))))
            (subst (λ (x : ℕ). (command_of x ≡ 0 → ⊥) → is_present b.present (target_of x) ≡ true) (sym ed)
            (found_target b.present us (keys_of b.points) (infos_of b.points) p (moves t) (key i (arrival t)))) leapable.0.plays));
        few_records = omega (arith, s.few_records, ap length h, length-append s.records rs);
        few_reached = omega (arith, s.few_reached, ap length h, ap length er, length-append reached (reached_by d));
        next_long = length-set next i u ∙ s.next_long;
      }

-- ---- the ways out of the track loop

module _ (b : Board) (ts : List Track) (clock word : ℕ) (ew : word ≡ playing_word b.present ts) (stage reached : List ℕ) (next : List Track)
    (rest : ℕ) (before : Stepping b ts clock word stage reached next rest) where
  s : Stepping b ts clock (playing_word b.present ts) stage reached next rest
  s = subst (λ (w : ℕ). Stepping b ts clock w stage reached next rest) ew before

  abbrev after_play : Stage
  after_play = play_from (keys_of b.points) (infos_of b.points) (clock + 1) b.present ts

  -- records staged so far are part of those of the steps and the commands
  pub stepping-over : {n : ℕ} → length stage ≡ n * record_width → n ≤ length after_play.records
  unfolding play_from
  stepping-over el =
      let a = steps-more (keys_of b.points) (infos_of b.points) (clock + 1) (members rest) (staged next s.records reached) in
      let e = ap (λ (x : Stage). length x.records) s.work in
      let z = step_all (keys_of b.points) (infos_of b.points) (clock + 1) (members (playing_word b.present ts)) (staged ts [] []) in
      let c = run_more (clock + 1) z.reached z in
      omega (arith, el, length-log s.records, ap length s.bytes_are)

  -- all members are stepped: the commands complete them
  pub stepping-done : members rest ≡ [] → {after : List Track} {stage' : List ℕ} → after ≡ tracks_run (clock + 1) reached next →
      stage' ≡ stage ++ log_bytes (records_run (clock + 1) reached next) → (after ≡ after_play.tracks) × (stage' ≡ log_bytes after_play.records)
  unfolding play_from step_all
  stepping-done h {after} {stage'} ea es =
      let rs = records_run (clock + 1) reached next in
      let end : staged next s.records reached ≡ step_all (keys_of b.points) (infos_of b.points) (clock + 1) (members (playing_word b.present ts)) (staged ts [] []) =
      ap (λ (is : List ℕ). step_all (keys_of b.points) (infos_of b.points) (clock + 1) is (staged next s.records reached)) (sym h) ∙ s.work in
      let all : staged (tracks_run (clock + 1) reached next) (s.records ++ rs) reached ≡ after_play =
      sym (run-apart (clock + 1) reached next s.records reached) ∙ ap (λ (x : Stage). run_all (clock + 1) x.reached x) end in
      (ea ∙ ap (λ (x : Stage). x.tracks) all, staged-more [] s.records rs s.bytes_are es ∙ ap (λ (x : Stage). log_bytes x.records) all)
