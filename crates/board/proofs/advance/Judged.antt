-- The third part in the tick loop, and the tick that it completes.
use Prim.Native.Nat.{ℕ, ◌+◌}
use mathlib.Core.Path.{◌≡◌, sym, ◌∙◌, ap, subst}
use mathlib.Core.List.{List, [], ◌++◌}
use native.Mathlib.Omega.{arith}
use lib.ListN.{length}
use Rattle.track.specs.declared.Track.{Track}
use Rattle.board.specs.declared.Board.{Board}
use Rattle.board.specs.Log.{log_bytes}
use Rattle.board.specs.Points.{keys_of, infos_of, track_count}
use Rattle.board.specs.Tick.{Room, Stage, staged, members, playing_word, play_from, follow_word, follow_all, tick_from, FollowRules}
use Rattle.board.specs.Quiet.{Fewest}
use Rattle.board.proofs.tick.Bits.{no-members}
use Rattle.board.proofs.tick.Staging.{length-log, staged-none, staged-more}
use Rattle.board.proofs.tick.Steps.{play-few, tick-apart}
use Rattle.board.proofs.follow.Following.{followed_from, follow-playing}
use Rattle.board.proofs.advance.Turning.{Played}

-- the fewest quiet ticks, by the words that the loop keeps
pub fewest-same : {ks : List ℕ} {ts : List Track} {v w f g a r q : ℕ} → v ≡ w → f ≡ g → r ≡ q → Fewest ks ts (members v) (members f) a r
    → Fewest ks ts (members w) (members g) a q
fewest-same {ks} {ts} {v} {w} {f} {g} {a} {r} {q} ev ef er h =
    subst (λ (n : ℕ). Fewest ks ts (members n) (members g) a q) ev
    (subst (λ (n : ℕ). Fewest ks ts (members v) (members n) a q) ef (subst (λ (n : ℕ). Fewest ks ts (members v) (members f) a n) er h))

-- ---- the tick is completed

-- a tick from the tracks ts is worked out: the tracks after it, its records in the stage, the playing word
pub record Ticked (b : Board) (ts : List Track) (clock : ℕ) (after : List Track) (stage : List ℕ) (word : ℕ) : Type 0 where
  pub tracks : after ≡ (tick_from (keys_of b.points) (infos_of b.points) (clock + 1) b.present ts).tracks
  pub bytes : stage ≡ log_bytes (tick_from (keys_of b.points) (infos_of b.points) (clock + 1) b.present ts).records
  pub word_is : word ≡ playing_word b.present after

module _ {b : Board} {ts : List Track} {clock : ℕ} {tracks : List Track} {stage : List ℕ} {word : ℕ} (p : Played b ts clock tracks stage word) where
  abbrev played : Stage
  played = play_from (keys_of b.points) (infos_of b.points) (clock + 1) b.present ts

  -- there is room for a record of each follower
  pub played-room : Room track_count stage
  played-room =
      omega (arith, ap length p.bytes, length-log played.records, play-few (keys_of b.points) (infos_of b.points) (clock + 1) b.present ts)

  module _ {led : ℕ} (el : led ≡ follow_word b.present ts) where
    abbrev bands : Stage
    bands = followed_from (clock + 1) (members led) tracks

    tick_is : staged bands.tracks (played.records ++ bands.records) played.reached
        ≡ tick_from (keys_of b.points) (infos_of b.points) (clock + 1) b.present ts
    tick_is =
        (λ j. let f = followed_from (clock + 1) (members (el j)) (p.tracks j) in staged f.tracks (played.records ++ f.records) played.reached)
        ∙ sym (tick-apart (keys_of b.points) (infos_of b.points) (clock + 1) b.present ts)

    -- the followers can be judged, if those of the tick can
    pub played-rules : FollowRules played.tracks (members (follow_word b.present ts)) → FollowRules tracks (members led)
    played-rules r =
        subst (λ (us : List Track). FollowRules us (members led)) (sym p.tracks) (subst (λ (w : ℕ). FollowRules played.tracks (members w)) (sym el) r)

    -- they are judged: their records come behind
    pub played-judged : {after : List Track} {stage' : List ℕ} → after ≡ bands.tracks → stage' ≡ stage ++ log_bytes bands.records →
        Ticked b ts clock after stage' word
    played-judged {after} {stage'} ea es =
        record {
          tracks = ea ∙ ap (λ (s : Stage). s.tracks) tick_is;
          bytes = staged-more [] played.records bands.records p.bytes es ∙ ap (λ (s : Stage). log_bytes s.records) tick_is;
          word_is = p.word_is ∙ sym (follow-playing (clock + 1) b.present (members led) (staged tracks [] [])) ∙ ap (playing_word b.present) (sym ea);
        }

    -- there is none
    pub played-alone : led ≡ 0 → {after : List Track} {stage' : List ℕ} → after ≡ tracks → stage' ≡ stage → Ticked b ts clock after stage' word
    unfolding follow_all
    played-alone z ea es =
        let none : bands ≡ staged tracks [] [] = ap (λ (is : List ℕ). followed_from (clock + 1) is tracks) (no-members led (omega arith)) in
        played-judged (ea ∙ sym (ap (λ (s : Stage). s.tracks) none)) (es ∙ staged-none stage (ap (λ (s : Stage). s.records) none))
