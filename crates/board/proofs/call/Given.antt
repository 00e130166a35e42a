-- What a call does is what its function can give: a board, or one of the refusals, which leaves the board.
use Rattle.std.specs.Prelude.{ℕ, ◌≡◌, List, length, set, ℤ, ltb, leb, eqb, Result, Ok, Err, Option, Some}
use mathlib.Core.Path.{refl, sym, ◌∙◌, ap}
use lib.Seq.{set-get_or}
use Rattle.track.specs.declared.Track.{Track}
use Rattle.track.specs.declared.refusal.Refusal.{Refusal}
use Rattle.track.specs.declared.refusal.Refusal.TheVariants as refusal
use Rattle.track.specs.Refusal.{Accepted, Refused, number_of}
use Rattle.track.specs.declared.setup.Change.{Change}
use Rattle.track.specs.declared.setup.Change.TheVariants as change
use Rattle.track.specs.Rule.{rate_most}
use Rattle.track.specs.Number.{natural_of, coordinate_of, within}
use Rattle.track.specs.Setup.{Changed, after, permits, start_set, end_set, loops_set, repeat_set, direction_set, action_set, jump_to, rate_set, set_by, changed_by}
use Rattle.track.proofs.Tests.{cond_cases}
use Rattle.board.specs.declared.Board.{Board}
use Rattle.board.specs.declared.call.PointNumbers.{PointNumbers}
use Rattle.board.specs.Board.{track_at, no_track, unbroken_test}
use Rattle.board.specs.Setup.{Outcome, outcome, refused, board_with, put_track, set_up, add_track, set_point, drop_point, set_master, clear_board}
use Rattle.board.specs.Mode.{ModeResult, mode_result}
use Rattle.board.specs.Replay.{World, wrote}
use Rattle.board.specs.Log.{capacity}
use Rattle.board.specs.Call.{bar_of, made_by, gridstep}
use Rattle.board.proofs.setup.Ways.{by-natural, by_place, set-up-ways, add-track-ways, set-point-ways, drop-point-ways, set-master-ways, clear-ways}
use Rattle.board.proofs.call.Machine.{counts, result-ways}

-- ---- a change of a track

record Changes (t : Track) (x : Changed) : Type 0 where
  result : Result Track Refusal
  is : after t result ≡ x

changes : (t : Track) (c : Change) → Changes t (changed_by t c)
unfolding changed_by set_by start_set end_set loops_set repeat_set direction_set action_set jump_to rate_set
changes t c = cond_cases P (permits c t.mode) (λ _. by c) (λ _. no refusal.Mode)
  where
    P : Changed → Type 0
    P = Changes t

    no : (e : Refusal) → P (record { answer = Refused (number_of e); track = t })
    no e = record { result = Err e; is = refl }

    yes : (u : Track) → P (record { answer = Accepted; track = u })
    yes u = record { result = Ok u; is = refl }

    by : (c : Change) → P (set_by t c)
    by (change.Start p) =
        by_place P (within t.min.0 t.max.0 (coordinate_of p)) _ _
        (λ c _. cond_cases P (ltb c.0 t.end.0) (λ _. yes _) (λ _. no refusal.Value)) (no refusal.Value)
    by (change.End p) =
        by_place P (within t.min.0 t.max.0 (coordinate_of p)) _ _
        (λ c _. cond_cases P (ltb t.start.0 c.0) (λ _. yes _) (λ _. no refusal.Value)) (no refusal.Value)
    by (change.Loops k) = by-natural P (natural_of k 1 65535) _ _ (λ _ _. yes _) (no refusal.Value)
    by (change.Repeat f) = by-natural P (natural_of f 0 1) _ _ (λ _ _. yes _) (no refusal.Value)
    by (change.Direction d) = by-natural P (natural_of d 0 1) _ _ (λ _ _. yes _) (no refusal.Value)
    by (change.Action from to event) =
        by-natural P (natural_of from 0 3) _ _
        (λ x _. by-natural P (natural_of to 0 3) _ _
        (λ y _. by-natural P (natural_of event 0 255) _ _
        (λ _ _. cond_cases P (eqb x y) (λ _. no refusal.Value) (λ _. yes _)) (no refusal.Value)) (no refusal.Value)) (no refusal.Value)
    by (change.Jump p) = by_place P (within t.start.0 t.end.0 (coordinate_of p)) _ _ (λ _ _. yes _) (no refusal.Value)
    by (change.Rate p q) =
        by-natural P (natural_of p 1 rate_most) _ _
        (λ x _. by-natural P (natural_of q 1 rate_most) _ _
        (λ y _. cond_cases P (ltb y x) (λ _. no refusal.Rate) (λ _. yes _)) (no refusal.Rate)) (no refusal.Rate)

-- ---- a call on a board

pub record Given (b : Board) (o : Outcome) : Type 0 where
  pub result : Result Board Refusal
  pub is : outcome b result ≡ o

module _ (b : Board) where
  no : (e : Refusal) → Given b (refused (number_of e) b)
  no e = record { result = Err e; is = refl }

  -- a changed track put in its place; one that is refused is the track that stands there
  put : (i : ℕ) (c : Change) → Given b (put_track b i (changed_by (track_at b.tracks i) c))
  put i c = go (changes (track_at b.tracks i) c).result (changes (track_at b.tracks i) c).is
    where
      go : (r : Result Track Refusal) {x : Changed} → after (track_at b.tracks i) r ≡ x → Given b (put_track b i x)
      go (Ok u) e = record { result = Ok (board_with b (set b.tracks i u) b.present b.points b.held); is = ap (put_track b i) e }
      go (Err k) e =
          record {
            result = Err k;
            is = ap (λ (ts : List Track). refused (number_of k) (board_with b ts b.present b.points b.held)) (sym (set-get_or b.tracks i no_track))
                ∙ ap (put_track b i) e;
          }

  pub set-up-given : (track : ℤ) (c : Change) → Given b (set_up b track c)
  set-up-given track c = set-up-ways b (Given b) no track c (λ i _. put i c)

  pub add-track-given : (number min max : ℤ) → Given b (add_track b number min max)
  add-track-given number min max = add-track-ways b (Given b) no number min max (λ i low high _ _ _ _. record { result = Ok _; is = refl })

  pub set-point-given : (track : ℤ) (given : PointNumbers) → Given b (set_point b track given)
  set-point-given track given =
      set-point-ways b (Given b) no track given (λ p _ _. record { result = Ok _; is = refl })

  pub drop-point-given : (track position : ℤ) → Given b (drop_point b track position)
  drop-point-given track position = drop-point-ways b (Given b) no track position (λ k _. record { result = Ok _; is = refl })

  pub set-master-given : (track master : ℤ) (zs : List ℤ) → Given b (set_master b track master zs)
  set-master-given track master zs = set-master-ways b (Given b) no track master zs (λ i m _ _ _ _ _ _. record { result = Ok _; is = refl })

  pub clear-given : Given b (clear_board b)
  clear-given = clear-ways b (Given b) no (record { result = Ok _; is = refl })

-- ---- a mode call, with the log

-- what a mode call comes to on a board, its records counted
abbrev pub counted : World Board → ModeResult → Outcome
counted w m = record { answer = m.answer; board = (wrote gridstep (made_by m) w).board }

pub mode-given : (w : World Board) (track : ℤ) (code : ℕ) → Given w.board (counted w (mode_result w.board (length w.log) track code))
mode-given w =
    result-ways w.board (length w.log) (λ (m : ModeResult). Given w.board (counted w m))
    (λ e. record { result = Err e; is = ap (λ (c : Board). refused (number_of e) c) (sym (counts.grown_zero w.board)) })
    (λ i mode _ _ _. record { result = Ok _; is = refl })

-- ---- what bars an advance

-- a number of one of the eleven refusals
pub record Bars (k : ℕ) : Type 0 where
  pub refusal : Refusal
  pub is : number_of refusal ≡ k

pub bars : (n : ℕ) (b : Board) {k : ℕ} → bar_of n b ≡ Some k → Bars k
unfolding bar_of
bars n b {k} =
    cond_cases P (unbroken_test b) (λ _. cond_cases P (leb b.held (capacity n)) (λ _ e. absurd (cc)) (λ _ e. record { refusal = refusal.Capacity; is = cc }))
    (λ _ e. record { refusal = refusal.Value; is = cc })
  where
    P : Option ℕ → Type 0
    P o = o ≡ Some k → Bars k
