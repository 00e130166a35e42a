-- A mode call's number says what the call answers: no refusal of one has the number 0.
use Rattle.std.specs.Prelude.{Option, Some, None}
use Prim.Native.Nat.{ℕ, ◌+◌}
use mathlib.Core.Path.{◌≡◌, refl, ◌∙◌}
use mathlib.Core.List.{List}
use lib.Dec.{leb}
use lib.IntN.{ℤ}
use lib.ListN.{length}
use Rattle.track.specs.Grid.{grid_of}
use Rattle.track.proofs.Tests.{cond_cases}
use Rattle.board.specs.declared.Board.{Board}
use Rattle.board.specs.Board.{track_at, unbroken_test, found_in}
use Rattle.board.proofs.setup.Ways.{by-natural}
use Rattle.board.specs.Cut.{Did}
use Rattle.board.specs.Replay.{World}
use Rattle.board.specs.Mode.{ModeResult, declined, call_records, changes_to, decided, mode_result}
use Rattle.board.specs.Log.{capacity}
use Rattle.board.specs.Call.{Reply, answered, Gives}
use Rattle.firmware.specs.Numbers.{number_of, number_said}

-- what a mode call answers is said by its number: 3, 7, 1, 2 and 8 are no 0
pub result-numbered : (b : Board) (n : ℕ) (track : ℤ) (code : ℕ) →
    let a = (mode_result b n track code).answer in
    number_said (number_of a) ≡ answered a
unfolding mode_result decided changes_to
result-numbered b n track code =
    cond_cases P (unbroken_test b)
    (λ _. cond_cases P (leb b.held (capacity n))
    (λ _. by-natural P (found_in b.present track) _ (declined 1 b) (λ i _. go i (grid_of (track_at b.tracks i).mode code)) refl)
    (λ _. refl)) (λ _. refl)
  where
    P : ModeResult → Type 0
    P m = number_said (number_of m.answer) ≡ answered m.answer

    go : (i : ℕ) (d : Option ℕ) → P (decided b n i d)
    go i (Some mode) = cond_cases P (leb (b.held + length (call_records b i mode)) (capacity n)) (λ _. refl) (λ _. refl)
    go i None = refl

-- by another reply that says the same
pub gives_as : {d : Did Reply (World Board)} {reply reply' : Reply} {board : Board} {log : List ℕ} → reply' ≡ reply → Gives d reply board log → Gives d reply' board log
gives_as e g = record { answer_is = e ∙ g.answer_is; board_is = g.board_is; log_is = g.log_is }
