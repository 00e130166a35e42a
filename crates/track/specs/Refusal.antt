-- What a call answers (01, "Turned down"): accepted, or refused with a number.
use Rattle.std.specs.Prelude.{ℕ}
use Rattle.track.specs.declared.refusal.Refusal.{Refusal}
use Rattle.track.specs.declared.refusal.Refusal.TheVariants as refusal

pub data Answer : Type 0 where
  Accepted : Answer
  Refused : ℕ → Answer

-- the numbers of refusals
abbrev pub number_of : Refusal → ℕ
number_of refusal.Track = 1
number_of refusal.Mode = 2
number_of refusal.Value = 3
number_of refusal.Point = 4
number_of refusal.Full = 5
number_of refusal.Present = 6
number_of refusal.Capacity = 7
number_of refusal.Room = 8
number_of refusal.Grammar = 9
number_of refusal.Rising = 10
number_of refusal.Rate = 11
