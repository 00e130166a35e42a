-- The answers that the firmware gets as numbers, and what each says by 01.
use Rattle.std.specs.Prelude.{ℕ, zero, suc}
use Rattle.track.specs.Refusal.{Answer}
use Rattle.track.specs.Refusal as answer
use Rattle.board.specs.Call.{Reply, accepted, refused, done, log_full, clock_ended}
use Rattle.firmware.specs.declared.value.Ending.{Ending}

-- a mode call's answer: 0 accepted, else the refusal's number
abbrev pub number_of : Answer → ℕ
number_of answer.Accepted = 0
number_of (answer.Refused n) = n

abbrev pub number_said : ℕ → Reply
number_said zero = accepted
number_said (suc n) = refused (suc n)

-- an advance's answer: its reason, 0 Done, 1 LogFull, 2 ClockEnd, with the ticks taken, 3 a refusal, with its number; any other reason says
-- what no advance answers
abbrev pub reason_said : ℕ → ℕ → Reply
reason_said zero n = done n
reason_said (suc zero) n = log_full n
reason_said (suc (suc zero)) n = clock_ended n
reason_said (suc (suc (suc zero))) n = refused n
reason_said (suc (suc (suc (suc k)))) n = accepted

abbrev pub ending_said : Ending → Reply
ending_said e = reason_said e.reason e.number
