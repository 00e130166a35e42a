-- The bytes that script lines and output lines have in common.
use Rattle.std.specs.Prelude.{ℕ}

abbrev pub lf : ℕ
lf = 10

abbrev pub comma : ℕ
comma = 44

abbrev pub minus : ℕ
minus = 45

abbrev pub digit_zero : ℕ
digit_zero = 48

abbrev pub digit_nine : ℕ
digit_nine = 57
