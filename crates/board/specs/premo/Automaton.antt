-- The synchronizable object of 001 as an automaton: its acts, the modes that offer them, and what is claimed of a trace.
use Rattle.std.specs.Prelude.{ℕ, Bool, true, false, not, ◌&&◌, ◌||◌, ◌≡◌, List, [], ◌∷◌, eqb, leb}
use Rattle.track.specs.Rule.{STOPPED, PLAYING, PAUSED, WAITING}

-- 001's names, with underscores for its capitals: its doPLAY is do_play, its donePlay done_play, its modeTransitions mode_transitions.
-- What a track does. By a call or a point's command that the mode grid lets act: do_play, do_pause, do_resume, do_stop. By itself:
-- do_wait (a wait flag takes it to WAITING), done_play (it stops at far). jump: an accepted jump. exc: a refused call or command.
pub data Act : Type 0 where
  do_play : Act
  do_pause : Act
  do_resume : Act
  do_stop : Act
  do_wait : Act
  done_play : Act
  jump : Act
  exc : Act

-- mode_transitions (4.1): the acts that a mode offers; jump (6.3) where the track is neither PLAYING nor WAITING
unfoldable pub offers : ℕ → Act → Bool
offers mode do_play = eqb mode STOPPED
offers mode do_pause = eqb mode PLAYING || eqb mode WAITING
offers mode do_resume = eqb mode PAUSED || eqb mode WAITING
offers mode do_stop = leb mode WAITING
offers mode do_wait = eqb mode PLAYING
offers mode done_play = eqb mode PLAYING
offers mode jump = eqb mode STOPPED || eqb mode PAUSED
offers mode exc = true

-- and the mode that each leads to
unfoldable pub after : ℕ → Act → ℕ
after mode do_play = PLAYING
after mode do_pause = PAUSED
after mode do_resume = PLAYING
after mode do_stop = STOPPED
after mode do_wait = WAITING
after mode done_play = STOPPED
after mode jump = mode
after mode exc = mode

-- A trace is a path of the automaton from a mode to a mode: each act is offered where it acts.
unfoldable pub Path : ℕ → List Act → ℕ → Type 0
Path m [] n = m ≡ n
Path m (a ∷ rest) n = (offers m a ≡ true) × Path (after m a) rest n

-- ---- what the formulas of 001 say of a trace

abbrev pub number_of : Act → ℕ
number_of do_play = 0
number_of do_pause = 1
number_of do_resume = 2
number_of do_stop = 3
number_of do_wait = 4
number_of done_play = 5
number_of jump = 6
number_of exc = 7

-- a | b | ..
unfoldable pub one_of : List Act → Act → Bool
one_of [] x = false
one_of (a ∷ rest) x = eqb (number_of a) (number_of x) || one_of rest x

-- ~E [true {~gs} U {bs} true]: none of bs is observed before one of gs
unfoldable pub none_before : List Act → List Act → List Act → Bool
none_before gs bs [] = true
none_before gs bs (x ∷ xs) = not (one_of bs x) && (one_of gs x || none_before gs bs xs)

-- AG [gs] p: p holds of what follows each of gs
unfoldable pub after_each : List Act → (List Act → Bool) → List Act → Bool
after_each gs p [] = true
after_each gs p (x ∷ xs) = (not (one_of gs x) || p xs) && after_each gs p xs
