-- The set-up changes of a track, as far as the track alone decides them (01, "Other calls" and "Turned down"; 02, 2.3 and 2.4).
use Rattle.std.specs.Prelude.{ℕ, ◌+◌, ◌*◌, Bool, cond, not, ◌&&◌, ◌||◌, set, ℤ, eqb, ltb, Result, Ok, Err}
use Rattle.track.specs.Rule.{STOPPED, PAUSED, VISITED, DUE, loops_most, cell_most, rate_most, far, moved, paced, rewound}
use Rattle.track.specs.Number.{natural_of, coordinate_of, within, on_some}
use Rattle.track.specs.declared.Track.{Track}
use Rattle.track.specs.declared.Coordinate.{Coordinate}
use Rattle.track.specs.declared.setup.Change.{Change}
use Rattle.track.specs.declared.setup.Change.TheVariants as change
use Rattle.track.specs.declared.refusal.Refusal.{Refusal}
use Rattle.track.specs.Refusal.{Answer, Accepted, Refused, number_of}

-- the answer to a change, and the track after it
pub record Changed : Type 0 where
  pub answer : Answer
  pub track : Track

-- a refusal carries its number alone, the track equal to before
abbrev pub refused : ℕ → Track → Changed
refused n t = record { answer = Refused n; track = t }

abbrev pub accepted : Track → Changed
accepted t = record { answer = Accepted; track = t }

-- the change that a result tells of a track: a refused one leaves it
abbrev pub after : Track → Result Track Refusal → Changed
after t (Ok u) = accepted u
after t (Err e) = refused (number_of e) t

-- the track with another span, loop count, repeat flag, direction or row of action cells
abbrev pub set_to : Track → Coordinate → Coordinate → ℕ → ℕ → ℕ → Track
set_to t start end loops repeat direction = record t { start = start; end = end; loops = loops; repeat = repeat; direction = direction }

abbrev pub with_action : Track → ℕ → ℕ → Track
with_action t at event = record t { actions = set t.actions at event }

-- STOPPED or PAUSED
unfoldable pub settled : ℕ → Bool
settled mode = eqb mode STOPPED || eqb mode PAUSED

-- start, end, rate: STOPPED only; loops, repeat, direction, action, jump: STOPPED or PAUSED
unfoldable pub permits : Change → ℕ → Bool
permits (change.Start p) mode = eqb mode STOPPED
permits (change.End p) mode = eqb mode STOPPED
permits (change.Loops n) mode = settled mode
permits (change.Repeat f) mode = settled mode
permits (change.Direction d) mode = settled mode
permits (change.Action from to event) mode = settled mode
permits (change.Jump p) mode = settled mode
permits (change.Rate p q) mode = eqb mode STOPPED

-- a span, where its start is below its end; rewinds
abbrev pub span_set : Track → Coordinate → Coordinate → Changed
span_set t start end =
    cond (ltb start.0 end.0) (accepted (rewound (set_to t start end t.loops t.repeat t.direction))) (refused 3 t)

-- start: min ≤ start < end; rewinds
unfoldable pub start_set : Track → ℤ → Changed
start_set t p =
    on_some (within t.min.0 t.max.0 (coordinate_of p))
    (λ c. cond (ltb c.0 t.end.0)
    (accepted (rewound (set_to t c t.end t.loops t.repeat t.direction))) (refused 3 t)) (refused 3 t)

-- end: start < end ≤ max; rewinds
unfoldable pub end_set : Track → ℤ → Changed
end_set t p =
    on_some (within t.min.0 t.max.0 (coordinate_of p))
    (λ c. cond (ltb t.start.0 c.0)
    (accepted (rewound (set_to t t.start c t.loops t.repeat t.direction))) (refused 3 t)) (refused 3 t)

-- a loop count 1 to 65,535
unfoldable pub loops_set : Track → ℤ → Changed
loops_set t n =
    on_some (natural_of n 1 loops_most) (λ k. accepted (set_to t t.start t.end k t.repeat t.direction)) (refused 3 t)

-- a repeat flag, 0 or 1
unfoldable pub repeat_set : Track → ℤ → Changed
repeat_set t f =
    on_some (natural_of f 0 1) (λ k. accepted (set_to t t.start t.end t.loops k t.direction)) (refused 3 t)

-- the track with another direction alone
abbrev pub turned : Track → ℕ → Track
turned t direction = set_to t t.start t.end t.loops t.repeat direction

-- "flips a PAUSED, visited track standing on its new far position" (02, 2.3): the next arrival closes a pass there
unfoldable pub closes : Track → ℕ → Bool
closes t direction =
    not (eqb direction t.direction)
    && eqb t.mode PAUSED
    && eqb t.due VISITED
    && eqb t.position.0 (far (turned t direction))

-- when STOPPED it rewinds by the new direction; when PAUSED such a flip sets due, and nothing else changes
unfoldable pub turned_to : Track → ℕ → Track
turned_to t direction =
    let u = turned t direction in
    cond (eqb t.mode STOPPED) (rewound u) (cond (closes t direction) (moved u u.mode u.position.0 u.passes.0 DUE) u)

-- a direction, 0 forward, 1 backward
unfoldable pub direction_set : Track → ℤ → Changed
direction_set t d = on_some (natural_of d 0 1) (λ k. accepted (turned_to t k)) (refused 3 t)

-- an action (from ≠ to; event 0 to 255)
unfoldable pub action_set : Track → ℤ → ℤ → ℤ → Changed
action_set t from to event =
    on_some (natural_of from 0 3)
    (λ a. on_some (natural_of to 0 3)
    (λ b. on_some (natural_of event 0 cell_most)
    (λ e. cond (eqb a b) (refused 3 t) (accepted (with_action t (a * 4 + b) e))) (refused 3 t)) (refused 3 t)) (refused 3 t)

-- jump: start to end; sets due
unfoldable pub jump_to : Track → ℤ → Changed
jump_to t p =
    on_some (within t.start.0 t.end.0 (coordinate_of p))
    (λ c. accepted (moved t t.mode c.0 t.passes.0 DUE)) (refused 3 t)

-- "a rate of p steps in q ticks, 1 ≤ p ≤ q ≤ 1,000"; "11, in the place of 3, if the rate breaks its range" (02, 2.4); it does not rewind
unfoldable pub rate_set : Track → ℤ → ℤ → Changed
rate_set t p q =
    on_some (natural_of p 1 rate_most)
    (λ a. on_some (natural_of q 1 rate_most)
    (λ b. cond (ltb b a) (refused 11 t) (accepted (paced t a b t.remainder))) (refused 11 t)) (refused 11 t)

-- what a change gives where the mode allows it: 3 for a value outside its range or rule, 11 for such a rate
unfoldable pub set_by : Track → Change → Changed
set_by t (change.Start p) = start_set t p
set_by t (change.End p) = end_set t p
set_by t (change.Loops n) = loops_set t n
set_by t (change.Repeat f) = repeat_set t f
set_by t (change.Direction d) = direction_set t d
set_by t (change.Action from to event) = action_set t from to event
set_by t (change.Jump p) = jump_to t p
set_by t (change.Rate p q) = rate_set t p q

-- 2 mode does not allow the call, then 3 or 11
unfoldable pub changed_by : Track → Change → Changed
changed_by t c = cond (permits c t.mode) (set_by t c) (refused 2 t)
