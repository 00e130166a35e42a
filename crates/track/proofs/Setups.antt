-- What the set-up changes keep.
use Rattle.std.specs.Prelude.{Option, Some, None}
use Prim.Native.Nat.{ℕ, zero, suc, ◌+◌, ◌*◌, ◌≤◌, ◌<◌}
use mathlib.Core.Path.{◌≡◌, refl, ◌∙◌}
use mathlib.Core.List.{List, [], ◌∷◌}
use mathlib.Core.Bool.{true}
use native.Mathlib.Omega.{arith}
use lib.ListN.{get_or, set, length-set, replicate}
use lib.Seq.{get_or-set_other}
use lib.IntN.{ℤ}
use lib.Dec.{eqb, ltb}
use borrow.Author.Tests.{eqb-true, eqb-false, ltb-true, ltb-false}
use Rattle.track.specs.declared.Track.{Track}
use Rattle.track.specs.declared.Coordinate.{Coordinate}
use Rattle.track.specs.declared.setup.Change.{Change}
use Rattle.track.specs.declared.setup.Change.TheVariants as change
use Rattle.track.specs.Rule.{STOPPED, BACKWARD, REPEATING, DUE, loops_most, rate_most, cell_count, cell_most, events_test, Ordered, Valid, Cells, Rated, new_track, moved, rewound}
use Rattle.track.specs.Number.{natural_of, coordinate_of, within, on_some}
use Rattle.track.specs.Setup.{Changed, refused, set_to, turned, closes, turned_to, start_set, end_set, loops_set, repeat_set, direction_set, action_set, jump_to, rate_set, set_by, permits, changed_by}
use Rattle.track.proofs.Tests.{cond_cases}
use Rattle.track.proofs.Checks.{events-of}
use Rattle.track.proofs.Follows.{SameFollower, same-follower}
use Rattle.track.specs.Follow.{up_to_zero, zeros_test, pairs_test, Follower}
use Rattle.track.specs.declared.Ticks.{Ticks}
use Rattle.track.proofs.Numbers.{natural-in, within_in}
use Rattle.track.proofs.Arrivals.{moved-valid}

-- u is t after a set-up change: valid, in its bounds and its mode, with no more passes, a follower as it was
pub record Keeps (t u : Track) : Type 0 where
  pub valid : Valid u
  pub min : u.min ≡ t.min
  pub max : u.max ≡ t.max
  pub mode : u.mode ≡ t.mode
  pub passes : u.passes.0 ≤ t.passes.0
  pub follower : SameFollower t u

-- a new track between bounds in order is valid
pub new-valid : (a b : Coordinate) → a.0 < b.0 → b.0 ≤ 2000000 → Valid (new_track a b)
unfolding new_track events_test
new-valid a b h l =
    record {
      ordered = omega arith;
      loops = omega arith;
      mode = omega arith;
      direction = omega arith;
      repeat = omega arith;
      due = omega arith;
      cells =
          record { number = refl; event = events-of (replicate cell_count 0) refl; stopped = refl; playing = refl; paused = refl; waiting = refl };
      rate = record { some = omega arith; most = omega arith; last = omega arith; below = omega arith; stands = λ _. refl };
    }

-- and it follows none
pub new-follower : (a b : Coordinate) (clock : Ticks) → Follower (new_track a b) clock
unfolding new_track up_to_zero pairs_test zeros_test
new-follower a b clock = record { thresholds = refl; events = refl; pairs = refl; band = omega arith; start = λ z. refl }

module _ (t : Track) (v : Valid t) where
  same : Keeps t t
  same = record { valid = v; min = refl; max = refl; mode = refl; passes = omega arith; follower = same-follower t }

-- what holds of the changed track holds where the number or position is in its range
on-read : {A : Type 0} (P : Track → Type 0) (t : Track) (o : Option A) (f : A → Changed) (other : ℕ) → P t →
    ((a : A) → o ≡ Some a → P (f a).track) → P (on_some o f (refused other t)).track
on-read P t (Some a) f other kept does = does a refl
on-read P t None f other kept does = kept

on-natural : (P : Track → Type 0) (t : Track) (n : ℤ) (least most : ℕ) (f : ℕ → Changed) (other : ℕ) → P t →
    ((k : ℕ) → least ≤ k → k ≤ most → P (f k).track) → P (on_some (natural_of n least most) f (refused other t)).track
on-natural P t n least most f other kept does =
    on-read P t (natural_of n least most) f other kept (λ k e. let b = natural-in n least most e in does k b.1 b.2)

on-place : (P : Track → Type 0) (t : Track) (low high : ℕ) (p : Option Coordinate) (f : Coordinate → Changed) → P t →
    ((c : Coordinate) → low ≤ c.0 → c.0 ≤ high → P (f c).track) → P (on_some (within low high p) f (refused 3 t)).track
on-place P t low high p f kept does =
    on-read P t (within low high p) f 3 kept (λ c e. let b = within_in low high p e in does c b.0 b.1)

set-event : (l : List ℕ) (i e : ℕ) → e ≤ cell_most → ((k : ℕ) → get_or l k 0 ≤ cell_most) → (k : ℕ) → get_or (set l i e) k 0 ≤ cell_most
set-event [] i e he h k = h k
set-event (x ∷ l) zero e he h zero = he
set-event (x ∷ l) zero e he h (suc k) = h (suc k)
set-event (x ∷ l) (suc i) e he h zero = h zero
set-event (x ∷ l) (suc i) e he h (suc k) = set-event l i e he (λ j. h (suc j)) k

-- a cell between two modes is set
set-cells : (l : List ℕ) (a b e : ℕ) → a ≤ 3 → b ≤ 3 → e ≤ cell_most → (a ≡ b → ⊥) → Cells l → Cells (set l (a * 4 + b) e)
set-cells l a b e ha hb he n d =
    record {
      number = length-set l (a * 4 + b) e ∙ d.number;
      event = set-event l (a * 4 + b) e he d.event;
      stopped = get_or-set_other l (a * 4 + b) 0 e 0 (λ h. n (omega arith)) ∙ d.stopped;
      playing = get_or-set_other l (a * 4 + b) 5 e 0 (λ h. n (omega arith)) ∙ d.playing;
      paused = get_or-set_other l (a * 4 + b) 10 e 0 (λ h. n (omega arith)) ∙ d.paused;
      waiting = get_or-set_other l (a * 4 + b) 15 e 0 (λ h. n (omega arith)) ∙ d.waiting;
    }

module _ (t : Track) (v : Valid t) where
  rewound-valid : (start end : Coordinate) (direction : ℕ) → direction ≤ BACKWARD → t.min.0 ≤ start.0 → start.0 < end.0 →
      end.0 ≤ t.max.0 → Valid (rewound (set_to t start end t.loops t.repeat direction))
  rewound-valid start end direction d a b c =
      record {
        ordered =
            cond_cases (λ (l : ℕ). Ordered t.min.0 t.max.0 start.0 end.0 l) (eqb direction BACKWARD) (λ _. omega arith)
            (λ _. omega arith);
        loops = v.loops;
        mode = v.mode;
        direction = d;
        repeat = v.repeat;
        due = omega arith;
        cells = v.cells;
        rate =
            record {
              some = v.rate.some;
              most = v.rate.most;
              last = v.rate.last;
              below = omega (arith, v.rate);
              stands = λ _. refl;
            };
      }

  -- a span or a direction set anew, and rewound
  rewound-keeps : (start end : Coordinate) (direction : ℕ) → direction ≤ BACKWARD → t.min.0 ≤ start.0 → start.0 < end.0 →
      end.0 ≤ t.max.0 → Keeps t (rewound (set_to t start end t.loops t.repeat direction))
  rewound-keeps start end direction d a b c =
      record {
        valid = rewound-valid start end direction d a b c;
        min = refl;
        max = refl;
        mode = refl;
        passes = omega arith;
        follower = record { master = refl; band = refl; thresholds = refl; events = refl };
      }

  start-keeps : (p : ℤ) → Keeps t (start_set t p).track
  unfolding start_set
  start-keeps p =
      on-place (Keeps t) t t.min.0 t.max.0 (coordinate_of p) _ (same t v)
      (λ c low high. cond_cases (λ (r : Changed). Keeps t r.track) (ltb c.0 t.end.0)
      (λ e. rewound-keeps c t.end t.direction v.direction low (ltb-true _ _ e) (omega arith)) (λ _. same t v))

  end-keeps : (p : ℤ) → Keeps t (end_set t p).track
  unfolding end_set
  end-keeps p =
      on-place (Keeps t) t t.min.0 t.max.0 (coordinate_of p) _ (same t v)
      (λ c low high. cond_cases (λ (r : Changed). Keeps t r.track) (ltb t.start.0 c.0)
      (λ e. rewound-keeps t.start c t.direction v.direction (omega arith) (ltb-true _ _ e) high) (λ _. same t v))

  -- loops, repeat, direction, actions and rate leave the walk where it is
  set_keeps : {loops repeat direction steps ticks : ℕ} {actions : List ℕ} → (1 ≤ loops) × (loops ≤ loops_most) → repeat ≤ REPEATING →
      direction ≤ BACKWARD → Cells actions → Rated steps ticks t.remainder t.mode →
      Keeps t (record t { loops = loops; repeat = repeat; direction = direction; actions = actions; steps = steps; ticks = ticks })
  set_keeps l r d a q =
      record {
        valid =
            record {
              ordered = v.ordered;
              loops = l;
              mode = v.mode;
              direction = d;
              repeat = r;
              due = v.due;
              cells = a;
              rate = q;
            };
        min = refl;
        max = refl;
        mode = refl;
        passes = omega arith;
        follower = record { master = refl; band = refl; thresholds = refl; events = refl };
      }

  loops-keeps : (n : ℤ) → Keeps t (loops_set t n).track
  unfolding loops_set
  loops-keeps n = on-natural (Keeps t) t n 1 loops_most _ 3 (same t v) (λ k low high. set_keeps (low, high) v.repeat v.direction v.cells v.rate)

  repeat-keeps : (f : ℤ) → Keeps t (repeat_set t f).track
  unfolding repeat_set
  repeat-keeps f = on-natural (Keeps t) t f 0 1 _ 3 (same t v) (λ k low high. set_keeps v.loops high v.direction v.cells v.rate)

  -- put on a place of its span and due, a track keeps what it kept
  due-keeps : (u : Track) → Keeps t u → (l : ℕ) → (u.start.0 ≤ l) × (l ≤ u.end.0) → Keeps t (moved u u.mode l u.passes.0 DUE)
  due-keeps u k l h =
      record {
        valid = moved-valid u k.valid u.mode l u.passes.0 DUE k.valid.mode (omega arith) h k.valid.rate.stands;
        min = k.min;
        max = k.max;
        mode = k.mode;
        passes = k.passes;
        follower =
            record { master = k.follower.master; band = k.follower.band; thresholds = k.follower.thresholds; events = k.follower.events };
      }

  direction-keeps : (d : ℤ) → Keeps t (direction_set t d).track
  unfolding direction_set turned_to
  direction-keeps d =
      on-natural (Keeps t) t d 0 1 _ 3 (same t v)
      (λ k low high. let u : Keeps t (turned t k) = set_keeps v.loops v.repeat high v.cells v.rate in
      cond_cases (Keeps t) (eqb t.mode STOPPED)
      (λ _. rewound-keeps t.start t.end k high (omega arith) (omega arith) (omega arith))
      (λ _. cond_cases (Keeps t) (closes t k) (λ _. due-keeps (turned t k) u t.position.0 (omega arith)) (λ _. u)))

  action-keeps : (from to event : ℤ) → Keeps t (action_set t from to event).track
  unfolding action_set
  action-keeps from to event =
      on-natural (Keeps t) t from 0 3 _ 3 (same t v)
      (λ a la ha. on-natural (Keeps t) t to 0 3 _ 3 (same t v)
      (λ b lb hb. on-natural (Keeps t) t event 0 cell_most _ 3 (same t v)
      (λ e le he. cond_cases (λ (r : Changed). Keeps t r.track) (eqb a b) (λ _. same t v)
      (λ n. set_keeps v.loops v.repeat v.direction (set-cells t.actions a b e ha hb he (eqb-false a b n) v.cells) v.rate))))

  jump-keeps : (p : ℤ) → Keeps t (jump_to t p).track
  unfolding jump_to
  jump-keeps p =
      on-place (Keeps t) t t.start.0 t.end.0 (coordinate_of p) _ (same t v)
      (λ c low high. due-keeps t (same t v) c.0 (low, high))

  -- a rate; a STOPPED track has no remainder
  rate-keeps : (p q : ℤ) → t.mode ≡ STOPPED → Keeps t (rate_set t p q).track
  unfolding rate_set
  rate-keeps p q stopped =
      on-natural (Keeps t) t p 1 rate_most _ 11 (same t v)
      (λ a la ha. on-natural (Keeps t) t q 1 rate_most _ 11 (same t v)
      (λ b lb hb. cond_cases (λ (r : Changed). Keeps t r.track) (ltb b a) (λ _. same t v)
      (λ e. set_keeps v.loops v.repeat v.direction v.cells
      (record {
        some = la;
        most = ltb-false b a e;
        last = hb;
        below = omega (arith, v.rate.stands stopped);
        stands = v.rate.stands;
      }))))

  -- no set-up change breaks a rule of a track, moves its bounds or its mode, or adds a pass
  pub changed-keeps : (c : Change) → Keeps t (changed_by t c).track
  unfolding changed_by set_by permits
  changed-keeps c = cond_cases (λ (r : Changed). Keeps t r.track) (permits c t.mode) (λ e. by c e) (λ _. same t v)
    where
      by : (c : Change) → permits c t.mode ≡ true → Keeps t (set_by t c).track
      by (change.Start p) e = start-keeps p
      by (change.End p) e = end-keeps p
      by (change.Loops n) e = loops-keeps n
      by (change.Repeat f) e = repeat-keeps f
      by (change.Direction d) e = direction-keeps d
      by (change.Action from to event) e = action-keeps from to event
      by (change.Jump p) e = jump-keeps p
      by (change.Rate p q) e = rate-keeps p q (eqb-true _ _ e)
