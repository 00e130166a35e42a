-- A row of numbers tells its reply: different replies have different rows.
use Prim.Native.Nat.{ℕ}
use mathlib.Core.Path.{◌≡◌, refl, sym, ◌∙◌, ap, subst}
use mathlib.Core.Bool.{cond}
use mathlib.Core.List.{List, [], ◌∷◌, ◌++◌, append_assoc}
use lib.Dec.{eqb}
use lib.ListN.{length, take, drop, get_or}
use lib.Seq.{take_at, drop_at}
use Rattle.track.specs.declared.Track.{Track}
use Rattle.track.specs.Rule.{cell_count, threshold_count}
use Rattle.board.specs.declared.points.Point.{Point}
use Rattle.board.specs.Call.{TrackValues, PointValues, track_values, point_values}
use Rattle.board.specs.Call.{Reply, accepted, refused, done, log_full, clock_ended, clock_is, track_is, point_is, count_is}
use Rattle.board.specs.Row.{cells_at, numbers_of}
use Rattle.board.proofs.row.Encoding.{coordinate_back}

-- what a row's numbers say behind a track's cells
abbrev behind_cells : List ℕ → List ℕ
behind_cells xs = drop cell_count (drop cells_at xs)

-- and behind the events of its thresholds
abbrev behind_events : List ℕ → List ℕ
behind_events xs = drop threshold_count (drop threshold_count (drop 2 (behind_cells xs)))

-- the track and the point that a row's numbers say
abbrev track_in : List ℕ → Track
track_in xs =
    record {
      min = record { 0 = get_or xs 1 0 };
      max = record { 0 = get_or xs 2 0 };
      start = record { 0 = get_or xs 3 0 };
      end = record { 0 = get_or xs 4 0 };
      position = record { 0 = get_or xs 5 0 };
      passes = record { 0 = get_or xs 6 0 };
      loops = get_or xs 7 0;
      mode = get_or xs 8 0;
      direction = get_or xs 9 0;
      repeat = get_or xs 10 0;
      due = get_or xs 11 0;
      actions = take cell_count (drop cells_at xs);
      master = get_or (behind_cells xs) 0 0;
      band = get_or (behind_cells xs) 1 0;
      thresholds = take threshold_count (drop 2 (behind_cells xs));
      events = take threshold_count (drop threshold_count (drop 2 (behind_cells xs)));
      steps = get_or (behind_events xs) 0 0;
      ticks = get_or (behind_events xs) 1 0;
      remainder = get_or (behind_events xs) 2 0;
    }

abbrev point_in : List ℕ → Point
point_in xs =
    record {
      track = get_or xs 1 0;
      position = record { 0 = get_or xs 2 0 };
      event = get_or xs 3 0;
      wait = get_or xs 4 0;
      command = get_or xs 5 0;
      target = get_or xs 6 0;
    }

-- the reply that a row's numbers say, by its kind; any other kind says what no row does
unfoldable pub reply_in : List ℕ → Reply
reply_in xs =
    let kind = get_or xs 0 0 in
    cond (eqb kind 0) accepted
    (cond (eqb kind 1) (refused (get_or xs 1 0))
    (cond (eqb kind 2) (done (get_or xs 1 0))
    (cond (eqb kind 3) (log_full (get_or xs 1 0))
    (cond (eqb kind 4) (clock_ended (get_or xs 1 0))
    (cond (eqb kind 5) (clock_is (get_or xs 1 0) (get_or xs 2 0))
    (cond (eqb kind 6) (track_is (track_values (track_in xs)))
    (cond (eqb kind 7) (point_is (point_values (point_in xs))) (count_is (get_or xs 1 0)))))))))

-- a track with its sixteen cells, its four thresholds and their events
abbrev pub Whole : Track → Type 0
Whole t = (length t.actions ≡ cell_count) × (length t.thresholds ≡ threshold_count) × (length t.events ≡ threshold_count)

-- a reply tells the values of such a track, or of a point
abbrev pub Told : Reply → Type 0
Told accepted = Unit {0}
Told (refused n) = Unit {0}
Told (done n) = Unit {0}
Told (log_full n) = Unit {0}
Told (clock_ended n) = Unit {0}
Told (clock_is c held) = Unit {0}
Told (track_is v) = (t : Track) × (v ≡ track_values t) × Whole t
Told (point_is v) = (p : Point) × (v ≡ point_values p)
Told (count_is n) = Unit {0}

-- what stands behind the head of a track's row, the zeros at its end among it
behind : (cells ths evs rate rest : List ℕ) (m k : ℕ) →
    (cells ++ (m ∷ k ∷ ths ++ (evs ++ rate))) ++ rest ≡ cells ++ (m ∷ k ∷ ths ++ (evs ++ (rate ++ rest)))
behind cells ths evs rate rest m k =
    append_assoc cells (m ∷ k ∷ ths ++ (evs ++ rate)) rest
    ∙ ap (λ (r : List ℕ). cells ++ (m ∷ k ∷ r)) (append_assoc ths (evs ++ rate) rest ∙ ap (λ (r : List ℕ). ths ++ r) (append_assoc evs rate rest))

track-back : (t : Track) → Whole t → reply_in (numbers_of (track_is (track_values t))) ≡ track_is (track_values t)
unfolding reply_in
track-back t h =
    rw (
      coordinate_back t.min,
      coordinate_back t.max,
      coordinate_back t.start,
      coordinate_back t.end,
      coordinate_back t.position,
      behind t.actions t.thresholds t.events (t.steps ∷ t.ticks ∷ t.remainder ∷ []) _ t.master t.band,
      take_at t.actions _ cell_count h.0,
      drop_at t.actions _ cell_count h.0,
      take_at t.thresholds _ threshold_count h.1,
      drop_at t.thresholds _ threshold_count h.1,
      take_at t.events _ threshold_count h.2,
      drop_at t.events _ threshold_count h.2,
    )

point-back : (p : Point) → reply_in (numbers_of (point_is (point_values p))) ≡ point_is (point_values p)
unfolding reply_in
point-back p = rw (coordinate_back p.position) refl

-- a reply's row says that reply
pub reply-back : (a : Reply) → Told a → reply_in (numbers_of a) ≡ a
unfolding reply_in
reply-back accepted h = refl
reply-back (refused n) h = refl
reply-back (done n) h = refl
reply-back (log_full n) h = refl
reply-back (clock_ended n) h = refl
reply-back (clock_is c held) h = refl
reply-back (track_is v) (t, e, l) = subst (λ (u : TrackValues). reply_in (numbers_of (track_is u)) ≡ track_is u) (sym e) (track-back t l)
reply-back (point_is v) (p, e) = subst (λ (u : PointValues). reply_in (numbers_of (point_is u)) ≡ point_is u) (sym e) (point-back p)
reply-back (count_is n) h = refl

-- so different replies have different rows
pub numbers-tell : (a b : Reply) → Told a → Told b → numbers_of a ≡ numbers_of b → a ≡ b
numbers-tell a b h k e = sym (reply-back a h) ∙ ap reply_in e ∙ reply-back b k
