-- Turning on the home location (02, 2.3), on a board: the call, the resume behind it, and what the next tick writes.
use Rattle.std.specs.Prelude.{Some}
use Prim.Native.Nat.{ℕ, ◌+◌, ◌≤◌, ◌<◌}
use mathlib.Core.Logic.{inl, inr}
use mathlib.Core.Path.{◌≡◌, refl, sym, ap, ◌∙◌, subst}
use mathlib.Core.List.{List, [], ◌∷◌, ◌++◌, map, map-append, append_assoc}
use native.Mathlib.Omega.{arith}
use lib.IntN.{ℤ, pos}
use lib.Dec.{eqb, leb}
use mathlib.Core.Bool.{Bool, true, false}
use lib.ListN.{length, length-set, set}
use lib.Seq.{get_or-set_same}
use Rattle.track.specs.declared.Track.{Track}
use Rattle.track.specs.Rule.{PLAYING, PAUSED, DUE, moved, entered}
use Rattle.track.specs.Walk.{arrival}
use Rattle.track.specs.Leap.{added, moves, played}
use Rattle.track.specs.Setup.{turned}
use Rattle.track.specs.Grid.{RESUME, grid_of}
use Rattle.track.specs.declared.setup.Change.TheVariants as change
use Rattle.track.specs.Setup.{Changed}
use Rattle.track.specs.Flip.{resumed, Closing}
use Rattle.track.proofs.Flips.{resumed-is, turned-closes, closing-arrival, closing-passes}
use Rattle.board.specs.declared.Board.{Board}
use Rattle.board.specs.declared.log.Record.{Record}
use Rattle.board.specs.Setup.{Outcome}
use Rattle.board.specs.Points.{key, keys_of, infos_of, info_at, waits, track_count}
use Rattle.board.specs.Board.{track_at, no_track, found_in, Unbroken}
use Rattle.board.specs.Setup.{board_with, set_up}
use Rattle.board.specs.Setup as outcome
use Rattle.board.specs.Log.{capacity}
use Rattle.board.specs.Mode.{ModeResult, call_records, changing, mode_result}
use Rattle.board.specs.Arrivals.{arrival_at, arrival_next, arrivals_of, arrival_record, is_point}
use Rattle.board.specs.Quiet.{AnyOf}
use Rattle.board.specs.Tick.{members, playing_word, point_records, change_records, step_records, tick_of}
use Rattle.board.specs.Steady.{straight_steps}
use Rattle.board.specs.Replay.{only}
use Rattle.board.proofs.rules.Broken.{present-small, unbroken-is}
use Rattle.board.proofs.rules.Present.{found_in_lem}
use Rattle.board.proofs.setup.Keeping.{set-up-whole}
use Rattle.board.proofs.quiet.Players.{playing-member}
use Rattle.board.proofs.mode.Results.{mode-goes}
use Rattle.board.proofs.lists.Reports.{tick-points}

-- the info of the point of track i at l, 0 if there is none
abbrev pub info_there : Board → ℕ → ℕ → ℕ
info_there b i l = info_at (key i l) (keys_of b.points) (infos_of b.points)

-- ---- for any track that is turned so and resumed

module _ (t : Track) (k : ℕ) (c : Closing t k) where
  -- where the tick makes a step, the point where it stands is reported again with the passes so far, and a change of mode with the pass that
  -- it closes
  pub closing-records : moves (resumed t k) ≡ true → (clock i d : ℕ) → step_records clock i (resumed t k) d
      ≡ point_records clock i t.position.0 t.passes.0 d
      ++ change_records clock i (resumed t k) (played (resumed t k) (waits d)).mode t.position.0 (t.passes.0 + 1)
  unfolding step_records
  closing-records m clock i d =
      let passes : (resumed t k).passes.0 ≡ t.passes.0 = ap (λ (u : Track). u.passes.0) (resumed-is t k c) in
      rw (m, closing-passes t k c, closing-arrival t k c, passes) refl

  -- its rate and its remainder are those that it had
  pub closing-moves : moves (resumed t k) ≡ moves t
  unfolding moves
  closing-moves = ap (λ (u : Track). leb u.ticks (added u)) (resumed-is t k c)

  -- in a tick of any board with that track as track i, the record of its arrival, if a point stands there, is that one
  pub closing-reported : (b : Board) (i : ℕ) → track_at b.tracks i ≡ resumed t k →
      map (arrival_record b) (arrival_at b i (arrival (track_at b.tracks i)))
      ≡ point_records (b.clock.0 + 1) i t.position.0 t.passes.0 (info_there b i t.position.0)
  unfolding arrival_at point_records
  closing-reported b i e =
      let passes : (track_at b.tracks i).passes.0 ≡ t.passes.0 = ap (λ (u : Track). u.passes.0) (e ∙ resumed-is t k c) in
      let l : arrival (track_at b.tracks i) ≡ t.position.0 = ap arrival e ∙ closing-arrival t k c in
      rw l (go (eqb (info_there b i t.position.0) 0) refl passes)
    where
      go : (n : Bool) → eqb (info_there b i t.position.0) 0 ≡ n → (track_at b.tracks i).passes.0 ≡ t.passes.0 →
          map (arrival_record b) (arrival_at b i t.position.0) ≡ point_records (b.clock.0 + 1) i t.position.0 t.passes.0 (info_there b i t.position.0)
      go true n p = simp n
      go false n p = simp (n, p)

  -- its line, as a track of a follower's pair, ends with its next step
  pub closing-straight : straight_steps (resumed t k) ≡ 0
  unfolding straight_steps
  closing-straight = rw (resumed-is t k c) refl

-- ---- direction, resume and a tick, on any unbroken board

-- these records stand together in that row
abbrev pub Among : List Record → List Record → Type 0
Among xs ys = (before : List Record) × (behind : List Record) × (ys ≡ before ++ (xs ++ behind))

-- the reports of a tick hold that of each member's arrival
among-arrivals : (b : Board) (i : ℕ) (is : List ℕ) → AnyOf (λ j. j ≡ i) is →
    Among (map (arrival_record b) (arrival_next b i)) (map (arrival_record b) (arrivals_of b is))
unfolding AnyOf arrivals_of
among-arrivals b i [] x = elim x [ ]
among-arrivals b i (j ∷ is) (inl e) = (
  [],
  map (arrival_record b) (arrivals_of b is),
  map-append (arrival_record b) (arrival_next b j) (arrivals_of b is)
      ∙ ap (λ (n : ℕ). map (arrival_record b) (arrival_next b n) ++ map (arrival_record b) (arrivals_of b is)) e,
)
among-arrivals b i (j ∷ is) (inr s) =
    let h = among-arrivals b i is s in
    let first = map (arrival_record b) (arrival_next b j) in (
      first ++ h.0,
      h.1,
      map-append (arrival_record b) (arrival_next b j) (arrivals_of b is)
          ∙ ap (λ (rs : List Record). first ++ rs) h.2
          ∙ sym (append_assoc first h.0 (map (arrival_record b) (arrival_next b i) ++ h.1)),
    )

module _ (b : Board) (w : Unbroken b) (track : ℤ) (i k : ℕ) (found : found_in b.present track ≡ Some i) (c : Closing (track_at b.tracks i) k) where
  inside : i < length b.tracks
  inside = let s = present-small b.present i (found_in_lem b.present track found) in omega (arith, w.shape.tracks)

  -- the call is accepted, and changes track i alone: its direction, and due is set
  pub turned-call : set_up b track (change.Direction (pos k))
      ≡ outcome.accepted
      (board_with b
      (set b.tracks i
      (moved (turned (track_at b.tracks i) k) PAUSED (track_at b.tracks i).position.0 (track_at b.tracks i).passes.0 DUE)) b.present b.points b.held)
  unfolding set_up
  turned-call = simp (unbroken-is b w, found, turned-closes (track_at b.tracks i) k c)

  module _ (u : Board) (e : (set_up b track (change.Direction (pos k))).board ≡ u) (n : ℕ) (room : u.held + length (call_records u i PLAYING) ≤ capacity n) where
    left : Track
    left = moved (turned (track_at b.tracks i) k) PAUSED (track_at b.tracks i).position.0 (track_at b.tracks i).passes.0 DUE

    whole : Unbroken u
    whole = subst Unbroken e (set-up-whole b w track (change.Direction (pos k)))

    turned-is : u ≡ board_with b (set b.tracks i left) b.present b.points b.held
    unfolding left
    turned-is = sym e ∙ ap (λ (o : Outcome). o.board) turned-call

    here : found_in u.present track ≡ Some i
    here = ap (λ (x : Board). found_in x.present track) turned-is ∙ found

    track-is : track_at u.tracks i ≡ left
    track-is = ap (λ (x : Board). track_at x.tracks i) turned-is ∙ get_or-set_same b.tracks i left no_track inside

    goes_on : mode_result u n track RESUME ≡ changing u i PLAYING
    unfolding left grid_of
    goes_on = mode-goes u whole n track i RESUME PLAYING here (ap (λ (x : Track). grid_of x.mode RESUME) track-is) room

    plays : track_at (changing u i PLAYING).board.tracks i ≡ resumed (track_at b.tracks i) k
    unfolding left
    plays =
        get_or-set_same u.tracks i (entered (track_at u.tracks i) PLAYING) no_track (omega (arith, inside, w.shape.tracks, whole.shape.tracks))
        ∙ ap (λ (x : Track). entered x PLAYING) (track-is ∙ sym (ap (λ (r : Changed). r.track) (turned-closes (track_at b.tracks i) k c)))

    -- resumed right behind the turn, with a log in which its record, if it writes one, fits, track i is `resumed` of what it was
    pub resumed-call : track_at (mode_result u n track RESUME).board.tracks i ≡ resumed (track_at b.tracks i) k
    resumed-call = ap (λ (r : ModeResult). track_at r.board.tracks i) goes_on ∙ plays

    -- and in the tick behind that, if it makes a step, the point where it stands, if there is one, is reported with the passes so far
    pub reported-again : moves (track_at b.tracks i) ≡ true → (let t = track_at b.tracks i in
        Among (point_records (b.clock.0 + 1) i t.position.0 t.passes.0 (info_there b i t.position.0))
        (only is_point (tick_of (mode_result u n track RESUME).board).records))
    unfolding left
    reported-again made =
        let t = track_at b.tracks i in
        let x = (changing u i PLAYING).board in
        let long : length x.tracks ≡ track_count = length-set u.tracks i (entered (track_at u.tracks i) PLAYING) ∙ whole.shape.tracks in
        let on : (track_at x.tracks i).mode ≡ PLAYING = ap (λ (y : Track). y.mode) (plays ∙ resumed-is t k c) in
        let member = playing-member u.present i x.tracks long (found_in_lem u.present track here) on in
        let report : Board → List Record = λ y. point_records (y.clock.0 + 1) i t.position.0 t.passes.0 (info_there y i t.position.0) in
        let move : moves (track_at x.tracks i) ≡ true = ap moves plays ∙ closing-moves t k c ∙ made in
        let next : arrival_next x i ≡ arrival_at x i (arrival (track_at x.tracks i)) = simp move in
        let told = ap (map (arrival_record x)) next ∙ closing-reported t k c x i plays ∙ ap report turned-is in
        let held = among-arrivals x i (members (playing_word u.present x.tracks)) member in
        subst (λ (r : ModeResult). Among (report b) (only is_point (tick_of r.board).records)) (sym goes_on)
        (held.0, held.1, tick-points x ∙ held.2 ∙ ap (λ (rs : List Record). held.0 ++ (rs ++ held.1)) told)
