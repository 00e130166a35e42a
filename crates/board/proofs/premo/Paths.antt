-- Traces of the automaton: its transitions, and what holds of every path.
use Prim.Native.Nat.{ℕ}
use mathlib.Core.Bool.{Bool, true, false, not, ◌||◌, true≢false, false≢true}
use mathlib.Core.Path.{◌≡◌, refl, sym, ◌∙◌, ap, subst}
use mathlib.Core.List.{List, [], ◌∷◌, ◌++◌, map}
use Rattle.track.specs.Rule.{STOPPED, PLAYING, PAUSED, WAITING}
use Rattle.track.proofs.Tests.{both_is}
use Rattle.board.specs.Replay.{only}
use Rattle.board.specs.premo.Automaton.{Act, do_play, do_pause, do_resume, do_stop, do_wait, done_play, jump, exc, offers, after, Path, one_of, none_before, after_each}

-- the fifteen transitions of figure 3, a row for each mode, and the two of jump
pub transitions :
    map
    (λ mode. map {B = Act × ℕ} (λ a. (a, after mode a)) (only (offers mode) (do_stop ∷ do_play ∷ do_pause ∷ do_resume ∷ do_wait ∷ done_play ∷ exc ∷ jump ∷ [])))
    (STOPPED ∷ PLAYING ∷ PAUSED ∷ WAITING ∷ [])
    ≡ ((do_stop, STOPPED) ∷ (do_play, PLAYING) ∷ (exc, STOPPED) ∷ (jump, STOPPED) ∷ [])
    ∷ ((do_stop, STOPPED) ∷ (do_pause, PAUSED) ∷ (do_wait, WAITING) ∷ (done_play, STOPPED) ∷ (exc, PLAYING) ∷ [])
    ∷ ((do_stop, STOPPED) ∷ (do_resume, PLAYING) ∷ (exc, PAUSED) ∷ (jump, PAUSED) ∷ [])
    ∷ ((do_stop, STOPPED) ∷ (do_pause, PAUSED) ∷ (do_resume, PLAYING) ∷ (exc, WAITING) ∷ [])
    ∷ []
unfolding offers after
transitions = refl

-- a path between equal modes
pub path-ends : {m k n l : ℕ} (xs : List Act) → m ≡ k → n ≡ l → Path m xs n → Path k xs l
path-ends xs e q p = rw (← e, ← q) p

-- one path and then another
pub path-append : (m k n : ℕ) (xs ys : List Act) → Path m xs k → Path k ys n → Path m (xs ++ ys) n
unfolding Path
path-append m k n [] ys p q = subst (λ (j : ℕ). Path j ys n) (sym p) q
path-append m k n (a ∷ xs) ys p q = (p.0, path-append (after m a) k n xs ys p.1 q)

-- ---- a property that some modes keep

-- In the modes of Q none of bs acts, and only one of gs leads out of them; each of cs leads into them.
abbrev Turn : List Act → List Act → List Act → (ℕ → Type 0) → ℕ → Act → Type 0
Turn gs bs cs Q m x =
    (Q m → offers m x ≡ true → (one_of bs x ≡ false) × (one_of gs x ≡ false → Q (after m x)))
    × (one_of cs x ≡ true → Q (after m x))

module _ (gs bs cs : List Act) (Q : ℕ → Type 0) (turn : (m : ℕ) (x : Act) → Turn gs bs cs Q m x) where
  path-before : (m n : ℕ) (xs : List Act) → Q m → Path m xs n → none_before gs bs xs ≡ true
  unfolding none_before Path
  path-before m n [] q p = refl
  path-before m n (x ∷ xs) q p =
      let t = (turn m x).0 q p.0 in
      both_is (ap not t.0) (go (one_of gs x) refl (λ e. path-before (after m x) n xs (t.1 e) p.1))
    where
      go : (b : Bool) → one_of gs x ≡ b → (one_of gs x ≡ false → none_before gs bs xs ≡ true) → (b || none_before gs bs xs) ≡ true
      go true e h = refl
      go false e h = h e

  path-after : (m n : ℕ) (xs : List Act) → Path m xs n → after_each cs (none_before gs bs) xs ≡ true
  unfolding after_each Path
  path-after m n [] p = refl
  path-after m n (x ∷ xs) p =
      both_is (go (one_of cs x) refl (λ e. path-before (after m x) n xs ((turn m x).1 e) p.1)) (path-after (after m x) n xs p.1)
    where
      go : (b : Bool) → one_of cs x ≡ b → (one_of cs x ≡ true → none_before gs bs xs ≡ true) → (not b || none_before gs bs xs) ≡ true
      go true e h = h e
      go false e h = refl

-- ---- a do_resume

abbrev paused : List Act
paused = do_pause ∷ do_wait ∷ []

abbrev unpaused : List Act
unpaused = do_resume ∷ do_play ∷ do_stop ∷ done_play ∷ []

-- the modes that do not offer it
resume-turn : (m : ℕ) (x : Act) → Turn paused (do_resume ∷ []) unpaused (λ m. offers m do_resume ≡ false) m x
unfolding offers after one_of
resume-turn m do_play = (λ q h. (refl, λ e. refl), λ e. refl)
resume-turn m do_pause = (λ q h. (refl, λ e. absurd (true≢false e)), λ e. absurd (false≢true e))
resume-turn m do_resume = (λ q h. absurd (true≢false (sym h ∙ q)), λ e. refl)
resume-turn m do_stop = (λ q h. (refl, λ e. refl), λ e. refl)
resume-turn m do_wait = (λ q h. (refl, λ e. absurd (true≢false e)), λ e. absurd (false≢true e))
resume-turn m done_play = (λ q h. (refl, λ e. refl), λ e. refl)
resume-turn m jump = (λ q h. (refl, λ e. q), λ e. absurd (false≢true e))
resume-turn m exc = (λ q h. (refl, λ e. q), λ e. absurd (false≢true e))

pub path-resume-first : (n : ℕ) (xs : List Act) → Path STOPPED xs n → none_before (do_pause ∷ do_wait ∷ []) (do_resume ∷ []) xs ≡ true
unfolding offers
path-resume-first n xs p = path-before paused (do_resume ∷ []) unpaused (λ m. offers m do_resume ≡ false) resume-turn STOPPED n xs refl p

pub path-resume-again : (m n : ℕ) (xs : List Act) → Path m xs n
    → after_each (do_resume ∷ do_play ∷ do_stop ∷ done_play ∷ []) (none_before (do_pause ∷ do_wait ∷ []) (do_resume ∷ [])) xs ≡ true
path-resume-again = path-after paused (do_resume ∷ []) unpaused (λ m. offers m do_resume ≡ false) resume-turn

-- a path that ends in a pause or a wait leads to a mode that offers it
pub path-paused : (m n : ℕ) (xs : List Act) (a : Act) → one_of (do_pause ∷ do_wait ∷ []) a ≡ true → Path m (xs ++ (a ∷ [])) n → offers n do_resume ≡ true
unfolding offers after one_of Path
path-paused m n [] a e p = subst (λ (k : ℕ). offers k do_resume ≡ true) p.1 (at a e)
  where
    at : (a : Act) → one_of (do_pause ∷ do_wait ∷ []) a ≡ true → offers (after m a) do_resume ≡ true
    at do_play e = absurd (false≢true e)
    at do_pause e = refl
    at do_resume e = absurd (false≢true e)
    at do_stop e = absurd (false≢true e)
    at do_wait e = refl
    at done_play e = absurd (false≢true e)
    at jump e = absurd (false≢true e)
    at exc e = absurd (false≢true e)
path-paused m n (x ∷ xs) a e p = path-paused (after m x) n xs a e p.1

-- ---- a jump

abbrev settling : List Act
settling = done_play ∷ do_stop ∷ do_pause ∷ []

abbrev playing : List Act
playing = do_play ∷ do_resume ∷ []

-- the modes that do not offer it
jump-turn : (m : ℕ) (x : Act) → Turn settling (jump ∷ []) playing (λ m. offers m jump ≡ false) m x
unfolding offers after one_of
jump-turn m do_play = (λ q h. (refl, λ e. refl), λ e. refl)
jump-turn m do_pause = (λ q h. (refl, λ e. absurd (true≢false e)), λ e. absurd (false≢true e))
jump-turn m do_resume = (λ q h. (refl, λ e. refl), λ e. refl)
jump-turn m do_stop = (λ q h. (refl, λ e. absurd (true≢false e)), λ e. absurd (false≢true e))
jump-turn m do_wait = (λ q h. (refl, λ e. refl), λ e. absurd (false≢true e))
jump-turn m done_play = (λ q h. (refl, λ e. absurd (true≢false e)), λ e. absurd (false≢true e))
jump-turn m jump = (λ q h. absurd (true≢false (sym h ∙ q)), λ e. absurd (false≢true e))
jump-turn m exc = (λ q h. (refl, λ e. q), λ e. absurd (false≢true e))

pub path-jump : (m n : ℕ) (xs : List Act) → Path m xs n
    → after_each (do_play ∷ do_resume ∷ []) (none_before (done_play ∷ do_stop ∷ do_pause ∷ []) (jump ∷ [])) xs ≡ true
path-jump = path-after settling (jump ∷ []) playing (λ m. offers m jump ≡ false) jump-turn
