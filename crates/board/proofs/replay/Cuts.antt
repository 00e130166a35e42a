-- The laws of ticks and of the cut: ticks add up, and two lists that differ only in the cut look the same and end alike.
use Rattle.std.specs.Prelude.{Option, Some, None}
use mathlib.Core.Path.{◌≡◌, refl, sym, ◌∙◌, ap}
use mathlib.Core.List.{List, [], ◌∷◌}
use Prim.Native.Nat.{ℕ, zero, suc, ◌+◌, ◌-◌, ◌≤◌, ◌<◌}
use native.Mathlib.Nat.{zero-add, suc-add, add_assoc, add-zero}
use native.Mathlib.Omega.{arith}
use lib.ListN.{length}
use Rattle.board.specs.Cut.{Ran, first, joined, idle, counted, Did, ticks, passed, told, advance, crossed}
use Rattle.board.specs.Cut.{Part, run, one, fuse, merge, Seen, ran, said, glue, observe, performs, sorted, parts, plains, Low, Recut}

-- ---- ticks

module _ {E S : Type 0} (halt : S → Option E) (step : S → S) where
  -- a tick that nothing stops is taken
  pub ticks-on : (n : ℕ) (s : S) → halt s ≡ None → ticks halt step (suc n) s ≡ counted (ticks halt step n (step s))
  unfolding ticks
  ticks-on n s h = rw (h, ticks)

  -- a tick that something stops is not, nor any behind it
  pub ticks-off : (n : ℕ) (s : S) (e : E) → halt s ≡ Some e → ticks halt step (suc n) s ≡ idle (Some e) s
  unfolding ticks
  ticks-off n s e h = rw (h, ticks)

  -- after a stop nothing moves
  stopped : (n : ℕ) (s : S) (e : E) → halt s ≡ Some e → idle (Some e) s ≡ joined (idle (Some e) s) (ticks halt step n s)
  unfolding ticks
  stopped zero s e h = refl
  stopped (suc n) s e h = rw (ticks-off n s e h)

  -- a + b ticks are a ticks and then b
  pub ticks-add : (a b : ℕ) (s : S) →
      ticks halt step (a + b) s ≡ joined (ticks halt step a s) (ticks halt step b (ticks halt step a s).end)
  unfolding ticks
  ticks-add zero b s = rw (zero-add b, zero-add (ticks halt step b s).taken)
  ticks-add (suc a) b s = rw (suc-add a b) (go (halt s) refl (ticks-add a b (step s)))
    where
      p : Ran E S
      p = ticks halt step a (step s)

      go : (o : Option E) → halt s ≡ o → ticks halt step (a + b) (step s) ≡ joined p (ticks halt step b p.end)
          → ticks halt step (suc (a + b)) s
          ≡ joined (ticks halt step (suc a) s) (ticks halt step b (ticks halt step (suc a) s).end)
      go None h ih = rw (ticks-on (a + b) s h, ticks-on a s h, ih, suc-add p.taken (ticks halt step b p.end).taken)
      go (Some e) h ih = rw (ticks-off (a + b) s e h, ticks-off a s e h) (stopped b s e h)

  -- the states in which a tick is taken
  pub passed_on : (n : ℕ) (s : S) → halt s ≡ None → passed halt step (suc n) s ≡ s ∷ passed halt step n (step s)
  unfolding passed
  passed_on n s h = rw (h, passed)

  pub passed-off : (n : ℕ) (s : S) (e : E) → halt s ≡ Some e → passed halt step (suc n) s ≡ []
  unfolding passed
  passed-off n s e h = rw (h, passed)

  -- are as many as the ticks taken
  pub passed-taken : (n : ℕ) (s : S) → length (passed halt step n s) ≡ (ticks halt step n s).taken
  unfolding passed ticks
  passed-taken zero s = refl
  passed-taken (suc n) s = go (halt s) refl (passed-taken n (step s))
    where
      go : (o : Option E) → halt s ≡ o → length (passed halt step n (step s)) ≡ (ticks halt step n (step s)).taken
          → length (passed halt step (suc n) s) ≡ (ticks halt step (suc n) s).taken
      go None h ih = rw (passed_on n s h, ticks-on n s h, ih)
      go (Some e) h ih = rw (passed-off n s e h, ticks-off n s e h)

  -- ---- an advance

  module _ {A K : Type 0} (bar : S → Option K) (done : ℕ → Option E → A) (refuse : K → A) where
    -- where nothing bars it, its ticks
    pub advance-in : (n : ℕ) (s : S) → bar s ≡ None
        → advance halt step bar done refuse n s ≡ told halt step bar done refuse (ticks halt step n s)
    unfolding advance
    advance-in n s h = rw (h, advance)

    -- else a refusal, and nothing changes
    pub advance-out : (n : ℕ) (s : S) (k : K) → bar s ≡ Some k
        → advance halt step bar done refuse n s ≡ record { answer = refuse k; left = s }
    unfolding advance
    advance-out n s k h = rw (h, advance)

    pub crossed-in : (n : ℕ) (s : S) → bar s ≡ None → crossed halt step bar done refuse n s ≡ passed halt step n s
    unfolding crossed
    crossed-in n s h = rw (h, crossed)

    pub crossed-out : (n : ℕ) (s : S) (k : K) → bar s ≡ Some k → crossed halt step bar done refuse n s ≡ []
    unfolding crossed
    crossed-out n s k h = rw (h, crossed)

  module _ {K : Type 0} (bar : S → Option K) (kept : (s : S) → bar s ≡ None → halt s ≡ None → bar (step s) ≡ None) where
    -- no tick taken brings a bar
    pub still : (n : ℕ) (s : S) → bar s ≡ None → bar (ticks halt step n s).end ≡ None
    unfolding ticks
    still zero s h = h
    still (suc n) s h = go (halt s) refl (still n (step s))
      where
        go : (o : Option E) → halt s ≡ o → (bar (step s) ≡ None → bar (ticks halt step n (step s)).end ≡ None)
            → bar (ticks halt step (suc n) s).end ≡ None
        go None g ih = rw (ticks-on n s g) (ih (kept s h g))
        go (Some e) g ih = rw (ticks-off n s e g) h

-- How the answer to an advance is read: the ticks taken, a refusal counting 0, and what stopped it, if anything did.
pub record Read {A E K : Type 0} (F : Type 0) (done : ℕ → Option E → A) (refuse : K → A) : Type 0 where
  pub taken : A → ℕ
  pub why : A → Option F
  pub stop : E → F
  pub refusal : K → F
  pub taken_done : (t : ℕ) (o : Option E) → taken (done t o) ≡ t
  pub taken_refuse : (k : K) → taken (refuse k) ≡ 0
  pub why_none : (t : ℕ) → why (done t None) ≡ None
  pub why_some : (t : ℕ) (e : E) → why (done t (Some e)) ≡ Some (stop e)
  pub why_refuse : (k : K) → why (refuse k) ≡ Some (refusal k)

-- An advance is two others: the ticks add up, the earlier reason counts, and it ends at the same place.
pub record Adds {A F S : Type 0} (taken : A → ℕ) (why : A → Option F) (both one then : Did A S) : Type 0 where
  pub taken_adds : taken both.answer ≡ taken one.answer + taken then.answer
  pub why_first : why both.answer ≡ first (why one.answer) (why then.answer)
  pub ends : both.left ≡ then.left

module _ {A E F K S : Type 0} (halt : S → Option E) (step : S → S) (bar : S → Option K) (done : ℕ → Option E → A) (refuse : K → A)
    (kept : (s : S) → bar s ≡ None → halt s ≡ None → bar (step s) ≡ None) (D : Read F done refuse) where
  open D use {taken, why, taken_done, taken_refuse, why_none, why_some, why_refuse}

  why-first-done : (t u v : ℕ) (o p : Option E) → why (done t (first o p)) ≡ first (why (done u o)) (why (done v p))
  why-first-done t u v None None = rw (why_none t, why_none u, why_none v)
  why-first-done t u v None (Some e) = rw (why_some t e, why_none u, why_some v e)
  why-first-done t u v (Some e) p = rw (why_some t e, why_some u e)

  abbrev go_on : ℕ → S → Did A S
  go_on = advance halt step bar done refuse

  -- an advance of a + b is one of a and then one of b
  pub advance-add : (a b : ℕ) (s : S) → Adds taken why (go_on (a + b) s) (go_on a s) (go_on b (go_on a s).left)
  advance-add a b s = split (bar s) refl
    where
      inside : (n : ℕ) (t : S) → bar t ≡ None → go_on n t ≡ told halt step bar done refuse (ticks halt step n t)
      inside = advance-in halt step bar done refuse

      outside : (n : ℕ) (k : K) → bar s ≡ Some k → go_on n s ≡ record { answer = refuse k; left = s }
      outside n = advance-out halt step bar done refuse n s

      split : (o : Option K) → bar s ≡ o → Adds taken why (go_on (a + b) s) (go_on a s) (go_on b (go_on a s).left)
      split None h =
          let p : Ran E S = ticks halt step a s in
          let q : Ran E S = ticks halt step b p.end in
          rw (
            inside (a + b) s h,
            inside a s h,
            inside b (ticks halt step a s).end (still halt step bar kept a s h),
            ticks-add halt step a b s,
          )
          (record {
            taken_adds = rw (taken_done (p.taken + q.taken), taken_done p.taken, taken_done q.taken);
            why_first = why-first-done (p.taken + q.taken) p.taken q.taken p.why q.why;
            ends = refl;
          })
      split (Some k) h =
          rw (outside (a + b) k h, outside a k h, outside b k h)
          (record { taken_adds = rw (taken_refuse k); why_first = rw (why_refuse k); ends = refl })

-- ---- the cut

first-assoc : {E : Type 0} (u v w : Option E) → first (first u v) w ≡ first u (first v w)
first-assoc None v w = refl
first-assoc (Some e) v w = refl

module _ {E A : Type 0} where
  glue-glue : (t u : ℕ) (v w : Option E) (xs : List (Seen E A)) → glue (t + u) (first v w) xs ≡ glue t v (glue u w xs)
  glue-glue t u v w [] = refl
  glue-glue t u v w (ran n o ∷ xs) = rw (add_assoc t u n, first-assoc v w o)
  glue-glue t u v w (said a ∷ xs) = refl

module _ {A C E S : Type 0} (does : Part C → S → Did A S) (taken : A → ℕ) (why : A → Option E)
    (adds : (a b : ℕ) (s : S) → Adds taken why (does (run (a + b)) s) (does (run a) s) (does (run b) (does (run a) s).left)) where
  seen : List (Part C) → S → List (Seen E A)
  seen ps s = observe taken why ps (performs does ps s).answers

  -- what is seen, and where it ends
  abbrev Alike : List (Part C) → List (Part C) → S → Type 0
  Alike ps qs s = (seen ps s ≡ seen qs s) × ((performs does ps s).last ≡ (performs does qs s).last)

  fused : (n : ℕ) (ps : List (Part C)) (s : S) → Alike (fuse n ps) (run n ∷ ps) s
  unfolding seen
  fused n [] s = (refl, refl)
  fused n (run m ∷ ps) s =
      let h = adds n m s in
      let d : Did A S = does (run n) s in
      let f : Did A S = does (run m) d.left in (
        rw (h.taken_adds, h.why_first, h.ends)
            (glue-glue (taken d.answer) (taken f.answer) (why d.answer) (why f.answer) (seen ps f.left)),
        ap (λ (w : S). (performs does ps w).last) h.ends,
      )
  fused n (one c ∷ ps) s = (refl, refl)

  -- a list with its runs merged looks the same, and ends at the same place
  merged : (ps : List (Part C)) (s : S) → Alike (merge ps) ps s
  unfolding seen
  merged [] s = (refl, refl)
  merged (run n ∷ ps) s =
      let d : Did A S = does (run n) s in
      let ih = merged ps d.left in
      ((fused n (merge ps) s).0 ∙ ap (glue (taken d.answer) (why d.answer)) ih.0, (fused n (merge ps) s).1 ∙ ih.1)
  merged (one c ∷ ps) s =
      let d : Did A S = does (one c) s in
      let ih = merged ps d.left in
      (ap (λ (l : List (Seen E A)). said d.answer ∷ l) ih.0, ih.1)

  -- two lists with the same merged list: every run's ticks taken and what first stopped it, every other answer, and the end
  pub cut : (ps qs : List (Part C)) (s : S) → merge ps ≡ merge qs →
      (observe taken why ps (performs does ps s).answers ≡ observe taken why qs (performs does qs s).answers)
      × ((performs does ps s).last ≡ (performs does qs s).last)
  unfolding seen
  cut ps qs s e = (
    sym (merged ps s).0 ∙ ap (λ (l : List (Part C)). seen l s) e ∙ (merged qs s).0,
    sym (merged ps s).1 ∙ ap (λ (l : List (Part C)). (performs does l s).last) e ∙ (merged qs s).1,
  )

-- ---- lists of calls as they are written

module _ {C : Type 0} (most : ℕ) (count : C → Option ℕ) (go : ℕ → C) (count-go : (n : ℕ) → n ≤ most → count (go n) ≡ Some n) where
  abbrev cut_up : List C → List (Part C)
  cut_up = parts most count go

  -- what is no advance of a run stays none
  abbrev Odd : List (Part C) → Type 0
  Odd [] = Unit {0}
  Odd (run n ∷ ps) = Odd ps
  Odd (one c ∷ ps) = (count c ≡ None) × Odd ps

  odd-parts : (cs : List C) → Odd (cut_up cs)
  odd-parts [] = tt
  odd-parts (c ∷ cs) = here (count c) refl (odd-parts cs)
    where
      here : (o : Option ℕ) → count c ≡ o → Odd (cut_up cs) → Odd (sorted most count go c o ∷ cut_up cs)
      here None e h = (e, h)
      here (Some n) e h = h

  odd-fuse : (n : ℕ) (ps : List (Part C)) → Odd ps → Odd (fuse n ps)
  odd-fuse n [] h = tt
  odd-fuse n (run m ∷ ps) h = h
  odd-fuse n (one c ∷ ps) h = h

  odd-merge : (ps : List (Part C)) → Odd ps → Odd (merge ps)
  odd-merge [] h = tt
  odd-merge (run n ∷ ps) h = odd-fuse n (merge ps) (odd-merge ps h)
  odd-merge (one c ∷ ps) h = (h.0, odd-merge ps h.1)

  back : (ps : List (Part C)) → Odd ps → Low most count go ps → cut_up (plains most count go ps) ≡ ps
  back [] h l = refl
  back (run n ∷ ps) h l = rw (count-go n l.0, back ps h l.1)
  back (one c ∷ ps) h l = rw (h.0, back ps h.1 l)

  -- two lists that differ only in the cut have the same merged list
  pub recut : (cs ds : List C) → Recut most count go cs ds → merge (parts most count go cs) ≡ merge (parts most count go ds)
  recut cs ds h =
      sym (back (merge (cut_up cs)) (odd-merge (cut_up cs) (odd-parts cs)) h.within)
      ∙ ap cut_up h.same
      ∙ back (merge (cut_up ds)) (odd-merge (cut_up ds) (odd-parts ds)) h.within'

-- ---- two machines, one of which keeps more than the other

abbrev pub mapped : {E S S' : Type 0} → (S → S') → Ran E S → Ran E S'
mapped h r = record { taken = r.taken; why = r.why; end = h r.end }

abbrev pub mapped-did : {A S S' : Type 0} → (S → S') → Did A S → Did A S'
mapped-did h d = record { answer = d.answer; left = h d.left }

module _ {E S S' : Type 0} (halt : S → Option E) (step : S → S) (halt' : S' → Option E) (step' : S' → S') (h : S → S')
    (halts : (s : S) → halt' (h s) ≡ halt s) (steps : (s : S) → step' (h s) ≡ h (step s)) where
  -- their ticks are alike
  pub ticks-map : (n : ℕ) (s : S) → ticks halt' step' n (h s) ≡ mapped h (ticks halt step n s)
  unfolding ticks
  ticks-map zero s = refl
  ticks-map (suc n) s = go (halt s) refl (ticks-map n (step s))
    where
      go : (o : Option E) → halt s ≡ o → ticks halt' step' n (h (step s)) ≡ mapped h (ticks halt step n (step s))
          → ticks halt' step' (suc n) (h s) ≡ mapped h (ticks halt step (suc n) s)
      go None e ih = rw (ticks-on halt step n s e, ticks-on halt' step' n (h s) (halts s ∙ e), steps s, ih)
      go (Some x) e ih = rw (ticks-off halt step n s x e, ticks-off halt' step' n (h s) x (halts s ∙ e))

  -- and so are their advances
  module _ {A K : Type 0} (bar : S → Option K) (bar' : S' → Option K) (bars : (s : S) → bar' (h s) ≡ bar s)
      (done : ℕ → Option E → A) (refuse : K → A) where
    pub advance-map : (n : ℕ) (s : S) →
        advance halt' step' bar' done refuse n (h s) ≡ mapped-did h (advance halt step bar done refuse n s)
    advance-map n s = go (bar s) refl
      where
        go : (o : Option K) → bar s ≡ o →
            advance halt' step' bar' done refuse n (h s) ≡ mapped-did h (advance halt step bar done refuse n s)
        go None e =
            rw (
              advance-in halt step bar done refuse n s e,
              advance-in halt' step' bar' done refuse n (h s) (bars s ∙ e),
              ticks-map n s,
            )
        go (Some k) e =
            rw (advance-out halt step bar done refuse n s k e, advance-out halt' step' bar' done refuse n (h s) k (bars s ∙ e))

-- ---- ticks in a loop: t of n are taken, and the rest is to come

abbrev pub later : {E S : Type 0} → ℕ → Ran E S → Ran E S
later t r = record { taken = t + r.taken; why = r.why; end = r.end }

module _ {E S : Type 0} (halt : S → Option E) (step : S → S) (n t : ℕ) (s : S) where
  -- one more is taken
  pub later-on : t < n → halt s ≡ None
      → later t (ticks halt step (n - t) s) ≡ later (t + 1) (ticks halt step (n - (t + 1)) (step s))
  later-on l h =
      let m : n - t ≡ suc (n - (t + 1)) = omega arith in
      rw (m, ticks-on halt step (n - (t + 1)) s h)
      (ap (λ (k : ℕ). record { taken = k; why = r.why; end = r.end }) (omega arith))
    where
      r : Ran E S
      r = ticks halt step (n - (t + 1)) (step s)

  -- something stops the next
  pub later-off : (e : E) → t < n → halt s ≡ Some e
      → later t (ticks halt step (n - t) s) ≡ record { taken = t; why = Some e; end = s }
  later-off e l h =
      let m : n - t ≡ suc (n - (t + 1)) = omega arith in
      rw (m, ticks-off halt step (n - (t + 1)) s e h, add-zero t)

  -- the count is reached
  pub later-done : n ≤ t → later t (ticks halt step (n - t) s) ≡ record { taken = t; why = None; end = s }
  unfolding ticks
  later-done l =
      let m : n - t ≡ 0 = omega arith in
      rw (m, add-zero t)

  -- k ticks at a leap
  pub later-leap : (k : ℕ) (s' : S) → t + k ≤ n → ticks halt step k s ≡ record { taken = k; why = None; end = s' }
      → later t (ticks halt step (n - t) s) ≡ later (t + k) (ticks halt step (n - (t + k)) s')
  later-leap k s' l h =
      let m : n - t ≡ k + (n - (t + k)) = omega arith in
      rw (m, ticks-add halt step k (n - (t + k)) s, h, add_assoc t k (ticks halt step (n - (t + k)) s').taken)
