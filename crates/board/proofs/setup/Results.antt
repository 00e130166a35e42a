-- What the results of the guards of a call say: a number that was read, a test that held, or the refusal.
use Rattle.std.specs.Prelude.{Option, Some, None, Ok, Err}
use Rattle.std.specs.Option.{ok_or}
use lib.IntN.{ℤ}
use mathlib.Core.Path.{◌≡◌, refl, sym}
use mathlib.Core.Bool.{Bool, true, false, cond}
use mir.Syntax.{w64}
use mir.Val.{SFits}
use Rattle.track.proofs.Numbers.{back, told}

module _ {A E : Type 0} where
  pub ok-some : (o : Option A) (e : E) {x : A} → ok_or o e ≡ Ok x → o ≡ Some x
  ok-some None e h = cc
  ok-some (Some y) e h = cc

  pub err-none : (o : Option A) (e : E) {f : E} → ok_or o e ≡ Err f → (o ≡ None) × (f ≡ e)
  err-none None e h = (refl, (cc))
  err-none (Some y) e h = ((cc), (cc))

  -- the same of what is read from a number that was passed on
  pub some-told : {n : ℤ} {x : A} (f : ℤ → Option A) (e : E) → SFits w64 n → Ok x ≡ ok_or (f (back n)) e → f n ≡ Some x
  some-told f e s h = told f s refl (ok-some _ e (sym h))

  pub none-told : {n : ℤ} {g : E} (f : ℤ → Option A) (e : E) → SFits w64 n → Err g ≡ ok_or (f (back n)) e → f n ≡ None
  none-told f e s h = told f s refl (err-none _ e (sym h)).0

module _ {E : Type 0} where
  pub ok-true : (t : Bool) (e : E) {u : Unit {0}} → cond t (Ok tt) (Err e) ≡ Ok u → t ≡ true
  ok-true true e h = refl
  ok-true false e h = cc
