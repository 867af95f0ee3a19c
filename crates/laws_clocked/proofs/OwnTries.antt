-- No try among a clocked thread's own statements catches an exception for which none of them has a handler.
use Rattle.std.proofs.Common.{◌≡◌, ◌||◌, ℕ, false, List, [], ◌∷◌, ◌++◌, Option, Some, None, inl, inr, refl, sym, ap, ◌∙◌, subst}
use Rattle.std.proofs.lemmas.Option.{none-some}
use Rattle.laws_runs.specs.FlatDesign.Code as code
use Rattle.laws_runs.specs.FlatDesign.Code.{Arena}
use Rattle.laws_runs.specs.FlatDesign.Reach.{Holds}
use Rattle.laws_runs.specs.FlatDesign.declared.code.Handler.{Handler}
use Rattle.laws_runs.specs.SimModel.Residual.{Residual, Frame, skip, one, batch, seq, owing, guard, try_, frame, shell, run, goal, or_frame, innermost}
use Rattle.laws_runs.specs.SimModel.Unwinding.{catches, handles}
use Rattle.laws_clocked.specs.Again.{Around}
use Rattle.laws_clocked.specs.Clocked.{HasClocked, UncaughtIn}
use Rattle.laws_clocked.proofs.Undoing.{call_or}
use Rattle.laws_clocked.proofs.Owned.{IsOwn, IsTriedBy, EachOwn}
use Rattle.laws_clocked.proofs.Rounds.{more_left, IsUnder}

module _ (a : Arena) (b : Around) (n : ℕ) (none : UncaughtIn a b n) where
  -- the statement of such a try stands among them
  tried : (handlers : List Handler) → (t : IsTriedBy a (IsOwn a b) handlers) → Holds a b.inside (code.try_ t.body handlers)
  tried handlers t = record { block = t.so.block; inside = t.so.inside; stands = record { number = t.number; listed_there = t.so.listed; found = t.found } }

  some_call : (w : Option Frame) (x : Frame) → or_frame w x ≡ None → ⊥
  some_call w x bare = let call = call_or w x in none-some call.0 (sym bare ∙ call.1)

  own_catches : (r : Residual) → EachOwn a (IsOwn a b) r → innermost r ≡ None → catches r n ≡ false
  own_catches skip h bare = refl
  own_catches (one s) h bare = refl
  own_catches (batch s qs) h bare = refl
  own_catches (seq r ss) h bare = own_catches r h.0 bare
  own_catches (owing r g u) h bare = own_catches r h.0 bare
  own_catches (guard r g u) h bare = own_catches r h.0 bare
  own_catches (try_ r handlers) h bare = ap (λ c. c || handles handlers n) (own_catches r h.0 bare) ∙ none h.2.body handlers (tried handlers h.2)
  own_catches (frame r x) h bare = absurd (some_call (innermost r) x bare)
  own_catches (shell r x) h bare = absurd (some_call (innermost r) x bare)
  own_catches (run g r) h bare = own_catches r h bare
  own_catches (goal r k) h bare = own_catches r h bare

  pub under-catches : (e f : ℕ) (has : HasClocked a b e f) (r : Residual) → IsUnder a b e f has r → innermost r ≡ None → catches r n ≡ false
  under-catches e f has r (inl last) bare = ap (λ y. catches y n) last
  under-catches e f has r (inr (more_left q ss is own spares)) bare = ap (λ y. catches y n) is ∙ own_catches q own (sym (ap innermost is) ∙ bare)
