-- Where no call is a transport call, none is once finished parts have fallen away.
use Rattle.std.proofs.Common.{◌≡◌, true, false, List, [], ◌∷◌, Option, Some, None, refl, ap, ◌∙◌, true≢false}
use Rattle.std.specs.Prelude.{is_some, ℕ}
use Rattle.flat_design.specs.Code.{Arena, block_at}
use Rattle.flat_design.specs.declared.code.Handler.{Handler}
use Rattle.expr_eval.specs.SimModel.declared.plain.Via.{Via}
use Rattle.expr_eval.specs.SimModel.Residual.{Residual, Frame, skip, one, batch, seq, owing, guard, try_, frame, shell, run, goal, followed, statements, block, then_on, in_run, then_owed, in_guard, in_try, in_shell, settle, or_via, within}

none_statements : (ss : List ℕ) → within (statements ss) ≡ None
none_statements [] = refl
none_statements (s ∷ []) = refl
none_statements (s ∷ t ∷ ss) = refl

none_followed : (r : Residual) (ss : List ℕ) → within r ≡ None → within (followed r ss) ≡ None
none_followed r [] h = h
none_followed r (s ∷ ss) h = h

none_then_on : (r : Residual) (ss : List ℕ) → within r ≡ None → within (then_on r ss) ≡ None
none_then_on skip ss h = none_statements ss
none_then_on r ss h = none_followed r ss h

none_in_run : (g : ℕ) (r : Residual) → within r ≡ None → within (in_run g r) ≡ None
none_in_run g skip h = refl
none_in_run g r h = h

none_then_owed : (a : Arena) (r : Residual) (g u : ℕ) → within r ≡ None → within (then_owed a r g u) ≡ None
none_then_owed a skip g u h = none_in_run g (block a u) (none_statements (block_at a u))
none_then_owed a r g u h = h

none_in_guard : (r : Residual) (g u : ℕ) → within r ≡ None → within (in_guard r g u) ≡ None
none_in_guard skip g u h = refl
none_in_guard r g u h = h

none_in_try : (r : Residual) (handlers : List Handler) → within r ≡ None → within (in_try r handlers) ≡ None
none_in_try skip handlers h = refl
none_in_try r handlers h = h

none_in_shell : (r : Residual) (x : Frame) → within r ≡ None → x.via ≡ None → within (in_shell r x) ≡ None
none_in_shell skip x h none = refl
none_in_shell r x h none = ap (λ (v : Option Via). or_via v x.via) h ∙ none

inner_none : (inner outer : Option Via) → or_via inner outer ≡ None → inner ≡ None
inner_none None outer h = refl
inner_none (Some via) outer h = absurd (true≢false (ap (λ (v : Option Via). is_some v) h))

outer_none : (inner outer : Option Via) → or_via inner outer ≡ None → outer ≡ None
outer_none None outer h = h
outer_none (Some via) outer h = absurd (true≢false (ap (λ (v : Option Via). is_some v) h))

pub settled_within : (a : Arena) (r : Residual) → within r ≡ None → within (settle a r) ≡ None
settled_within a skip h = refl
settled_within a (one s) h = refl
settled_within a (batch s []) h = refl
settled_within a (batch s (q ∷ qs)) h = refl
settled_within a (seq r ss) h = none_then_on (settle a r) ss (settled_within a r h)
settled_within a (owing r g u) h = none_then_owed a (settle a r) g u (settled_within a r h)
settled_within a (guard r g u) h = none_in_guard (settle a r) g u (settled_within a r h)
settled_within a (try_ r handlers) h = none_in_try (settle a r) handlers (settled_within a r h)
settled_within a (frame r x) h = ap (λ (v : Option Via). or_via v x.via) (settled_within a r (inner_none (within r) x.via h)) ∙ outer_none (within r) x.via h
settled_within a (shell r x) h = none_in_shell (settle a r) x (settled_within a r (inner_none (within r) x.via h)) (outer_none (within r) x.via h)
settled_within a (run g r) h = none_in_run g (settle a r) (settled_within a r h)
settled_within a (goal r k) h = settled_within a r h
