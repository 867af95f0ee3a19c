-- One statement in two configurations that its process sees alike.
use Rattle.std.proofs.Common.{◌≡◌, ℕ, Bool, true, false, cond, List, [], ◌++◌, None, Contains, refl, sym, ap, ◌∙◌, subst}
use Rattle.std.specs.Prelude.{Result, Ok, Err}
use Rattle.sim_model.specs.FlatDesign.Code.{Statement}
use Rattle.sim_model.specs.FlatDesign.declared.faults.RunFault.{RunFault}
use Rattle.sim_model.specs.Residual.{Residual, skip, one, batch, seq, owing, guard, try_, frame, shell, run, goal, innermost, within, or_via}
use Rattle.sim_model.specs.Unwinding.{catches, handles, left_via, left_by_unw, left_by_raise}
use Rattle.sim_model.specs.Configuration.{Config, Instance}
use Rattle.sim_model.specs.Reading.{here, home_of_via, locals_of}
use Rattle.sim_model.specs.Statements.{do_statement}
use Rattle.sim_model.specs.declared.plain.Via.{Via}
use Rattle.kernel_bodies.specs.Strip.{strip}
use Rattle.kernel_bodies.proofs.Strips.{strip-innermost, strip-within}
use Rattle.order_free.specs.Uses.{uses_of}
use Rattle.order_free.specs.declared.uses.Use.{Use}
use Rattle.order_free.specs.declared.uses.Use.TheVariants as used
use Rattle.laws_order.specs.Sees.{Sees}
use Rattle.laws_order.specs.Alongside.{Alongside, Both, HasNoHops}
use Rattle.laws_order.proofs.Along.{Along, begun, alongside}
use Rattle.laws_order.proofs.Forms.{form-along}

-- ---- where no call is a transport call

pub no-via : (r : Residual) → HasNoHops r → within r ≡ None
no-via skip h = refl
no-via (one s) h = refl
no-via (batch s qs) h = refl
no-via (seq r ss) h = no-via r h
no-via (owing r g u) h = no-via r h
no-via (guard r g u) h = no-via r h
no-via (try_ r handlers) h = no-via r h
no-via (frame r x) h = ap (λ o. or_via o x.via) (no-via r h.0) ∙ h.1
no-via (shell r x) h = ap (λ o. or_via o x.via) (no-via r h.0) ∙ h.1
no-via (run g r) h = no-via r h
no-via (goal r k) h = no-via r h

none_unwound : (r : Residual) → HasNoHops r → left_by_unw r ≡ []
none_unwound skip h = refl
none_unwound (one s) h = refl
none_unwound (batch s qs) h = refl
none_unwound (seq r ss) h = none_unwound r h
none_unwound (owing r g u) h = none_unwound r h
none_unwound (guard r g u) h = none_unwound r h
none_unwound (try_ r handlers) h = none_unwound r h
none_unwound (frame r x) h = ap (λ vs. vs ++ left_via x.via) (none_unwound r h.0) ∙ ap left_via h.1
none_unwound (shell r x) h = none_unwound r h.0
none_unwound (run g r) h = none_unwound r h
none_unwound (goal r k) h = none_unwound r h

none_of : (caught here : Bool) (vs ws : List Via) → vs ≡ [] → ws ≡ [] → cond caught vs (cond here ws []) ≡ []
none_of true here vs ws one_ two = one_
none_of false true vs ws one_ two = two
none_of false false vs ws one_ two = refl

pub none-left : (r : Residual) (e : ℕ) → HasNoHops r → left_by_raise r e ≡ []
none-left skip e h = refl
none-left (one s) e h = refl
none-left (batch s qs) e h = refl
none-left (seq r ss) e h = none-left r e h
none-left (owing r g u) e h = none-left r e h
none-left (guard r g u) e h = none-left r e h
none-left (try_ r handlers) e h = none_of (catches r e) (handles handlers e) (left_by_raise r e) (left_by_unw r) (none-left r e h) (none_unwound r h)
none-left (frame r x) e h = none-left r e h.0
none-left (shell r x) e h = none-left r e h.0
none-left (run g r) e h = none-left r e h
none-left (goal r k) e h = none-left r e h

-- ---- one statement

pub both-weaker : (R S : Config → Config → Type 0) → ((e y : Config) → R e y → S e y) → (m n : Result Config RunFault) → Both R m n → Both S m n
both-weaker R S h (Ok e) (Ok y) b = h e y b
both-weaker R S h (Ok e) (Err f) b = absurd b
both-weaker R S h (Err f) (Ok y) b = absurd b
both-weaker R S h (Err f) (Err g) b = b

module _ (Has : Use → Type 0) (unfit : Has used.Unfit → ⊥) (watches : Has used.Watches → ⊥) (p : ℕ) (c x : Config) (s : Sees Has p c x) (even : x.processes.stack ≡ c.processes.stack) where
  -- the other one, as it is seen
  abbrev seen : Config
  seen = record c { processes = x.processes; events = x.events; channels = x.channels; store = x.store; quantum = x.quantum; script = x.script; trace = x.trace }

  is_seen : x ≡ seen
  is_seen = ap (λ e. record x { design = e }) s.design ∙ ap (λ e. record x { design = c.design; cycle = e }) s.cycle ∙ ap (λ e. record x { design = c.design; cycle = c.cycle; transactions = e }) s.transactions

  module _ (i j : Instance) (homes : j.home ≡ i.home) (r t : Residual) (same : strip t ≡ strip r) (none : HasNoHops r) where
    here_alike : here seen p j t ≡ record { config = seen; serial = p; home = home_of_via c.design i.home (within r); locals = locals_of (innermost r) }
    here_alike =
        ap (λ v. record { config = seen; serial = p; home = home_of_via c.design j.home v; locals = locals_of (innermost t) }) (sym (strip-within t) ∙ ap within same ∙ strip-within r)
        ∙ ap (λ m. record { config = seen; serial = p; home = home_of_via c.design m (within r); locals = locals_of (innermost t) }) homes
        ∙ ap (λ o. record { config = seen; serial = p; home = home_of_via c.design i.home (within r); locals = locals_of o }) (sym (strip-innermost t) ∙ ap innermost same ∙ strip-innermost r)

    pub statement-alongside : (n : ℕ) (w : Statement) → ((u : Use) → Contains (uses_of c.design i.home w) u → Has u) → Both (Alongside Has p c x) (do_statement c p i r (here c p i r) n w) (do_statement x p j t (here x p j t) n w)
    statement-alongside n w mine =
        subst (λ y. Both (Alongside Has p c y) (do_statement c p i r (here c p i r) n w) (do_statement y p j t (here y p j t) n w)) (sym is_seen)
        (both-weaker (Along Has p c seen) (Alongside Has p c seen) (alongside Has p c seen sees even) (do_statement c p i r (here c p i r) n w) (do_statement seen p j t (here seen p j t) n w)
        (subst (λ g. Both (Along Has p c seen) (do_statement c p i r (here c p i r) n w) (do_statement seen p j t g n w)) (sym here_alike)
        (form-along Has unfit watches p c x.processes x.events x.channels x.store x.quantum x.script x.trace sees (home_of_via c.design i.home (within r)) (locals_of (innermost r)) c seen r t same begun
        (λ e. none-left r e none) i j n w (subst (λ v. (u : Use) → Contains (uses_of c.design (home_of_via c.design i.home v) w) u → Has u) (sym (no-via r none)) mine))))
      where
        sees : Sees Has p c seen
        sees = subst (Sees Has p c) is_seen s
