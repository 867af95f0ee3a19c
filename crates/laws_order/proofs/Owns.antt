-- In a configuration that fits, a step of a process is its own.
use Rattle.std.proofs.Common.{◌≡◌, ℕ, false, Contains, Some, slice_get, refl, sym, ap, ◌∙◌, subst}
use Rattle.std.proofs.lemmas.Option.{same_Some}
use Rattle.sim_model.specs.EventCore.Ev.{same_event}
use Rattle.sim_model.specs.EventCore.declared.event.Ev.{Ev}
use Rattle.sim_model.specs.EventCore.declared.event.Ev.TheVariants as ev
use Rattle.sim_model.specs.FlatDesign.Code.{arena_of}
use Rattle.sim_model.specs.FlatDesign.declared.design.ProcessPart.{ProcessPart}
use Rattle.sim_model.specs.FlatDesign.declared.design.Design.{Design}
use Rattle.sim_model.specs.Residual.{Residual, Next, skip, one, batch, seq, owing, guard, try_, frame, shell, run, goal, statement, owes, leaves, done, reaches, nothing, settle, next_of}
use Rattle.sim_model.specs.Configuration.{Config, Instance, Wait, waits_for_nothing, waits_statically, waits_for_any, waits_for_all, instance_at}
use Rattle.sim_model.specs.Waits.{is_among}
use Rattle.order_free.specs.Uses.{uses_of}
use Rattle.order_free.specs.Free.{Uses, by_statement, Free}
use Rattle.laws_order.specs.Alongside.{HasNoHops, OwnAt, OwnNext, heard, IsDeaf, IsUnheard, AreUnheard}
use Rattle.laws_order.specs.Turns.{IsOnItsOwn}
use Rattle.laws_order.specs.Own.{IsOf, IsLeftOf}
use Rattle.laws_order.specs.Fits.{HearsFixed, KeepsToItself, Fits}
use Rattle.laws_order.proofs.Lefts.{settle-left, IsNextOf, next-left}
use Rattle.laws_order.proofs.OwnUnheard.{static-fixed, deaf-fixed}
use Rattle.laws_order.proofs.OwnRuled.{statics-fixed}

no_hops : (d : Design) (p : ℕ) (r : Residual) → IsLeftOf d p r → HasNoHops r
no_hops d p skip h = tt
no_hops d p (one s) h = tt
no_hops d p (batch s qs) h = tt
no_hops d p (seq r ss) h = no_hops d p r h.0
no_hops d p (owing r g u) h = no_hops d p r h.0
no_hops d p (guard r g u) h = no_hops d p r h.0
no_hops d p (try_ r handlers) h = no_hops d p r h.0
no_hops d p (frame r x) h = (no_hops d p r h.0, h.1.via)
no_hops d p (shell r x) h = (no_hops d p r h.0, h.1.via)
no_hops d p (run g r) h = no_hops d p r h
no_hops d p (goal r k) h = no_hops d p r h.0

module _ (d : Design) (p : ℕ) (part : ProcessPart) (found : slice_get d.processes p ≡ Some part) where
  own_at : (n : ℕ) → IsOf d p n → OwnAt (Uses d p) d part.home n
  own_at n own s at u there =
      let r = own s at in
      by_statement r.part r.body s r.found r.begins r.reached (subst (λ (q : ProcessPart). Contains (uses_of d q.home s) u) (same_Some part r.part (sym found ∙ r.found)) there)

  own_next : (next : Next) → IsNextOf d p next → OwnNext (Uses d p) d part.home next
  own_next (statement n) own = own_at n own
  own_next (owes n q) own = own
  own_next (leaves x) own = λ n is. own_at n (own.call n is)
  own_next done own = tt
  own_next (reaches k) own = tt
  own_next nothing own = tt

module _ (d : Design) (free : Free d) (c : Config) (h : Fits d c) where
  deaf : (v : Ev) → ((n : ℕ) → same_event v (ev.Fixed n) ≡ false) → (q : ℕ) (i : Instance) → KeepsToItself d q i → (w : Wait) → i.wait ≡ w → HearsFixed w → IsDeaf v i
  deaf v never q i k waits_for_nothing is hears = subst (λ (x : Wait). is_among v (heard i x) ≡ false) (sym is) refl
  deaf v never q i k waits_statically is hears = subst (λ (x : Wait). is_among v (heard i x) ≡ false) (sym is) (deaf-fixed v never i.static (static-fixed d (statics-fixed d free) q i k))
  deaf v never q i k (waits_for_any es) is hears = subst (λ (x : Wait). is_among v (heard i x) ≡ false) (sym is) (deaf-fixed v never es hears)
  deaf v never q i k (waits_for_all es) is hears = subst (λ (x : Wait). is_among v (heard i x) ≡ false) (sym is) (deaf-fixed v never es hears)

  unheard : (v : Ev) → ((n : ℕ) → same_event v (ev.Fixed n) ≡ false) → IsUnheard v c
  unheard v never q i at = let k = h.processes.each q i at in deaf v never q i k i.wait refl k.wait

  pub are-unheard : (p : ℕ) → AreUnheard p c
  are-unheard p = (unheard (ev.Terminated p) (λ n. refl), unheard (ev.Restarted p) (λ n. refl))

  own_here : (p : ℕ) (i : Instance) → KeepsToItself d p i → OwnNext (Uses d p) d i.home (next_of (settle (arena_of d.code) i.residual))
  own_here p i k =
      let r = settle (arena_of d.code) i.residual in
      subst (λ home. OwnNext (Uses d p) d home (next_of r)) (sym (ap (λ (j : Instance). j.home) k.process.same))
      (own_next d p k.process.part k.process.found (next_of r) (next-left d p r (settle-left d p i.residual k.left)))

  pub is-own : (p : ℕ) (i : Instance) → instance_at c p ≡ Some i → IsOnItsOwn (Uses d p) p c
  is-own p i at =
      let k = h.processes.each p i at in
      record {
        instance = i;
        found = at;
        none = no_hops d p i.residual k.left;
        next = subst (λ (x : Design). OwnNext (Uses d p) x i.home (next_of (settle (arena_of x.code) i.residual))) (sym h.design) (own_here p i k);
        unheard = are-unheard p;
      }
