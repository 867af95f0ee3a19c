-- What one process did another one does not see.
use Rattle.std.proofs.Common.{◌≡◌, ◌≢◌, ℕ, List, All, slice_get, Some, option_map, refl, ap, ◌∙◌, subst}
use Rattle.std.specs.Prelude.{Result, Ok}
use Rattle.sim_model.specs.SignalChannel.Drivers.{Driven}
use Rattle.sim_model.specs.FifoSync.Fifos.{free}
use Rattle.sim_model.specs.FlatDesign.declared.faults.RunFault.{RunFault}
use Rattle.sim_model.specs.Residual.{settle, next_of}
use Rattle.sim_model.specs.Configuration.{Config, Instance, arena, instance_at}
use Rattle.sim_model.specs.Statements.{statement_step}
use Rattle.order_free.specs.declared.uses.Use.{Use}
use Rattle.order_free.specs.declared.uses.Use.TheVariants as used
use Rattle.laws_order.specs.Acts.{Act, Allows}
use Rattle.laws_order.specs.Sees.{unnumbered, in_reach, value_of, Sees}
use Rattle.laws_order.specs.Alongside.{Did, Alongside, Both, HasNoHops, OwnNext, AreUnheard}
use Rattle.laws_order.proofs.Apart.{AreApart}
use Rattle.laws_order.proofs.ProcessViews.{sees-refl, all-unseen}
use Rattle.laws_order.proofs.OneStep.{step-alongside}

module _ (Has Others : Use → Type 0) (apart : AreApart Has Others) (p q : ℕ) (differ : p ≢ q) (c e : Config) where
  pub did-unseen : (log : List Act) → All (Allows Others) log → Did q log c e → Sees Has p c e
  did-unseen log allowed d =
      let s = all-unseen Has Others apart p q log allowed c in
      record {
        design = ap (λ (z : Config). z.design) d.shared ∙ s.design;
        cycle = ap (λ (z : Config). z.cycle) d.shared ∙ s.cycle;
        values = λ n. ap (λ (z : Config). option_map value_of (slice_get z.channels.signals n)) d.shared ∙ s.values n;
        resolved = λ n. ap (λ (z : Config). option_map (λ (r : Driven). r.value) (slice_get z.channels.resolved n)) d.shared ∙ s.resolved n;
        changed = ap (λ (z : Config). z.channels.changed) d.shared ∙ s.changed;
        resolved_changed = ap (λ (z : Config). z.channels.resolved_changed) d.shared ∙ s.resolved_changed;
        transactions = ap (λ (z : Config). z.transactions) d.shared ∙ s.transactions;
        own = ap (option_map unnumbered) (d.others p differ);
        variables = λ v h. ap (λ (z : Config). slice_get z.store.variables v) d.shared ∙ s.variables v h;
        memories = λ m h. ap (λ (z : Config). slice_get z.store.memories m) d.shared ∙ s.memories m h;
        quantum = λ h. ap (λ (z : Config). z.quantum) d.shared ∙ s.quantum h;
        written = λ n h. ap (λ (z : Config). slice_get z.channels.signals n) d.shared ∙ s.written n h;
        readable = λ n h. ap (λ (z : Config). option_map in_reach (slice_get z.channels.fifos n)) d.shared ∙ s.readable n h;
        room = λ n h. ap (λ (z : Config). option_map free (slice_get z.channels.fifos n)) d.shared ∙ s.room n h;
      }

  pub step-unseen : (Others used.Unfit → ⊥) → (Others used.Watches → ⊥) → (i : Instance) → instance_at c q ≡ Some i → HasNoHops i.residual → OwnNext Others c.design i.home (next_of (settle (arena c) i.residual))
      → AreUnheard q c → statement_step c q ≡ Ok e → Sees Has p c e
  step-unseen unfit watches i at none mine unheard is =
      let both = step-alongside Others unfit watches q c c (sees-refl Others q c) refl i none mine unheard unheard at in
      let a : Alongside Others q c c e e = subst (λ (m : Result Config RunFault). Both (Alongside Others q c c) m m) is both in
      did-unseen a.log a.allowed a.here
