-- Each part has its events among those of the design.
use Rattle.std.proofs.Common.{◌≡◌, ◌<◌, ◌≤◌, ℕ, zero, suc, ◌+◌, List, Some, refl, sym, ap, ◌∙◌, arith}
use Rattle.std.specs.Prelude.{slice_get}
use Rattle.elaborate_objects.specs.ModelTree.Tree as tree
use Rattle.elaborate_objects.specs.FlatDesign.declared.objects.Object.{Object}
use Rattle.elaborate_objects.specs.FlatDesign.declared.objects.ObjectForm.{ObjectForm}
use Rattle.elaborate_objects.specs.FlatDesign.declared.objects.ObjectForm.TheVariants as form
use Rattle.elaborate_objects.specs.FlatDesign.declared.design.SignalPart.{SignalPart}
use Rattle.elaborate_objects.specs.FlatDesign.declared.design.ResolvedPart.{ResolvedPart}
use Rattle.elaborate_objects.specs.FlatDesign.declared.design.FifoPart.{FifoPart}
use Rattle.elaborate_objects.specs.FlatDesign.declared.design.Design.{Design}
use Rattle.elaborate_objects.specs.DesignRules.declared.counts.Counts.{Counts}
use Rattle.elaborate_objects.specs.DesignRules.Counting.{behind, nothing_before}
use Rattle.elaborate_objects.specs.DesignRules.Parts.{signal_by, resolved_by, fifo_by}
use Rattle.elaborate_objects.specs.DesignRules.Designs.{IsDesignOf}
use Rattle.laws_design.proofs.Along.{same_some, before, from_place}
use Rattle.laws_design.proofs.Numbered.{signals_step, resolved_step, fifos_step, events_there}

module _ (m : tree.Model) (d : Design) (design : IsDesignOf m d) where
  within : (k : ℕ) (o : Object) → slice_get d.objects.list k ≡ Some o → (f : ObjectForm) → o.form ≡ f → (behind (before d.objects.list k) f).events ≤ d.events
  within k o found f e = let w = events_there d.objects.list k o found f e in let v = design.events in omega (arith, w, v)

  signal_events : (n : Counts) (f : ObjectForm) (i : ℕ) (p : SignalPart) → slice_get (signal_by n f) i ≡ Some p → (behind n f).events ≤ d.events → p.events + 2 < d.events
  signal_events n (form.Signal kind many t initial) zero p e h = let q = ap (λ (x : SignalPart). x.events) (same_some _ p e) in omega (arith, h, q)
  signal_events n (form.Signal kind many t initial) (suc i) p e h = cc
  signal_events n (form.Clock period high start code) zero p e h = let q = ap (λ (x : SignalPart). x.events) (same_some _ p e) in omega (arith, h, q)
  signal_events n (form.Clock period high start code) (suc i) p e h = cc
  signal_events n other i p e h = cc

  pub signals_have_events : (n : ℕ) (p : SignalPart) → slice_get d.signals n ≡ Some p → p.events + 2 < d.events
  signals_have_events n p e =
      let r =
      from_place (λ c (x : Object). signal_by c x.form) (λ c. c.signals) (λ c x. signals_step c x.form) nothing_before d.objects.list n p
      (sym (ap (λ (xs : List SignalPart). slice_get xs n) design.signals) ∙ e) in
      signal_events (before d.objects.list r.place) r.object.form r.index p r.gives (within r.place r.object r.found r.object.form refl)

  resolved_events : (n : Counts) (f : ObjectForm) (i : ℕ) (p : ResolvedPart) → slice_get (resolved_by n f) i ≡ Some p → (behind n f).events ≤ d.events → p.events + 2 < d.events
  resolved_events n form.Resolved zero p e h = let q = ap (λ (x : ResolvedPart). x.events) (same_some _ p e) in omega (arith, h, q)
  resolved_events n form.Resolved (suc i) p e h = cc
  resolved_events n other i p e h = cc

  pub resolved_have_events : (n : ℕ) (p : ResolvedPart) → slice_get d.resolved n ≡ Some p → p.events + 2 < d.events
  resolved_have_events n p e =
      let r =
      from_place (λ c (x : Object). resolved_by c x.form) (λ c. c.resolved) (λ c x. resolved_step c x.form) nothing_before d.objects.list n p
      (sym (ap (λ (xs : List ResolvedPart). slice_get xs n) design.resolved) ∙ e) in
      resolved_events (before d.objects.list r.place) r.object.form r.index p r.gives (within r.place r.object r.found r.object.form refl)

  fifo_events : (n : Counts) (f : ObjectForm) (i : ℕ) (p : FifoPart) → slice_get (fifo_by n f) i ≡ Some p → (behind n f).events ≤ d.events → p.events + 1 < d.events
  fifo_events n (form.Fifo t size) zero p e h = let q = ap (λ (x : FifoPart). x.events) (same_some _ p e) in omega (arith, h, q)
  fifo_events n (form.Fifo t size) (suc i) p e h = cc
  fifo_events n other i p e h = cc

  pub fifos_have_events : (n : ℕ) (p : FifoPart) → slice_get d.fifos n ≡ Some p → p.events + 1 < d.events
  fifos_have_events n p e =
      let r =
      from_place (λ c (x : Object). fifo_by c x.form) (λ c. c.fifos) (λ c x. fifos_step c x.form) nothing_before d.objects.list n p
      (sym (ap (λ (xs : List FifoPart). slice_get xs n) design.fifos) ∙ e) in
      fifo_events (before d.objects.list r.place) r.object.form r.index p r.gives (within r.place r.object r.found r.object.form refl)
