-- The update phase, in two configurations that are the same.
use Rattle.std.proofs.Common.{◌≡◌, ◌+◌, ℕ, Bool, true, false, List, [], ◌∷◌, map, length, zip, refl, sym, ap, ◌∙◌, subst, arith}
use Rattle.std.proofs.lemmas.List.Sorted.{IsPermutation-map}
use Rattle.std.specs.Prelude.{IsPermutation}
use Rattle.sim_model.specs.LogicValues.declared.kinds.Digit.{Digit}
use Rattle.sim_model.specs.SignalChannel.Signals.{settled, change_of}
use Rattle.sim_model.specs.SignalChannel.Drivers.{Driven, resolution, edges}
use Rattle.sim_model.specs.SignalChannel.declared.signal.Signal.{Signal}
use Rattle.sim_model.specs.SignalChannel.declared.signal.Changed.{Changed}
use Rattle.sim_model.specs.FifoSync.Fifos.{Queued, after_update}
use Rattle.sim_model.specs.EventCore.declared.notifications.When.TheVariants as when
use Rattle.sim_model.specs.FlatDesign.declared.design.SignalPart.{SignalPart}
use Rattle.sim_model.specs.FlatDesign.declared.design.ResolvedPart.{ResolvedPart}
use Rattle.sim_model.specs.FlatDesign.declared.design.FifoPart.{FifoPart}
use Rattle.sim_model.specs.Configuration.{Config, Channels}
use Rattle.sim_model.specs.Phases.{notified_if, announced, announce_signals, resettled_if, resolved_change, announce_resolved, was_some, announce_fifos, resettled_all, resolved_changes, channels_updated, update_phase}
use Rattle.laws_order.specs.Same.{HasOwnDrivers, SameDriven, SameDrivers, Same}
use Rattle.laws_order.proofs.Moves.{notify-same, channels-same, with-channels}

-- ---- what drivers make of a resolved signal

-- it does not depend on their order
abbrev pub ResolveAlike : Type 0
ResolveAlike = (ds es : List Digit) → IsPermutation ds es → resolution es ≡ resolution ds

drivers_of : (ws : List ℕ) (ds : List Digit) → length ds ≡ length ws → map (λ (w : ℕ × Digit). w.1) (zip ws ds) ≡ ds
drivers_of [] [] many = refl
drivers_of [] (d ∷ ds) many = absurd (omega (arith, many))
drivers_of (w ∷ ws) [] many = absurd (omega (arith, many))
drivers_of (w ∷ ws) (d ∷ ds) many = ap (λ es. d ∷ es) (drivers_of ws ds (omega (arith, many)))

drivers_permuted : (r s : Driven) → SameDriven r s → IsPermutation r.drivers s.drivers
drivers_permuted r s h =
    subst (λ ds. IsPermutation ds s.drivers) (drivers_of r.writers r.drivers h.here.many)
    (subst (λ es. IsPermutation (map (λ (w : ℕ × Digit). w.1) (zip r.writers r.drivers)) es) (drivers_of s.writers s.drivers h.there.many)
    (IsPermutation-map (λ (w : ℕ × Digit). w.1) (zip r.writers r.drivers) (zip s.writers s.drivers) h.drivers))

module _ (resolves : ResolveAlike) where
  pub resolved-same : (r s : Driven) → SameDriven r s → resolution s.drivers ≡ resolution r.drivers
  resolved-same r s h = resolves r.drivers s.drivers (drivers_permuted r s h)

  own_resettled : (b : Bool) (r : Driven) → HasOwnDrivers r → HasOwnDrivers (resettled_if b r)
  own_resettled true r h = record { once = h.once; many = h.many }
  own_resettled false r h = h

  resettled_same : (b : Bool) (r s : Driven) → SameDriven r s → SameDriven (resettled_if b r) (resettled_if b s)
  resettled_same true r s h = record { value = resolved-same r s h; drivers = h.drivers; here = own_resettled true r h.here; there = own_resettled true s h.there }
  resettled_same false r s h = h

  all_resettled : (rs ss : List Driven) (bs : List Bool) → SameDrivers rs ss → SameDrivers (resettled_all rs bs) (resettled_all ss bs)
  all_resettled [] [] bs h = h
  all_resettled [] (s ∷ ss) bs h = absurd h
  all_resettled (r ∷ rs) [] bs h = absurd h
  all_resettled (r ∷ rs) (s ∷ ss) [] h = h
  all_resettled (r ∷ rs) (s ∷ ss) (b ∷ bs) h = (resettled_same b r s h.0, all_resettled rs ss bs h.1)

  change_same : (b : Bool) (r s : Driven) → SameDriven r s → resolved_change s b ≡ resolved_change r b
  change_same b r s h = ap (λ v. edges v (resettled_if b s).value) h.value ∙ ap (edges r.value) (resettled_same b r s h).value

  changes_same : (rs ss : List Driven) (bs : List Bool) → SameDrivers rs ss → resolved_changes ss bs ≡ resolved_changes rs bs
  changes_same [] [] bs h = refl
  changes_same [] (s ∷ ss) bs h = absurd h
  changes_same (r ∷ rs) [] bs h = absurd h
  changes_same (r ∷ rs) (s ∷ ss) [] h = ap (λ cs. false ∷ cs) (changes_same rs ss [] h.1)
  changes_same (r ∷ rs) (s ∷ ss) (b ∷ bs) h = ap (λ (k : Changed). k.changed ∷ resolved_changes ss bs) (change_same b r s h.0) ∙ ap (λ cs. (resolved_change r b).changed ∷ cs) (changes_same rs ss bs h.1)

  -- ---- what is announced

  notified_same : (b : Bool) (e : ℕ) (c x : Config) → Same c x → Same (notified_if b e c) (notified_if b e x)
  notified_same true e c x h = notify-same c x e when.Delta h
  notified_same false e c x h = h

  announced_same : (k : Changed) (events : ℕ) (c x : Config) → Same c x → Same (announced k events c) (announced k events x)
  announced_same k events c x h =
      notified_same k.neg (events + 2) (notified_if k.pos (events + 1) (notified_if k.changed events c)) (notified_if k.pos (events + 1) (notified_if k.changed events x))
      (notified_same k.pos (events + 1) (notified_if k.changed events c) (notified_if k.changed events x) (notified_same k.changed events c x h))

  signals_same : (ps : List SignalPart) (ss : List Signal) (c x : Config) → Same c x → Same (announce_signals ps ss c) (announce_signals ps ss x)
  signals_same [] ss c x h = h
  signals_same (p ∷ ps) [] c x h = h
  signals_same (p ∷ ps) (s ∷ ss) c x h = signals_same ps ss (announced (change_of s) p.events c) (announced (change_of s) p.events x) (announced_same (change_of s) p.events c x h)

  resolved_same : (ps : List ResolvedPart) (rs ss : List Driven) (bs : List Bool) (c x : Config) → SameDrivers rs ss → Same c x → Same (announce_resolved ps rs bs c) (announce_resolved ps ss bs x)
  resolved_same [] rs ss bs c x d h = h
  resolved_same (p ∷ ps) [] [] bs c x d h = h
  resolved_same (p ∷ ps) [] (s ∷ ss) bs c x d h = absurd d
  resolved_same (p ∷ ps) (r ∷ rs) [] bs c x d h = absurd d
  resolved_same (p ∷ ps) (r ∷ rs) (s ∷ ss) [] c x d h = h
  resolved_same (p ∷ ps) (r ∷ rs) (s ∷ ss) (b ∷ bs) c x d h =
      resolved_same ps rs ss bs (announced (resolved_change r b) p.events c) (announced (resolved_change s b) p.events x) d.1
      (subst (λ k. Same (announced (resolved_change r b) p.events c) (announced k p.events x)) (sym (change_same b r s d.0)) (announced_same (resolved_change r b) p.events c x h))

  fifos_same : (ps : List FifoPart) (qs : List Queued) (c x : Config) → Same c x → Same (announce_fifos ps qs c) (announce_fifos ps qs x)
  fifos_same [] qs c x h = h
  fifos_same (p ∷ ps) [] c x h = h
  fifos_same (p ∷ ps) (q ∷ qs) c x h =
      fifos_same ps qs (notified_if (was_some q.read) (p.events + 1) (notified_if (was_some q.written) p.events c)) (notified_if (was_some q.read) (p.events + 1) (notified_if (was_some q.written) p.events x))
      (notified_same (was_some q.read) (p.events + 1) (notified_if (was_some q.written) p.events c) (notified_if (was_some q.written) p.events x) (notified_same (was_some q.written) p.events c x h))

  -- ---- the phase

  -- the channels after it but for resolved signals, of which it is told which changed
  abbrev updated_but : Channels → List Bool → Channels
  updated_but k changed = record {
    signals = map settled k.signals;
    changed = map (λ (s : Signal). (change_of s).changed) k.signals;
    resolved = [];
    resolved_asked = map (λ (b : Bool). false) k.resolved_asked;
    resolved_changed = changed;
    fifos = map after_update k.fifos;
    mutexes = k.mutexes;
    semaphores = k.semaphores;
  }

  module _ (c x : Config) (h : Same c x) where
    asked_same : x.channels.resolved_asked ≡ c.channels.resolved_asked
    asked_same = ap (λ (k : Config). k.channels.resolved_asked) h.alike.shared

    changed_same : resolved_changes x.channels.resolved x.channels.resolved_asked ≡ resolved_changes c.channels.resolved c.channels.resolved_asked
    changed_same = ap (resolved_changes x.channels.resolved) asked_same ∙ changes_same c.channels.resolved x.channels.resolved c.channels.resolved_asked h.drivers

    channels_same : record (channels_updated x.channels) { resolved = [] } ≡ record (channels_updated c.channels) { resolved = [] }
    channels_same =
        ap (λ (k : Channels). updated_but k (resolved_changes x.channels.resolved x.channels.resolved_asked)) (channels-same c x h)
        ∙ ap (updated_but c.channels) changed_same

    drivers_same : SameDrivers (channels_updated c.channels).resolved (channels_updated x.channels).resolved
    drivers_same =
        subst (λ bs. SameDrivers (resettled_all c.channels.resolved c.channels.resolved_asked) (resettled_all x.channels.resolved bs)) (sym asked_same)
        (all_resettled c.channels.resolved x.channels.resolved c.channels.resolved_asked h.drivers)

    abbrev Signals : Config → Config → Config
    Signals k d = announce_signals k.design.signals k.channels.signals d

    told_signals : Same (Signals c c) (Signals x x)
    told_signals = subst (Same (Signals c c)) (sym (ap (λ k. Signals k x) h.alike.shared)) (signals_same c.design.signals c.channels.signals c x h)

    abbrev Resolved : Config → List Driven → Config → Config
    Resolved k rs d = announce_resolved k.design.resolved rs k.channels.resolved_asked d

    told_resolved : Same (Resolved c c.channels.resolved (Signals c c)) (Resolved x x.channels.resolved (Signals x x))
    told_resolved =
        subst (Same (Resolved c c.channels.resolved (Signals c c))) (sym (ap (λ k. Resolved k x.channels.resolved (Signals x x)) h.alike.shared))
        (resolved_same c.design.resolved c.channels.resolved x.channels.resolved c.channels.resolved_asked (Signals c c) (Signals x x) h.drivers told_signals)

    abbrev Fifos : Config → Config → Config
    Fifos k d = announce_fifos k.design.fifos k.channels.fifos d

    told_all : Same (Fifos c (Resolved c c.channels.resolved (Signals c c))) (Fifos x (Resolved x x.channels.resolved (Signals x x)))
    told_all =
        subst (Same (Fifos c (Resolved c c.channels.resolved (Signals c c)))) (sym (ap (λ k. Fifos k (Resolved x x.channels.resolved (Signals x x))) h.alike.shared))
        (fifos_same c.design.fifos c.channels.fifos (Resolved c c.channels.resolved (Signals c c)) (Resolved x x.channels.resolved (Signals x x)) told_resolved)

    pub updates-same : Same (update_phase c) (update_phase x)
    updates-same =
        with-channels (Fifos c (Resolved c c.channels.resolved (Signals c c))) (Fifos x (Resolved x x.channels.resolved (Signals x x))) (channels_updated c.channels) (channels_updated x.channels) channels_same drivers_same told_all
