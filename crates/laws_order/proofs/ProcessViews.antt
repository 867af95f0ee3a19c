-- What acts leave of what a process sees.
use Rattle.std.proofs.Common.{◌≡◌, ◌≢◌, ◌-◌, ℕ, Bool, List, [], ◌∷◌, All, drop, slice_get, slice_set, Some, option_map, refl, sym, ap, ◌∙◌, subst}
use Rattle.std.proofs.lemmas.List.Elements.{All-head, All-tail}
use Rattle.sim_model.specs.EventCore.declared.notifications.Pending.{Pending}
use Rattle.sim_model.specs.SignalChannel.Signals.{written}
use Rattle.sim_model.specs.SignalChannel.Drivers.{Driven, driven_by}
use Rattle.sim_model.specs.SignalChannel.declared.signal.Signal.{Signal}
use Rattle.sim_model.specs.FifoSync.Fifos.{Queued, free, after_read, after_write}
use Rattle.sim_model.specs.Values.{one_digit, digit_list}
use Rattle.sim_model.specs.Configuration.{Config, Processes, Store, Quantum, Trace}
use Rattle.order_free.specs.declared.uses.Use.{Use}
use Rattle.order_free.specs.declared.uses.Use.TheVariants as used
use Rattle.laws_order.specs.Acts as act
use Rattle.laws_order.specs.Acts.{Act, acted, acted_all, Allows}
use Rattle.laws_order.specs.Sees.{unnumbered, in_reach, value_of, AlikeAt, Sees}
use Rattle.laws_order.proofs.Apart.{AreApart}
use Rattle.laws_order.proofs.Lists.{change-alike, change-same, set-same, change-apart, set-apart, change-kept}
use Rattle.laws_order.proofs.Ends.{reach-read, free-read, reach-written, free-written, driven-value}

module _ (Has : Use → Type 0) (p : ℕ) where
  pub sees-refl : (c : Config) → Sees Has p c c
  sees-refl c = record {
    design = refl;
    cycle = refl;
    values = λ n. refl;
    resolved = λ n. refl;
    changed = refl;
    resolved_changed = refl;
    transactions = refl;
    own = refl;
    variables = λ v h. refl;
    memories = λ m h. refl;
    quantum = λ h. refl;
    written = λ n h. refl;
    readable = λ n h. refl;
    room = λ n h. refl;
  }

  pub sees-sym : (c e : Config) → Sees Has p c e → Sees Has p e c
  sees-sym c e s = record {
    design = sym s.design;
    cycle = sym s.cycle;
    values = λ n. sym (s.values n);
    resolved = λ n. sym (s.resolved n);
    changed = sym s.changed;
    resolved_changed = sym s.resolved_changed;
    transactions = sym s.transactions;
    own = sym s.own;
    variables = λ v h. sym (s.variables v h);
    memories = λ m h. sym (s.memories m h);
    quantum = λ h. sym (s.quantum h);
    written = λ n h. sym (s.written n h);
    readable = λ n h. sym (s.readable n h);
    room = λ n h. sym (s.room n h);
  }

  pub sees-trans : (c e x : Config) → Sees Has p c e → Sees Has p e x → Sees Has p c x
  sees-trans c e x s t = record {
    design = t.design ∙ s.design;
    cycle = t.cycle ∙ s.cycle;
    values = λ n. t.values n ∙ s.values n;
    resolved = λ n. t.resolved n ∙ s.resolved n;
    changed = t.changed ∙ s.changed;
    resolved_changed = t.resolved_changed ∙ s.resolved_changed;
    transactions = t.transactions ∙ s.transactions;
    own = t.own ∙ s.own;
    variables = λ v h. t.variables v h ∙ s.variables v h;
    memories = λ m h. t.memories m h ∙ s.memories m h;
    quantum = λ h. t.quantum h ∙ s.quantum h;
    written = λ n h. t.written n h ∙ s.written n h;
    readable = λ n h. t.readable n h ∙ s.readable n h;
    room = λ n h. t.room n h ∙ s.room n h;
  }

  module _ (c x : Config) (s : Sees Has p c x) where
    -- ---- pieces of both in place of others

    with_stores : (a b : Store) → ((v : ℕ) → Has (used.Variable v) → slice_get b.variables v ≡ slice_get a.variables v) → ((m : ℕ) → Has (used.Memory m) → slice_get b.memories m ≡ slice_get a.memories m)
        → Sees Has p (record c { store = a }) (record x { store = b })
    with_stores a b variables memories = record {
      design = s.design;
      cycle = s.cycle;
      values = s.values;
      resolved = s.resolved;
      changed = s.changed;
      resolved_changed = s.resolved_changed;
      transactions = s.transactions;
      own = s.own;
      variables = variables;
      memories = memories;
      quantum = s.quantum;
      written = s.written;
      readable = s.readable;
      room = s.room;
    }

    pub with-events : (a b : List Pending) → Sees Has p (record c { events = a }) (record x { events = b })
    with-events a b = record {
      design = s.design;
      cycle = s.cycle;
      values = s.values;
      resolved = s.resolved;
      changed = s.changed;
      resolved_changed = s.resolved_changed;
      transactions = s.transactions;
      own = s.own;
      variables = s.variables;
      memories = s.memories;
      quantum = s.quantum;
      written = s.written;
      readable = s.readable;
      room = s.room;
    }

    pub with-own : (a b : Processes) → AlikeAt unnumbered a.instances b.instances p → Sees Has p (record c { processes = a }) (record x { processes = b })
    with-own a b own = record {
      design = s.design;
      cycle = s.cycle;
      values = s.values;
      resolved = s.resolved;
      changed = s.changed;
      resolved_changed = s.resolved_changed;
      transactions = s.transactions;
      own = own;
      variables = s.variables;
      memories = s.memories;
      quantum = s.quantum;
      written = s.written;
      readable = s.readable;
      room = s.room;
    }

    pub with-trace : (a b : Trace) → Sees Has p (record c { trace = a }) (record x { trace = b })
    with-trace a b = record {
      design = s.design;
      cycle = s.cycle;
      values = s.values;
      resolved = s.resolved;
      changed = s.changed;
      resolved_changed = s.resolved_changed;
      transactions = s.transactions;
      own = s.own;
      variables = s.variables;
      memories = s.memories;
      quantum = s.quantum;
      written = s.written;
      readable = s.readable;
      room = s.room;
    }

    with_quantum : (a b : Quantum) → (Has used.Quantum → b ≡ a) → Sees Has p (record c { quantum = a }) (record x { quantum = b })
    with_quantum a b quantum = record {
      design = s.design;
      cycle = s.cycle;
      values = s.values;
      resolved = s.resolved;
      changed = s.changed;
      resolved_changed = s.resolved_changed;
      transactions = s.transactions;
      own = s.own;
      variables = s.variables;
      memories = s.memories;
      quantum = quantum;
      written = s.written;
      readable = s.readable;
      room = s.room;
    }

    with_signals : (a b : List Signal) → ((n : ℕ) → AlikeAt value_of a b n) → ((n : ℕ) → Has (used.WritesSignal n) → slice_get b n ≡ slice_get a n)
        → Sees Has p (record c { channels = record c.channels { signals = a } }) (record x { channels = record x.channels { signals = b } })
    with_signals a b values whole = record {
      design = s.design;
      cycle = s.cycle;
      values = values;
      resolved = s.resolved;
      changed = s.changed;
      resolved_changed = s.resolved_changed;
      transactions = s.transactions;
      own = s.own;
      variables = s.variables;
      memories = s.memories;
      quantum = s.quantum;
      written = whole;
      readable = s.readable;
      room = s.room;
    }

    with_fifos : (a b : List Queued) → ((n : ℕ) → Has (used.ReadsFifo n) → AlikeAt in_reach a b n) → ((n : ℕ) → Has (used.WritesFifo n) → AlikeAt free a b n)
        → Sees Has p (record c { channels = record c.channels { fifos = a } }) (record x { channels = record x.channels { fifos = b } })
    with_fifos a b readable places = record {
      design = s.design;
      cycle = s.cycle;
      values = s.values;
      resolved = s.resolved;
      changed = s.changed;
      resolved_changed = s.resolved_changed;
      transactions = s.transactions;
      own = s.own;
      variables = s.variables;
      memories = s.memories;
      quantum = s.quantum;
      written = s.written;
      readable = readable;
      room = places;
    }

    with_drivers : (a b : List Driven) (asked and_asked : List Bool) → ((n : ℕ) → AlikeAt (λ (r : Driven). r.value) a b n)
        → Sees Has p (record c { channels = record c.channels { resolved = a; resolved_asked = asked } }) (record x { channels = record x.channels { resolved = b; resolved_asked = and_asked } })
    with_drivers a b asked and_asked resolved = record {
      design = s.design;
      cycle = s.cycle;
      values = s.values;
      resolved = resolved;
      changed = s.changed;
      resolved_changed = s.resolved_changed;
      transactions = s.transactions;
      own = s.own;
      variables = s.variables;
      memories = s.memories;
      quantum = s.quantum;
      written = s.written;
      readable = s.readable;
      room = s.room;
    }

    -- ---- one act in both, whoever acts

    pub acted-alike : (q : ℕ) (a : Act) → Sees Has p (acted q c a) (acted q x a)
    acted-alike q (act.stores v y) = with_stores _ _ (λ w h. set-same y c.store.variables x.store.variables v w (s.variables w h)) s.memories
    acted-alike q (act.fills m bytes) = with_stores _ _ s.variables (λ w h. set-same bytes c.store.memories x.store.memories m w (s.memories w h))
    acted-alike q (act.writes n y) =
        with_signals _ _
        (λ m. change-alike value_of (written (Some q) y) (written (Some q) y) (λ a b e. e) c.channels.signals x.channels.signals n m (s.values m))
        (λ m h. change-same (written (Some q) y) c.channels.signals x.channels.signals n m (s.written m h))
    acted-alike q (act.drives n y) =
        let d = one_digit (digit_list y) in
        with_drivers _ _ _ _
        (λ m. change-alike (λ (r : Driven). r.value) (driven_by q d) (driven_by q d) (λ a b e. driven-value q d b ∙ e ∙ sym (driven-value q d a)) c.channels.resolved x.channels.resolved n m (s.resolved m))
    acted-alike q (act.takes n) =
        with_fifos _ _
        (λ m h. change-alike in_reach after_read after_read (λ a b e. reach-read b ∙ ap (drop 1) e ∙ sym (reach-read a)) c.channels.fifos x.channels.fifos n m (s.readable m h))
        (λ m h. change-alike free after_read after_read (λ a b e. free-read b ∙ e ∙ sym (free-read a)) c.channels.fifos x.channels.fifos n m (s.room m h))
    acted-alike q (act.gives n y) =
        let f = λ (r : Queued). after_write r y in
        with_fifos _ _
        (λ m h. change-alike in_reach f f (λ a b e. reach-written b y ∙ e ∙ sym (reach-written a y)) c.channels.fifos x.channels.fifos n m (s.readable m h))
        (λ m h. change-alike free f f (λ a b e. free-written b y ∙ ap (λ k. k - 1) e ∙ sym (free-written a y)) c.channels.fifos x.channels.fifos n m (s.room m h))
    acted-alike q (act.notifies e w) = with-events _ _
    acted-alike q (act.cancels e) = with-events _ _
    acted-alike q (act.keeps n k) = with_quantum _ _ (λ h. ap (λ (u : Quantum). record u { keepers = slice_set u.keepers n k }) (s.quantum h))
    acted-alike q (act.sets_global t) = with_quantum _ _ (λ h. ap (λ (u : Quantum). record u { global = t }) (s.quantum h))

-- ---- acts of another

module _ (Has Others : Use → Type 0) (apart : AreApart Has Others) (p : ℕ) (c : Config) where
  same : Sees Has p c c
  same = sees-refl Has p c

  differ : (F : ℕ → Use) → ((n : ℕ) → Has (F n) → Others (F n) → ⊥) → (n m : ℕ) → Others (F n) → Has (F m) → m ≢ n
  differ F never n m o h e = never n (subst (λ k. Has (F k)) e h) o

  -- it sees what was before and what is after alike
  pub acted-unseen : (q : ℕ) (a : Act) → Allows Others a → Sees Has p c (acted q c a)
  acted-unseen q (act.stores v y) o = with_stores Has p c c same _ _ (λ w h. set-apart y c.store.variables v w (differ used.Variable apart.variable v w o h)) (λ w h. refl)
  acted-unseen q (act.fills m bytes) o = with_stores Has p c c same _ _ (λ w h. refl) (λ w h. set-apart bytes c.store.memories m w (differ used.Memory apart.memory m w o h))
  acted-unseen q (act.writes n y) o =
      with_signals Has p c c same _ _
      (λ m. change-kept value_of (written (Some q) y) (λ a. refl) c.channels.signals n m)
      (λ m h. change-apart (written (Some q) y) c.channels.signals n m (differ used.WritesSignal apart.signal n m o h))
  acted-unseen q (act.drives n y) o =
      let d = one_digit (digit_list y) in
      with_drivers Has p c c same _ _ _ _ (λ m. change-kept (λ (r : Driven). r.value) (driven_by q d) (driven-value q d) c.channels.resolved n m)
  acted-unseen q (act.takes n) o =
      with_fifos Has p c c same _ _
      (λ m h. ap (option_map in_reach) (change-apart after_read c.channels.fifos n m (differ used.ReadsFifo apart.reading n m o h)))
      (λ m h. change-kept free after_read free-read c.channels.fifos n m)
  acted-unseen q (act.gives n y) o =
      let f = λ (r : Queued). after_write r y in
      with_fifos Has p c c same _ _
      (λ m h. change-kept in_reach f (λ r. reach-written r y) c.channels.fifos n m)
      (λ m h. ap (option_map free) (change-apart f c.channels.fifos n m (differ used.WritesFifo apart.writing n m o h)))
  acted-unseen q (act.notifies e w) o = with-events Has p c c same _ _
  acted-unseen q (act.cancels e) o = with-events Has p c c same _ _
  acted-unseen q (act.keeps n k) o = with_quantum Has p c c same _ _ (λ h. absurd (apart.quantum h o))
  acted-unseen q (act.sets_global t) o = with_quantum Has p c c same _ _ (λ h. absurd (apart.quantum h o))

-- nor does it see anything of many of them, one after another
pub all-unseen : (Has Others : Use → Type 0) → AreApart Has Others → (p q : ℕ) (as_ : List Act) → All (Allows Others) as_ → (c : Config) → Sees Has p c (acted_all q c as_)
all-unseen Has Others apart p q [] allowed c = sees-refl Has p c
all-unseen Has Others apart p q (a ∷ as_) allowed c =
    sees-trans Has p c (acted q c a) (acted_all q (acted q c a) as_) (acted-unseen Has Others apart p c q a (All-head (Allows Others) a as_ allowed))
    (all-unseen Has Others apart p q as_ (All-tail (Allows Others) a as_ allowed) (acted q c a))
