-- Acts of two processes in either order.
use Rattle.std.proofs.Common.{◌≡◌, ◌≢◌, inr, ℕ, true, List, [], ◌∷◌, All, slice_set, Some, refl, sym, ap, ◌∙◌, subst}
use Rattle.std.proofs.lemmas.List.Elements.{All-head, All-tail}
use Rattle.sim_model.specs.EventCore.declared.notifications.Pending.TheVariants as pending
use Rattle.sim_model.specs.EventCore.Notifications.{notified}
use Rattle.sim_model.specs.EventCore.declared.notifications.Pending.{Pending}
use Rattle.sim_model.specs.SignalChannel.Signals.{written}
use Rattle.sim_model.specs.SignalChannel.Drivers.{driven_by}
use Rattle.sim_model.specs.FifoSync.Fifos.{Queued, after_read, after_write}
use Rattle.sim_model.specs.Values.{one_digit, digit_list}
use Rattle.sim_model.specs.Configuration.{Config, change}
use Rattle.order_free.specs.declared.uses.Use.{Use}
use Rattle.order_free.specs.declared.uses.Use.TheVariants as used
use Rattle.laws_order.specs.Acts as act
use Rattle.laws_order.specs.Acts.{Act, acted, acted_all, Allows, DriveApart}
use Rattle.laws_order.proofs.Apart.{AreApart}
use Rattle.laws_order.proofs.Ends.{read-written}
use Rattle.laws_order.proofs.TurnOrders.{sets-commute, changes-commute, notified-commute}

module _ (Has Others : Use → Type 0) (apart : AreApart Has Others) (p q : ℕ) (c : Config) where
  differ : (F : ℕ → Use) → ((n : ℕ) → Has (F n) → Others (F n) → ⊥) → (n m : ℕ) → Has (F n) → Others (F m) → m ≢ n
  differ F never n m h o e = never n h (subst (λ k. Others (F k)) e o)

  fifos_commute : (f g : Queued → Queued) (n m : ℕ) → ((r : Queued) → m ≡ n → g (f r) ≡ f (g r))
      → ◌≡◌ {A = Config} (record c { channels = record c.channels { fifos = change (change c.channels.fifos n f) m g } }) (record c { channels = record c.channels { fifos = change (change c.channels.fifos m g) n f } })
  fifos_commute f g n m together = ap (λ qs. record c { channels = record c.channels { fifos = qs } }) (changes-commute f g c.channels.fifos n m together)

  events_commute : (f g : Pending → Pending) (n m : ℕ) → ((r : Pending) → m ≡ n → g (f r) ≡ f (g r))
      → ◌≡◌ {A = Config} (record c { events = change (change c.events n f) m g }) (record c { events = change (change c.events m g) n f })
  events_commute f g n m together = ap (λ es. record c { events = es }) (changes-commute f g c.events n m together)

  pub acts-commute : (a b : Act) → Allows Has a → Allows Others b → DriveApart a b → acted q (acted p c a) b ≡ acted p (acted q c b) a
  acts-commute (act.stores v x) (act.stores w y) h o drives =
      ap (λ vs. record c { store = record c.store { variables = vs } }) (sets-commute c.store.variables v w x y (differ used.Variable apart.variable v w h o))
  acts-commute (act.fills v x) (act.fills w y) h o drives =
      ap (λ ms. record c { store = record c.store { memories = ms } }) (sets-commute c.store.memories v w x y (differ used.Memory apart.memory v w h o))
  acts-commute (act.writes n x) (act.writes m y) h o drives =
      ap (λ ss. record c { channels = record c.channels { signals = ss } })
      (changes-commute (written (Some p) x) (written (Some q) y) c.channels.signals n m (λ s e. absurd (differ used.WritesSignal apart.signal n m h o e)))
  acts-commute (act.drives n x) (act.drives m y) h o drives =
      let other : m ≢ n = λ e. drives n refl (ap Some e) in
      ap (λ rs. record c { channels = record c.channels { resolved = rs; resolved_asked = slice_set (slice_set c.channels.resolved_asked n true) m true } })
      (changes-commute (driven_by p (one_digit (digit_list x))) (driven_by q (one_digit (digit_list y))) c.channels.resolved n m (λ r e. absurd (other e)))
      ∙ ap (λ bs. record c { channels = record c.channels { resolved = change (change c.channels.resolved m (driven_by q (one_digit (digit_list y)))) n (driven_by p (one_digit (digit_list x))); resolved_asked = bs } })
      (sets-commute c.channels.resolved_asked n m true true other)
  acts-commute (act.takes n) (act.takes m) h o drives = fifos_commute after_read after_read n m (λ r e. refl)
  acts-commute (act.takes n) (act.gives m y) h o drives = fifos_commute after_read (λ r. after_write r y) n m (λ r e. sym (read-written r y))
  acts-commute (act.gives n x) (act.takes m) h o drives = fifos_commute (λ r. after_write r x) after_read n m (λ r e. read-written r x)
  acts-commute (act.gives n x) (act.gives m y) h o drives = fifos_commute (λ r. after_write r x) (λ r. after_write r y) n m (λ r e. absurd (differ used.WritesFifo apart.writing n m h o e))
  acts-commute (act.notifies n v) (act.notifies m w) h o drives = events_commute (notified v) (notified w) n m (λ r e. notified-commute v w h.1 o.1 r)
  acts-commute (act.notifies n v) (act.cancels m) h o drives = events_commute (notified v) (λ x. pending.Nothing) n m (λ r e. absurd (apart.cancelled_too n (subst (λ k. Others (used.Cancels k)) e o) h.0))
  acts-commute (act.cancels n) (act.notifies m w) h o drives = events_commute (λ x. pending.Nothing) (notified w) n m (λ r e. absurd (apart.cancelled n h (inr (subst (λ k. Others (used.Notifies k)) e o.0))))
  acts-commute (act.cancels n) (act.cancels m) h o drives = events_commute (λ x. pending.Nothing) (λ x. pending.Nothing) n m (λ r e. refl)
  acts-commute (act.keeps n x) (act.keeps m y) h o drives = absurd (apart.quantum h o)
  acts-commute (act.keeps n x) (act.sets_global y) h o drives = absurd (apart.quantum h o)
  acts-commute (act.sets_global x) (act.keeps m y) h o drives = absurd (apart.quantum h o)
  acts-commute (act.sets_global x) (act.sets_global y) h o drives = absurd (apart.quantum h o)
  acts-commute a b h o drives = refl

-- ---- many acts of each, one after another

module _ (Has Others : Use → Type 0) (apart : AreApart Has Others) (p q : ℕ) where
  one_past : (a : Act) → Allows Has a → (bs : List Act) → All (Allows Others) bs → All (DriveApart a) bs → (c : Config) → acted_all q (acted p c a) bs ≡ acted p (acted_all q c bs) a
  one_past a h [] o drives c = refl
  one_past a h (b ∷ bs) o drives c =
      ap (λ (e : Config). acted_all q e bs) (acts-commute Has Others apart p q c a b h (All-head (Allows Others) b bs o) (All-head (DriveApart a) b bs drives))
      ∙ one_past a h bs (All-tail (Allows Others) b bs o) (All-tail (DriveApart a) b bs drives) (acted q c b)

  pub all-commute : (as_ bs : List Act) → All (Allows Has) as_ → All (Allows Others) bs → All (λ a. All (DriveApart a) bs) as_ → (c : Config) → acted_all q (acted_all p c as_) bs ≡ acted_all p (acted_all q c bs) as_
  all-commute [] bs h o drives c = refl
  all-commute (a ∷ as_) bs h o drives c =
      all-commute as_ bs (All-tail (Allows Has) a as_ h) o (All-tail (λ d. All (DriveApart d) bs) a as_ drives) (acted p c a)
      ∙ ap (λ (e : Config). acted_all p e as_) (one_past a (All-head (Allows Has) a as_ h) bs o (All-head (λ d. All (DriveApart d) bs) a as_ drives) c)
