-- What a process does to itself and to what is shared, alike in two configurations.
use Rattle.std.proofs.Common.{◌≡◌, ℕ, Bool, true, false, cond, slice_get, Option, Some, None, refl, sym, ap, ◌∙◌, subst}
use Rattle.std.specs.Prelude.{Result, Ok, Err}
use Rattle.sim_model.specs.LogicValues.declared.kinds.Value.{Value}
use Rattle.sim_model.specs.EventCore.declared.notifications.When.{When}
use Rattle.sim_model.specs.SignalChannel.Signals.{written, conflict_of}
use Rattle.sim_model.specs.SignalChannel.declared.signal.Signal.{Signal}
use Rattle.sim_model.specs.SignalChannel.declared.signal.WriterConflict.{WriterConflict}
use Rattle.sim_model.specs.FifoSync.Fifos.{Queued, after_read, after_write}
use Rattle.sim_model.specs.FlatDesign.declared.faults.RunFault.{RunFault}
use Rattle.sim_model.specs.Values.{on_ok}
use Rattle.sim_model.specs.Residual.{Residual, skip, put, in_innermost}
use Rattle.sim_model.specs.Configuration.{Config, Instance, Wait, Deadline, change_instance, with_residual}
use Rattle.sim_model.specs.Storing.{passes, with_local, set_local}
use Rattle.sim_model.specs.Waits.{notify, waits}
use Rattle.sim_model.specs.Channels.{set_signal, written_unless, write_signal, set_fifo}
use Rattle.kernel_bodies.specs.Strip.{strip}
use Rattle.kernel_bodies.proofs.Strips.{strip-put, strip-in_innermost}
use Rattle.order_free.specs.declared.uses.Use.{Use}
use Rattle.order_free.specs.declared.uses.Use.TheVariants as used
use Rattle.laws_order.specs.Acts as act
use Rattle.laws_order.specs.Acts.{acted, IsLater}
use Rattle.laws_order.specs.Sees.{unnumbered}
use Rattle.laws_order.specs.Alongside.{Both}
use Rattle.laws_order.proofs.Lists.{set-change}
use Rattle.laws_order.proofs.Along.{SameChange, Along, own, leaving, acting}

-- ---- answers

both_same : {A : Type 0} (R : Config → Config → Type 0) (m : Result A RunFault) (f g : A → Result Config RunFault) → ((v : A) → m ≡ Ok v → Both R (f v) (g v)) → Both R (on_ok m f) (on_ok m g)
both_same R (Ok v) f g h = h v refl
both_same R (Err e) f g h = refl

-- on from a value that both have
pub both_by : {A : Type 0} (R : Config → Config → Type 0) (m n : Result A RunFault) (f g : A → Result Config RunFault) → n ≡ m → ((v : A) → m ≡ Ok v → Both R (f v) (g v)) → Both R (on_ok m f) (on_ok n g)
both_by R m n f g e h = subst (λ k. Both R (on_ok m f) (on_ok k g)) (sym e) (both_same R m f g h)

pub both-ok : {A : Type 0} (R : Config → Config → Type 0) (m n : Result A RunFault) (f g : A → Result Config RunFault) → n ≡ m → ((v : A) → Both R (f v) (g v)) → Both R (on_ok m f) (on_ok n g)
both-ok R m n f g e h = both_by R m n f g e (λ v is. h v)

pub both-case : (R : Config → Config → Type 0) (b : Bool) (e f y z : Config) → (b ≡ true → R e y) → (b ≡ false → R f z) → R (cond b e f) (cond b y z)
both-case R true e f y z one two = one refl
both-case R false e f y z one two = two refl

-- by a test that both answer alike
pub both-if : (R : Config → Config → Type 0) (a b : Bool) (e f y z : Config) → b ≡ a → (a ≡ true → R e y) → (a ≡ false → R f z) → R (cond a e f) (cond b y z)
both-if R a b e f y z same one two = subst (λ k. R (cond a e f) (cond k y z)) (sym same) (both-case R a e f y z one two)

pub both-at : (R : Config → Config → Type 0) (e f y z : Config) → e ≡ f → y ≡ z → R e y → R f z
both-at R e f y z one two r = subst (λ k. R k z) one (subst (R e) two r)

-- ---- itself

-- what asks nothing of guards
pub same-change : (f : Instance → Instance) → ((i : Instance) → unnumbered (f i) ≡ f (unnumbered i)) → SameChange f f
same-change f plain i j same = plain j ∙ ap f same ∙ sym (plain i)

module _ (Has : Use → Type 0) (p : ℕ) (c x : Config) where
  abbrev R : Config → Config → Type 0
  R = Along Has p c x

  module _ (e y : Config) (h : R e y) where
    pub residual-along : (r t : Residual) → strip t ≡ strip r → R (with_residual e p r) (with_residual y p t)
    residual-along r t same =
        own e y (λ i. record i { residual = r }) (λ i. record i { residual = t })
        (λ i j alike. ap (λ (n : Instance). record n { residual = strip t }) alike ∙ ap (λ q. record i { residual = q }) same) h

    pub passes-along : (r t : Residual) → strip t ≡ strip r → R (passes e p r) (passes y p t)
    passes-along r t same = residual-along (put r skip) (put t skip) (strip-put t skip ∙ ap (λ q. put q skip) same ∙ sym (strip-put r skip))

    pub local-along : (n : ℕ) (v : Value) → R (set_local e p n v) (set_local y p n v)
    local-along n v =
        let f = λ (i : Instance). record i { residual = in_innermost (with_local n v) i.residual } in
        own e y f f (same-change f (λ i. ap (λ q. record i { residual = q }) (strip-in_innermost (with_local n v) i.residual))) h

    pub waits-along : (w : Wait) (d : Deadline) → R (waits e p w d) (waits y p w d)
    waits-along w d =
        let f = λ (i : Instance). record i { wait = w; deadline = d } in
        leaving (change_instance e p f) (change_instance y p f) (own e y f f (same-change f (λ i. refl)) h)

    -- ---- what is shared

    pub notify-along : (n : ℕ) (w : When) → Has (used.Notifies n) → IsLater w → R (notify e n w) (notify y n w)
    notify-along n w has later = acting e y (act.notifies n w) (has, later) h

    set_alike : (n : ℕ) (v : Value) (s : Signal) → Has (used.WritesSignal n) → slice_get e.channels.signals n ≡ Some s → slice_get y.channels.signals n ≡ Some s → R (set_signal e n (written (Some p) v s)) (set_signal y n (written (Some p) v s))
    set_alike n v s has here there =
        both-at R (acted p e (act.writes n v)) (set_signal e n (written (Some p) v s)) (acted p y (act.writes n v)) (set_signal y n (written (Some p) v s))
        (ap (λ ss. record e { channels = record e.channels { signals = ss } }) (set-change e.channels.signals n (written (Some p) v) s here))
        (ap (λ ss. record y { channels = record y.channels { signals = ss } }) (set-change y.channels.signals n (written (Some p) v) s there))
        (acting e y (act.writes n v) has h)

    unless_alike : (n : ℕ) (v : Value) (s : Signal) (w : Option WriterConflict) → Has (used.WritesSignal n) → slice_get e.channels.signals n ≡ Some s → slice_get y.channels.signals n ≡ Some s → Both R (written_unless e n s v p w) (written_unless y n s v p w)
    unless_alike n v s None has here there = set_alike n v s has here there
    unless_alike n v s (Some w) has here there = refl

    write_alike : (n : ℕ) (v : Value) (o : Option Signal) → Has (used.WritesSignal n) → slice_get e.channels.signals n ≡ o → slice_get y.channels.signals n ≡ o → Both R (write_signal e n v p o) (write_signal y n v p o)
    write_alike n v None has here there = h
    write_alike n v (Some s) has here there = unless_alike n v s (conflict_of (Some p) s.writer) has here there

    -- a signal is written that both have alike
    pub write-along : (n : ℕ) (v : Value) (o r : Option Signal) → Has (used.WritesSignal n) → slice_get e.channels.signals n ≡ o → slice_get y.channels.signals n ≡ r → r ≡ o → Both R (write_signal e n v p o) (write_signal y n v p r)
    write-along n v o r has here there same = subst (λ k. Both R (write_signal e n v p o) (write_signal y n v p k)) (sym same) (write_alike n v o has here (there ∙ same))

    -- a fifo is written, or read, whatever else both have in it
    pub given-along : (n : ℕ) (v : Value) (q r : Queued) → Has (used.WritesFifo n) → slice_get e.channels.fifos n ≡ Some q → slice_get y.channels.fifos n ≡ Some r → R (set_fifo e n (after_write q v)) (set_fifo y n (after_write r v))
    given-along n v q r has here there =
        both-at R (acted p e (act.gives n v)) (set_fifo e n (after_write q v)) (acted p y (act.gives n v)) (set_fifo y n (after_write r v))
        (ap (λ qs. record e { channels = record e.channels { fifos = qs } }) (set-change e.channels.fifos n (λ (z : Queued). after_write z v) q here))
        (ap (λ qs. record y { channels = record y.channels { fifos = qs } }) (set-change y.channels.fifos n (λ (z : Queued). after_write z v) r there))
        (acting e y (act.gives n v) has h)

    pub taken-along : (n : ℕ) (q r : Queued) → Has (used.ReadsFifo n) → slice_get e.channels.fifos n ≡ Some q → slice_get y.channels.fifos n ≡ Some r → R (set_fifo e n (after_read q)) (set_fifo y n (after_read r))
    taken-along n q r has here there =
        both-at R (acted p e (act.takes n)) (set_fifo e n (after_read q)) (acted p y (act.takes n)) (set_fifo y n (after_read r))
        (ap (λ qs. record e { channels = record e.channels { fifos = qs } }) (set-change e.channels.fifos n after_read q here))
        (ap (λ qs. record y { channels = record y.channels { fifos = qs } }) (set-change y.channels.fifos n after_read r there))
        (acting e y (act.takes n) has h)
