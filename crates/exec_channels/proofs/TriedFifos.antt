-- A fifo that is tried.
use Rattle.std.proofs.Common.{◌≡◌, ◌+◌, ◌-◌, ◌==◌, ◌++◌, ℕ, not, Bool, true, false, List, [], ◌∷◌, length, drop, slice_get, Option, Some, None, option_map, refl, sym, ap, ◌∙◌, subst, true≢false, arith}
use Rattle.std.specs.Prelude.{is_some, if◌then◌else◌}
use Rattle.std.proofs.lemmas.Bool.Decides.{nat_tests}
use Rattle.kernel_view.specs.LogicValues.declared.kinds.Value.{Value}
use Rattle.kernel_view.specs.LogicValues.declared.kinds.Value.TheVariants as value
use Rattle.kernel_view.specs.EventCore.declared.event.Ev.{Ev}
use Rattle.kernel_view.specs.FifoSync.Fifos.{Queued, available, free, readable, after_read, after_write}
use Rattle.flat_design.specs.declared.code.Store.{Store as Target}
use Rattle.flat_design.specs.declared.names.EventMember.TheVariants as event
use Rattle.flat_design.specs.declared.design.ChannelId.{ChannelId}
use Rattle.kernel_view.specs.SimModel.Residual.{Residual, settle}
use Rattle.kernel_view.specs.SimModel.Configuration.{Config, Channels, Instance, instance_at, arena}
use Rattle.kernel_view.specs.SimModel.Statements.{settled_in}
use Rattle.kernel_view.specs.SimModel.Reading.{Here, here}
use Rattle.kernel_view.specs.SimModel.Storing.{passes, stored, stored_if}
use Rattle.kernel_view.specs.SimModel.Waiting.{channel_event}
use Rattle.kernel_view.specs.SimModel.Channels.{with_channels, blocks, element, fifo_of, fifo_here, with_fifo, read_value, read_fifo, nb_read_value, nb_read_fifo, nb_write_fifo}
use Rattle.kernel_view.specs.KernelState.Kernel.{StandsFor}
use Rattle.kernel_view.specs.KernelState.Moves.{Moves, Steps}
use Rattle.kernel_view.specs.KernelState.declared.kernel.Kernel.{Kernel}
use Rattle.kernel_view.specs.Standings.{next_here}
use Rattle.kernel_view.proofs.KernelState.Fifos.{negated}
use Rattle.exec_channels.specs.Tried.{changed_in}
use Rattle.exec_channels.proofs.Trying.{found, not_found, changed-here, stays-here, none-here, tried, untried, goes_on, stays_on, same_steps}

abbrev changed : Option ℕ → (Queued → Queued) → Channels → Channels
changed o f y = record y { fifos = changed_in y.fifos o f }

abbrev is_free : Queued → Bool
is_free q = not (free q == 0)

abbrev written : Value → Queued → Queued
written v q = after_write q v

-- ---- a fifo

-- where nothing can be read it stays
nothing_unread : (xs : List Value) (n : ℕ) → (length xs - n == 0) ≡ false → slice_get xs 0 ≡ None → ⊥
nothing_unread [] n some none = absurd (true≢false (grind (arith, nat_tests, some)))
nothing_unread (x ∷ xs) n some none = true≢false (ap is_some none)

not_read : (q : Queued) → readable q ≡ None → after_read q ≡ q
not_read q none = by (available q == 0) refl
  where
    by : (b : Bool) → (available q == 0) ≡ b → after_read q ≡ q
    by true is = ap (λ b. if b then q else record q { unread = drop 1 q.unread; read = q.read + 1 }) is
    by false is = absurd (nothing_unread q.unread q.written is (sym (ap (λ b. if b then None else slice_get q.unread 0) is) ∙ none))

-- and where no place is free
not_written : (v : Value) (q : Queued) → (free q == 0) ≡ true → after_write q v ≡ q
not_written v q full = ap (λ b. if b then q else record q { unread = q.unread ++ v ∷ []; written = q.written + 1 }) full

-- ---- in a configuration

changed_is : (c : Config) (o : Option ℕ) (f : Queued → Queued) (q : Queued) → element c.channels.fifos o ≡ Some q → with_fifo c o (f q) ≡ with_channels c (changed o f)
changed_is c None f q at = absurd (true≢false (sym (ap is_some at)))
changed_is c (Some n) f q at = ap (λ qs. with_channels c (λ (y : Channels). record y { fifos = qs })) (sym (changed-here c.channels.fifos n f q at))

module _ (c : Config) (p : ℕ) (r : Residual) (h : Here) (to : Option Target) (ch : ChannelId) (q : Queued) (at : fifo_here c ch ≡ Some q) where
  read_done : (v : Value) → readable q ≡ Some v → read_fifo c p r h to ch (fifo_here c ch) ≡ stored_if (with_channels (passes c p r) (changed (fifo_of ch) after_read)) p h to v
  read_done v is = ap (read_fifo c p r h to ch) at ∙ ap (read_value c p r h to ch q) is ∙ ap (λ d. stored_if d p h to v) (changed_is (passes c p r) (fifo_of ch) after_read q at)

  read_waits : readable q ≡ None → read_fifo c p r h to ch (fifo_here c ch) ≡ blocks c p r (channel_event event.DataWritten ch)
  read_waits is = ap (read_fifo c p r h to ch) at ∙ ap (read_value c p r h to ch q) is

  nb_read_done : (x : Target) (v : Value) → readable q ≡ Some v
      → nb_read_fifo c p r h to x ch (fifo_here c ch) ≡ stored_if (stored_if (with_channels (passes c p r) (changed (fifo_of ch) after_read)) p h to (value.Bool true)) p h (Some x) v
  nb_read_done x v is = ap (nb_read_fifo c p r h to x ch) at ∙ ap (nb_read_value c p r h to x ch q) is
      ∙ ap (λ d. stored (stored_if d p h to (value.Bool true)) p h x v) (changed_is (passes c p r) (fifo_of ch) after_read q at)

  nb_read_not : (x : Target) → readable q ≡ None → nb_read_fifo c p r h to x ch (fifo_here c ch) ≡ stored_if (passes c p r) p h to (value.Bool false)
  nb_read_not x is = ap (nb_read_fifo c p r h to x ch) at ∙ ap (nb_read_value c p r h to x ch q) is

  nb_write_done : (v : Value) → (free q == 0) ≡ false → nb_write_fifo c p r h to ch v (fifo_here c ch) ≡ stored_if (with_channels (passes c p r) (changed (fifo_of ch) (written v))) p h to (value.Bool true)
  nb_write_done v room = ap (nb_write_fifo c p r h to ch v) at
      ∙ ap (λ b. if b then stored_if (passes c p r) p h to (value.Bool false) else stored_if (with_fifo (passes c p r) (fifo_of ch) (after_write q v)) p h to (value.Bool true)) room
      ∙ ap (λ d. stored_if d p h to (value.Bool true)) (changed_is (passes c p r) (fifo_of ch) (written v) q at)

  nb_write_not : (v : Value) → (free q == 0) ≡ true → nb_write_fifo c p r h to ch v (fifo_here c ch) ≡ stored_if (passes c p r) p h to (value.Bool false)
  nb_write_not v full = ap (nb_write_fifo c p r h to ch v) at
      ∙ ap (λ b. if b then stored_if (passes c p r) p h to (value.Bool false) else stored_if (with_fifo (passes c p r) (fifo_of ch) (after_write q v)) p h to (value.Bool true)) full

-- ---- in a kernel

module _ (k : Kernel) (x : Channels) (p : ℕ) (ch : ChannelId) where
  abbrev fifo_in : Option Queued
  fifo_in = element k.channels.fifos (fifo_of ch)

  there_too : (c : Config) (o : Option Queued) → c.channels ≡ k.channels → fifo_in ≡ o → fifo_here c ch ≡ o
  there_too c o same is = ap (λ y. element y.fifos (fifo_of ch)) same ∙ is

  -- a read
  module _ (left : x ≡ changed (fifo_of ch) after_read k.channels) where
    stays : Some None ≡ option_map readable fifo_in → changed (fifo_of ch) after_read k.channels ≡ k.channels
    stays is =
        let t = found readable fifo_in None is in
        ap (λ qs. record k.channels { fifos = qs }) (stays-here k.channels.fifos (fifo_of ch) after_read t.0 t.1.0 (not_read t.0 t.1.1))

    stays_none : None ≡ option_map readable fifo_in → changed (fifo_of ch) after_read k.channels ≡ k.channels
    stays_none is = ap (λ qs. record k.channels { fifos = qs }) (none-here k.channels.fifos (fifo_of ch) after_read (not_found readable fifo_in is))

    pub refused_moves : Some None ≡ option_map readable fifo_in → (l : Kernel) → Moves (record k { channels = x }) l (λ c. c) → Moves k l (λ c. c)
    refused_moves is l next c h = next c (untried k x (changed (fifo_of ch) after_read) left (stays is) c h)

    module _ (to : Option Target) where
      pub blocked_steps : Some None ≡ option_map readable fifo_in → (l : Kernel) (e : Ev) → e ≡ channel_event event.DataWritten ch → Steps (record k { channels = x }) l p (λ c q i r. blocks c q r e)
          → Steps k l p (λ c q i r. read_fifo c q r (here c q i r) to ch (fifo_here c ch))
      blocked_steps is l e own next =
          let t = found readable fifo_in None is in
          same_steps k l p (λ c q i r. blocks c q r e) (λ c q i r. read_fifo c q r (here c q i r) to ch (fifo_here c ch))
          (λ c i r same. ap (blocks c p r) own ∙ sym (read_waits c p r (here c p i r) to ch t.0 (there_too c (Some t.0) same t.1.0) t.1.1))
          (stays_on k x (changed (fifo_of ch) after_read) left p l (stays is) (λ c q i r. blocks c q r e) next)

      pub no_fifo_steps : None ≡ option_map readable fifo_in → (l : Kernel) → Steps (record k { channels = x }) l p (λ c q i r. passes c q r) → Steps k l p (λ c q i r. read_fifo c q r (here c q i r) to ch (fifo_here c ch))
      no_fifo_steps is l next =
          same_steps k l p (λ c q i r. passes c q r) (λ c q i r. read_fifo c q r (here c q i r) to ch (fifo_here c ch))
          (λ c i r same. sym (ap (read_fifo c p r (here c p i r) to ch) (there_too c None same (not_found readable fifo_in is))))
          (stays_on k x (changed (fifo_of ch) after_read) left p l (stays_none is) (λ c q i r. passes c q r) next)

      -- the value is put where it was to go
      pub read_steps : (v : Value) → Some (Some v) ≡ option_map readable fifo_in → (l : Kernel) → Steps (record k { channels = x }) l p (λ c q i r. passes c q r)
          → (m : Kernel) → ((c : Config) (i : Instance) → StandsFor k c → instance_at c p ≡ Some i → Moves l m (λ d. stored_if d p (next_here c p i) to v))
          → Steps k m p (λ c q i r. read_fifo c q r (here c q i r) to ch (fifo_here c ch))
      read_steps v is l next m puts c i h there =
          let t = found readable fifo_in (Some v) is in
          let d = settled_in c p i.residual in
          let r = settle (arena c) i.residual in
          subst (StandsFor m) (sym (read_done d p r (next_here c p i) to ch t.0 (there_too d (Some t.0) h.channels t.1.0) v t.1.1))
          (puts c i h there _ (goes_on k x (changed (fifo_of ch) after_read) left p l next c i h there))

    -- a read that does not block, of which the statement is past
    module _ (c : Config) (r : Residual) (h : Here) (to : Option Target) (s : Target) (stands : StandsFor k (passes c p r)) where
      pub nb_read_stands : (v : Value) → Some (Some v) ≡ option_map readable fifo_in → (l m : Kernel) → Moves (record k { channels = x }) l (λ d. stored_if d p h to (value.Bool true)) → Moves l m (λ d. stored_if d p h (Some s) v)
          → StandsFor m (nb_read_fifo c p r h to s ch (fifo_here c ch))
      nb_read_stands v is l m tells puts =
          let t = found readable fifo_in (Some v) is in
          subst (StandsFor m) (sym (nb_read_done c p r h to ch t.0 (there_too (passes c p r) (Some t.0) stands.channels t.1.0) s v t.1.1))
          (puts _ (tells _ (tried k x (changed (fifo_of ch) after_read) left (passes c p r) stands)))

      pub not_read_stands : Some None ≡ option_map readable fifo_in → (l : Kernel) → Moves (record k { channels = x }) l (λ d. stored_if d p h to (value.Bool false)) → StandsFor l (nb_read_fifo c p r h to s ch (fifo_here c ch))
      not_read_stands is l tells =
          let t = found readable fifo_in None is in
          subst (StandsFor l) (sym (nb_read_not c p r h to ch t.0 (there_too (passes c p r) (Some t.0) stands.channels t.1.0) s t.1.1))
          (tells _ (untried k x (changed (fifo_of ch) after_read) left (stays is) (passes c p r) stands))

      pub no_read_stands : None ≡ option_map readable fifo_in → StandsFor (record k { channels = x }) (nb_read_fifo c p r h to s ch (fifo_here c ch))
      no_read_stands is =
          subst (StandsFor (record k { channels = x })) (sym (ap (nb_read_fifo c p r h to s ch) (there_too (passes c p r) None stands.channels (not_found readable fifo_in is))))
          (untried k x (changed (fifo_of ch) after_read) left (stays_none is) (passes c p r) stands)

  -- a write that does not block, of which the statement is past
  module _ (v : Value) (left : x ≡ changed (fifo_of ch) (written v) k.channels) (c : Config) (r : Residual) (h : Here) (to : Option Target) (stands : StandsFor k (passes c p r)) where
    pub nb_write_stands : (done : Bool) → Some done ≡ option_map is_free fifo_in → (l : Kernel) → Moves (record k { channels = x }) l (λ d. stored_if d p h to (value.Bool done)) → StandsFor l (nb_write_fifo c p r h to ch v (fifo_here c ch))
    nb_write_stands true is l tells =
        let t = found is_free fifo_in true is in
        subst (StandsFor l) (sym (nb_write_done c p r h to ch t.0 (there_too (passes c p r) (Some t.0) stands.channels t.1.0) v (negated (free t.0 == 0) true t.1.1)))
        (tells _ (tried k x (changed (fifo_of ch) (written v)) left (passes c p r) stands))
    nb_write_stands false is l tells =
        let t = found is_free fifo_in false is in
        let full = negated (free t.0 == 0) false t.1.1 in
        subst (StandsFor l) (sym (nb_write_not c p r h to ch t.0 (there_too (passes c p r) (Some t.0) stands.channels t.1.0) v full))
        (tells _ (untried k x (changed (fifo_of ch) (written v)) left
        (ap (λ qs. record k.channels { fifos = qs }) (stays-here k.channels.fifos (fifo_of ch) (written v) t.0 t.1.0 (not_written v t.0 full))) (passes c p r) stands))

    pub no_write_stands : None ≡ option_map is_free fifo_in → StandsFor (record k { channels = x }) (nb_write_fifo c p r h to ch v (fifo_here c ch))
    no_write_stands is =
        let none = not_found is_free fifo_in is in
        subst (StandsFor (record k { channels = x })) (sym (ap (nb_write_fifo c p r h to ch v) (there_too (passes c p r) None stands.channels none)))
        (untried k x (changed (fifo_of ch) (written v)) left (ap (λ qs. record k.channels { fifos = qs }) (none-here k.channels.fifos (fifo_of ch) (written v) none)) (passes c p r) stands)
