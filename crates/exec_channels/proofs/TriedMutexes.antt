-- A mutex that is tried.
use Rattle.std.proofs.Common.{◌≡◌, ℕ, Bool, true, false, Option, Some, None, option_map, refl, sym, ap, ◌∙◌, subst, true≢false}
use Rattle.std.specs.Prelude.{is_some, if◌then◌else◌}
use Rattle.kernel_view.specs.EventCore.declared.event.Ev.{Ev}
use Rattle.kernel_view.specs.FifoSync.Locks.{is_owner, is_unlocked, locked_by, unlocked_by}
use Rattle.flat_design.specs.declared.code.Store.{Store as Target}
use Rattle.flat_design.specs.declared.names.EventMember.TheVariants as event
use Rattle.flat_design.specs.declared.design.ChannelId.{ChannelId}
use Rattle.kernel_view.specs.SimModel.Residual.{Residual}
use Rattle.kernel_view.specs.SimModel.Configuration.{Config, Channels}
use Rattle.kernel_view.specs.SimModel.Reading.{Here}
use Rattle.kernel_view.specs.SimModel.Storing.{passes}
use Rattle.kernel_view.specs.SimModel.Waits.{fire}
use Rattle.kernel_view.specs.SimModel.Waiting.{channel_event}
use Rattle.kernel_view.specs.SimModel.Channels.{with_channels, blocks, element, mutex_of, set_mutex, answered, lock_mutex, lock_at, trylock_mutex, trylock_at, unlock_mutex, unlock_at}
use Rattle.kernel_view.specs.KernelState.Kernel.{StandsFor}
use Rattle.kernel_view.specs.KernelState.Moves.{Moves, Steps}
use Rattle.kernel_view.specs.KernelState.declared.kernel.Kernel.{Kernel}
use Rattle.exec_channels.specs.Tried.{changed_in}
use Rattle.exec_channels.proofs.Trying.{found, not_found, changed-here, stays-here, none-here, tried, untried, goes_on, stays_on, same_steps}

abbrev locked : Option ℕ → ℕ → Channels → Channels
locked o p y = record y { mutexes = changed_in y.mutexes o (locked_by p) }

abbrev freed : Option ℕ → ℕ → Channels → Channels
freed o p y = record y { mutexes = changed_in y.mutexes o (unlocked_by p) }

-- ---- in a configuration

-- one that is not taken, or not given up, stays
not_locked : (p : ℕ) (m : Option ℕ) → is_unlocked m ≡ false → locked_by p m ≡ m
not_locked p None is = absurd (true≢false is)
not_locked p (Some owner) is = refl

not_freed : (p : ℕ) (m : Option ℕ) → is_owner p m ≡ false → unlocked_by p m ≡ m
not_freed p m is = ap (λ b. if b then None else m) is

module _ (c : Config) (p : ℕ) where
  lock_done : (r : Residual) (ch : ChannelId) (o : Option ℕ) (m : Option ℕ) → element c.channels.mutexes o ≡ Some m → is_unlocked m ≡ true → lock_at c p r ch o ≡ with_channels (passes c p r) (locked o p)
  lock_done r ch None m at free = absurd (true≢false (sym (ap is_some at)))
  lock_done r ch (Some n) m at free = ap (lock_mutex c p r n ch) at
      ∙ ap (λ b. if b then set_mutex (passes c p r) n (locked_by p m) else blocks c p r (channel_event event.Own ch)) free
      ∙ ap (λ ms. with_channels (passes c p r) (λ (y : Channels). record y { mutexes = ms })) (sym (changed-here c.channels.mutexes n (locked_by p) m at))

  lock_waits : (r : Residual) (ch : ChannelId) (o : Option ℕ) (m : Option ℕ) → element c.channels.mutexes o ≡ Some m → is_unlocked m ≡ false → lock_at c p r ch o ≡ blocks c p r (channel_event event.Own ch)
  lock_waits r ch None m at taken = absurd (true≢false (sym (ap is_some at)))
  lock_waits r ch (Some n) m at taken = ap (lock_mutex c p r n ch) at
      ∙ ap (λ b. if b then set_mutex (passes c p r) n (locked_by p m) else blocks c p r (channel_event event.Own ch)) taken

  lock_none : (r : Residual) (ch : ChannelId) (o : Option ℕ) → element c.channels.mutexes o ≡ None → lock_at c p r ch o ≡ passes c p r
  lock_none r ch None none = refl
  lock_none r ch (Some n) none = ap (lock_mutex c p r n ch) none

  module _ (h : Here) (x : Option Target) where
    trylock_there : (o : Option ℕ) (m : Option ℕ) → element c.channels.mutexes o ≡ Some m → trylock_at c p h x o ≡ answered (with_channels c (locked o p)) p h x (is_unlocked m)
    trylock_there None m at = absurd (true≢false (sym (ap is_some at)))
    trylock_there (Some n) m at = ap (trylock_mutex c p h x n) at
        ∙ ap (λ ms. answered (with_channels c (λ (y : Channels). record y { mutexes = ms })) p h x (is_unlocked m)) (sym (changed-here c.channels.mutexes n (locked_by p) m at))

    trylock_none : (o : Option ℕ) → element c.channels.mutexes o ≡ None → trylock_at c p h x o ≡ c
    trylock_none None none = refl
    trylock_none (Some n) none = ap (trylock_mutex c p h x n) none

    unlock_done : (ch : ChannelId) (o : Option ℕ) (m : Option ℕ) → element c.channels.mutexes o ≡ Some m → is_owner p m ≡ true → unlock_at c p h x ch o ≡ answered (fire (with_channels c (freed o p)) (channel_event event.Own ch)) p h x true
    unlock_done ch None m at own = absurd (true≢false (sym (ap is_some at)))
    unlock_done ch (Some n) m at own = ap (unlock_mutex c p h x n ch) at
        ∙ ap (λ b. if b then answered (fire (set_mutex c n (unlocked_by p m)) (channel_event event.Own ch)) p h x true else answered c p h x false) own
        ∙ ap (λ ms. answered (fire (with_channels c (λ (y : Channels). record y { mutexes = ms })) (channel_event event.Own ch)) p h x true) (sym (changed-here c.channels.mutexes n (unlocked_by p) m at))

    unlock_not : (ch : ChannelId) (o : Option ℕ) (m : Option ℕ) → element c.channels.mutexes o ≡ Some m → is_owner p m ≡ false → unlock_at c p h x ch o ≡ answered c p h x false
    unlock_not ch None m at other = absurd (true≢false (sym (ap is_some at)))
    unlock_not ch (Some n) m at other = ap (unlock_mutex c p h x n ch) at
        ∙ ap (λ b. if b then answered (fire (set_mutex c n (unlocked_by p m)) (channel_event event.Own ch)) p h x true else answered c p h x false) other

    unlock_none : (ch : ChannelId) (o : Option ℕ) → element c.channels.mutexes o ≡ None → unlock_at c p h x ch o ≡ c
    unlock_none ch None none = refl
    unlock_none ch (Some n) none = ap (unlock_mutex c p h x n ch) none

-- ---- in a kernel

module _ (k : Kernel) (x : Channels) (p : ℕ) (ch : ChannelId) where
  abbrev mutex_in : Option (Option ℕ)
  mutex_in = element k.channels.mutexes (mutex_of ch)

  there_too : (c : Config) (o : Option (Option ℕ)) → c.channels ≡ k.channels → mutex_in ≡ o → element c.channels.mutexes (mutex_of ch) ≡ o
  there_too c o same is = ap (λ y. element y.mutexes (mutex_of ch)) same ∙ is

  module _ (left : x ≡ locked (mutex_of ch) p k.channels) where
    stays : Some false ≡ option_map is_unlocked mutex_in → locked (mutex_of ch) p k.channels ≡ k.channels
    stays is =
        let t = found is_unlocked mutex_in false is in
        ap (λ ms. record k.channels { mutexes = ms }) (stays-here k.channels.mutexes (mutex_of ch) (locked_by p) t.0 t.1.0 (not_locked p t.0 t.1.1))

    stays_none : None ≡ option_map is_unlocked mutex_in → locked (mutex_of ch) p k.channels ≡ k.channels
    stays_none is = ap (λ ms. record k.channels { mutexes = ms }) (none-here k.channels.mutexes (mutex_of ch) (locked_by p) (not_found is_unlocked mutex_in is))

    pub lock_steps : Some true ≡ option_map is_unlocked mutex_in → (l : Kernel) → Steps (record k { channels = x }) l p (λ c q i r. passes c q r) → Steps k l p (λ c q i r. lock_at c q r ch (mutex_of ch))
    lock_steps is l next =
        let t = found is_unlocked mutex_in true is in
        same_steps k l p (λ c q i r. with_channels (passes c q r) (locked (mutex_of ch) p)) (λ c q i r. lock_at c q r ch (mutex_of ch))
        (λ c i r same. sym (lock_done c p r ch (mutex_of ch) t.0 (there_too c (Some t.0) same t.1.0) t.1.1))
        (goes_on k x (locked (mutex_of ch) p) left p l next)

    pub blocked_steps : Some false ≡ option_map is_unlocked mutex_in → (l : Kernel) (e : Ev) → e ≡ channel_event event.Own ch → Steps (record k { channels = x }) l p (λ c q i r. blocks c q r e) → Steps k l p (λ c q i r. lock_at c q r ch (mutex_of ch))
    blocked_steps is l e own next =
        let t = found is_unlocked mutex_in false is in
        same_steps k l p (λ c q i r. blocks c q r e) (λ c q i r. lock_at c q r ch (mutex_of ch))
        (λ c i r same. ap (blocks c p r) own ∙ sym (lock_waits c p r ch (mutex_of ch) t.0 (there_too c (Some t.0) same t.1.0) t.1.1))
        (stays_on k x (locked (mutex_of ch) p) left p l (stays is) (λ c q i r. blocks c q r e) next)

    pub refused_moves : Some false ≡ option_map is_unlocked mutex_in → (l : Kernel) → Moves (record k { channels = x }) l (λ c. c) → Moves k l (λ c. c)
    refused_moves is l next c h = next c (untried k x (locked (mutex_of ch) p) left (stays is) c h)

    pub no_mutex_steps : None ≡ option_map is_unlocked mutex_in → (l : Kernel) → Steps (record k { channels = x }) l p (λ c q i r. passes c q r) → Steps k l p (λ c q i r. lock_at c q r ch (mutex_of ch))
    no_mutex_steps is l next =
        same_steps k l p (λ c q i r. passes c q r) (λ c q i r. lock_at c q r ch (mutex_of ch))
        (λ c i r same. sym (lock_none c p r ch (mutex_of ch) (there_too c None same (not_found is_unlocked mutex_in is))))
        (stays_on k x (locked (mutex_of ch) p) left p l (stays_none is) (λ c q i r. passes c q r) next)

    -- a try
    module _ (h : Here) (to : Option Target) where
      pub trylock_moves : (done : Bool) → Some done ≡ option_map is_unlocked mutex_in → (l : Kernel) → Moves (record k { channels = x }) l (λ c. answered c p h to done) → Moves k l (λ c. trylock_at c p h to (mutex_of ch))
      trylock_moves done is l answers c stands =
          let t = found is_unlocked mutex_in done is in
          subst (StandsFor l)
          (ap (answered (with_channels c (locked (mutex_of ch) p)) p h to) (sym t.1.1) ∙ sym (trylock_there c p h to (mutex_of ch) t.0 (there_too c (Some t.0) stands.channels t.1.0)))
          (answers _ (tried k x (locked (mutex_of ch) p) left c stands))

      pub no_trylock_moves : None ≡ option_map is_unlocked mutex_in → Moves k (record k { channels = x }) (λ c. trylock_at c p h to (mutex_of ch))
      no_trylock_moves is c stands =
          subst (StandsFor (record k { channels = x })) (sym (trylock_none c p h to (mutex_of ch) (there_too c None stands.channels (not_found is_unlocked mutex_in is))))
          (untried k x (locked (mutex_of ch) p) left (stays_none is) c stands)

  -- an unlock
  module _ (left : x ≡ freed (mutex_of ch) p k.channels) (h : Here) (to : Option Target) where
    pub unlock_moves : Some true ≡ option_map (is_owner p) mutex_in → (l m : Kernel) (e : Ev) → e ≡ channel_event event.Own ch
        → Moves (record k { channels = x }) l (λ c. fire c e) → Moves l m (λ c. answered c p h to true) → Moves k m (λ c. unlock_at c p h to ch (mutex_of ch))
    unlock_moves is l m e own fires answers c stands =
        let t = found (is_owner p) mutex_in true is in
        subst (StandsFor m)
        (ap (λ y. answered (fire (with_channels c (freed (mutex_of ch) p)) y) p h to true) own ∙ sym (unlock_done c p h to ch (mutex_of ch) t.0 (there_too c (Some t.0) stands.channels t.1.0) t.1.1))
        (answers _ (fires _ (tried k x (freed (mutex_of ch) p) left c stands)))

    pub not_unlocked_moves : Some false ≡ option_map (is_owner p) mutex_in → (m : Kernel) → Moves (record k { channels = x }) m (λ c. answered c p h to false) → Moves k m (λ c. unlock_at c p h to ch (mutex_of ch))
    not_unlocked_moves is m answers c stands =
        let t = found (is_owner p) mutex_in false is in
        let same : freed (mutex_of ch) p k.channels ≡ k.channels = ap (λ ms. record k.channels { mutexes = ms }) (stays-here k.channels.mutexes (mutex_of ch) (unlocked_by p) t.0 t.1.0 (not_freed p t.0 t.1.1)) in
        subst (StandsFor m) (sym (unlock_not c p h to ch (mutex_of ch) t.0 (there_too c (Some t.0) stands.channels t.1.0) t.1.1))
        (answers _ (untried k x (freed (mutex_of ch) p) left same c stands))

    pub no_unlock_moves : None ≡ option_map (is_owner p) mutex_in → Moves k (record k { channels = x }) (λ c. unlock_at c p h to ch (mutex_of ch))
    no_unlock_moves is c stands =
        let none = not_found (is_owner p) mutex_in is in
        subst (StandsFor (record k { channels = x })) (sym (unlock_none c p h to ch (mutex_of ch) (there_too c None stands.channels none)))
        (untried k x (freed (mutex_of ch) p) left (ap (λ ms. record k.channels { mutexes = ms }) (none-here k.channels.mutexes (mutex_of ch) (unlocked_by p) none)) c stands)
