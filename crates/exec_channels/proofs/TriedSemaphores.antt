-- A semaphore that is tried.
use Rattle.std.proofs.Common.{◌≡◌, ◌<◌, ◌+◌, ⊎_elim, ℕ, not, Bool, true, false, List, All, slice_get, Option, Some, None, option_map, refl, sym, ap, ◌∙◌, subst, true≢false, arith}
use Rattle.std.specs.Prelude.{is_some, unwrap_or, if◌then◌else◌}
use Rattle.std.proofs.lemmas.Bool.Decides.{nat_tests}
use Rattle.std.proofs.lemmas.List.Elements.{All-get_or}
use Rattle.std.proofs.lemmas.Option.{slice_get_cases}
use Rattle.kernel_view.specs.EventCore.declared.event.Ev.{Ev}
use Rattle.kernel_view.specs.FifoSync.Locks.{is_used_up}
use Rattle.flat_design.specs.declared.code.Store.{Store as Target}
use Rattle.flat_design.specs.declared.names.EventMember.TheVariants as event
use Rattle.flat_design.specs.declared.design.ChannelId.{ChannelId}
use Rattle.kernel_view.specs.SimModel.Residual.{Residual}
use Rattle.kernel_view.specs.SimModel.Configuration.{Config, Channels}
use Rattle.kernel_view.specs.SimModel.Reading.{Here}
use Rattle.kernel_view.specs.SimModel.Storing.{passes}
use Rattle.kernel_view.specs.SimModel.Waits.{fire}
use Rattle.kernel_view.specs.SimModel.Waiting.{channel_event}
use Rattle.kernel_view.specs.SimModel.Channels.{with_channels, blocks, element, semaphore_of, set_semaphore, taken_from, answered, sem_wait_value, sem_wait_at, sem_trywait_value, sem_trywait_at, post_value, post_at}
use Rattle.kernel_view.specs.KernelState.Kernel.{StandsFor}
use Rattle.kernel_view.specs.KernelState.Moves.{Moves, Steps}
use Rattle.kernel_view.specs.KernelState.declared.kernel.Kernel.{Kernel}
use Rattle.kernel_view.proofs.KernelState.Fifos.{negated}
use Rattle.exec_channels.specs.Tried.{changed_in}
use Rattle.exec_channels.proofs.Trying.{found, not_found, changed-here, stays-here, none-here, tried, untried, goes_on, stays_on, same_steps}

abbrev taken : Option ℕ → Channels → Channels
taken o y = record y { semaphores = changed_in y.semaphores o taken_from }

abbrev risen : Option ℕ → Channels → Channels
risen o y = record y { semaphores = changed_in y.semaphores o (λ v. v + 1) }

-- ---- in a configuration

-- one that is used up stays
not_taken : (v : ℕ) → is_used_up v ≡ true → taken_from v ≡ v
not_taken v is = grind (arith, nat_tests)

-- the value that is read, where each is below the greatest
pub below_greatest : (xs : List ℕ) (n m : ℕ) → 0 < m → All (λ v. v < m) xs → unwrap_or (slice_get xs n) 0 < m
below_greatest xs n m some all =
    let P : Option ℕ → Type 0 = λ o. unwrap_or o 0 < m in
    let Q : ℕ → Type 0 = λ v. v < m in
    ⊎_elim (λ t. subst P (sym t.2) (subst Q t.3 (All-get_or Q xs n t.0 t.1 all))) (λ none. subst P (sym none.1) some) (slice_get_cases xs n).1

-- what is there, where something is
pub there : {A : Type 0} (o : Option A) → true ≡ is_some o → (x : A) × (o ≡ Some x)
there None is = absurd (true≢false is)
there (Some x) is = (x, refl)

pub not_there : {A : Type 0} (o : Option A) → false ≡ is_some o → o ≡ None
not_there None is = refl
not_there (Some x) is = absurd (true≢false (sym is))

module _ (c : Config) (p : ℕ) where
  wait_done : (r : Residual) (ch : ChannelId) (o : Option ℕ) (v : ℕ) → element c.channels.semaphores o ≡ Some v → is_used_up v ≡ false → sem_wait_at c p r ch o ≡ with_channels (passes c p r) (taken o)
  wait_done r ch None v at left = absurd (true≢false (sym (ap is_some at)))
  wait_done r ch (Some n) v at left = ap (sem_wait_value c p r n ch) at
      ∙ ap (λ b. if b then blocks c p r (channel_event event.Own ch) else set_semaphore (passes c p r) n (taken_from v)) left
      ∙ ap (λ vs. with_channels (passes c p r) (λ (y : Channels). record y { semaphores = vs })) (sym (changed-here c.channels.semaphores n taken_from v at))

  wait_waits : (r : Residual) (ch : ChannelId) (o : Option ℕ) (v : ℕ) → element c.channels.semaphores o ≡ Some v → is_used_up v ≡ true → sem_wait_at c p r ch o ≡ blocks c p r (channel_event event.Own ch)
  wait_waits r ch None v at none = absurd (true≢false (sym (ap is_some at)))
  wait_waits r ch (Some n) v at none = ap (sem_wait_value c p r n ch) at
      ∙ ap (λ b. if b then blocks c p r (channel_event event.Own ch) else set_semaphore (passes c p r) n (taken_from v)) none

  wait_none : (r : Residual) (ch : ChannelId) (o : Option ℕ) → element c.channels.semaphores o ≡ None → sem_wait_at c p r ch o ≡ passes c p r
  wait_none r ch None none = refl
  wait_none r ch (Some n) none = ap (sem_wait_value c p r n ch) none

  module _ (h : Here) (x : Option Target) where
    trywait_done : (o : Option ℕ) (v : ℕ) → element c.channels.semaphores o ≡ Some v → is_used_up v ≡ false → sem_trywait_at c p h x o ≡ answered (with_channels c (taken o)) p h x true
    trywait_done None v at left = absurd (true≢false (sym (ap is_some at)))
    trywait_done (Some n) v at left = ap (sem_trywait_value c p h x n) at
        ∙ ap (λ b. if b then answered c p h x false else answered (set_semaphore c n (taken_from v)) p h x true) left
        ∙ ap (λ vs. answered (with_channels c (λ (y : Channels). record y { semaphores = vs })) p h x true) (sym (changed-here c.channels.semaphores n taken_from v at))

    trywait_not : (o : Option ℕ) (v : ℕ) → element c.channels.semaphores o ≡ Some v → is_used_up v ≡ true → sem_trywait_at c p h x o ≡ answered c p h x false
    trywait_not None v at none = absurd (true≢false (sym (ap is_some at)))
    trywait_not (Some n) v at none = ap (sem_trywait_value c p h x n) at
        ∙ ap (λ b. if b then answered c p h x false else answered (set_semaphore c n (taken_from v)) p h x true) none

    trywait_none : (o : Option ℕ) → element c.channels.semaphores o ≡ None → sem_trywait_at c p h x o ≡ c
    trywait_none None none = refl
    trywait_none (Some n) none = ap (sem_trywait_value c p h x n) none

post_done : (c : Config) (ch : ChannelId) (o : Option ℕ) (v : ℕ) → element c.channels.semaphores o ≡ Some v → post_at c ch o ≡ fire (with_channels c (risen o)) (channel_event event.Own ch)
post_done c ch None v at = absurd (true≢false (sym (ap is_some at)))
post_done c ch (Some n) v at = ap (post_value c n ch) at
    ∙ ap (λ vs. fire (with_channels c (λ (y : Channels). record y { semaphores = vs })) (channel_event event.Own ch)) (sym (changed-here c.channels.semaphores n (λ v. v + 1) v at))

post_none : (c : Config) (ch : ChannelId) (o : Option ℕ) → element c.channels.semaphores o ≡ None → post_at c ch o ≡ c
post_none c ch None none = refl
post_none c ch (Some n) none = ap (post_value c n ch) none

-- ---- in a kernel

module _ (k : Kernel) (x : Channels) (p : ℕ) (ch : ChannelId) where
  abbrev semaphore_in : Option ℕ
  semaphore_in = element k.channels.semaphores (semaphore_of ch)

  abbrev is_left : ℕ → Bool
  is_left v = not (is_used_up v)

  there_too : (c : Config) (o : Option ℕ) → c.channels ≡ k.channels → semaphore_in ≡ o → element c.channels.semaphores (semaphore_of ch) ≡ o
  there_too c o same is = ap (λ y. element y.semaphores (semaphore_of ch)) same ∙ is

  module _ (left : x ≡ taken (semaphore_of ch) k.channels) where
    stays : Some false ≡ option_map is_left semaphore_in → taken (semaphore_of ch) k.channels ≡ k.channels
    stays is =
        let t = found is_left semaphore_in false is in
        ap (λ vs. record k.channels { semaphores = vs }) (stays-here k.channels.semaphores (semaphore_of ch) taken_from t.0 t.1.0 (not_taken t.0 (negated (is_used_up t.0) false t.1.1)))

    stays_none : None ≡ option_map is_left semaphore_in → taken (semaphore_of ch) k.channels ≡ k.channels
    stays_none is = ap (λ vs. record k.channels { semaphores = vs }) (none-here k.channels.semaphores (semaphore_of ch) taken_from (not_found is_left semaphore_in is))

    pub wait_steps : Some true ≡ option_map is_left semaphore_in → (l : Kernel) → Steps (record k { channels = x }) l p (λ c q i r. passes c q r) → Steps k l p (λ c q i r. sem_wait_at c q r ch (semaphore_of ch))
    wait_steps is l next =
        let t = found is_left semaphore_in true is in
        same_steps k l p (λ c q i r. with_channels (passes c q r) (taken (semaphore_of ch))) (λ c q i r. sem_wait_at c q r ch (semaphore_of ch))
        (λ c i r same. sym (wait_done c p r ch (semaphore_of ch) t.0 (there_too c (Some t.0) same t.1.0) (negated (is_used_up t.0) true t.1.1)))
        (goes_on k x (taken (semaphore_of ch)) left p l next)

    pub blocked_steps : Some false ≡ option_map is_left semaphore_in → (l : Kernel) (e : Ev) → e ≡ channel_event event.Own ch → Steps (record k { channels = x }) l p (λ c q i r. blocks c q r e) → Steps k l p (λ c q i r. sem_wait_at c q r ch (semaphore_of ch))
    blocked_steps is l e own next =
        let t = found is_left semaphore_in false is in
        same_steps k l p (λ c q i r. blocks c q r e) (λ c q i r. sem_wait_at c q r ch (semaphore_of ch))
        (λ c i r same. ap (blocks c p r) own ∙ sym (wait_waits c p r ch (semaphore_of ch) t.0 (there_too c (Some t.0) same t.1.0) (negated (is_used_up t.0) false t.1.1)))
        (stays_on k x (taken (semaphore_of ch)) left p l (stays is) (λ c q i r. blocks c q r e) next)

    pub refused_moves : Some false ≡ option_map is_left semaphore_in → (l : Kernel) → Moves (record k { channels = x }) l (λ c. c) → Moves k l (λ c. c)
    refused_moves is l next c h = next c (untried k x (taken (semaphore_of ch)) left (stays is) c h)

    pub no_semaphore_steps : None ≡ option_map is_left semaphore_in → (l : Kernel) → Steps (record k { channels = x }) l p (λ c q i r. passes c q r) → Steps k l p (λ c q i r. sem_wait_at c q r ch (semaphore_of ch))
    no_semaphore_steps is l next =
        same_steps k l p (λ c q i r. passes c q r) (λ c q i r. sem_wait_at c q r ch (semaphore_of ch))
        (λ c i r same. sym (wait_none c p r ch (semaphore_of ch) (there_too c None same (not_found is_left semaphore_in is))))
        (stays_on k x (taken (semaphore_of ch)) left p l (stays_none is) (λ c q i r. passes c q r) next)

    -- a try
    module _ (h : Here) (to : Option Target) where
      pub trywait_moves : (done : Bool) → Some done ≡ option_map is_left semaphore_in → (l : Kernel) → Moves (record k { channels = x }) l (λ c. answered c p h to done) → Moves k l (λ c. sem_trywait_at c p h to (semaphore_of ch))
      trywait_moves true is l answers c stands =
          let t = found is_left semaphore_in true is in
          subst (StandsFor l) (sym (trywait_done c p h to (semaphore_of ch) t.0 (there_too c (Some t.0) stands.channels t.1.0) (negated (is_used_up t.0) true t.1.1)))
          (answers _ (tried k x (taken (semaphore_of ch)) left c stands))
      trywait_moves false is l answers c stands =
          let t = found is_left semaphore_in false is in
          subst (StandsFor l) (sym (trywait_not c p h to (semaphore_of ch) t.0 (there_too c (Some t.0) stands.channels t.1.0) (negated (is_used_up t.0) false t.1.1)))
          (answers _ (untried k x (taken (semaphore_of ch)) left (stays is) c stands))

      pub no_trywait_moves : None ≡ option_map is_left semaphore_in → Moves k (record k { channels = x }) (λ c. sem_trywait_at c p h to (semaphore_of ch))
      no_trywait_moves is c stands =
          subst (StandsFor (record k { channels = x })) (sym (trywait_none c p h to (semaphore_of ch) (there_too c None stands.channels (not_found is_left semaphore_in is))))
          (untried k x (taken (semaphore_of ch)) left (stays_none is) c stands)

  -- a post
  module _ (left : x ≡ risen (semaphore_of ch) k.channels) (l : Kernel) (next : Steps (record k { channels = x }) l p (λ c q i r. passes c q r)) where
    pub post_steps : true ≡ is_some semaphore_in → (m : Kernel) (e : Ev) → e ≡ channel_event event.Own ch → Moves l m (λ c. fire c e) → Steps k m p (λ c q i r. post_at (passes c q r) ch (semaphore_of ch))
    post_steps is m e own fires =
        let t = there semaphore_in is in
        same_steps k m p (λ c q i r. fire (with_channels (passes c q r) (risen (semaphore_of ch))) e) (λ c q i r. post_at (passes c q r) ch (semaphore_of ch))
        (λ c i r same. ap (fire (with_channels (passes c p r) (risen (semaphore_of ch)))) own ∙ sym (post_done (passes c p r) ch (semaphore_of ch) t.0 (there_too c (Some t.0) same t.1)))
        (λ c i h at. fires _ (goes_on k x (risen (semaphore_of ch)) left p l next c i h at))

    pub no_post_steps : false ≡ is_some semaphore_in → Steps k l p (λ c q i r. post_at (passes c q r) ch (semaphore_of ch))
    no_post_steps is =
        let none = not_there semaphore_in is in
        same_steps k l p (λ c q i r. passes c q r) (λ c q i r. post_at (passes c q r) ch (semaphore_of ch))
        (λ c i r same. sym (post_none (passes c p r) ch (semaphore_of ch) (there_too c None same none)))
        (stays_on k x (risen (semaphore_of ch)) left p l (ap (λ vs. record k.channels { semaphores = vs }) (none-here k.channels.semaphores (semaphore_of ch) (λ v. v + 1) none)) (λ c q i r. passes c q r) next)
