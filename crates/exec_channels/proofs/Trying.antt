-- A channel is tried, and then its statement goes on.
use Rattle.std.proofs.Common.{◌≡◌, ℕ, zero, suc, List, [], ◌∷◌, slice_get, slice_set, Option, Some, None, option_map, Result, Ok, Err, refl, sym, ap, ◌∙◌, subst, true≢false}
use Rattle.std.specs.Prelude.{is_some, unwrap_or}
use Rattle.flat_design.specs.Code.{ChannelTerm}
use Rattle.flat_design.specs.declared.design.ChannelId.{ChannelId}
use Rattle.flat_design.specs.declared.faults.RunFault.{RunFault}
use Rattle.kernel_view.specs.SimModel.Values.{on_ok}
use Rattle.kernel_view.specs.SimModel.Residual.{Residual, settle}
use Rattle.kernel_view.specs.SimModel.Configuration.{Config, Channels, Instance, changed_at, change, arena}
use Rattle.kernel_view.specs.SimModel.Statements.{settled_in}
use Rattle.kernel_view.specs.SimModel.Reading.{Here, here, place_in}
use Rattle.kernel_view.specs.SimModel.Storing.{passes}
use Rattle.kernel_view.specs.SimModel.Channels.{with_channels, channel_in, element}
use Rattle.kernel_view.specs.KernelState.Kernel.{StandsFor}
use Rattle.kernel_view.specs.KernelState.Moves.{Moves, Steps, Follows, Does}
use Rattle.kernel_view.specs.KernelState.Stopping.{FollowsBut, DoesOrStops, NoFault}
use Rattle.kernel_view.specs.KernelState.declared.stops.StatementStop.{StatementStop}
use Rattle.kernel_view.specs.KernelState.declared.stops.StatementStop.TheVariants as stop
use Rattle.kernel_view.specs.KernelState.declared.kernel.Kernel.{Kernel}
use Rattle.kernel_view.proofs.KernelState.Frames.{channels_move}
use Rattle.kernel_view.proofs.Stopped as stopped
use Rattle.kernel_view.specs.Standings.{next_here, Everywhere}
use Rattle.exec_channels.specs.Tried.{used_here, changed_in}

-- ---- the element that is tried

set-same : {A : Type 0} (xs : List A) (n : ℕ) (x : A) → slice_get xs n ≡ Some x → slice_set xs n x ≡ xs
set-same [] n x at = refl
set-same (y ∷ xs) zero x at = ap (λ o. unwrap_or o y ∷ xs) (sym at)
set-same (y ∷ xs) (suc n) x at = ap (λ ys. y ∷ ys) (set-same xs n x at)

-- what was found there
pub found : {A B : Type 0} (f : A → B) (o : Option A) (b : B) → Some b ≡ option_map f o → (x : A) × ((o ≡ Some x) × (f x ≡ b))
found f None b is = absurd (true≢false (ap is_some is))
found f (Some x) b is = (x, (refl, ap (λ o. unwrap_or o b) (sym is)))

pub not_found : {A B : Type 0} (f : A → B) (o : Option A) → None ≡ option_map f o → o ≡ None
not_found f None is = refl
not_found f (Some x) is = absurd (true≢false (ap is_some (sym is)))

-- it is changed
pub changed-here : {A : Type 0} (xs : List A) (n : ℕ) (f : A → A) (x : A) → slice_get xs n ≡ Some x → change xs n f ≡ slice_set xs n (f x)
changed-here xs n f x at = ap (changed_at xs n f) at

-- it is left as it was
pub stays-here : {A : Type 0} (xs : List A) (o : Option ℕ) (f : A → A) (x : A) → element xs o ≡ Some x → f x ≡ x → changed_in xs o f ≡ xs
stays-here xs None f x at same = refl
stays-here xs (Some n) f x at same = changed-here xs n f x at ∙ ap (slice_set xs n) same ∙ set-same xs n x at

-- there is none
pub none-here : {A : Type 0} (xs : List A) (o : Option ℕ) (f : A → A) → element xs o ≡ None → changed_in xs o f ≡ xs
none-here xs None f none = refl
none-here xs (Some n) f none = ap (changed_at xs n f) none

-- ---- the kernel with the channels so

module _ (k : Kernel) (x : Channels) (f : Channels → Channels) (left : x ≡ f k.channels) where
  pub tried : Moves k (record k { channels = x }) (λ c. with_channels c f)
  tried c h = subst (λ y. StandsFor (record k { channels = x }) (record c { channels = y })) (left ∙ sym (ap f h.channels)) (channels_move k c h x)

  pub untried : f k.channels ≡ k.channels → Moves k (record k { channels = x }) (λ c. c)
  untried same c h = subst (λ y. StandsFor (record k { channels = y }) c) (sym (left ∙ same)) h

  module _ (p : ℕ) (l : Kernel) where
    -- it was changed, and then its statement is past
    pub goes_on : Steps (record k { channels = x }) l p (λ c q i r. passes c q r) → Steps k l p (λ c q i r. with_channels (passes c q r) f)
    goes_on next c i h there = next (with_channels c f) i (tried c h) there

    -- it was left as it was
    pub stays_on : f k.channels ≡ k.channels → (g : Config → ℕ → Instance → Residual → Config) → Steps (record k { channels = x }) l p g → Steps k l p g
    stays_on same g next c i h there = next c i (untried same c h) there

-- a step in other words, for the channels that the kernel has
pub same_steps : (k l : Kernel) (p : ℕ) (f g : Config → ℕ → Instance → Residual → Config) → ((c : Config) (i : Instance) (r : Residual) → c.channels ≡ k.channels → f c p i r ≡ g c p i r)
    → Steps k l p f → Steps k l p g
same_steps k l p f g same steps c i h there =
    subst (StandsFor l) (same (settled_in c p i.residual) (record i { residual = settle (arena c) i.residual }) (settle (arena c) i.residual) h.channels) (steps c i h there)

-- ---- a part of a statement is evaluated first

module _ {A : Type 0} (k : Kernel) (p : ℕ) (answer : Result A RunFault) (part : Here → Result A RunFault) (gives : Everywhere k p (λ h. answer ≡ part h))
    (f : Config → ℕ → Instance → Residual → A → Result Config RunFault) where
  -- it has a value
  pub evaluated : (l : Kernel) (done : Result Unit RunFault) (a : A) → answer ≡ Ok a → Does k l done p (λ c q i r. f c q i r a) → Does k l done p (λ c q i r. on_ok (part (here c q i r)) (f c q i r))
  evaluated l done a is does c i h there =
      subst (λ o. Follows l done c (on_ok o (f (settled_in c p i.residual) p (record i { residual = settle (arena c) i.residual }) (settle (arena c) i.residual))))
      (sym is ∙ gives c i h there) (does c i h there)

  -- it is at fault
  pub faulted : (e : RunFault) → answer ≡ Err e → Does k k (Err e) p (λ c q i r. on_ok (part (here c q i r)) (f c q i r))
  faulted e is c i h there =
      subst (λ o. Follows k (Err e) c (on_ok o (f (settled_in c p i.residual) p (record i { residual = settle (arena c) i.residual }) (settle (arena c) i.residual))))
      (sym is ∙ gives c i h there) (refl, h)

-- ---- the channel is looked up first

module _ (h : Here) (at : ChannelTerm) (f : ChannelId → Result Config RunFault) where
  pub used_is : on_ok (place_in h at.place) (λ n. on_ok (channel_in h at n) f) ≡ on_ok (used_here h at) f
  used_is = by (place_in h at.place)
    where
      by : (o : Result (Option ℕ) RunFault) → on_ok o (λ n. on_ok (channel_in h at n) f) ≡ on_ok (on_ok o (channel_in h at)) f
      by (Ok n) = refl
      by (Err e) = refl

module _ (k : Kernel) (p : ℕ) (at : ChannelTerm) (answer : Result ChannelId RunFault) (gives : Everywhere k p (λ h. answer ≡ used_here h at)) (g : ChannelId → Config → ℕ → Instance → Residual → Config) where
  -- there is a channel
  pub does_for : (l : Kernel) (ch : ChannelId) → answer ≡ Ok ch → Steps k l p (g ch) → Does k l (Ok tt) p (λ c q i r. on_ok (place_in (here c q i r) at.place) (λ n. on_ok (channel_in (here c q i r) at n) (λ x. Ok (g x c q i r))))
  does_for l ch is steps c i h there =
      subst (Follows l (Ok tt) c)
      (sym (used_is (next_here c p i) at (λ x. Ok (g x (settled_in c p i.residual) p (record i { residual = settle (arena c) i.residual }) (settle (arena c) i.residual)))))
      (evaluated k p answer (λ y. used_here y at) gives (λ d q j r x. Ok (g x d q j r)) l (Ok tt) ch is steps c i h there)

  -- there is none
  pub at_fault : (e : RunFault) → answer ≡ Err e → Does k k (Err e) p (λ c q i r. on_ok (place_in (here c q i r) at.place) (λ n. on_ok (channel_in (here c q i r) at n) (λ x. Ok (g x c q i r))))
  at_fault e is c i h there =
      subst (Follows k (Err e) c)
      (sym (used_is (next_here c p i) at (λ x. Ok (g x (settled_in c p i.residual) p (record i { residual = settle (arena c) i.residual }) (settle (arena c) i.residual)))))
      (faulted k p answer (λ y. used_here y at) gives (λ d q j r x. Ok (g x d q j r)) e is c i h there)

  -- the same of a statement that may take memory
  pub stops_for : (l : Kernel) (done : Result Unit StatementStop) (ch : ChannelId) → answer ≡ Ok ch → DoesOrStops k l done p (λ c q i r. Ok (g ch c q i r))
      → DoesOrStops k l done p (λ c q i r. on_ok (place_in (here c q i r) at.place) (λ n. on_ok (channel_in (here c q i r) at n) (λ x. Ok (g x c q i r))))
  stops_for l done ch is does c i h there =
      subst (FollowsBut NoFault l done c)
      (sym (used_is (next_here c p i) at (λ x. Ok (g x (settled_in c p i.residual) p (record i { residual = settle (arena c) i.residual }) (settle (arena c) i.residual)))))
      (stopped.evaluated NoFault k p answer (λ y. used_here y at) gives (λ d q j r x. Ok (g x d q j r)) l done ch is does c i h there)

  pub stops_at : (e : RunFault) → answer ≡ Err e → DoesOrStops k k (Err (stop.Fault e)) p (λ c q i r. on_ok (place_in (here c q i r) at.place) (λ n. on_ok (channel_in (here c q i r) at n) (λ x. Ok (g x c q i r))))
  stops_at e is c i h there =
      subst (FollowsBut NoFault k (Err (stop.Fault e)) c)
      (sym (used_is (next_here c p i) at (λ x. Ok (g x (settled_in c p i.residual) p (record i { residual = settle (arena c) i.residual }) (settle (arena c) i.residual)))))
      (stopped.at_fault NoFault k p answer (λ y. used_here y at) gives (λ d q j r x. Ok (g x d q j r)) e is c i h there)

-- what is found of a channel that was looked up is found of it where the statement stands
pub found_here : {B : Type 0} (k : Kernel) (p : ℕ) (at : ChannelTerm) (answer : Result ChannelId RunFault) (gives : Everywhere k p (λ h. answer ≡ used_here h at)) (ch : ChannelId) → answer ≡ Ok ch
    → (f : Channels → ChannelId → B) (b : B) → f k.channels ch ≡ b → Everywhere k p (λ h. on_ok (used_here h at) (λ x. Ok (f h.config.channels x)) ≡ Ok b)
found_here k p at answer gives ch is f b finds c i h there =
    ap (λ o. on_ok o (λ x. Ok (f c.channels x))) (sym (gives c i h there) ∙ is) ∙ ap (λ y. Ok (f y ch)) h.channels ∙ ap Ok finds
