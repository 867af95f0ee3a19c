-- A write to a fifo.
use Rattle.std.proofs.Common.{◌≡◌, ◌==◌, ◌+◌, ◌++◌, not, ℕ, zero, suc, Bool, true, false, List, [], ◌∷◌, slice_get, slice_set, Option, Some, None, option_map, refl, sym, ap, ◌∙◌, subst, true≢false}
use Rattle.std.specs.Prelude.{is_some, if◌then◌else◌, unwrap_or}
use Rattle.kernel_processes.specs.LogicValues.declared.kinds.Value.{Value}
use Rattle.kernel_processes.specs.EventCore.declared.event.Ev.TheVariants as ev
use Rattle.kernel_processes.specs.FifoSync.Fifos.{Queued, free, after_write}
use Rattle.kernel_processes.specs.FlatDesign.declared.design.ChannelId.TheVariants as channel
use Rattle.kernel_processes.specs.SimModel.Residual.{Residual, settle, put, skip}
use Rattle.kernel_processes.specs.SimModel.Configuration.{Config, Instance, Channels, changed_at, change, instance_at, arena}
use Rattle.kernel_processes.specs.SimModel.Storing.{passes}
use Rattle.kernel_processes.specs.SimModel.Channels.{blocks, set_fifo, write_fifo}
use Rattle.kernel_processes.specs.SimModel.Statements.{settled_in}
use Rattle.kernel_state.specs.Kernel.{StandsFor}
use Rattle.kernel_state.specs.Moves.{Moves, Steps, stepped}
use Rattle.kernel_state.specs.declared.kernel.Kernel.{Kernel}
use Rattle.kernel_state.proofs.Frames.{channels_move}

set-same : {A : Type 0} (xs : List A) (n : ℕ) (x : A) → slice_get xs n ≡ Some x → slice_set xs n x ≡ xs
set-same [] n x at = refl
set-same (y ∷ xs) zero x at = ap (λ o. unwrap_or o y ∷ xs) (sym at)
set-same (y ∷ xs) (suc n) x at = ap (λ ys. y ∷ ys) (set-same xs n x at)

pub tested : {A : Type 0} (f : A → Bool) (o : Option A) (b : Bool) → Some b ≡ option_map f o → (x : A) × ((o ≡ Some x) × (f x ≡ b))
tested f None b is = absurd (true≢false (ap is_some is))
tested f (Some x) b is = (x, (refl, ap (λ o. unwrap_or o b) (sym is)))

pub untested : {A : Type 0} (f : A → Bool) (o : Option A) → None ≡ option_map f o → o ≡ None
untested f None is = refl
untested f (Some x) is = absurd (true≢false (ap is_some (sym is)))

pub negated : (b c : Bool) → not b ≡ c → b ≡ not c
negated true c is = ap not is
negated false c is = ap not is

module _ (k : Kernel) (n : ℕ) (v : Value) (x : Channels) (left : x ≡ record k.channels { fifos = change k.channels.fifos n (λ q. after_write q v) }) where
  -- the fifo is there, and what is written is known
  module _ (q : Queued) (at : slice_get k.channels.fifos n ≡ Some q) where
    channels_now : x ≡ record k.channels { fifos = slice_set k.channels.fifos n (after_write q v) }
    channels_now = left ∙ ap (λ o. record k.channels { fifos = changed_at k.channels.fifos n (λ (f : Queued). after_write f v) o }) at

    -- a place is free
    module _ (room : (free q == 0) ≡ false) (p events : ℕ) (l : Kernel) (next : Steps (record k { channels = x }) l p (λ c s i r. passes c s r)) where
      pub written_steps : Steps k l p (λ c s i r. write_fifo c s r n (channel.Fifo n events) v (slice_get c.channels.fifos n))
      written_steps c i h there = subst (StandsFor l) (sym written)
          (subst (λ y. StandsFor l (record (passes (settled_in c p i.residual) p (settle (arena c) i.residual)) { channels = y })) (channels_now ∙ sym (ap {A = Channels} (λ y. record y { fifos = slice_set y.fifos n (after_write q v) }) h.channels))
          (next (record c { channels = x }) i (channels_move k c h x) there))
        where
          written : stepped (λ d s j r. write_fifo d s r n (channel.Fifo n events) v (slice_get d.channels.fifos n)) c p i ≡ set_fifo (passes (settled_in c p i.residual) p (settle (arena c) i.residual)) n (after_write q v)
          written = ap (write_fifo (settled_in c p i.residual) p (settle (arena c) i.residual) n (channel.Fifo n events) v) (ap (λ y. slice_get y.fifos n) h.channels ∙ at)
              ∙ ap (λ b. if b then blocks (settled_in c p i.residual) p (settle (arena c) i.residual) (ev.Fixed (events + 1)) else set_fifo (passes (settled_in c p i.residual) p (settle (arena c) i.residual)) n (after_write q v)) room

    -- none is
    module _ (full : (free q == 0) ≡ true) where
      channels_stay : x ≡ k.channels
      channels_stay = channels_now ∙ ap (λ b. record k.channels { fifos = slice_set k.channels.fifos n (if b then q else record q { unread = q.unread ++ v ∷ []; written = q.written + 1 }) }) full
          ∙ ap (λ fs. record k.channels { fifos = fs }) (set-same k.channels.fifos n q at)

      same_kernel : (c : Config) → StandsFor k c → StandsFor (record k { channels = x }) c
      same_kernel c h = subst (λ y. StandsFor (record k { channels = y }) c) (sym channels_stay) h

      pub blocked_steps : (p events : ℕ) (l : Kernel) → Steps (record k { channels = x }) l p (λ c s i r. blocks c s r (ev.Fixed (events + 1))) → Steps k l p (λ c s i r. write_fifo c s r n (channel.Fifo n events) v (slice_get c.channels.fifos n))
      blocked_steps p events l next c i h there = subst (StandsFor l) (sym blocked) (next c i (same_kernel c h) there)
        where
          blocked : stepped (λ d s j r. write_fifo d s r n (channel.Fifo n events) v (slice_get d.channels.fifos n)) c p i ≡ blocks (settled_in c p i.residual) p (settle (arena c) i.residual) (ev.Fixed (events + 1))
          blocked = ap (write_fifo (settled_in c p i.residual) p (settle (arena c) i.residual) n (channel.Fifo n events) v) (ap (λ y. slice_get y.fifos n) h.channels ∙ at)
              ∙ ap (λ b. if b then blocks (settled_in c p i.residual) p (settle (arena c) i.residual) (ev.Fixed (events + 1)) else set_fifo (passes (settled_in c p i.residual) p (settle (arena c) i.residual)) n (after_write q v)) full

      pub refused_moves : (l : Kernel) → Moves (record k { channels = x }) l (λ c. c) → Moves k l (λ c. c)
      refused_moves l next c h = next c (same_kernel c h)

  -- there is no such fifo
  module _ (none : slice_get k.channels.fifos n ≡ None) where
    pub no_fifo_steps : (p events : ℕ) (l : Kernel) → Steps (record k { channels = x }) l p (λ c s i r. passes c s r) → Steps k l p (λ c s i r. write_fifo c s r n (channel.Fifo n events) v (slice_get c.channels.fifos n))
    no_fifo_steps p events l next c i h there = subst (StandsFor l) (sym (ap (write_fifo (settled_in c p i.residual) p (settle (arena c) i.residual) n (channel.Fifo n events) v) (ap (λ y. slice_get y.fifos n) h.channels ∙ none)))
        (next c i (subst (λ y. StandsFor (record k { channels = y }) c) (sym (left ∙ ap (λ o. record k.channels { fifos = changed_at k.channels.fifos n (λ (f : Queued). after_write f v) o }) none)) h) there)
