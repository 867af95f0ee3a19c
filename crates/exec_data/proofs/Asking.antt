-- Writes that ask for an update.
use Rattle.std.proofs.Common.{◌≡◌, ℕ, zero, suc, true, List, [], ◌∷◌, slice_get, slice_set, Option, Some, None, Ok, Err, refl, sym, ap, ◌∙◌, subst, true≢false}
use Rattle.std.specs.Prelude.{is_some, unwrap_or}
use Rattle.kernel_view.specs.LogicValues.declared.kinds.Value.{Value}
use Rattle.kernel_view.specs.LogicValues.declared.kinds.Digit.{Digit}
use Rattle.kernel_view.specs.SignalChannel.Signals.{written, conflict_of, unless_conflict}
use Rattle.kernel_view.specs.SignalChannel.Drivers.{driven_by}
use Rattle.kernel_view.specs.SignalChannel.declared.signal.Signal.{Signal}
use Rattle.kernel_view.specs.SignalChannel.declared.signal.WriterConflict.{WriterConflict}
use Rattle.flat_design.specs.declared.faults.RunFault.TheVariants as fault
use Rattle.kernel_view.specs.SimModel.Values.{one_digit, digit_list}
use Rattle.kernel_view.specs.SimModel.Residual.{settle}
use Rattle.kernel_view.specs.SimModel.Configuration.{Config, Channels, changed_at, change, arena}
use Rattle.kernel_view.specs.SimModel.Statements.{settled_in}
use Rattle.kernel_view.specs.SimModel.Storing.{passes}
use Rattle.kernel_view.specs.SimModel.Channels.{with_channels, write_signal, drive}
use Rattle.kernel_view.specs.KernelChannels.Writers.{conflict_at, written_unless}
use Rattle.kernel_view.specs.KernelState.Kernel.{StandsFor}
use Rattle.kernel_view.specs.KernelState.Moves.{Steps, Follows, Does}
use Rattle.kernel_view.specs.KernelState.declared.kernel.Kernel.{Kernel}
use Rattle.kernel_view.proofs.KernelState.Frames.{channels_move}

set-same : {A : Type 0} (xs : List A) (n : ℕ) (x : A) → slice_get xs n ≡ Some x → slice_set xs n x ≡ xs
set-same [] n x at = refl
set-same (y ∷ xs) zero x at = ap (λ o. unwrap_or o y ∷ xs) (sym at)
set-same (y ∷ xs) (suc n) x at = ap (λ ys. y ∷ ys) (set-same xs n x at)

-- a write that is refused leaves the signals as they are
module _ (p : ℕ) (v : Value) (w : WriterConflict) where
  stays_by : (o : Option WriterConflict) (s : Signal) → o ≡ Some w → unless_conflict o s (written (Some p) v s) ≡ s
  stays_by None s is = absurd (true≢false (sym (ap is_some is)))
  stays_by (Some x) s is = refl

  all_stay_by : (ss : List Signal) (n : ℕ) (o : Option Signal) → slice_get ss n ≡ o → conflict_at (Some p) o ≡ Some w → changed_at ss n (written_unless (Some p) v) o ≡ ss
  all_stay_by ss n None at is = refl
  all_stay_by ss n (Some s) at is = ap (slice_set ss n) (stays_by (conflict_of (Some p) s.writer) s is) ∙ set-same ss n s at

  all_stay : (ss : List Signal) (n : ℕ) → conflict_at (Some p) (slice_get ss n) ≡ Some w → change ss n (written_unless (Some p) v) ≡ ss
  all_stay ss n is = all_stay_by ss n (slice_get ss n) refl is

-- what a write is in a run
abbrev pub WritesAsInARun : Type 0
WritesAsInARun = (c : Config) (n : ℕ) (v : Value) (p : ℕ) → conflict_at (Some p) (slice_get c.channels.signals n) ≡ None
    → write_signal c n v p (slice_get c.channels.signals n) ≡ Ok (with_channels c (λ (x : Channels). record x { signals = change x.signals n (written_unless (Some p) v) }))

abbrev pub RefusedAsInARun : Type 0
RefusedAsInARun = (c : Config) (n : ℕ) (v : Value) (p : ℕ) (w : WriterConflict) → conflict_at (Some p) (slice_get c.channels.signals n) ≡ Some w
    → write_signal c n v p (slice_get c.channels.signals n) ≡ Err (fault.WriterConflict w.first w.second)

module _ (k : Kernel) (x : Channels) (n p : ℕ) (v : Value) where
  -- a signal
  module _ (left : x ≡ record k.channels { signals = change k.channels.signals n (written_unless (Some p) v) }) where
    pub written_does : WritesAsInARun → conflict_at (Some p) (slice_get k.channels.signals n) ≡ None → (l : Kernel) → Steps (record k { channels = x }) l p (λ c q i r. passes c q r)
        → Does k l (Ok tt) p (λ c q i r. write_signal (passes c q r) n v q (slice_get c.channels.signals n))
    written_does law free l next c i h there =
        let past = passes (settled_in c p i.residual) p (settle (arena c) i.residual) in
        subst (Follows l (Ok tt) c) (sym (law past n v p (ap (λ (y : Channels). conflict_at (Some p) (slice_get y.signals n)) h.channels ∙ free)))
        (subst (λ y. StandsFor l (record past { channels = y })) (left ∙ sym (ap {A = Channels} (λ y. record y { signals = change y.signals n (written_unless (Some p) v) }) h.channels))
        (next (record c { channels = x }) i (channels_move k c h x) there))

    pub refused_does : RefusedAsInARun → (w : WriterConflict) → conflict_at (Some p) (slice_get k.channels.signals n) ≡ Some w
        → Does k (record k { channels = x }) (Err (fault.WriterConflict w.first w.second)) p (λ c q i r. write_signal (passes c q r) n v q (slice_get c.channels.signals n))
    refused_does law w is c i h there =
        let past = passes (settled_in c p i.residual) p (settle (arena c) i.residual) in
        subst (Follows (record k { channels = x }) (Err (fault.WriterConflict w.first w.second)) c) (sym (law past n v p w (ap (λ (y : Channels). conflict_at (Some p) (slice_get y.signals n)) h.channels ∙ is)))
        (refl, subst (λ y. StandsFor (record k { channels = y }) c) (sym (left ∙ ap (λ ss. record k.channels { signals = ss }) (all_stay p v w k.channels.signals n is))) h)

  -- a resolved signal
  module _ (d : Digit) (left : x ≡ record k.channels { resolved = change k.channels.resolved n (driven_by p d); resolved_asked = slice_set k.channels.resolved_asked n true }) (first : d ≡ one_digit (digit_list v)) where
    pub driven_steps : (l : Kernel) → Steps (record k { channels = x }) l p (λ c q i r. passes c q r) → Steps k l p (λ c q i r. drive (passes c q r) n v q)
    driven_steps l next c i h there =
        let past = passes (settled_in c p i.residual) p (settle (arena c) i.residual) in
        subst (λ y. StandsFor l (record past { channels = y }))
        (left ∙ ap (λ e. record k.channels { resolved = change k.channels.resolved n (driven_by p e); resolved_asked = slice_set k.channels.resolved_asked n true }) first
        ∙ sym (ap {A = Channels} (λ y. record y { resolved = change y.resolved n (driven_by p (one_digit (digit_list v))); resolved_asked = slice_set y.resolved_asked n true }) h.channels))
        (next (record c { channels = x }) i (channels_move k c h x) there)
