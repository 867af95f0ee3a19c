-- One use more: its users are joined, and those of all others stay.
use Rattle.std.proofs.Common.{◌≡◌, ◌==◌, ◌⊎◌, inl, inr, ℕ, Bool, true, false, Result, Ok, Err, OnOk, refl, sym, ap, subst}
use Rattle.std.specs.Global.{Vec}
use Rattle.std.proofs.lemmas.Bool.{eqb-true, eqb-false}
use Rattle.order_free.specs.declared.uses.Use.{Use}
use Rattle.order_free.specs.declared.uses.Use.TheVariants as used
use Rattle.order_free.specs.Users.{joined, users_in}
use Rattle.order_free.specs.Tables.{users_at, Noted}
use Rattle.order_free.specs.declared.users.Users.{Users}
use Rattle.order_free.specs.declared.tables.Tables.{Tables}

-- one number of a table
module _ (xs ys : Vec Users) (n : ℕ) (x : Users) (here : users_in ys.items n ≡ joined (users_in xs.items n) x) (others : (k : ℕ) → (k ≡ n → ⊥) → users_in ys.items k ≡ users_in xs.items k) where
  number_by : (k : ℕ) (b : Bool) → (k == n) ≡ b → (users_in ys.items k ≡ users_in xs.items k) ⊎ ((k ≡ n) × (users_in ys.items k ≡ joined (users_in xs.items k) x))
  number_by k true is = let same = eqb-true k n is in inr (same, subst (λ i. users_in ys.items i ≡ joined (users_in xs.items i) x) (sym same) here)
  number_by k false is = inl (others k (eqb-false k n is))

  number : (k : ℕ) → (users_in ys.items k ≡ users_in xs.items k) ⊎ ((k ≡ n) × (users_in ys.items k ≡ joined (users_in xs.items k) x))
  number k = number_by k (k == n) refl

all_unfit : (t : Tables) (x : Users) → Noted x used.Unfit t (record t { unfit = joined t.unfit x })
all_unfit t x = record { here = refl; others = others }
  where
    others : (w : Use) → (users_at (record t { unfit = joined t.unfit x }) w ≡ users_at t w) ⊎ ((w ≡ used.Unfit) × (users_at (record t { unfit = joined t.unfit x }) w ≡ joined (users_at t w) x))
    others used.Unfit = inr (refl, refl)
    others used.Watches = inl refl
    others used.Quantum = inl refl
    others (used.Variable k) = inl refl
    others (used.Memory k) = inl refl
    others (used.WritesSignal k) = inl refl
    others (used.ReadsFifo k) = inl refl
    others (used.WritesFifo k) = inl refl
    others (used.Notifies k) = inl refl
    others (used.Cancels k) = inl refl

pub noted_unfit : (t : Tables) (x z : Users) → z ≡ joined t.unfit x → Noted x used.Unfit t (record t { unfit = z })
noted_unfit t x z e = subst (λ (y : Users). Noted x used.Unfit t (record t { unfit = y })) (sym e) (all_unfit t x)

all_watches : (t : Tables) (x : Users) → Noted x used.Watches t (record t { watches = joined t.watches x })
all_watches t x = record { here = refl; others = others }
  where
    others : (w : Use) → (users_at (record t { watches = joined t.watches x }) w ≡ users_at t w) ⊎ ((w ≡ used.Watches) × (users_at (record t { watches = joined t.watches x }) w ≡ joined (users_at t w) x))
    others used.Unfit = inl refl
    others used.Watches = inr (refl, refl)
    others used.Quantum = inl refl
    others (used.Variable k) = inl refl
    others (used.Memory k) = inl refl
    others (used.WritesSignal k) = inl refl
    others (used.ReadsFifo k) = inl refl
    others (used.WritesFifo k) = inl refl
    others (used.Notifies k) = inl refl
    others (used.Cancels k) = inl refl

pub noted_watches : (t : Tables) (x z : Users) → z ≡ joined t.watches x → Noted x used.Watches t (record t { watches = z })
noted_watches t x z e = subst (λ (y : Users). Noted x used.Watches t (record t { watches = y })) (sym e) (all_watches t x)

all_quantum : (t : Tables) (x : Users) → Noted x used.Quantum t (record t { quantum = joined t.quantum x })
all_quantum t x = record { here = refl; others = others }
  where
    others : (w : Use) → (users_at (record t { quantum = joined t.quantum x }) w ≡ users_at t w) ⊎ ((w ≡ used.Quantum) × (users_at (record t { quantum = joined t.quantum x }) w ≡ joined (users_at t w) x))
    others used.Unfit = inl refl
    others used.Watches = inl refl
    others used.Quantum = inr (refl, refl)
    others (used.Variable k) = inl refl
    others (used.Memory k) = inl refl
    others (used.WritesSignal k) = inl refl
    others (used.ReadsFifo k) = inl refl
    others (used.WritesFifo k) = inl refl
    others (used.Notifies k) = inl refl
    others (used.Cancels k) = inl refl

pub noted_quantum : (t : Tables) (x z : Users) → z ≡ joined t.quantum x → Noted x used.Quantum t (record t { quantum = z })
noted_quantum t x z e = subst (λ (y : Users). Noted x used.Quantum t (record t { quantum = y })) (sym e) (all_quantum t x)

module _ (t : Tables) (ys : Vec Users) (n : ℕ) (x : Users) (here : users_in ys.items n ≡ joined (users_in t.variables.items n) x) (rest : (k : ℕ) → (k ≡ n → ⊥) → users_in ys.items k ≡ users_in t.variables.items k) where
  others_variables : (w : Use) → (users_at (record t { variables = ys }) w ≡ users_at t w) ⊎ ((w ≡ used.Variable n) × (users_at (record t { variables = ys }) w ≡ joined (users_at t w) x))
  others_variables used.Unfit = inl refl
  others_variables used.Watches = inl refl
  others_variables used.Quantum = inl refl
  others_variables (used.Variable k) = elim (number t.variables ys n x here rest k) [ inl same ↦ inl same | inr w ↦ inr (ap used.Variable w.0, w.1) ]
  others_variables (used.Memory k) = inl refl
  others_variables (used.WritesSignal k) = inl refl
  others_variables (used.ReadsFifo k) = inl refl
  others_variables (used.WritesFifo k) = inl refl
  others_variables (used.Notifies k) = inl refl
  others_variables (used.Cancels k) = inl refl

  is_noted_variables : Noted x (used.Variable n) t (record t { variables = ys })
  is_noted_variables = record { here = here; others = others_variables }

pub noted_variables : {A E : Type 0} (r : Result A E) (t : Tables) (ys : Vec Users) (n : ℕ) (x : Users) → OnOk r (users_in ys.items n ≡ joined (users_in t.variables.items n) x)
    → OnOk r ((k : ℕ) → (k ≡ n → ⊥) → users_in ys.items k ≡ users_in t.variables.items k) → OnOk r (Noted x (used.Variable n) t (record t { variables = ys }))
noted_variables (Ok v) t ys n x here rest = is_noted_variables t ys n x here rest
noted_variables (Err e) t ys n x here rest = tt

module _ (t : Tables) (ys : Vec Users) (n : ℕ) (x : Users) (here : users_in ys.items n ≡ joined (users_in t.memories.items n) x) (rest : (k : ℕ) → (k ≡ n → ⊥) → users_in ys.items k ≡ users_in t.memories.items k) where
  others_memories : (w : Use) → (users_at (record t { memories = ys }) w ≡ users_at t w) ⊎ ((w ≡ used.Memory n) × (users_at (record t { memories = ys }) w ≡ joined (users_at t w) x))
  others_memories used.Unfit = inl refl
  others_memories used.Watches = inl refl
  others_memories used.Quantum = inl refl
  others_memories (used.Variable k) = inl refl
  others_memories (used.Memory k) = elim (number t.memories ys n x here rest k) [ inl same ↦ inl same | inr w ↦ inr (ap used.Memory w.0, w.1) ]
  others_memories (used.WritesSignal k) = inl refl
  others_memories (used.ReadsFifo k) = inl refl
  others_memories (used.WritesFifo k) = inl refl
  others_memories (used.Notifies k) = inl refl
  others_memories (used.Cancels k) = inl refl

  is_noted_memories : Noted x (used.Memory n) t (record t { memories = ys })
  is_noted_memories = record { here = here; others = others_memories }

pub noted_memories : {A E : Type 0} (r : Result A E) (t : Tables) (ys : Vec Users) (n : ℕ) (x : Users) → OnOk r (users_in ys.items n ≡ joined (users_in t.memories.items n) x)
    → OnOk r ((k : ℕ) → (k ≡ n → ⊥) → users_in ys.items k ≡ users_in t.memories.items k) → OnOk r (Noted x (used.Memory n) t (record t { memories = ys }))
noted_memories (Ok v) t ys n x here rest = is_noted_memories t ys n x here rest
noted_memories (Err e) t ys n x here rest = tt

module _ (t : Tables) (ys : Vec Users) (n : ℕ) (x : Users) (here : users_in ys.items n ≡ joined (users_in t.written_signals.items n) x) (rest : (k : ℕ) → (k ≡ n → ⊥) → users_in ys.items k ≡ users_in t.written_signals.items k) where
  others_written_signals : (w : Use) → (users_at (record t { written_signals = ys }) w ≡ users_at t w) ⊎ ((w ≡ used.WritesSignal n) × (users_at (record t { written_signals = ys }) w ≡ joined (users_at t w) x))
  others_written_signals used.Unfit = inl refl
  others_written_signals used.Watches = inl refl
  others_written_signals used.Quantum = inl refl
  others_written_signals (used.Variable k) = inl refl
  others_written_signals (used.Memory k) = inl refl
  others_written_signals (used.WritesSignal k) = elim (number t.written_signals ys n x here rest k) [ inl same ↦ inl same | inr w ↦ inr (ap used.WritesSignal w.0, w.1) ]
  others_written_signals (used.ReadsFifo k) = inl refl
  others_written_signals (used.WritesFifo k) = inl refl
  others_written_signals (used.Notifies k) = inl refl
  others_written_signals (used.Cancels k) = inl refl

  is_noted_written_signals : Noted x (used.WritesSignal n) t (record t { written_signals = ys })
  is_noted_written_signals = record { here = here; others = others_written_signals }

pub noted_written_signals : {A E : Type 0} (r : Result A E) (t : Tables) (ys : Vec Users) (n : ℕ) (x : Users) → OnOk r (users_in ys.items n ≡ joined (users_in t.written_signals.items n) x)
    → OnOk r ((k : ℕ) → (k ≡ n → ⊥) → users_in ys.items k ≡ users_in t.written_signals.items k) → OnOk r (Noted x (used.WritesSignal n) t (record t { written_signals = ys }))
noted_written_signals (Ok v) t ys n x here rest = is_noted_written_signals t ys n x here rest
noted_written_signals (Err e) t ys n x here rest = tt

module _ (t : Tables) (ys : Vec Users) (n : ℕ) (x : Users) (here : users_in ys.items n ≡ joined (users_in t.read_fifos.items n) x) (rest : (k : ℕ) → (k ≡ n → ⊥) → users_in ys.items k ≡ users_in t.read_fifos.items k) where
  others_read_fifos : (w : Use) → (users_at (record t { read_fifos = ys }) w ≡ users_at t w) ⊎ ((w ≡ used.ReadsFifo n) × (users_at (record t { read_fifos = ys }) w ≡ joined (users_at t w) x))
  others_read_fifos used.Unfit = inl refl
  others_read_fifos used.Watches = inl refl
  others_read_fifos used.Quantum = inl refl
  others_read_fifos (used.Variable k) = inl refl
  others_read_fifos (used.Memory k) = inl refl
  others_read_fifos (used.WritesSignal k) = inl refl
  others_read_fifos (used.ReadsFifo k) = elim (number t.read_fifos ys n x here rest k) [ inl same ↦ inl same | inr w ↦ inr (ap used.ReadsFifo w.0, w.1) ]
  others_read_fifos (used.WritesFifo k) = inl refl
  others_read_fifos (used.Notifies k) = inl refl
  others_read_fifos (used.Cancels k) = inl refl

  is_noted_read_fifos : Noted x (used.ReadsFifo n) t (record t { read_fifos = ys })
  is_noted_read_fifos = record { here = here; others = others_read_fifos }

pub noted_read_fifos : {A E : Type 0} (r : Result A E) (t : Tables) (ys : Vec Users) (n : ℕ) (x : Users) → OnOk r (users_in ys.items n ≡ joined (users_in t.read_fifos.items n) x)
    → OnOk r ((k : ℕ) → (k ≡ n → ⊥) → users_in ys.items k ≡ users_in t.read_fifos.items k) → OnOk r (Noted x (used.ReadsFifo n) t (record t { read_fifos = ys }))
noted_read_fifos (Ok v) t ys n x here rest = is_noted_read_fifos t ys n x here rest
noted_read_fifos (Err e) t ys n x here rest = tt

module _ (t : Tables) (ys : Vec Users) (n : ℕ) (x : Users) (here : users_in ys.items n ≡ joined (users_in t.written_fifos.items n) x) (rest : (k : ℕ) → (k ≡ n → ⊥) → users_in ys.items k ≡ users_in t.written_fifos.items k) where
  others_written_fifos : (w : Use) → (users_at (record t { written_fifos = ys }) w ≡ users_at t w) ⊎ ((w ≡ used.WritesFifo n) × (users_at (record t { written_fifos = ys }) w ≡ joined (users_at t w) x))
  others_written_fifos used.Unfit = inl refl
  others_written_fifos used.Watches = inl refl
  others_written_fifos used.Quantum = inl refl
  others_written_fifos (used.Variable k) = inl refl
  others_written_fifos (used.Memory k) = inl refl
  others_written_fifos (used.WritesSignal k) = inl refl
  others_written_fifos (used.ReadsFifo k) = inl refl
  others_written_fifos (used.WritesFifo k) = elim (number t.written_fifos ys n x here rest k) [ inl same ↦ inl same | inr w ↦ inr (ap used.WritesFifo w.0, w.1) ]
  others_written_fifos (used.Notifies k) = inl refl
  others_written_fifos (used.Cancels k) = inl refl

  is_noted_written_fifos : Noted x (used.WritesFifo n) t (record t { written_fifos = ys })
  is_noted_written_fifos = record { here = here; others = others_written_fifos }

pub noted_written_fifos : {A E : Type 0} (r : Result A E) (t : Tables) (ys : Vec Users) (n : ℕ) (x : Users) → OnOk r (users_in ys.items n ≡ joined (users_in t.written_fifos.items n) x)
    → OnOk r ((k : ℕ) → (k ≡ n → ⊥) → users_in ys.items k ≡ users_in t.written_fifos.items k) → OnOk r (Noted x (used.WritesFifo n) t (record t { written_fifos = ys }))
noted_written_fifos (Ok v) t ys n x here rest = is_noted_written_fifos t ys n x here rest
noted_written_fifos (Err e) t ys n x here rest = tt

module _ (t : Tables) (ys : Vec Users) (n : ℕ) (x : Users) (here : users_in ys.items n ≡ joined (users_in t.notified.items n) x) (rest : (k : ℕ) → (k ≡ n → ⊥) → users_in ys.items k ≡ users_in t.notified.items k) where
  others_notified : (w : Use) → (users_at (record t { notified = ys }) w ≡ users_at t w) ⊎ ((w ≡ used.Notifies n) × (users_at (record t { notified = ys }) w ≡ joined (users_at t w) x))
  others_notified used.Unfit = inl refl
  others_notified used.Watches = inl refl
  others_notified used.Quantum = inl refl
  others_notified (used.Variable k) = inl refl
  others_notified (used.Memory k) = inl refl
  others_notified (used.WritesSignal k) = inl refl
  others_notified (used.ReadsFifo k) = inl refl
  others_notified (used.WritesFifo k) = inl refl
  others_notified (used.Notifies k) = elim (number t.notified ys n x here rest k) [ inl same ↦ inl same | inr w ↦ inr (ap used.Notifies w.0, w.1) ]
  others_notified (used.Cancels k) = inl refl

  is_noted_notified : Noted x (used.Notifies n) t (record t { notified = ys })
  is_noted_notified = record { here = here; others = others_notified }

pub noted_notified : {A E : Type 0} (r : Result A E) (t : Tables) (ys : Vec Users) (n : ℕ) (x : Users) → OnOk r (users_in ys.items n ≡ joined (users_in t.notified.items n) x)
    → OnOk r ((k : ℕ) → (k ≡ n → ⊥) → users_in ys.items k ≡ users_in t.notified.items k) → OnOk r (Noted x (used.Notifies n) t (record t { notified = ys }))
noted_notified (Ok v) t ys n x here rest = is_noted_notified t ys n x here rest
noted_notified (Err e) t ys n x here rest = tt

module _ (t : Tables) (ys : Vec Users) (n : ℕ) (x : Users) (here : users_in ys.items n ≡ joined (users_in t.cancelled.items n) x) (rest : (k : ℕ) → (k ≡ n → ⊥) → users_in ys.items k ≡ users_in t.cancelled.items k) where
  others_cancelled : (w : Use) → (users_at (record t { cancelled = ys }) w ≡ users_at t w) ⊎ ((w ≡ used.Cancels n) × (users_at (record t { cancelled = ys }) w ≡ joined (users_at t w) x))
  others_cancelled used.Unfit = inl refl
  others_cancelled used.Watches = inl refl
  others_cancelled used.Quantum = inl refl
  others_cancelled (used.Variable k) = inl refl
  others_cancelled (used.Memory k) = inl refl
  others_cancelled (used.WritesSignal k) = inl refl
  others_cancelled (used.ReadsFifo k) = inl refl
  others_cancelled (used.WritesFifo k) = inl refl
  others_cancelled (used.Notifies k) = inl refl
  others_cancelled (used.Cancels k) = elim (number t.cancelled ys n x here rest k) [ inl same ↦ inl same | inr w ↦ inr (ap used.Cancels w.0, w.1) ]

  is_noted_cancelled : Noted x (used.Cancels n) t (record t { cancelled = ys })
  is_noted_cancelled = record { here = here; others = others_cancelled }

pub noted_cancelled : {A E : Type 0} (r : Result A E) (t : Tables) (ys : Vec Users) (n : ℕ) (x : Users) → OnOk r (users_in ys.items n ≡ joined (users_in t.cancelled.items n) x)
    → OnOk r ((k : ℕ) → (k ≡ n → ⊥) → users_in ys.items k ≡ users_in t.cancelled.items k) → OnOk r (Noted x (used.Cancels n) t (record t { cancelled = ys }))
noted_cancelled (Ok v) t ys n x here rest = is_noted_cancelled t ys n x here rest
noted_cancelled (Err e) t ys n x here rest = tt
