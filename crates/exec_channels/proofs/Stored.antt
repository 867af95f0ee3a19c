-- A result goes where its name says.
use Rattle.std.proofs.Common.{◌≡◌, ℕ, Option, Some, None, refl, ap, subst, ◌∙◌}
use Rattle.kernel_view.specs.LogicValues.declared.kinds.Value.{Value}
use Rattle.flat_design.specs.declared.names.NameUse.{NameUse}
use Rattle.flat_design.specs.declared.names.NameUse.TheVariants as name_use
use Rattle.flat_design.specs.declared.value_types.ValueType.{ValueType}
use Rattle.flat_design.specs.declared.code.Store.{Store as Target}
use Rattle.flat_design.specs.declared.design.Denoted.{Denoted}
use Rattle.flat_design.specs.declared.design.Denoted.TheVariants as denoted
use Rattle.kernel_view.specs.SimModel.Values.{cut_to}
use Rattle.kernel_view.specs.SimModel.Configuration.{Config}
use Rattle.kernel_view.specs.SimModel.Reading.{Here, denotes}
use Rattle.kernel_view.specs.SimModel.Storing.{set_name, set_denoted, stored_if}
use Rattle.kernel_view.specs.KernelState.Kernel.{StandsFor}
use Rattle.kernel_view.specs.KernelState.Moves.{Moves}
use Rattle.kernel_view.specs.KernelState.declared.kernel.Kernel.{Kernel}
use Rattle.exec_channels.specs.Slots.{slot_of, slot_named, slot_here, kept_in}
use Rattle.exec_channels.specs.declared.slots.Slot.{Slot}

of_denoted : (c : Config) (p : ℕ) (d : Denoted) (t : ValueType) (v : Value) → kept_in c p (slot_of d t) v ≡ set_denoted c d (cut_to t v)
of_denoted c p denoted.Nothing t v = refl
of_denoted c p (denoted.Channel ch) t v = refl
of_denoted c p (denoted.Event e) t v = refl
of_denoted c p (denoted.Keeper k) t v = refl
of_denoted c p (denoted.Memory m) t v = refl
of_denoted c p (denoted.Variable n) t v = refl
of_denoted c p (denoted.Port n) t v = refl
of_denoted c p (denoted.Process q) t v = refl
of_denoted c p (denoted.Socket hop forward) t v = refl

of_name : (c : Config) (p : ℕ) (h : Here) (n : NameUse) (t : ValueType) (v : Value) → kept_in c p (slot_named h n t) v ≡ set_name c p h n (cut_to t v)
of_name c p h (name_use.Local n) t v = refl
of_name c p h (name_use.Declared n) t v = of_denoted c p (denotes h n) t v

of_target : (c : Config) (p : ℕ) (h : Here) (x : Option Target) (v : Value) → kept_in c p (slot_here h x) v ≡ stored_if c p h x v
of_target c p h None v = refl
of_target c p h (Some x) v = of_name c p h x.name x.value_type v

pub stored_moves : (k l : Kernel) (p : ℕ) (s : Slot) (v : Value) → Moves k l (λ c. kept_in c p s v) → (h : Here) (x : Option Target) → s ≡ slot_here h x → Moves k l (λ c. stored_if c p h x v)
stored_moves k l p s v moves h x is c stands = subst (StandsFor l) (ap (λ y. kept_in c p y v) is ∙ of_target c p h x v) (moves c stands)
