-- Places where all types are known: no declaration that is visible there has a width out of range.
use Rattle.std.specs.Prelude.{◌≡◌, ℕ, Bool, true, List, is_some, Some}
use Rattle.code_rules.specs.ModelRules.Scopes.{Scope, meaning_of}
use Rattle.code_rules.specs.ModelRules.declared.meanings.Meaning.{Meaning}
use Rattle.code_rules.specs.ModelRules.declared.meanings.Meaning.TheVariants as meaning

abbrev pub is_type_known : Meaning → Bool
is_type_known (meaning.Signal s) = is_some s
is_type_known meaning.Resolved = true
is_type_known meaning.Clock = true
is_type_known (meaning.Fifo s) = is_some s
is_type_known meaning.Mutex = true
is_type_known meaning.Event = true
is_type_known meaning.Keeper = true
is_type_known meaning.Semaphore = true
is_type_known meaning.Memory = true
is_type_known (meaning.Variable s) = is_some s
is_type_known (meaning.In s size) = is_some s
is_type_known (meaning.Out s size) = is_some s
is_type_known (meaning.FifoIn s size) = is_some s
is_type_known (meaning.FifoOut s size) = is_some s
is_type_known (meaning.MutexPort size) = true
is_type_known (meaning.SemaphorePort size) = true
is_type_known meaning.Export = true
is_type_known (meaning.Initiator pass) = true
is_type_known (meaning.Target pass) = true
is_type_known meaning.Instance = true
is_type_known meaning.Function = true
is_type_known meaning.Process = true

abbrev pub TypesAreKnown : Scope → Type 0
TypesAreKnown s = (name : List ℕ) (m : Meaning) → meaning_of s name ≡ Some m → is_type_known m ≡ true
