-- To which local variables of the call that it stands in a statement stores: in its step, and where a call that it made ends.
use Rattle.std.specs.Prelude.{◌≡◌, ⊤, ℕ, List, [], ◌∷◌, Option, Some, None}
use Rattle.laws_runs.specs.FlatDesign.Code as code
use Rattle.laws_runs.specs.FlatDesign.Code.{ArgumentTerm, DestinationTerm, Statement, Arena, body_at}
use Rattle.laws_runs.specs.FlatDesign.Reach.{Holds, InBody}
use Rattle.laws_runs.specs.FlatDesign.declared.names.NameUse.{NameUse}
use Rattle.laws_runs.specs.FlatDesign.declared.names.NameUse.TheVariants as name_use
use Rattle.laws_runs.specs.FlatDesign.declared.code.CodeBody.{CodeBody}
use Rattle.laws_runs.specs.FlatDesign.declared.code.Store.{Store as Target}

-- of a name that is stored to: where it is a local variable, its number is so

abbrev pub StoresTo : (ℕ → Type 0) → NameUse → Type 0
StoresTo P (name_use.Local n) = P n
StoresTo P (name_use.Declared n) = ⊤

abbrev pub StoresIf : (ℕ → Type 0) → Option NameUse → Type 0
StoresIf P None = ⊤
StoresIf P (Some n) = StoresTo P n

abbrev pub StoresTarget : (ℕ → Type 0) → Option Target → Type 0
StoresTarget P None = ⊤
StoresTarget P (Some t) = StoresTo P t.name

-- an inout argument is stored to where the call ends
abbrev pub StoresArguments : (ℕ → Type 0) → List ArgumentTerm → Type 0
StoresArguments P [] = ⊤
StoresArguments P (code.by_value e ∷ more) = StoresArguments P more
StoresArguments P (code.inout n ∷ more) = StoresTo P n × StoresArguments P more

abbrev pub StoresDestination : (ℕ → Type 0) → DestinationTerm → Type 0
StoresDestination P (code.to_name t) = StoresTo P t.name
StoresDestination P (code.to_field n f) = ⊤
StoresDestination P (code.to_element n index) = ⊤
StoresDestination P (code.to_payload_byte n b index) = ⊤

-- the number of each local variable that the statement itself stores to is so
abbrev pub OnlyStores : (ℕ → Type 0) → Statement → Type 0
OnlyStores P (code.var n t e) = P n
OnlyStores P (code.assign d e) = StoresDestination P d
OnlyStores P (code.call x f arguments) = StoresTarget P x × StoresArguments P arguments
OnlyStores P (code.read x ch) = StoresTarget P x
OnlyStores P (code.nb_read x ch y) = StoresTarget P x × StoresTo P y.name
OnlyStores P (code.nb_write x ch t e) = StoresTarget P x
OnlyStores P (code.trylock x ch) = StoresTarget P x
OnlyStores P (code.unlock x ch) = StoresTarget P x
OnlyStores P (code.sem_trywait x ch) = StoresTarget P x
OnlyStores P (code.nb_transport x socket n phase d) = StoresTarget P x × StoresTo P phase × StoresTo P d
OnlyStores P (code.write ch t e) = ⊤
OnlyStores P (code.print text e) = ⊤
OnlyStores P (code.notify n) = ⊤
OnlyStores P (code.notify_delta n) = ⊤
OnlyStores P (code.notify_after n e) = ⊤
OnlyStores P (code.cancel n) = ⊤
OnlyStores P (code.wait w) = ⊤
OnlyStores P (code.next_trigger w) = ⊤
OnlyStores P (code.lock ch) = ⊤
OnlyStores P (code.sem_wait ch) = ⊤
OnlyStores P (code.post ch) = ⊤
OnlyStores P (code.make n e m) = StoresTo P n
OnlyStores P (code.acquire n) = ⊤
OnlyStores P (code.release n) = ⊤
OnlyStores P (code.carry n m) = ⊤
OnlyStores P (code.b_transport socket n d) = StoresTo P d
OnlyStores P (code.qk_global e) = ⊤
OnlyStores P (code.qk_inc n e) = ⊤
OnlyStores P (code.qk_set n e) = ⊤
OnlyStores P (code.qk_reset n) = ⊤
OnlyStores P (code.spawn s) = StoresIf P s.handle
OnlyStores P (code.control k who all) = ⊤
OnlyStores P (code.throw_it who e all) = ⊤
OnlyStores P (code.throw e) = ⊤
OnlyStores P (code.return_ e) = ⊤
OnlyStores P code.stop = ⊤
OnlyStores P (code.if_ e b other) = ⊤
OnlyStores P (code.while_ e b) = ⊤
OnlyStores P (code.guard b u) = ⊤
OnlyStores P (code.try_ b handlers) = ⊤

-- no statement of the unwind blocks of the body f stores to its local variable k
abbrev pub UnwindsSpare : Arena → ℕ → ℕ → Type 0
UnwindsSpare a f k =
    (b : CodeBody) (body unwind : ℕ) (x : Statement) → body_at a f ≡ Some b → InBody a b (code.guard body unwind) → Holds a unwind x → OnlyStores (λ n. n ≡ k → ⊥) x
