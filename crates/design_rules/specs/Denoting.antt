-- What an object is to a body that names it, and what the names that a module declares stand for in an instance of it.
use Rattle.std.specs.Prelude.{ℕ, ◌==◌, true, false, Bool, List, [], ◌∷◌, drop, map, position, slice_get, unwrap_or, Option, Some, None}
use Rattle.code_rules.specs.ModelTree.Tree as tree
use Rattle.code_rules.specs.FlatDesign.declared.objects.Object.{Object}
use Rattle.code_rules.specs.FlatDesign.declared.objects.ObjectForm.{ObjectForm}
use Rattle.code_rules.specs.FlatDesign.declared.objects.ObjectForm.TheVariants as form
use Rattle.code_rules.specs.FlatDesign.declared.design.ChannelId.TheVariants as channel
use Rattle.code_rules.specs.FlatDesign.declared.design.Denoted.{Denoted}
use Rattle.code_rules.specs.FlatDesign.declared.design.Denoted.TheVariants as denoted
use Rattle.code_rules.specs.ModelRules.Meanings.{Declared, declarations}
use Rattle.design_rules.specs.Forms.{Name}
use Rattle.design_rules.specs.Listing.{child}
use Rattle.design_rules.specs.declared.bindings.Joined.{Joined}
use Rattle.design_rules.specs.declared.counts.Counts.{Counts}
use Rattle.design_rules.specs.Counting.{nothing_before, along}

-- hops by the objects that they join

abbrev pub begins_at : ℕ → Joined → Bool
begins_at i h = h.initiator == i

abbrev pub ends_at : ℕ → Joined → Bool
ends_at i h = h.target == i

-- the end of a hop, by the hop's number; a socket that is none hands calls on
abbrev pub socket_end : Bool → Option ℕ → Denoted
socket_end forward None = denoted.Nothing
socket_end forward (Some hop) = denoted.Socket hop forward

-- an object, by its number among those of its kind
abbrev pub denoted_by : List Joined → Counts → ObjectForm → Denoted
denoted_by hops n (form.Instance m) = denoted.Nothing
denoted_by hops n (form.Signal kind many t initial) = denoted.Channel (channel.Signal n.signals n.events)
denoted_by hops n form.Resolved = denoted.Channel (channel.Resolved n.resolved n.events)
denoted_by hops n (form.Clock period high start code) = denoted.Channel (channel.Signal n.signals n.events)
denoted_by hops n (form.Fifo t size) = denoted.Channel (channel.Fifo n.fifos n.events)
denoted_by hops n form.Mutex = denoted.Channel (channel.Mutex n.mutexes n.events)
denoted_by hops n form.Event = denoted.Event n.events
denoted_by hops n form.Keeper = denoted.Keeper n.keepers
denoted_by hops n (form.Semaphore start) = denoted.Channel (channel.Semaphore n.semaphores n.events)
denoted_by hops n (form.Memory size) = denoted.Memory n.memories
denoted_by hops n (form.Variable t initial) = denoted.Variable n.variables
denoted_by hops n (form.Port leads_to size rule) = denoted.Port n.ports
denoted_by hops n (form.Export leads_to) = denoted.Nothing
denoted_by hops n (form.Initiator pass backward) = socket_end true (position (begins_at n.objects) hops)
denoted_by hops n (form.Target pass blocking forward) = socket_end false (position (ends_at n.objects) hops)
denoted_by hops n (form.Process kind code dont_initialize) = denoted.Process n.processes

-- each object, by its number among the objects
abbrev pub all_denoted : List Joined → List Object → List Denoted
all_denoted hops os = along (λ n (o : Object). denoted_by hops n o.form ∷ []) nothing_before os

abbrev pub object_denoted : List Denoted → ℕ → Denoted
object_denoted all i = unwrap_or (slice_get all i) denoted.Nothing

-- The objects below the top instance are numbered from 1 on. A name of an instance stands for the object of this name in it;
-- that of a function stands for no object.
abbrev pub below_top : List Object → List Object
below_top os = drop 1 os

abbrev pub named_in : List Denoted → List Object → ℕ → Name → Denoted
named_in all os instance name = object_denoted all (child (below_top os) instance name)

-- the names that a module declares, in text order, in the instance of this number among the objects
abbrev pub names_in : List Denoted → List Object → ℕ → List tree.Item → List Denoted
names_in all os instance items = map (λ (d : Declared). named_in all os instance d.name) (declarations items)
