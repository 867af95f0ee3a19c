-- Items: clocks, sizes and first numbers, and the forms of bindings.
use Rattle.std.specs.Prelude.{ℕ, ◌*◌, ◌==◌, ◌&&◌, ◌||◌, Bool, true, false, not, nat_le, nat_lt, List, unwrap_or, option_and_then, Option, Some, None}
use Rattle.flat_design.specs.SimTime.Times.{picoseconds_in}
use Rattle.flat_design.specs.ModelTree.Tree as tree
use Rattle.flat_design.specs.ModelTree.declared.types.ConstantForm.{ConstantForm}
use Rattle.flat_design.specs.ModelTree.declared.types.ConstantForm.TheVariants as constant
use Rattle.flat_design.specs.ModelTree.declared.types.Span.{Span}
use Rattle.flat_design.specs.ModelTree.declared.items.ClockItem.{ClockItem}
use Rattle.model_rules.specs.Meanings.{port_size}
use Rattle.model_rules.specs.Scopes.{Scope, meaning_of}
use Rattle.model_rules.specs.Types.{is_port}
use Rattle.model_rules.specs.declared.meanings.Meaning.{Meaning}
use Rattle.model_rules.specs.declared.meanings.Meaning.TheVariants as meaning
use Rattle.model_rules.specs.Sites as part
use Rattle.model_rules.specs.Sites.{Part, Site}
use Rattle.model_rules.specs.Names.{name_if, child_module, declared_in}
use Rattle.model_rules.specs.declared.ends.EndMeaning.{EndMeaning}
use Rattle.model_rules.specs.declared.ends.EndMeaning.TheVariants as end_meaning
use Rattle.model_rules.specs.declared.ends.LeftEnd.{LeftEnd}
use Rattle.model_rules.specs.declared.ends.LeftEnd.TheVariants as left_end

-- 0 < high < period
abbrev pub picoseconds : Span → ℕ
picoseconds t = t.count * picoseconds_in t.unit

abbrev pub is_clock : ClockItem → Bool
is_clock c = nat_lt 0 (picoseconds c.high) && nat_lt (picoseconds c.high) (picoseconds c.period)

abbrev pub clock_in : Part → Option (List ℕ)
clock_in (part.of_item before (tree.clock line c)) = name_if (not (is_clock c)) c.name
clock_in other = None

abbrev pub bad_clock : Site → Option (List ℕ)
bad_clock x = clock_in x.part

-- the size of a fifo is 1 to 65,536
abbrev pub is_fifo_size : Option ℕ → Bool
is_fifo_size None = true
is_fifo_size (Some size) = nat_le 1 size && nat_le size 65536

abbrev pub fifo_in : Part → Option (List ℕ)
fifo_in (part.of_item before (tree.fifo line t name size)) = name_if (not (is_fifo_size size)) name
fifo_in other = None

abbrev pub fifo_size : Site → Option (List ℕ)
fifo_size x = fifo_in x.part

-- a semaphore starts from 0 to 2,147,483,647
abbrev pub is_start : ConstantForm → Bool
is_start (constant.Number n) = nat_le n 2147483647
is_start (constant.Negative n) = n == 0
is_start (constant.Time n unit) = true
is_start (constant.Logic v) = true
is_start (constant.Truth b) = true

abbrev pub semaphore_in : Part → Option (List ℕ)
semaphore_in (part.of_item before (tree.semaphore line name c)) = name_if (not (is_start c.form)) name
semaphore_in other = None

abbrev pub semaphore_range : Site → Option (List ℕ)
semaphore_range x = semaphore_in x.part

-- the size of a port is 1 to 64
abbrev pub is_port_size : ℕ → Bool
is_port_size size = nat_le 1 size && nat_le size 64

abbrev pub port_in : Part → Option (List ℕ)
port_in (part.of_item before (tree.port line i name size)) = name_if (not (is_port_size (port_size size))) name
port_in other = None

abbrev pub port_range : Site → Option (List ℕ)
port_range x = port_in x.part

-- bindings

abbrev pub own_if : Option Meaning → EndMeaning
own_if None = end_meaning.Unknown
own_if (Some m) = end_meaning.Own m

abbrev pub of_child_if : Option Meaning → EndMeaning
of_child_if None = end_meaning.Unknown
of_child_if (Some m) = end_meaning.OfChild m

abbrev pub reached : Scope → List ℕ → Option (List ℕ) → EndMeaning
reached s name None = own_if (meaning_of s name)
reached s name (Some member) = of_child_if (option_and_then (λ (m : tree.Module). declared_in m member) (child_module s name))

abbrev pub left_own : Meaning → LeftEnd
left_own meaning.Export = left_end.Export
left_own (meaning.Target true) = left_end.PassTarget
left_own other = left_end.NoForm

abbrev pub left_child : Meaning → LeftEnd
left_child (meaning.In s size) = left_end.PortOfChild
left_child (meaning.Out s size) = left_end.PortOfChild
left_child (meaning.FifoIn s size) = left_end.PortOfChild
left_child (meaning.FifoOut s size) = left_end.PortOfChild
left_child (meaning.MutexPort size) = left_end.PortOfChild
left_child (meaning.SemaphorePort size) = left_end.PortOfChild
left_child (meaning.Initiator pass) = left_end.InitiatorOfChild
left_child other = left_end.NoForm

abbrev pub left_of : EndMeaning → LeftEnd
left_of end_meaning.Unknown = left_end.Unknown
left_of (end_meaning.Own m) = left_own m
left_of (end_meaning.OfChild m) = left_child m

-- what each left end may be bound to
abbrev pub is_own_channel : EndMeaning → Bool
is_own_channel (end_meaning.Own (meaning.Signal s)) = true
is_own_channel (end_meaning.Own meaning.Resolved) = true
is_own_channel (end_meaning.Own meaning.Clock) = true
is_own_channel (end_meaning.Own (meaning.Fifo s)) = true
is_own_channel (end_meaning.Own meaning.Mutex) = true
is_own_channel (end_meaning.Own meaning.Semaphore) = true
is_own_channel other = false

abbrev pub is_own_port : EndMeaning → Bool
is_own_port end_meaning.Unknown = false
is_own_port (end_meaning.Own m) = is_port m
is_own_port (end_meaning.OfChild m) = false

abbrev pub is_export_of_child : EndMeaning → Bool
is_export_of_child (end_meaning.OfChild meaning.Export) = true
is_export_of_child other = false

abbrev pub is_own_pass_initiator : EndMeaning → Bool
is_own_pass_initiator (end_meaning.Own (meaning.Initiator true)) = true
is_own_pass_initiator other = false

abbrev pub is_target_of_child : EndMeaning → Bool
is_target_of_child (end_meaning.OfChild (meaning.Target pass)) = true
is_target_of_child other = false

abbrev pub leads : LeftEnd → EndMeaning → Bool
leads left_end.Unknown right = true
leads left_end.NoForm right = true
leads left_end.PortOfChild right = is_own_channel right || is_own_port right || is_export_of_child right
leads left_end.Export right = is_own_channel right || is_export_of_child right
leads left_end.InitiatorOfChild right = is_own_pass_initiator right || is_target_of_child right
leads left_end.PassTarget right = is_target_of_child right

abbrev pub leads_if_known : LeftEnd → EndMeaning → Bool
leads_if_known left end_meaning.Unknown = true
leads_if_known left (end_meaning.Own m) = leads left (end_meaning.Own m)
leads_if_known left (end_meaning.OfChild m) = leads left (end_meaning.OfChild m)

abbrev pub last_name : List ℕ → Option (List ℕ) → List ℕ
last_name name member = unwrap_or member name

-- the left end has no form of its own, or the right end is none that it may be bound to
abbrev pub bound_wrong : LeftEnd → EndMeaning → List ℕ → List ℕ → Option (List ℕ)
bound_wrong left_end.NoForm right left_name right_name = Some left_name
bound_wrong left right left_name right_name = name_if (not (leads_if_known left right)) right_name

abbrev pub binding_in_item : Scope → tree.Item → Option (List ℕ)
binding_in_item s (tree.bind line left right) =
    bound_wrong (left_of (reached s left.name left.member)) (reached s right.name right.member) (last_name left.name left.member) (last_name right.name right.member)
binding_in_item s other = None

-- a socket that hands calls on is used in no transport call
abbrev pub is_pass : Option Meaning → Bool
is_pass (Some (meaning.Initiator pass)) = pass
is_pass (Some (meaning.Target pass)) = pass
is_pass other = false

abbrev pub pass_in : Scope → List ℕ → Option (List ℕ)
pass_in s socket = name_if (is_pass (meaning_of s socket)) socket

abbrev pub binding_in : Scope → Part → Option (List ℕ)
binding_in s (part.of_item before i) = binding_in_item s i
binding_in s (part.of_operation (tree.nb_transport socket p phase delay)) = pass_in s socket
binding_in s (part.of_statement (tree.act line (tree.b_transport socket p delay))) = pass_in s socket
binding_in s other = None

abbrev pub bad_binding : Site → Option (List ℕ)
bad_binding x = binding_in x.scope x.part
