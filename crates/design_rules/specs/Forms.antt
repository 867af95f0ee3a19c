-- What the items of a module are declared as.
use Rattle.std.specs.Prelude.{ℕ, ◌+◌, Bool, true, false, List, [], ◌∷◌, take, slice_get, bytes_eq, unwrap_or, option_and_then, Option, Some, None}
use Rattle.std.specs.List.{position_or_len}
use Rattle.code_rules.specs.ModelTree.Tree as tree
use Rattle.code_rules.specs.ModelTree.declared.items.PlainKind.{PlainKind}
use Rattle.code_rules.specs.ModelTree.declared.items.PlainKind.TheVariants as plain
use Rattle.code_rules.specs.ModelTree.declared.items.InitiatorRole.{InitiatorRole}
use Rattle.code_rules.specs.ModelTree.declared.items.InitiatorRole.TheVariants as initiator
use Rattle.code_rules.specs.ModelTree.declared.items.TargetRole.{TargetRole}
use Rattle.code_rules.specs.ModelTree.declared.items.TargetRole.TheVariants as target
use Rattle.code_rules.specs.ModelTree.declared.types.BoundRule.{BoundRule}
use Rattle.code_rules.specs.ModelTree.declared.types.BoundRule.TheVariants as bound
use Rattle.code_rules.specs.ModelTree.declared.types.Interface.{Interface}
use Rattle.code_rules.specs.ModelTree.declared.types.Interface.TheVariants as interface
use Rattle.code_rules.specs.ModelTree.declared.types.PortSize.{PortSize}
use Rattle.code_rules.specs.FlatDesign.declared.objects.LeadsTo.{LeadsTo}
use Rattle.code_rules.specs.FlatDesign.declared.objects.LeadsTo.TheVariants as leads
use Rattle.code_rules.specs.FlatDesign.declared.objects.ObjectForm.{ObjectForm}
use Rattle.code_rules.specs.FlatDesign.declared.objects.ObjectForm.TheVariants as form
use Rattle.code_rules.specs.ModelRules.Meanings.{signal_type, variable_type, port_size}
use Rattle.code_rules.specs.Deeds.{body_number}
use Rattle.code_rules.specs.Bodies.{body_count}
use Rattle.design_rules.specs.Values.{known_type, span_time, start_time, whole, first_value}

abbrev pub Name : Type 0
Name = List ℕ

-- modules by their names and places

abbrev pub is_named : Name → tree.Module → Bool
is_named name m = bytes_eq m.name name

abbrev pub items_in : Option tree.Module → List tree.Item
items_in None = []
items_in (Some m) = m.items

-- the items of the module at a place of the text
abbrev pub items_at : List tree.Module → ℕ → List tree.Item
items_at ms place = items_in (slice_get ms place)

-- the place of the module of this name; past all of them where there is none
abbrev pub module_place : List tree.Module → Name → ℕ
module_place ms name = position_or_len (is_named name) ms

-- bodies are numbered in text order over all modules
abbrev pub bodies_in : List tree.Module → ℕ
bodies_in [] = 0
bodies_in (m ∷ ms) = body_count m.items + bodies_in ms

-- all modules, and of the module of an item the items and the number of its first body
pub record Around : Type 0 where
  pub modules : List tree.Module
  pub items : List tree.Item
  pub first_body : ℕ

abbrev pub around : List tree.Module → ℕ → Around
around ms place = record { modules = ms; items = items_at ms place; first_body = bodies_in (take place ms) }

-- the number of the body of this name; 0 where there is none
abbrev pub body : Around → Name → ℕ
body a name = unwrap_or (body_number (record { first_body = a.first_body; exceptions = [] }) a.items name) 0

abbrev pub handler : Around → Option Name → Option ℕ
handler a name = option_and_then (body_number (record { first_body = a.first_body; exceptions = [] }) a.items) name

-- forms

abbrev pub plain_form : PlainKind → ObjectForm
plain_form plain.Mutex = form.Mutex
plain_form plain.Event = form.Event
plain_form plain.Keeper = form.Keeper

abbrev pub leads_of : Interface → LeadsTo
leads_of (interface.In t) = leads.In (known_type (signal_type t))
leads_of (interface.Out t) = leads.Out (known_type (signal_type t))
leads_of (interface.FifoIn t) = leads.FifoIn (known_type (signal_type t))
leads_of (interface.FifoOut t) = leads.FifoOut (known_type (signal_type t))
leads_of interface.Mutex = leads.Mutex
leads_of interface.Semaphore = leads.Semaphore

abbrev pub bound_rule : Option PortSize → BoundRule
bound_rule None = bound.One
bound_rule (Some size) = size.rule

abbrev pub initiator_form : Around → InitiatorRole → ObjectForm
initiator_form a initiator.Pass = form.Initiator true None
initiator_form a (initiator.Own backward) = form.Initiator false (handler a backward)

abbrev pub target_form : Around → TargetRole → ObjectForm
target_form a target.Pass = form.Target true None None
target_form a (target.Own blocking forward) = form.Target false (handler a blocking) (handler a forward)

-- each item but a binding or a function is an object; a fifo has the size 16 unless stated
abbrev pub object_form : Around → tree.Item → Option ObjectForm
object_form a (tree.signal line s) =
    Some (form.Signal s.kind s.many (known_type (signal_type s.value_type)) (first_value (known_type (signal_type s.value_type)) s.initial))
object_form a (tree.resolved line name) = Some form.Resolved
object_form a (tree.clock line c) = Some (form.Clock (span_time c.period) (span_time c.high) (start_time c.start) (body a c.name))
object_form a (tree.fifo line t name size) = Some (form.Fifo (known_type (signal_type t)) (unwrap_or size 16))
object_form a (tree.plain line kind name) = Some (plain_form kind)
object_form a (tree.semaphore line name c) = Some (form.Semaphore (whole c.form))
object_form a (tree.memory line name size) = Some (form.Memory size)
object_form a (tree.variable line t name c) = Some (form.Variable (known_type (variable_type t)) (first_value (known_type (variable_type t)) c))
object_form a (tree.port line i name size) = Some (form.Port (leads_of i) (port_size size) (bound_rule size))
object_form a (tree.export line i name) = Some (form.Export (leads_of i))
object_form a (tree.initiator line name role) = Some (initiator_form a role)
object_form a (tree.target line name role) = Some (target_form a role)
object_form a (tree.instance line kind name) = Some (form.Instance (module_place a.modules kind))
object_form a (tree.bind line left right) = None
object_form a (tree.function line f) = None
object_form a (tree.process line p) = Some (form.Process p.kind (body a p.name) p.dont_initialize)
