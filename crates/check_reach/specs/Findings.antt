-- What is found at a statement, by what it does and where it stands.
use Rattle.std.specs.Prelude.{ℕ, ◌||◌, ◌&&◌, Bool, false, List, [], Option, None, Some}
use Rattle.std.specs.Option.{option_or}
use Rattle.model_tree.specs.Tree as tree
use Rattle.model_tree.specs.declared.faults.Fault.{Fault}
use Rattle.model_tree.specs.declared.faults.Kind.TheVariants as kind
use Rattle.flat_design.specs.declared.code.BodyKind.TheVariants as body_kind
use Rattle.check_expressions.specs.ModelRules.Scopes.{Scope, item_scope}
use Rattle.check_expressions.specs.ModelRules.Names.{first}
use Rattle.check_expressions.specs.ModelRules.Sites.{Site, site, of_statement}
use Rattle.check_expressions.specs.ModelRules.Passes.{fault_at, reaches}
use Rattle.check_expressions.specs.ModelRules.Reach.{Placed, is_among, is_process_of, from_methods, from_threads, from_nonblocking, from_unwinding, blocking_functions, is_blocking, acts, is_next_trigger, is_throw, is_spawn, transports}
use Rattle.check_expressions.specs.Findings.{told_if}
use Rattle.check_reach.specs.Flat.{Flat, flats_in}
use Rattle.check_reach.specs.declared.findings.Deed.{Deed}
use Rattle.check_reach.specs.declared.findings.Standing.{Standing}

-- the line of a statement's first token
abbrev pub statement_line : tree.Statement → ℕ
statement_line (tree.var line t name e) = line
statement_line (tree.assign line target e) = line
statement_line (tree.operate line name at o) = line
statement_line (tree.act line a) = line
statement_line (tree.if_ line e body other) = line
statement_line (tree.while_ line e body) = line
statement_line (tree.guard line body undo) = line
statement_line (tree.try_ line body handlers) = line

-- a statement of a body as a construct: of its place only the module, the body and unwind blocks matter
abbrev pub placed_scope : List tree.Item → List ℕ → Bool → Scope
placed_scope items around unwinding = record (item_scope [] items around) { unwinding = unwinding }

abbrev pub placed_site : List tree.Item → List ℕ → Placed → Site
placed_site items around x = site (placed_scope items around x.1) (statement_line x.0) (of_statement x.0)

abbrev pub placed_fault : List tree.Item → List ℕ → Placed → Option Fault
placed_fault items around x = fault_at reaches (placed_site items around x)

abbrev pub flat_fault : List tree.Item → Flat → Option Fault
flat_fault items f = first (placed_fault items f.name) f.statements

abbrev pub items_fault : List tree.Item → Option Fault
items_fault items = first (flat_fault items) (flats_in items)

abbrev pub module_fault : tree.Module → Option Fault
module_fault m = items_fault m.items

-- whether a name is that of a function which blocks
abbrev pub is_blocking_name : List tree.Item → Option (List ℕ) → Bool
is_blocking_name items None = false
is_blocking_name items (Some name) = is_among (blocking_functions items) name

-- what a statement does
abbrev pub deed_of : List tree.Item → tree.Statement → Deed
deed_of items s = record { blocks = is_blocking items s; triggers = acts is_next_trigger s; throws = acts is_throw s; spawns = acts is_spawn s; transports = transports s }

-- where the statements of a body stand
abbrev pub standing_of : List tree.Item → List ℕ → Standing
standing_of items around = record {
  in_method = is_process_of items body_kind.Method around || is_among (from_methods items) around;
  in_thread = is_process_of items body_kind.Thread around || is_among (from_threads items) around;
  in_nonblocking = is_among (from_nonblocking items) around;
  in_unwinding = is_among (from_unwinding items) around;
}

abbrev pub unwinding_fault : ℕ → List ℕ → Deed → Bool → Option Fault
unwinding_fault line around d unwinds =
    option_or (told_if kind.WaitInUnwind line around (d.blocks && unwinds))
    (option_or (told_if kind.ThrowInUnwind line around (d.throws && unwinds))
    (option_or (told_if kind.SpawnInUnwind line around (d.spawns && unwinds)) (told_if kind.TransportInUnwind line around (d.transports && unwinds))))

abbrev pub deed_fault : ℕ → List ℕ → Deed → Standing → Bool → Option Fault
deed_fault line around d s unwinds =
    option_or (told_if kind.WaitInMethod line around (d.blocks && s.in_method))
    (option_or (told_if kind.TriggerInThread line around (d.triggers && s.in_thread))
    (option_or (told_if kind.BlockingInNonblocking line around (d.blocks && s.in_nonblocking)) (unwinding_fault line around d unwinds)))
