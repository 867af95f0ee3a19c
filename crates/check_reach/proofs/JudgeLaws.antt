-- What is found at a statement is what the rules say of it.
use Rattle.std.proofs.Common.{◌≡◌, ℕ, Bool, true, false, ◌||◌, ◌&&◌, List, [], ◌∷◌, Option, None, Some, refl, sym, ap, ◌∙◌}
use Rattle.std.specs.Prelude.{bytes_eq}
use Rattle.std.specs.List.{list_any}
use Rattle.std.specs.Option.{option_or}
use Rattle.model_tree.specs.Tree as tree
use Rattle.model_tree.specs.declared.faults.Fault.{Fault}
use Rattle.model_tree.specs.declared.faults.Kind.TheVariants as kind
use Rattle.check_expressions.specs.ModelRules.Reach.{Names, Placed, is_call_of, calls_in_operation, blocking_functions}
use Rattle.check_expressions.specs.ModelRules.Scopes.{Scope}
use Rattle.check_expressions.specs.ModelRules.Sites.{site, of_statement}
use Rattle.check_expressions.specs.ModelRules.Passes.{fault_at, reaches}
use Rattle.check_expressions.specs.Findings.{told_if}
use Rattle.check_reach.specs.Flat.{called, called_in}
use Rattle.check_reach.specs.Findings.{statement_line, placed_scope, placed_fault, deed_of, standing_of, deed_fault, is_blocking_name}
use Rattle.check_reach.proofs.Members.{same_test, same_bytes, equal_bytes, any_same}

turned_bytes : (a b : List ℕ) → bytes_eq a b ≡ true → bytes_eq b a ≡ true
turned_bytes a b h = ap (λ x. bytes_eq b x) (equal_bytes a b h) ∙ same_bytes b

either_way : (a b : List ℕ) → bytes_eq a b ≡ bytes_eq b a
either_way a b = same_test (bytes_eq a b) (bytes_eq b a) (turned_bytes a b) (turned_bytes b a)

none_any : (ns : Names) → list_any (λ n. false) ns ≡ false
none_any [] = refl
none_any (n ∷ ns) = none_any ns

abbrev if_blocking : List tree.Item → Option (List ℕ) → Bool
if_blocking items name = is_blocking_name items name

call_blocks : (items : List tree.Item) (o : tree.Operation) → if_blocking items (called_in o) ≡ list_any (λ n. calls_in_operation n o) (blocking_functions items)
call_blocks items (tree.call name arguments) = any_same (λ n. bytes_eq n name) (λ n. bytes_eq name n) (λ n. either_way n name) (blocking_functions items)
call_blocks items (tree.read c) = sym (none_any (blocking_functions items))
call_blocks items (tree.nb_read c name) = sym (none_any (blocking_functions items))
call_blocks items (tree.nb_write c e) = sym (none_any (blocking_functions items))
call_blocks items (tree.trylock c) = sym (none_any (blocking_functions items))
call_blocks items (tree.unlock c) = sym (none_any (blocking_functions items))
call_blocks items (tree.sem_trywait c) = sym (none_any (blocking_functions items))
call_blocks items (tree.nb_transport socket p phase delay) = sym (none_any (blocking_functions items))

pub called_blocks : (items : List tree.Item) (s : tree.Statement) → if_blocking items (called s) ≡ list_any (λ n. is_call_of n s) (blocking_functions items)
called_blocks items (tree.var line t name e) = sym (none_any (blocking_functions items))
called_blocks items (tree.assign line target e) = sym (none_any (blocking_functions items))
called_blocks items (tree.operate line name at o) = call_blocks items o
called_blocks items (tree.act line a) = sym (none_any (blocking_functions items))
called_blocks items (tree.if_ line e body other) = sym (none_any (blocking_functions items))
called_blocks items (tree.while_ line e body) = sym (none_any (blocking_functions items))
called_blocks items (tree.guard line body undo) = sym (none_any (blocking_functions items))
called_blocks items (tree.try_ line body handlers) = sym (none_any (blocking_functions items))

last : {A : Type 0} (g : Option A) → option_or g None ≡ g
last None = refl
last (Some x) = refl

shape : (a b c d e f g : Option Fault)
    → option_or a (option_or b (option_or c (option_or d (option_or e (option_or f (option_or g None)))))) ≡ option_or a (option_or b (option_or c (option_or d (option_or e (option_or f g)))))
shape a b c d e f g = ap (λ x. option_or a (option_or b (option_or c (option_or d (option_or e (option_or f x)))))) (last g)

-- a statement as a construct
pub at_site : (s : Scope) (line : ℕ) (x : tree.Statement)
    → fault_at reaches (site s line (of_statement x)) ≡ deed_fault line s.around (deed_of s.items x) (standing_of s.items s.around) (s.unwinding || (standing_of s.items s.around).in_unwinding)
at_site s line x =
    let d = deed_of s.items x in
    let w = standing_of s.items s.around in
    let u = s.unwinding || w.in_unwinding in
    let around = s.around in
    shape (told_if kind.WaitInMethod line around (d.blocks && w.in_method)) (told_if kind.TriggerInThread line around (d.triggers && w.in_thread))
    (told_if kind.BlockingInNonblocking line around (d.blocks && w.in_nonblocking)) (told_if kind.WaitInUnwind line around (d.blocks && u))
    (told_if kind.ThrowInUnwind line around (d.throws && u)) (told_if kind.SpawnInUnwind line around (d.spawns && u)) (told_if kind.TransportInUnwind line around (d.transports && u))

pub same_site : (s : Scope) (line : ℕ) (x : tree.Statement) → fault_at reaches (site s line (of_statement x)) ≡ fault_at reaches (site (placed_scope s.items s.around s.unwinding) line (of_statement x))
same_site s line x = at_site s line x ∙ sym (at_site (placed_scope s.items s.around s.unwinding) line x)

pub judged_is : (items : List tree.Item) (around : List ℕ) (x : Placed)
    → deed_fault (statement_line x.0) around (deed_of items x.0) (standing_of items around) (x.1 || (standing_of items around).in_unwinding) ≡ placed_fault items around x
judged_is items around x = sym (at_site (placed_scope items around x.1) (statement_line x.0) x.0)
