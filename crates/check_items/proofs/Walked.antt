-- What a walk found, and what the name of a child's object stands for.
use Rattle.std.proofs.Common.{◌≡◌, ℕ, List, Option, Some, None, Result, Ok, Err, IfOk, sym, ap}
use Rattle.std.specs.Prelude.{find, option_map, option_and_then, unwrap_or}
use Rattle.model_tree.specs.Tree as tree
use Rattle.model_tree.specs.declared.faults.Fault.{Fault}
use Rattle.check_statements.specs.ModelRules.Meanings.{Declared, declarations}
use Rattle.check_statements.specs.ModelRules.Scopes.{Scope, is_declared}
use Rattle.check_statements.specs.ModelRules.Names.{declared_in}
use Rattle.check_statements.specs.CheckExpressions.Findings.{faults_of}
use Rattle.check_statements.specs.CheckExpressions.declared.findings.Finding.{Finding}
use Rattle.check_statements.specs.Walks.{Walks}

pub found_by : (fault : Option Fault) (end now : Scope) (found : Option Finding) → Walks fault end now found → faults_of found ≡ fault
found_by fault end now None h = sym h.0
found_by fault end now (Some f) h = sym h

pub if_ok : {T E : Type 0} {P Q : T → Type 0} (r : Result T E) → ((x : T) → P x → Q x) → IfOk r P → IfOk r Q
if_ok (Ok x) f h = f x h
if_ok (Err e) f h = h

same_some : {A : Type 0} (x y : A) → Some x ≡ Some y → x ≡ y
same_some x y h = ap (λ o. unwrap_or o x) h

pub of_child : (o : Option tree.Module) (items : List tree.Item) (name : List ℕ) → Some items ≡ option_map (λ (m : tree.Module). m.items) o
    → option_map (λ (d : Declared). d.meaning) (find (is_declared name) (declarations items)) ≡ option_and_then (λ (m : tree.Module). declared_in m name) o
of_child None items name h = cc
of_child (Some m) items name h = ap (λ (is : List tree.Item). option_map (λ (d : Declared). d.meaning) (find (is_declared name) (declarations is))) (same_some items m.items h)
