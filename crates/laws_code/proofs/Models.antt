-- Bodies, modules and models have code.
use Rattle.std.proofs.Common.{◌≡◌, ℕ, ◌+◌, Bool, true, List, [], ◌∷◌, ◌++◌, append_assoc, Option, Some, None, refl, sym, ◌∙◌, subst}
use Rattle.std.specs.Prelude.{is_some, find, bytes_eq}
use Rattle.std.specs.List.{AllByRecursion, cons_option, flat_map}
use Rattle.std.proofs.lemmas.Slice.Eq.{bytes_eq-Decides}
use Rattle.code_rules.specs.ModelTree.Tree as tree
use Rattle.code_rules.specs.ModelTree.Lines.{item_line}
use Rattle.code_rules.specs.ModelTree.declared.types.Parameter.{Parameter}
use Rattle.code_rules.specs.ModelTree.declared.items.ClockItem.{ClockItem}
use Rattle.code_rules.specs.ModelRules.Meanings.{Declared, declaration, declarations}
use Rattle.code_rules.specs.ModelRules.Scopes.{Scope, is_declared, item_scope, place_of, locals_in_block, past, behind, in_unwind}
use Rattle.code_rules.specs.ModelRules.Sites as part
use Rattle.code_rules.specs.ModelRules.Sites.{site, variable_type_sites, expression_sites, option_sites, statement_sites, block_sites, else_sites, handler_sites, parameter_sites, answer_sites, events_sites, function_scope, item_parts, item_sites, around_item, items_sites, module_sites, modules_sites, top_site, sites}
use Rattle.code_rules.specs.ModelRules.Passes.{doubles, constructs, reaches, fault_of, first_fault}
use Rattle.code_rules.specs.ModelRules.Names.{first}
use Rattle.code_rules.proofs.ModelRules.Firsts.{or_none}
use Rattle.code_rules.specs.Deeds.{Home}
use Rattle.code_rules.specs.Bodies.{LocalSource, source_of, variables_in, variables_in_block, variables_in_else, variables_in_handlers, parameter_sources, exceptions_in_item, exceptions_of, body_count}
use Rattle.laws_code.proofs.Typed.{parts_none, head_none}
use Rattle.laws_code.specs.HasCode.{AreNumbered, LocalsHaveTypes, BodyIfHasCode, ItemsHaveCode, ModulesHaveCode, ModelHasCode}
use Rattle.laws_code.proofs.Named.{is_placed, at_true, at_least}
use Rattle.laws_code.proofs.Known.{variable_known}
use Rattle.laws_code.proofs.Declared.{IsKnown, items_known, scope_known, AreTyped, parameters_typed, parameters_known, answer_typed}
use Rattle.laws_code.proofs.Exceptions.{all_numbered}
use Rattle.laws_code.proofs.Blocks.{all_parts, block_coded}

pub all_joined : {A : Type 0} (P : A → Type 0) (xs ys : List A) → AllByRecursion P xs → AllByRecursion P ys → AllByRecursion P (xs ++ ys)
all_joined P [] ys h k = k
all_joined P (x ∷ xs) ys h k = (h.0, all_joined P xs ys h.1 k)

locals_joined : (xs ys : List LocalSource) → LocalsHaveTypes xs → LocalsHaveTypes ys → LocalsHaveTypes (xs ++ ys)
locals_joined xs ys h k = all_joined _ xs ys h k

-- local variables have types
mutual
  locals_typed : (x : tree.Statement) (s : Scope) → fault_of constructs (statement_sites x s) ≡ None → LocalsHaveTypes (variables_in x)
  locals_typed (tree.var line t name e) s clean = (
    variable_known s t
        (parts_none (variable_type_sites s t) (option_sites s e)
        (head_none (site s line (part.of_statement (tree.var line t name e))) (variable_type_sites s t ++ option_sites s e) clean).1).0,
    tt,
  )
  locals_typed (tree.assign line target e) s clean = tt
  locals_typed (tree.operate line name at o) s clean = tt
  locals_typed (tree.act line a) s clean = tt
  locals_typed (tree.if_ line e body other) s clean =
      let p = head_none (site s line (part.of_statement (tree.if_ line e body other))) (expression_sites s e ++ block_sites body s ++ else_sites other (past (locals_in_block body) s)) clean in
      let q = parts_none (expression_sites s e ++ block_sites body s) (else_sites other (past (locals_in_block body) s)) p.1 in
      let r = parts_none (expression_sites s e) (block_sites body s) q.0 in
      locals_joined (variables_in_block body) (variables_in_else other) (block_locals body s r.1) (else_locals other (past (locals_in_block body) s) q.1)
  locals_typed (tree.while_ line e body) s clean =
      let p = head_none (site s line (part.of_statement (tree.while_ line e body))) (expression_sites s e ++ block_sites body s) clean in
      block_locals body s (parts_none (expression_sites s e) (block_sites body s) p.1).1
  locals_typed (tree.guard line body undo) s clean =
      let p = head_none (site s line (part.of_statement (tree.guard line body undo))) (block_sites body s ++ block_sites undo (in_unwind (past (locals_in_block body) s))) clean in
      let q = parts_none (block_sites body s) (block_sites undo (in_unwind (past (locals_in_block body) s))) p.1 in
      locals_joined (variables_in_block body) (variables_in_block undo) (block_locals body s q.0) (block_locals undo (in_unwind (past (locals_in_block body) s)) q.1)
  locals_typed (tree.try_ line body handlers) s clean =
      let p = head_none (site s line (part.of_statement (tree.try_ line body handlers))) (block_sites body s ++ handler_sites handlers (past (locals_in_block body) s)) clean in
      let q = parts_none (block_sites body s) (handler_sites handlers (past (locals_in_block body) s)) p.1 in
      locals_joined (variables_in_block body) (variables_in_handlers handlers) (block_locals body s q.0) (handlers_locals handlers (past (locals_in_block body) s) q.1)

  block_locals : (b : tree.Block) (s : Scope) → fault_of constructs (block_sites b s) ≡ None → LocalsHaveTypes (variables_in_block b)
  block_locals tree.over s clean = tt
  block_locals (tree.then x xs) s clean =
      let p = parts_none (statement_sites x s) (block_sites xs (behind x s)) clean in
      locals_joined (variables_in x) (variables_in_block xs) (locals_typed x s p.0) (block_locals xs (behind x s) p.1)

  else_locals : (o : tree.Else) (s : Scope) → fault_of constructs (else_sites o s) ≡ None → LocalsHaveTypes (variables_in_else o)
  else_locals tree.no_else s clean = tt
  else_locals (tree.else_block body) s clean = block_locals body s clean

  handlers_locals : (hs : tree.Handlers) (s : Scope) → fault_of constructs (handler_sites hs s) ≡ None → LocalsHaveTypes (variables_in_handlers hs)
  handlers_locals tree.no_more s clean = tt
  handlers_locals (tree.handler name body more) s clean =
      let p = parts_none (block_sites body s) (handler_sites more (past (locals_in_block body) s)) clean in
      locals_joined (variables_in_block body) (variables_in_handlers more) (block_locals body s p.0) (handlers_locals more (past (locals_in_block body) s) p.1)

parameter_locals : (ps : List Parameter) → AreTyped ps → LocalsHaveTypes (parameter_sources ps)
parameter_locals [] h = tt
parameter_locals (p ∷ ps) h = (h.0, parameter_locals ps h.1)

-- a clock's name is one of its module's
in_more : (p : Declared → Bool) (o : Option Declared) (ds : List Declared) → is_some (find p ds) ≡ true → is_some (find p (cons_option o ds)) ≡ true
in_more p None ds h = h
in_more p (Some d) ds h = at_least (p d) d (find p ds) h

clock_found : (before : List tree.Item) (line : ℕ) (c : ClockItem) (is : List tree.Item) → is_some (find (is_declared c.name) (declarations (before ++ tree.clock line c ∷ is))) ≡ true
clock_found [] line c is = at_true (bytes_eq c.name c.name) _ (find (is_declared c.name) (declarations is)) ((bytes_eq-Decides c.name c.name).1 refl)
clock_found (i ∷ before) line c is = in_more (is_declared c.name) (declaration i) (declarations (before ++ tree.clock line c ∷ is)) (clock_found before line c is)

clock_placed : (all before : List tree.Item) (line : ℕ) (c : ClockItem) (is : List tree.Item) (s : Scope) → s.items ≡ all → all ≡ before ++ tree.clock line c ∷ is → is_some (place_of s c.name) ≡ true
clock_placed all before line c is s e k =
    is_placed (is_declared c.name) (declarations s.items)
    (subst (λ (xs : List tree.Item). is_some (find (is_declared c.name) (declarations xs)) ≡ true) (sym (e ∙ k)) (clock_found before line c is))

module _ (modules : List tree.Module) (all : List tree.Item) (declared : AllByRecursion IsKnown (declarations all)) where
  item_coded : (h : Home) (before : List tree.Item) (i : tree.Item) (is : List tree.Item) → all ≡ before ++ i ∷ is → AreNumbered h (exceptions_in_item i)
      → fault_of constructs (item_parts (item_scope modules all (around_item i)) i) ≡ None → BodyIfHasCode h (item_scope modules all (around_item i)) (source_of i)
  item_coded h before (tree.signal line x) is e n clean = tt
  item_coded h before (tree.resolved line name) is e n clean = tt
  item_coded h before (tree.clock line c) is e n clean = record { locals = tt; answer = tt; statements = clock_placed all before line c is (item_scope modules all c.name) refl e }
  item_coded h before (tree.fifo line t name size) is e n clean = tt
  item_coded h before (tree.plain line kind name) is e n clean = tt
  item_coded h before (tree.semaphore line name c) is e n clean = tt
  item_coded h before (tree.memory line name size) is e n clean = tt
  item_coded h before (tree.variable line t name c) is e n clean = tt
  item_coded h before (tree.port line i name size) is e n clean = tt
  item_coded h before (tree.export line i name) is e n clean = tt
  item_coded h before (tree.initiator line name role) is e n clean = tt
  item_coded h before (tree.target line name role) is e n clean = tt
  item_coded h before (tree.instance line kind name) is e n clean = tt
  item_coded h before (tree.bind line left right) is e n clean = tt
  item_coded h before (tree.function line f) is e n clean =
      let p = parts_none (parameter_sites (item_scope modules all f.name) f.parameters ++ answer_sites (item_scope modules all f.name) f.answer) (block_sites f.body (function_scope (item_scope modules all f.name) f)) clean in
      let q = parts_none (parameter_sites (item_scope modules all f.name) f.parameters) (answer_sites (item_scope modules all f.name) f.answer) p.0 in
      let typed = parameters_typed (item_scope modules all f.name) f.parameters q.0 in
      record {
        locals = locals_joined (parameter_sources f.parameters) (variables_in_block f.body) (parameter_locals f.parameters typed) (block_locals f.body (function_scope (item_scope modules all f.name) f) p.1);
        answer = answer_typed (item_scope modules all f.name) f.answer q.1;
        statements =
            block_coded f.body h (function_scope (item_scope modules all f.name) f)
            (parameters_known (record (item_scope modules all f.name) { answer = f.answer }) f.parameters (scope_known modules all f.name declared) typed) n p.1;
      }
  item_coded h before (tree.process line x) is e n clean =
      let p = parts_none (events_sites (item_scope modules all x.name) true x.sensitive) (block_sites x.body (item_scope modules all x.name)) clean in
      record {
        locals = block_locals x.body (item_scope modules all x.name) p.1;
        answer = tt;
        statements = block_coded x.body h (item_scope modules all x.name) (scope_known modules all x.name declared) n p.1;
      }

  items_coded : (h : Home) (before is : List tree.Item) → all ≡ before ++ is → AreNumbered h (flat_map exceptions_in_item is) → fault_of constructs (items_sites modules all before is) ≡ None
      → ItemsHaveCode modules all h is
  items_coded h before [] e n clean = tt
  items_coded h before (i ∷ is) e n clean =
      let p = parts_none (item_sites (item_scope modules all (around_item i)) before i) (items_sites modules all (before ++ i ∷ []) is) clean in
      let q = head_none (site (item_scope modules all (around_item i)) (item_line i) (part.of_item before i)) (item_parts (item_scope modules all (around_item i)) i) p.0 in
      let m = all_parts _ (exceptions_in_item i) (flat_map exceptions_in_item is) n in
      (item_coded h before i is e m.0 q.1, items_coded h (before ++ i ∷ []) is (e ∙ sym (append_assoc before (i ∷ []) is)) m.1 p.1)

modules_coded : (all : List tree.Module) (exceptions : List (List ℕ)) (k : ℕ) (before ms : List tree.Module)
    → ((k : ℕ) → AreNumbered (record { first_body = k; exceptions = exceptions }) (flat_map (λ (x : tree.Module). flat_map exceptions_in_item x.items) ms))
    → fault_of constructs (modules_sites all before ms) ≡ None → ModulesHaveCode all exceptions k ms
modules_coded all exceptions k before [] n clean = tt
modules_coded all exceptions k before (m ∷ ms) n clean =
    let p = parts_none (module_sites all before m) (modules_sites all (before ++ m ∷ []) ms) clean in
    let q = head_none (site (item_scope all m.items m.name) m.line (part.of_module before m)) (items_sites all m.items [] m.items) p.0 in
    let rest = λ (j : ℕ). all_parts _ (flat_map exceptions_in_item m.items) (flat_map (λ (x : tree.Module). flat_map exceptions_in_item x.items) ms) (n j) in (
      items_coded all m.items (items_known all m.items [] m.items q.1) (record { first_body = k; exceptions = exceptions }) [] m.items refl (rest k).0 q.1,
      modules_coded all exceptions (k + body_count m.items) (before ++ m ∷ []) ms (λ j. (rest j).1) p.1,
    )

-- no construct breaks a rule on one
pub constructs_none : (m : tree.Model) → first_fault m ≡ None → fault_of constructs (sites m) ≡ None
constructs_none m h =
    let p = or_none (fault_of doubles (sites m)) (first (λ rules. fault_of rules (sites m)) (constructs ∷ reaches ∷ [])) h in
    (or_none (fault_of constructs (sites m)) (first (λ rules. fault_of rules (sites m)) (reaches ∷ [])) p.1).0

pub model_coded : (m : tree.Model) → first_fault m ≡ None → ModelHasCode m
model_coded m h =
    let p = parts_none (modules_sites m.modules [] m.modules) (top_site m.modules m.top ∷ []) (constructs_none m h) in
    modules_coded m.modules (exceptions_of m) 0 [] m.modules (λ k. all_numbered k (flat_map (λ (x : tree.Module). flat_map exceptions_in_item x.items) m.modules)) p.0
