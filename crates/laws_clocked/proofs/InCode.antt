-- A clocked thread of a model in its code.
use Rattle.std.proofs.Common.{◌≡◌, ◌≤◌, ◌⊎◌, ℕ, ◌+◌, true, false, inl, inr, List, [], ◌∷◌, ◌++◌, length, take, Some, refl, sym, ap, ◌∙◌, subst, append_assoc, arith}
use Rattle.std.specs.Prelude.{slice_get, Contains, bytes_eq}
use Rattle.std.specs.List.{AllByRecursion}
use Rattle.std.proofs.lemmas.List.Elements.{Contains-append_left, Contains-append_right, Contains-append_cases}
use Rattle.code_rules.specs.ModelTree.Tree as tree
use Rattle.code_rules.specs.ModelTree.declared.types.TypeForm.TheVariants as type_form
use Rattle.code_rules.specs.SimTime.declared.moments.Resolution.{Resolution}
use Rattle.code_rules.specs.FlatDesign.Code.{Arena, arena_of}
use Rattle.code_rules.specs.FlatDesign.Reach.{itself}
use Rattle.code_rules.specs.FlatDesign.declared.code.CodeBody.{CodeBody}
use Rattle.code_rules.specs.FlatDesign.declared.code.Code.{Code}
use Rattle.code_rules.specs.ModelRules.Scopes.{Scope, item_scope, locals_in_block, past, behind}
use Rattle.code_rules.specs.ModelRules.Sites.{Site, site, of_statement, expression_sites, statement_sites, block_sites, handler_sites}
use Rattle.code_rules.specs.Deeds.{Home}
use Rattle.code_rules.specs.Numbered.{IsBlock}
use Rattle.code_rules.specs.Bodies as source
use Rattle.code_rules.specs.Bodies.{LocalSource, variables_in, variables_in_block, process_kind, exceptions_of, body_count, IsBody, IsCodeOf}
use Rattle.expanded_text.specs.Clocked.{Tick, IsClocked, again_name, reset_name, plain_type, with_last, last_form, try_form, body_form}
use Rattle.tick_trees.specs.Retimed as retimed
use Rattle.tick_trees.specs.Ticks.{ticks, ticks_span}
use Rattle.laws_clocked.specs.Coded.{NoneNamed, bodies_in, own_scope, HasThread}
use Rattle.laws_clocked.proofs.Lookups.{behind-other}
use Rattle.laws_clocked.proofs.Reading.{block_is, behind_head}
use Rattle.laws_clocked.proofs.Around.{threads}
use Rattle.laws_clocked.proofs.Walk.{all_parts, all_joined, block_ticks}
use Rattle.laws_clocked.proofs.CodeStoring.{Fits}
use Rattle.laws_clocked.proofs.CodeSparing.{block_shuns, block_fine, none_caught, each_spared}
use Rattle.laws_clocked.proofs.Retiming.{mapped_at, clocked_still}
use Rattle.laws_clocked.proofs.Bodies.{at_place, both_lengths, process_body, module_bodies}

-- ---- the constructs of a thread's own statements are among those of its body

either : {A B C : Type 0} → A ⊎ B → (A → C) → (B → C) → C
either (inl x) f g = f x
either (inr y) f g = g y

in_last : (b : tree.Block) (last : tree.Statement) (s : Scope) (y : Site) → Contains (block_sites b s) y → Contains (block_sites (with_last b last) s) y
in_last tree.over last s y m = Contains-append_left [] (block_sites (tree.then last tree.over) s) y m
in_last (tree.then x xs) last s y m =
    either (Contains-append_cases (statement_sites x s) (block_sites xs (behind x s)) y m)
    (λ k. Contains-append_left (statement_sites x s) (block_sites (with_last xs last) (behind x s)) y k)
    (λ k. Contains-append_right (statement_sites x s) (block_sites (with_last xs last) (behind x s)) y (in_last xs last (behind x s) y k))

in_one : (x : tree.Statement) (s : Scope) (y : Site) → Contains (statement_sites x s) y → Contains (block_sites (tree.then x tree.over) s) y
in_one x s y m = Contains-append_left (statement_sites x s) [] y m

in_body : (at : ℕ → ℕ) (block : tree.Block) (s : Scope) (y : Site) → Contains (block_sites block (own_scope s)) y → Contains (block_sites (body_form at block) s) y
in_body at block s y m =
    let s1 = own_scope s in
    let looping = tree.while_ (at 3) (tree.named (at 4) again_name) (tree.then (try_form at block) tree.over) in
    let setting = tree.var (at 0) (plain_type (at 1) type_form.Bool) again_name (Some (tree.truth (at 2) true)) in
    let all = with_last block (last_form at) in
    let handled = handler_sites (tree.handler reset_name tree.over tree.no_more) (past (locals_in_block all) s1) in
    let own = in_last block (last_form at) s1 y m in
    let tried : Contains (statement_sites (try_form at block) s1) y =
    behind_head (site s1 (at 5) (of_statement (try_form at block))) y (block_sites all s1 ++ handled) (Contains-append_left (block_sites all s1) handled y own) in
    let round = in_one (try_form at block) s1 y tried in
    let looped : Contains (statement_sites looping s1) y =
    behind_head (site s1 (at 3) (of_statement looping)) y (expression_sites s1 (tree.named (at 4) again_name) ++ block_sites (tree.then (try_form at block) tree.over) s1)
    (Contains-append_right (expression_sites s1 (tree.named (at 4) again_name)) (block_sites (tree.then (try_form at block) tree.over) s1) y round) in
    Contains-append_right (statement_sites setting s) (block_sites (tree.then looping tree.over) s1) y (in_one looping s1 y looped)

-- ---- so are their variables

vars_last : (P : LocalSource → Type 0) (b : tree.Block) (at : ℕ → ℕ) → AllByRecursion P (variables_in_block (with_last b (last_form at))) → AllByRecursion P (variables_in_block b)
vars_last P tree.over at k = tt
vars_last P (tree.then x xs) at k =
    let parts = all_parts P (variables_in x) (variables_in_block (with_last xs (last_form at))) k in
    all_joined P (variables_in x) (variables_in_block xs) parts.0 (vars_last P xs at parts.1)

vars_body : (P : LocalSource → Type 0) (at : ℕ → ℕ) (block : tree.Block) → AllByRecursion P (variables_in_block (body_form at block)) → AllByRecursion P (variables_in_block block)
vars_body P at block k =
    let all = variables_in_block (with_last block (last_form at)) in
    let tried = (all_parts P (all ++ []) [] (all_parts P ((all ++ []) ++ []) [] k.1).0).0 in
    vars_last P block at (all_parts P all [] tried).0

-- ---- the thread

module _ (m : tree.Model) (c : Code) (place n : ℕ) (x : tree.Module) (p : tree.ProcessItem) (block : tree.Block) (ticks : List Tick) (clocked : IsClocked p block ticks) where
  abbrev the_arena : Arena
  the_arena = arena_of c

  abbrev the_scope : Scope
  the_scope = item_scope m.modules x.items p.name

  in_code : (k : ℕ) → k ≡ place → (home : Home) → home.exceptions ≡ exceptions_of m → home.first_body ≡ bodies_in (take place m.modules)
      → (pre post : List CodeBody) (b : CodeBody) → c.bodies ≡ pre ++ b ∷ post → length pre ≡ bodies_in (take place m.modules) + body_count (take n x.items) → IsBody k home the_arena the_scope (source.of_process p) b
      → HasThread m x.items place n p block ticks c
  in_code k same home exceptions first pre post b they_are number is =
      let read = is.statements in
      let body = subst (λ (y : tree.Block). IsBlock y home the_arena the_scope read.0) clocked.form read.2 in
      let thread = threads home the_arena the_scope clocked.at block ticks read.0 clocked.only refl body in
      let own = thread.is.own in
      let found = block_ticks home the_arena thread.exception thread.is.exception the_scope p.body thread.around.inside block (own_scope the_scope) ticks own thread.around.inside
      (itself thread.around.inside, λ n there. subst (λ xs. Contains xs n) (sym thread.whole) (Contains-append_left own (thread.is.ends ∷ []) n there))
      (λ y there. subst (λ (z : tree.Block). Contains (block_sites z the_scope) y) (sym clocked.form) (in_body clocked.at block the_scope y there))
      (λ name none. vars_body (λ (v : LocalSource). bytes_eq v.0 name ≡ false) clocked.at block (subst (λ (z : tree.Block). NoneNamed name z) clocked.form none))
      (refl, λ name none free. behind-other the_scope again_name name (plain_type 0 type_form.Bool) (subst (λ (z : tree.Block). NoneNamed name z) clocked.form none).0 ∙ free)
      refl clocked.only thread.is.reads in
      let variable : thread.around.again ≡ 0 = thread.is.again in
      let Other : ℕ → Type 0 = λ k. k ≡ thread.around.again → ⊥ in
      let fits : Fits Other (own_scope the_scope) =
      ((λ apart at. let none : true ≡ false = apart in cc, tt), λ k late at. let low : 1 ≤ k = late in absurd (omega arith)) in
      let fine = block_fine Other home the_arena thread.exception thread.is.exception block (own_scope the_scope) own fits (block_shuns block ticks clocked.only) thread.is.reads in
      record {
        function = length pre;
        number = number;
        around = thread.around;
        exception = thread.exception;
        has = record {
          around = thread.is.has;
          body = b;
          found = ap (λ bodies. slice_get bodies (length pre)) they_are ∙ at_place pre b post;
          declares = thread.is.sets;
          begins = block_is the_arena b.block read.0 read.1 ∙ thread.is.statements;
          first_true = thread.is.begins;
          front = own;
          last = thread.is.ends;
          own = thread.is.inside;
          spares = each_spared thread.around.again home the_arena thread.exception thread.is.exception own fine;
          last_false = thread.is.stops;
          handler = thread.is.has.handler;
          only = thread.is.alone;
          does_nothing = thread.is.has.does_nothing;
        };
        uncaught = none_caught Other home the_arena thread.exception thread.is.exception own thread.is.ends thread.around _ _ fine thread.is.stops thread.whole;
        kind = is.kind ∙ ap process_kind clocked.thread;
        in_module = is.in_module ∙ same;
        name = is.name;
        home = home;
        first_body = first;
        exceptions = exceptions;
        throws = thread.is.exception;
        reads = thread.is.reads;
        coded_ticks = found.0;
        has_ticks = found.1;
      }

  pub thread_in_code : IsCodeOf m c → slice_get m.modules place ≡ Some x → (line : ℕ) → slice_get x.items n ≡ Some (tree.process line p) → HasThread m x.items place n p block ticks c
  thread_in_code code there line item =
      let bodies = module_bodies m.modules (exceptions_of m) the_arena m.modules 0 0 c.bodies code place x there in
      let home : Home = record { first_body = bodies.first; exceptions = exceptions_of m } in
      let own = process_body m.modules x.items (0 + place) home the_arena x.items bodies.own bodies.rest bodies.read n line p item in
      in_code (0 + place) (let same : 0 + place ≡ place = omega arith in same) home refl
      (let e = bodies.first_is in let g : bodies.first ≡ bodies_in (take place m.modules) = omega arith in g) (bodies.pre ++ own.0) own.2 own.1
      (bodies.they_are ∙ ap (λ (xs : List CodeBody). bodies.pre ++ xs) own.3 ∙ sym (append_assoc bodies.pre own.0 (own.1 ∷ own.2)))
      (both_lengths bodies.pre own.0 (bodies_in (take place m.modules)) (body_count (take n x.items)) bodies.count own.4) own.5

-- in the code of the tree of ticks
pub ticked_in_code : (r : Resolution) (m : tree.Model) (c : Code) → IsCodeOf (ticks r m) c → (place : ℕ) (x : tree.Module) → slice_get m.modules place ≡ Some x
    → (n line : ℕ) (p : tree.ProcessItem) → slice_get x.items n ≡ Some (tree.process line p) → (block : tree.Block) (ts : List Tick) → IsClocked p block ts
    → HasThread (ticks r m) (retimed.module_ (ticks_span r) x).items place n (retimed.process (ticks_span r) p) (retimed.block (ticks_span r) block) ts c
ticked_in_code r m c code place x there n line p item block ts clocked =
    let f = ticks_span r in
    thread_in_code (ticks r m) c place n (retimed.module_ f x) (retimed.process f p) (retimed.block f block) ts (clocked_still f p block ts clocked) code
    (mapped_at (retimed.module_ f) m.modules place x there) line (mapped_at (retimed.item f) x.items n (tree.process line p) item)
