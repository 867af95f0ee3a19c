use Rattle.std.proofs.Common.{◌≡◌, ℕ, List, refl, sym, ap, ◌∙◌, subst, arith}
use Rattle.model_tree.specs.Views.{body_of, modules_of}
use Rattle.model_tree.specs.declared.types.Parameter.{Parameter}
use Rattle.code_rules.specs.Bodies.{LocalSource, AreLocals}
use Rattle.code_rules.specs.Numbered.{AtBlock, IsBlock}
use Rattle.code_blocks.specs.CodeTerms.Names.{body_names}
use Rattle.code_blocks.specs.CodeTerms.Sources.{sources_of}
use Rattle.code_blocks.specs.CodeDeeds.Homes.{home_of}
use Rattle.code_rules.specs.ModelRules.Scopes.{Scope, item_scope, with_parameters}
use Rattle.check_reach.specs.CheckNames.ModuleNames.{items_of}
use Rattle.model_check.specs.Parts.{answering}
use Rattle.model_check.proofs.LocalLemmas.{parameters_items}
use Rattle.model_check.proofs.bodies.function_body.Goals as goal

pub lay_block-requires-clause-home : goal.lay_block-requires-clause-home
lay_block-requires-clause-home c =
    let f = c.args.function.now in
    let at = λ (name : List ℕ). answering f.answer (item_scope (modules_of c.args.model.now) (items_of c.args.names.now) name) in
    let ps = c.as_slice.result.now in
    c.requires.home
    ∙ ap body_names (sym (ap (λ (s : Scope). s.items) (c.in_ok-declare_parameters.ensures ∙ ap (λ (s : Scope). with_parameters s ps) c.body_place-place.ensures) ∙ parameters_items (at c.bytes.result.now) ps))

pub returns-clause-reads : goal.returns-clause-reads
returns-clause-reads c =
    let f = c.args.function.now in
    let at = λ (name : List ℕ). answering f.answer (item_scope (modules_of c.args.model.now) (items_of c.args.names.now) name) in
    let ps = c.as_slice.result.now in
    let scope_is =
    c.in_ok-declare_parameters.ensures
    ∙ ap (λ (s : Scope). with_parameters s ps) c.body_place-place.ensures
    ∙ ap (λ (name : List ℕ). with_parameters (at name) ps) c.bytes.ensures.value
    ∙ ap (λ (qs : List Parameter). with_parameters (at f.name) qs) c.as_slice.ensures.value in
    λ a begins. record {
      kind = refl;
      in_module = refl;
      name = c.in_ok-text_of.ensures ∙ c.bytes-2.ensures.value;
      locals = subst (λ (xs : List LocalSource). AreLocals xs c.in_ok-locals.locals) (ap sources_of c.as_slice-2.ensures.value ∙ c.in_ok-sources.ensures) c.in_ok-locals.ensures;
      parameters = omega (arith, c.in_ok-parameters.ensures, c.len.ensures, f.parameters.ok.0);
      answer = c.answer_code.ensures;
      statements = subst (λ (s : Scope). AtBlock a c.in_ok-block.block (IsBlock (body_of f.body.items) (home_of c.args.home) a s)) scope_is (c.in_ok-block.ensures.reads a begins);
    }
