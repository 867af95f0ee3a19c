use Rattle.std.proofs.Common.{◌≡◌, ℕ, List, refl, sym, ap, ◌∙◌, subst}
use Rattle.model_tree.specs.Views.{body_of, modules_of}
use Rattle.code_rules.specs.Bodies.{LocalSource, AreLocals}
use Rattle.code_rules.specs.Numbered.{AtBlock, IsBlock}
use Rattle.code_blocks.specs.CodeTerms.Sources.{sources_of}
use Rattle.code_blocks.specs.CodeDeeds.Homes.{home_of}
use Rattle.code_rules.specs.ModelRules.Scopes.{Scope, item_scope}
use Rattle.check_reach.specs.CheckNames.ModuleNames.{items_of}
use Rattle.model_check.proofs.bodies.process_body.Goals as goal

pub returns-clause-reads : goal.returns-clause-reads
returns-clause-reads c =
    let p = c.args.process.now in
    let scope_is = c.body_place-place.ensures ∙ ap (λ (name : List ℕ). item_scope (modules_of c.args.model.now) (items_of c.args.names.now) name) c.bytes.ensures.value in
    λ a begins. record {
      kind = c.process_kind.ensures;
      in_module = refl;
      name = c.in_ok-text_of.ensures ∙ c.bytes-2.ensures.value;
      locals = subst (λ (xs : List LocalSource). AreLocals xs c.in_ok-locals.locals) (ap sources_of c.as_slice.ensures.value ∙ c.in_ok-sources.ensures) c.in_ok-locals.ensures;
      parameters = refl;
      answer = refl;
      statements = subst (λ (s : Scope). AtBlock a c.in_ok-block.block (IsBlock (body_of p.body.items) (home_of c.args.home) a s)) scope_is (c.in_ok-block.ensures.reads a begins);
    }
