use Rattle.std.proofs.Common.{◌≡◌, List, length, ap, sym, refl, ◌∙◌}
use Rattle.model_tree.specs.WholeTree.{model_of}
use Rattle.model_tree.specs.Views.{modules_of}
use Rattle.model_tree.specs.declared.items.Module.{Module}
use Rattle.flat_design.specs.Code.{arena_of}
use Rattle.flat_design.specs.declared.code.Code.{Code}
use Rattle.code_rules.specs.Bodies.{exceptions_of, once}
use Rattle.code_blocks.specs.CodeTerms.Names.{thrown_in_modules}
use Rattle.model_check.proofs.BodyLemmas.{modules_at, modules_coded_at}
use Rattle.code_blocks.proofs.Growth.{nested_none, nested_code}
use Rattle.model_check.proofs.Apart.{code_apart}
use Rattle.model_check.proofs.LaidLemmas.{begins_code}
use Rattle.model_check.proofs.Standing.{all_stand}
use Rattle.model_check.proofs.whole.tree_code.Goals as goal

pub modules_code-requires : goal.modules_code-requires
modules_code-requires c =
    let m = model_of c.args.tree.now in
    let same = c.as_slice-modules.ensures.value in
    record {
      named = c.requires.named ∙ sym same;
      coded = modules_coded_at (modules_of c.args.model.now) (modules_of c.as_slice-modules.result.now) m.modules c.in_ok-exceptions.exceptions (exceptions_of m)
          (ap modules_of c.requires.named) (ap modules_of same) (c.in_ok-exceptions.ensures ∙ ap (λ (ms : List Module). once (thrown_in_modules (modules_of ms))) same) c.requires.coded;
      nested = nested_none _ c.new.ensures;
    }

pub returns : goal.returns
returns c =
    let m = model_of c.args.tree.now in
    let same = c.as_slice-modules.ensures.value in
    let l = c.modules_code.new.laid in
    let made : Code = record { bodies = c.in_ok-bodies.bodies; blocks = l.blocks; statements = l.statements } in
    let done = c.in_ok-bodies.ensures in
    record {
      code = modules_at (modules_of c.args.model.now) (modules_of c.as_slice-modules.result.now) m.modules c.in_ok-exceptions.exceptions (exceptions_of m) (arena_of made) made.bodies
          (ap modules_of c.requires.named) (ap modules_of same) (c.in_ok-exceptions.ensures ∙ ap (λ (ms : List Module). once (thrown_in_modules (modules_of ms))) same)
          (done.reads (arena_of made) (begins_code l made refl refl));
      nested = nested_code l made refl refl done.nested;
      apart = code_apart l made refl refl done.apart;
      stand = all_stand l made refl refl (ap length c.new.ensures) done.owned;
    }
