use Rattle.std.proofs.Common.{◌≡◌, ℕ, ◌+◌, ◌++◌, List, [], drop, length, get_or, refl, sym, ap, ◌∙◌, subst}
use Rattle.std.proofs.lemmas.List.{append-nil, drop_all, map-append}
use Rattle.model_tree.specs.Views.{module_of, modules_of}
use Rattle.model_tree.specs.declared.items.Module.{Module}
use Rattle.flat_design.specs.declared.code.CodeBody.{CodeBody}
use Rattle.code_rules.specs.Bodies.{AreModules}
use Rattle.code_blocks.specs.LawsCode.HasCode.{ModulesHaveCode}
use Rattle.check_reach.specs.CheckNames.ModelNames.{module_items}
use Rattle.model_check.proofs.LocalLemmas.{next_seen}
use Rattle.model_check.specs.Parts.{body_blocks, home_from}
use Rattle.model_check.proofs.BodyLemmas.{first_module_coded, next_modules, module_counted, items_at}
use Rattle.code_blocks.proofs.Growth.{alone, begins_alone}
use Rattle.code_blocks.proofs.Owned.{grown_stand}
use Rattle.model_check.proofs.whole.modules_code.Goals as goal

pub add_module-requires-clause-there : goal.add_module-requires-clause-there
add_module-requires-clause-there c =
    let i = c.loop-i.i in
    ap (λ (ms : List Module). get_or (module_items ms) i []) c.requires.named ∙ items_at c.args.modules.now i c.index-modules-i.result c.loop-i-test.true c.index-modules-i.is

pub add_module-requires-clause-coded : goal.add_module-requires-clause-coded
add_module-requires-clause-coded c =
    let ms = c.args.modules.now in
    let i = c.loop-i.i in
    let x = c.index-modules-i.result in
    (first_module_coded (modules_of c.args.model.now) c.args.exceptions.now (length c.loop-i.bodies) (module_of x) (modules_of (drop i ms)) (modules_of (drop (i + 1) ms))
    (next_seen module_of ms i x c.loop-i-test.true c.index-modules-i.is) c.loop-i.invariant.coded).0

pub loop-i-preserved : goal.loop-i-preserved
loop-i-preserved c =
    let ms = c.args.modules.now in
    let i = c.loop-i.i in
    let x = c.index-modules-i.result in
    let m = module_of x in
    let modules = modules_of c.args.model.now in
    let exceptions = c.args.exceptions.now in
    let first = length c.loop-i.bodies in
    let left = modules_of (drop i ms) in
    let others = modules_of (drop (i + 1) ms) in
    let e = next_seen module_of ms i x c.loop-i-test.true c.index-modules-i.is in
    let inv = c.loop-i.invariant in
    let h = home_from first exceptions in
    let done = c.in_ok-add_module.ensures in
    let added = done.reads in
    let l = c.add_module.new.laid in
    let counted = module_counted modules m.items i h (alone l) m.items c.loop-i.bodies added.0 _ added.1 (added.2 (alone l) (begins_alone l)) in
    record {
      coded = subst (λ (n : ℕ). ModulesHaveCode modules exceptions n others) (sym counted) (first_module_coded modules exceptions first m left others e inv.coded).1;
      nested = done.nested;
      owned = grown_stand (length c.args.laid.now.blocks) c.loop-i.laid l (body_blocks c.loop-i.bodies) (body_blocks added.0) (body_blocks c.add_module.new.bodies)
          (ap body_blocks added.1 ∙ map-append (λ (b : CodeBody). b.block) c.loop-i.bodies added.0) done.grows inv.owned done.owned;
      apart = done.apart;
      reads = λ a begins rest are.
          subst (λ (bs : List CodeBody). AreModules modules exceptions a 0 0 (modules_of ms) (bs ++ rest)) (sym added.1)
          (next_modules modules exceptions a i first _ (modules_of ms) left others m c.loop-i.bodies added.0 e counted (inv.reads a (done.grows a begins)) (added.2 a begins) rest are);
    }

pub returns : goal.returns
returns c =
    let ms = c.args.modules.now in
    let modules = modules_of c.args.model.now in
    let exceptions = c.args.exceptions.now in
    let i = c.loop-i.i in
    let bodies = c.loop-i.bodies in
    record {
      nested = c.loop-i.invariant.nested;
      owned = c.loop-i.invariant.owned;
      apart = c.loop-i.invariant.apart;
      reads = λ a begins.
          subst (AreModules modules exceptions a 0 0 (modules_of ms)) (append-nil bodies)
          (c.loop-i.invariant.reads a begins [] (subst (λ (os : List Module). AreModules modules exceptions a i (length bodies) (modules_of os) []) (sym (drop_all i ms c.loop-i-test.false)) refl));
    }
