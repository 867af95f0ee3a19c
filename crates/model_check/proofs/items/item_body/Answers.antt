use Rattle.std.proofs.Common.{◌≡◌, [], ◌∷◌, length, refl, sym, subst}
use Rattle.model_tree.specs.Views.{item_of, modules_of}
use Rattle.model_tree.specs.declared.items.Item.{Item}
use Rattle.code_rules.specs.Bodies.{IsBodyIf, around_item, source_of}
use Rattle.code_blocks.specs.CodeDeeds.Homes.{home_of}
use Rattle.code_rules.specs.ModelRules.Scopes.{item_scope}
use Rattle.check_reach.specs.CheckNames.ModuleNames.{items_of}
use Rattle.code_blocks.proofs.Owned.{one_owned}
use Rattle.model_check.proofs.items.item_body.Goals as goal

pub returns-in_ok-body-in-Clock-clause-reads : goal.returns-in_ok-body-in-Clock-clause-reads
returns-in_ok-body-in-Clock-clause-reads c =
    let b = c.in_ok-body-in-Clock.body in
    λ a begins rest.
    subst (λ (i : Item). IsBodyIf c.args.module_place (home_of c.args.home) a (item_scope (modules_of c.args.model.now) (items_of c.args.names.now) (around_item (item_of i))) (source_of (item_of i)) (b ∷ rest) rest)
    (sym c.in-Clock.is) (b, refl, c.in_ok-body-in-Clock.ensures.reads a begins)

pub returns-in_ok-body-in-Function-clause-reads : goal.returns-in_ok-body-in-Function-clause-reads
returns-in_ok-body-in-Function-clause-reads c =
    let b = c.in_ok-body-in-Function.body in
    λ a begins rest.
    subst (λ (i : Item). IsBodyIf c.args.module_place (home_of c.args.home) a (item_scope (modules_of c.args.model.now) (items_of c.args.names.now) (around_item (item_of i))) (source_of (item_of i)) (b ∷ rest) rest)
    (sym c.in-Function.is) (b, refl, c.in_ok-body-in-Function.ensures.reads a begins)

pub returns-in_ok-body-in-Process-clause-reads : goal.returns-in_ok-body-in-Process-clause-reads
returns-in_ok-body-in-Process-clause-reads c =
    let b = c.in_ok-body-in-Process.body in
    λ a begins rest.
    subst (λ (i : Item). IsBodyIf c.args.module_place (home_of c.args.home) a (item_scope (modules_of c.args.model.now) (items_of c.args.names.now) (around_item (item_of i))) (source_of (item_of i)) (b ∷ rest) rest)
    (sym c.in-Process.is) (b, refl, c.in_ok-body-in-Process.ensures.reads a begins)

pub returns-in_ok-body-in-Clock-clause-owned : goal.returns-in_ok-body-in-Clock-clause-owned
returns-in_ok-body-in-Clock-clause-owned c =
    one_owned (length c.args.laid.now.blocks) c.clock_body.new.laid c.in_ok-body-in-Clock.body.block [] c.in_ok-body-in-Clock.ensures.owned

pub returns-in_ok-body-in-Function-clause-owned : goal.returns-in_ok-body-in-Function-clause-owned
returns-in_ok-body-in-Function-clause-owned c =
    one_owned (length c.args.laid.now.blocks) c.function_body.new.laid c.in_ok-body-in-Function.body.block [] c.in_ok-body-in-Function.ensures.owned

pub returns-in_ok-body-in-Process-clause-owned : goal.returns-in_ok-body-in-Process-clause-owned
returns-in_ok-body-in-Process-clause-owned c =
    one_owned (length c.args.laid.now.blocks) c.process_body.new.laid c.in_ok-body-in-Process.body.block [] c.in_ok-body-in-Process.ensures.owned
