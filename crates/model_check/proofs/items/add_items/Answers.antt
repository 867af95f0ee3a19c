use Rattle.std.proofs.Common.{◌+◌, ◌++◌, drop, length, sym, ap, ◌∙◌, append_assoc}
use Rattle.std.specs.Prelude.{option_to_list}
use Rattle.model_tree.specs.Views.{item_of, modules_of}
use Rattle.check_reach.specs.CheckNames.ModuleNames.{items_of}
use Rattle.code_blocks.specs.CodeDeeds.Homes.{home_of}
use Rattle.std.proofs.lemmas.List.{map-append}
use Rattle.flat_design.specs.declared.code.CodeBody.{CodeBody}
use Rattle.code_blocks.proofs.Owned.{both_grow, more_stand}
use Rattle.model_check.specs.Parts.{body_blocks}
use Rattle.model_check.proofs.Apart.{body_only, laid_more, one_at_most}
use Rattle.model_check.proofs.LocalLemmas.{next_seen}
use Rattle.model_check.proofs.BodyLemmas.{first_coded, next_bodies}
use Rattle.model_check.proofs.items.add_items.Goals as goal

pub item_body-requires-clause-coded : goal.item_body-requires-clause-coded
item_body-requires-clause-coded c =
    let items = c.args.items.now in
    let i = c.loop-item.item-index in
    let x = c.item-item.result in
    (first_coded (modules_of c.args.model.now) (items_of c.args.names.now) (home_of c.args.home) (item_of x) (items_of (drop i items)) (items_of (drop (i + 1) items))
    (next_seen item_of items i x c.loop-item-test.true c.item-item.is) c.loop-item.invariant.coded).0

pub loop-item-preserved : goal.loop-item-preserved
loop-item-preserved c =
    let items = c.args.items.now in
    let i = c.loop-item.item-index in
    let x = c.item-item.result in
    let modules = modules_of c.args.model.now in
    let all = items_of c.args.names.now in
    let h = home_of c.args.home in
    let left = items_of (drop i items) in
    let others = items_of (drop (i + 1) items) in
    let e = next_seen item_of items i x c.loop-item-test.true c.item-item.is in
    let inv = c.loop-item.invariant in
    let b = c.in_ok-body.body in
    record {
      coded = (first_coded modules all h (item_of x) left others e inv.coded).1;
      nested = c.in_ok-body.ensures.nested;
      grows = both_grow _ _ _ inv.grows c.in_ok-body.ensures.grows;
      owned = more_stand (length c.args.laid.now.blocks) c.loop-item.laid c.item_body.new.laid (body_blocks c.loop-item.bodies) (body_blocks (option_to_list b)) (body_blocks c.add_body.new.bodies)
          (ap body_blocks c.in_ok-add_body.ensures ∙ map-append (λ (x : CodeBody). x.block) c.loop-item.bodies (option_to_list b)) c.in_ok-body.ensures.grows inv.owned c.in_ok-body.ensures.owned;
      apart = laid_more c.loop-item.laid c.item_body.new.laid (body_blocks c.loop-item.bodies) (body_blocks (option_to_list b)) (body_blocks c.add_body.new.bodies)
          (ap body_blocks c.in_ok-add_body.ensures ∙ map-append (λ (x : CodeBody). x.block) c.loop-item.bodies (option_to_list b)) c.in_ok-body.ensures.grows inv.apart
          (body_only (length c.loop-item.laid.blocks) c.item_body.new.laid b c.in_ok-body.ensures.only) (λ a. one_at_most a b);
      reads = (
        inv.reads.0 ++ option_to_list b,
        c.in_ok-add_body.ensures ∙ ap (λ bs. bs ++ option_to_list b) inv.reads.1 ∙ append_assoc _ inv.reads.0 (option_to_list b),
        λ a begins. next_bodies modules all h c.args.module_place a (items_of items) left others (item_of x) inv.reads.0 b e (inv.reads.2 a (c.in_ok-body.ensures.grows a begins)) (c.in_ok-body.ensures.reads a begins),
      );
    }
