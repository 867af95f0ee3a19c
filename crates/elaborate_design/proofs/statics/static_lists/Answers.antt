use Rattle.std.proofs.Common.{◌≡◌, List, [], ◌∷◌, ◌++◌, map, sym, ap, ◌∙◌}
use Rattle.std.proofs.lemmas.List.{append-nil}
use Rattle.elaborate_objects.specs.ModelTree.Views.{item_of, modules_of}
use Rattle.elaborate_objects.specs.ModelTree.declared.items.Item.{Item}
use Rattle.elaborate_objects.specs.ModelTree.declared.items.Module.{Module}
use Rattle.elaborate_objects.specs.DesignRules.Statics.{lists_among, static_lists}
use Rattle.elaborate_design.proofs.PartTurns.{turn}
use Rattle.elaborate_design.proofs.statics.static_lists.Goals as goal

one_more : (x : Module) (xs : List Module) → static_lists (modules_of (x ∷ xs)) ≡ static_lists (modules_of (x ∷ [])) ++ static_lists (modules_of xs)
one_more x xs = ap (λ ls. ls ++ static_lists (modules_of xs)) (sym (append-nil (lists_among [] (map item_of x.items.items) (map item_of x.items.items))))

pub loop-found-preserved : goal.loop-found-preserved
loop-found-preserved c =
    let x = c.found-item.result in
    let old = c.loop-found.lists.items in
    turn (λ (ms : List Module). static_lists (modules_of ms)) one_more c.args.modules.now c.loop-found.found-index x c.loop-found-test.true c.found-item.is old c.add_lists.new.lists.items _
    (c.in_ok-add_lists.ensures ∙ ap (λ (is : List Item). old ++ lists_among [] (map item_of is) (map item_of is)) c.as_slice.ensures.value
    ∙ ap (λ ls. old ++ ls) (sym (append-nil (lists_among [] (map item_of x.items.items) (map item_of x.items.items)))))
    c.loop-found.invariant
