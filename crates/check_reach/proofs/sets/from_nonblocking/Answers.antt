use Rattle.std.proofs.Common.{◌≡◌, ℕ, List, map, sym, ap, ◌∙◌}
use Rattle.std.specs.Borrow.{Bor}
use Rattle.check_expressions.specs.CheckNames.ModuleNames.{items_of}
use Rattle.model_tree.specs.declared.items.Item.{Item}
use Rattle.std.specs.List.{flat_map}
use Rattle.check_expressions.specs.ModelRules.Reach.{Names, is_among, is_nonblocking_handler}
use Rattle.check_reach.specs.Flat.{nonblocking_handlers}
use Rattle.check_reach.proofs.BeginLaws.{nonblocking_same}
use Rattle.check_reach.proofs.SetLaws.{if_ok}
use Rattle.check_reach.proofs.sets.from_nonblocking.Goals as goal

pub returns : goal.returns
returns c =
    let items = items_of c.args.calls.now.names in
    let names : map (λ (n : Bor (List ℕ)). n.now) c.as_slice.result.now ≡ flat_map nonblocking_handlers items =
    ap (λ (ns : List (Bor (List ℕ))). map (λ (n : Bor (List ℕ)). n.now) ns) c.as_slice.ensures.value ∙ c.in_ok-named.ensures ∙ ap (λ (is : List Item). flat_map nonblocking_handlers (items_of is)) (sym c.requires.items) in
    if_ok c.reached.result (λ marks t. t (is_nonblocking_handler items) (λ n. ap (λ (ns : Names). is_among ns n) names ∙ nonblocking_same items n)) c.reached.ensures
