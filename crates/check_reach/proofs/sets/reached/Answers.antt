use Rattle.std.proofs.Common.{◌≡◌, ℕ, List, length, map, sym, ◌∙◌, subst}
use Rattle.std.specs.Borrow.{Bor}
use Rattle.std.proofs.lemmas.List.{length-map}
use Rattle.model_tree.specs.Views.{item_of}
use Rattle.check_expressions.specs.CheckNames.ModuleNames.{items_of}
use Rattle.check_reach.specs.Edges.{IsSpread}
use Rattle.check_reach.specs.Sets.{function_numbers}
use Rattle.check_reach.proofs.SetLaws.{if_ok, reached_set}
use Rattle.check_reach.proofs.sets.reached.Goals as goal

pub returns : goal.returns
returns c =
    let items = items_of c.args.calls.now.names in
    let calls = c.requires.calls in
    let count = c.args.calls.now.count in
    let many : count ≡ length items = calls.count ∙ sym (length-map c.args.calls.now.names item_of) in
    let numbers : c.as_slice-2.result.now ≡ function_numbers items (map (λ (n : Bor (List ℕ)). n.now) c.args.named.now) = c.as_slice-2.ensures.value ∙ c.in_ok-numbers.ensures in
    if_ok c.spread.result
    (λ marks s. reached_set items count many c.as_slice.result.now (map (λ (n : Bor (List ℕ)). n.now) c.args.named.now) marks.items (c.as_slice.ensures.value ∙ calls.edges) (λ set. c.reached_is_least.ensures items set)
    (subst (λ (roots : List ℕ). IsSpread count c.as_slice.result.now roots marks.items) numbers s))
    c.spread.ensures
