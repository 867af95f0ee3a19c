use Rattle.std.proofs.Common.{◌≡◌, ◌+◌, ◌≤◌, length, Some, refl, ap, ◌∙◌, arith}
use Rattle.std.specs.Prelude.{max}
use Rattle.room_map.specs.Shape.{entries, height}
use Rattle.room_map.proofs.Sizes.{max_below, height-le}
use Rattle.room_map.proofs.Held.{under_kept, node_is}
use Rattle.room_map.proofs.nodes.close.Goals as goal

pub overflow_add-height : goal.overflow_add-height
overflow_add-height g c =
    let s = c.requires.2 in
    let l : c.height.result ≤ length (entries c.requires.0) = omega (arith, c.height.ensures c.requires.0 s.left, height-le c.requires.0) in
    let r : c.height-2.result ≤ length (entries c.requires.1) = omega (arith, c.height-2.ensures c.requires.1 s.right, height-le c.requires.1) in
    omega (arith, c.max-height.ensures, max_below c.height.result c.height-2.result, s.small)

pub returns-clause-under : goal.returns-clause-under
returns-clause-under g c = λ l r s.
    let left = under_kept c.args.left l c.put.ensures.changed (λ k. omega (arith, s.apart k)) s.left in
    let right = under_kept c.args.right r c.put.ensures.changed (λ k. omega (arith, s.apart k)) s.right in
    let count : c.len.result + 1 + c.len-2.result ≡ length (entries l) + 1 + length (entries r) = omega (arith, c.len.ensures l s.left, c.len-2.ensures r s.right) in
    let high : c.max-height.result + 1 ≡ max (height l) (height r) + 1 = ap (λ n. n + 1) (c.max-height.ensures ∙ ap (λ n. max n c.height-2.result) (c.height.ensures l s.left) ∙ ap (max (height l)) (c.height-2.ensures r s.right)) in
    record {
      is_top = refl;
      held = (c.put.ensures.there ∙ ap Some (node_is l c.args.spot.key c.args.spot.value r s.left.is_top s.right.is_top count high), left.held, right.held);
      few = left.few;
    }
