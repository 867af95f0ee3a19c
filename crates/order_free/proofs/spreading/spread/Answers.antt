use Rattle.std.proofs.Common.{◌≡◌, ℕ, List, [], sym, ap, ◌∙◌, subst}
use Rattle.order_free.specs.Spreading.{Spreading, IsUnderWay, raise_roots}
use Rattle.order_free.proofs.Labels.{roots_first}
use Rattle.order_free.proofs.spreading.spread.Goals as goal

pub returns : goal.returns
returns c = λ empty.
    let roots = c.args.roots.now in
    let labels = c.args.labels.now.items in
    let start : ◌≡◌ {A = Spreading} (c.raise_roots.new.labels.items, c.raise_roots.new.listing.items) (raise_roots roots (labels, [])) =
    c.in_ok-raise_roots.ensures ∙ ap (λ (listing : List ℕ). raise_roots roots (labels, listing)) c.new-listing.ensures.items in
    c.in_ok-follow.ensures roots (subst (IsUnderWay c.args.parts.now roots 0) (sym start) (roots_first c.args.parts.now roots labels empty))
