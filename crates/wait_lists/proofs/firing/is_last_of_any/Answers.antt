use Rattle.std.proofs.Common.{◌≡◌, ℕ, Some, sym, ap, ◌∙◌, subst}
use Rattle.std.specs.Prelude.{slice_get}
use Rattle.std.proofs.lemmas.Bool.{eqb-true}
use Rattle.wait_lists.specs.Chains.{none}
use Rattle.wait_lists.specs.Shown.{Shown}
use Rattle.wait_lists.specs.Layout.{shown_by}
use Rattle.wait_lists.proofs.Struck.{of-same, of-within, used-within, same-waiter}
use Rattle.wait_lists.proofs.firing.is_last_of_any.Goals as goal

pub waiter_at-whose-requires : goal.waiter_at-whose-requires
waiter_at-whose-requires c = of-within c.args.kept.now c.requires.sound c.args.i c.owner-at.result c.requires.used c.owner-at.ensures

pub next_node-requires : goal.next_node-requires
next_node-requires c = used-within c.args.kept.now c.args.i c.requires.used

pub returns-clause-last : goal.returns-clause-last
returns-clause-last c = λ is. sym c.next_node.ensures ∙ eqb-true c.next_node.result none is

pub returns-clause-any : goal.returns-clause-any
returns-clause-any c = λ is at s of here.
    let k = c.args.kept.now in
    let P : ℕ → Type 0 = λ a. slice_get (shown_by k) a ≡ Some s in
    let alike = same-waiter k c.owner-at.result c.waiter_at-whose.result s c.waiter_at-whose.ensures (subst P (of-same k c.args.i at c.owner-at.result of c.owner-at.ensures) here) in
    ap (λ (x : Shown). x.for_all) alike ∙ c.if-whose.false
