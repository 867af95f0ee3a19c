use Rattle.std.proofs.Common.{◌≡◌, drop, ap, sym, subst, ◌∙◌}
use Rattle.std.specs.Prelude.{IfOk}
use Rattle.elaborate_objects.specs.DesignRules.Listing.{child, end_in}
use Rattle.elaborate_design.proofs.ends.end_of.Goals as goal

pub returns-in-Some : goal.returns-in-Some
returns-in-Some c =
    let below = drop 1 c.args.children.now in
    let i = c.args.instance in
    let name = c.args.end.now.name in
    let own = c.in_ok-own.ensures ∙ ap (child below i) c.bytes.ensures.value in
    let e =
    ap (λ p. child below p c.bytes-in-Some.result.now) own
    ∙ ap (child below (child below i name)) c.bytes-in-Some.ensures.value
    ∙ ap (end_in below i name) (sym c.in-Some.is) in
    subst (λ k. IfOk c.child-in-Some.result (λ n. n ≡ k)) e c.child-in-Some.ensures
