use Rattle.std.proofs.Common.{◌≡◌, length, ap, subst, ◌∙◌}
use Rattle.std.specs.Prelude.{IfOk, unwrap_or}
use Rattle.elaborate_design.proofs.ChildLemmas.{child_number}
use Rattle.elaborate_design.proofs.ends.child.Goals as goal

pub returns-in-Some : goal.returns-in-Some
returns-in-Some c =
    let os = c.args.children.now in
    let e = ap (λ o. unwrap_or o (length os)) c.in-Some.ensures ∙ child_number os c.args.instance c.args.name.now c.requires.some in
    subst (λ k. IfOk c.number.result (λ n. n ≡ k)) e c.number.ensures

pub returns-in-None : goal.returns-in-None
returns-in-None c =
    let os = c.args.children.now in
    let e = c.len.ensures ∙ ap (λ o. unwrap_or o (length os)) c.in-None.ensures ∙ child_number os c.args.instance c.args.name.now c.requires.some in
    subst (λ k. IfOk c.number-in-None.result (λ n. n ≡ k)) e c.number-in-None.ensures
