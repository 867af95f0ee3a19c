use Rattle.std.proofs.Common.{List, refl, sym, ap, ◌∙◌}
use Rattle.order_free.specs.Users.{is_clash, users_in}
use Rattle.order_free.specs.declared.users.Users.{Users}
use Rattle.order_free.specs.Broken as broken
use Rattle.order_free.proofs.verdicts.breaks_cancelled.Goals as goal

pub returns-clause-found : goal.returns-clause-found
returns-clause-found c = λ h.
    let f = c.any_clash.ensures.found h in
    broken.fifth refl f.0
    (ap (λ (xs : List Users). is_clash (users_in xs f.0) (users_in c.args.tables.now.notified.items f.0)) (sym c.as_slice.ensures.value)
    ∙ ap (λ (xs : List Users). is_clash (users_in c.as_slice.result.now f.0) (users_in xs f.0)) (sym c.as_slice-2.ensures.value) ∙ f.1)
