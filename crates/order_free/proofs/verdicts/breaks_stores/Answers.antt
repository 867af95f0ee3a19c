use Rattle.std.proofs.Common.{List, refl, sym, ap, ◌∙◌}
use Rattle.order_free.specs.declared.uses.Use.TheVariants as used
use Rattle.order_free.specs.Users.{is_many, users_in}
use Rattle.order_free.specs.declared.users.Users.{Users}
use Rattle.order_free.specs.Broken as broken
use Rattle.order_free.proofs.verdicts.breaks_stores.Goals as goal
use Rattle.order_free.proofs.verdicts.breaks_stores.Goals.{then-is_many, else-is_many}

pub returns-then-any_many-clause-found : goal.returns-then-any_many-clause-found
returns-then-any_many-clause-found c = λ h.
    elim c.if-is_many.branch [
      | then-is_many w ↦ broken.third refl used.Quantum tt (sym c.is_many.ensures ∙ w.if-is_many.true)
      | else-is_many w ↦
          let f = w.any_many.ensures.found (sym w.value-is ∙ h) in
          broken.third refl (used.Variable f.0) tt (ap (λ (xs : List Users). is_many (users_in xs f.0)) (sym w.as_slice.ensures.value) ∙ f.1)
    ]

pub returns-else-any_many-clause-found : goal.returns-else-any_many-clause-found
returns-else-any_many-clause-found c = λ h.
    let f = c.any_many-else-any_many.ensures.found h in
    broken.third refl (used.Memory f.0) tt (ap (λ (xs : List Users). is_many (users_in xs f.0)) (sym c.as_slice-else-any_many.ensures.value) ∙ f.1)
