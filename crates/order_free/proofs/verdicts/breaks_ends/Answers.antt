use Rattle.std.proofs.Common.{List, refl, sym, ap, ◌∙◌}
use Rattle.order_free.specs.declared.uses.Use.TheVariants as used
use Rattle.order_free.specs.Users.{is_many, users_in}
use Rattle.order_free.specs.declared.users.Users.{Users}
use Rattle.order_free.specs.Broken as broken
use Rattle.order_free.proofs.verdicts.breaks_ends.Goals as goal
use Rattle.order_free.proofs.verdicts.breaks_ends.Goals.{then-any_many, else-any_many}

pub returns-then-any_many-2-clause-found : goal.returns-then-any_many-2-clause-found
returns-then-any_many-2-clause-found c = λ h.
    elim c.if-any_many.branch [
      | then-any_many w ↦
          let f = c.any_many.ensures.found w.if-any_many.true in
          broken.fourth refl (used.WritesSignal f.0) tt (ap (λ (xs : List Users). is_many (users_in xs f.0)) (sym c.as_slice.ensures.value) ∙ f.1)
      | else-any_many w ↦
          let f = w.any_many-else-any_many.ensures.found (sym w.value-is ∙ h) in
          broken.fourth refl (used.ReadsFifo f.0) tt (ap (λ (xs : List Users). is_many (users_in xs f.0)) (sym w.as_slice-else-any_many.ensures.value) ∙ f.1)
    ]

pub returns-else-any_many-2-clause-found : goal.returns-else-any_many-2-clause-found
returns-else-any_many-2-clause-found c = λ h.
    let f = c.any_many-else-any_many-2.ensures.found h in
    broken.fourth refl (used.WritesFifo f.0) tt (ap (λ (xs : List Users). is_many (users_in xs f.0)) (sym c.as_slice-else-any_many-2.ensures.value) ∙ f.1)
