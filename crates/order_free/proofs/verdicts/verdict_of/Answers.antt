use Rattle.std.proofs.Common.{sym, ◌∙◌}
use Rattle.order_free.proofs.Within.{not_both}
use Rattle.order_free.proofs.Lower.{none_below_third, none_below_fourth, none_below_fifth, none_broken}
use Rattle.order_free.proofs.verdicts.verdict_of.Goals as goal

pub returns-then-breaks_stores : goal.returns-then-breaks_stores
returns-then-breaks_stores c = (
  c.breaks_stores.ensures.found c.if-breaks_stores.true,
  none_below_third c.args.tables.now (sym c.is_somebody.ensures ∙ c.if-is_somebody.false) (sym c.is_somebody-else-is_somebody.ensures ∙ c.if-is_somebody-2.false),
)

pub returns-then-breaks_ends : goal.returns-then-breaks_ends
returns-then-breaks_ends c = (
  c.breaks_ends.ensures.found c.if-breaks_ends.true,
  none_below_fourth c.args.tables.now (sym c.is_somebody.ensures ∙ c.if-is_somebody.false) (sym c.is_somebody-else-is_somebody.ensures ∙ c.if-is_somebody-2.false)
      (λ b. not_both (sym (c.breaks_stores.ensures.only b) ∙ c.if-breaks_stores.false)),
)

pub returns-then-breaks_cancelled : goal.returns-then-breaks_cancelled
returns-then-breaks_cancelled c = (
  c.breaks_cancelled.ensures.found c.if-breaks_cancelled.true,
  none_below_fifth c.args.tables.now (sym c.is_somebody.ensures ∙ c.if-is_somebody.false) (sym c.is_somebody-else-is_somebody.ensures ∙ c.if-is_somebody-2.false)
      (λ b. not_both (sym (c.breaks_stores.ensures.only b) ∙ c.if-breaks_stores.false)) (λ b. not_both (sym (c.breaks_ends.ensures.only b) ∙ c.if-breaks_ends.false)),
)

pub returns-else-breaks_cancelled : goal.returns-else-breaks_cancelled
returns-else-breaks_cancelled c =
    none_broken c.args.tables.now (sym c.is_somebody.ensures ∙ c.if-is_somebody.false) (sym c.is_somebody-else-is_somebody.ensures ∙ c.if-is_somebody-2.false)
    (λ b. not_both (sym (c.breaks_stores.ensures.only b) ∙ c.if-breaks_stores.false)) (λ b. not_both (sym (c.breaks_ends.ensures.only b) ∙ c.if-breaks_ends.false))
    (λ b. not_both (sym (c.breaks_cancelled.ensures.only b) ∙ c.if-breaks_cancelled.false))
