use Rattle.std.proofs.Common.{◌≡◌, ℕ, ◌∷◌, [], ◌++◌, true≢false, true, false, not, ◌||◌, cond, length, Some, sym, ap, ◌∙◌, subst}
use Rattle.std.specs.Prelude.{slice_get, ◌==◌}
use Rattle.wait_lists.specs.Shown.{Shown, passed_by}
use Rattle.wait_lists.specs.Nodes.{shown_of}
use Rattle.wait_lists.specs.Layout.{IsShorter, IsCutAt, IsOver, shown_by}
use Rattle.wait_lists.proofs.Refit.{shown-at}
use Rattle.wait_lists.proofs.Struck.{of-same, of-within, same-waiter}
use Rattle.wait_lists.proofs.firing.strike.Goals as goal

pub waiter_at-waiter-requires : goal.waiter_at-waiter-requires
waiter_at-waiter-requires c = of-within c.args.kept.now c.requires.sound c.args.i c.owner-at.result c.requires.used c.owner-at.ensures

pub strike_one-requires-clause-inside : goal.strike_one-requires-clause-inside
strike_one-requires-clause-inside c = of-within c.args.kept.now c.requires.sound c.args.i c.owner-at.result c.requires.used c.owner-at.ensures

pub strike_any-requires-clause-inside : goal.strike_any-requires-clause-inside
strike_any-requires-clause-inside c = of-within c.args.kept.now c.requires.sound c.args.i c.owner-at.result c.requires.used c.owner-at.ensures

pub strike_one-requires-clause-room : goal.strike_one-requires-clause-room
strike_one-requires-clause-room c =
    let k = c.args.kept.now in
    let here = shown-at k.nodes.items k.waiters.items c.owner-at.result c.waiter_at-waiter.result c.waiter_at-waiter.ensures in
    c.requires.room c.owner-at.result (shown_of k.nodes.items c.waiter_at-waiter.result) c.owner-at.ensures here (sym c.is_passed.ensures ∙ c.if-is_passed.false)

pub strike_any-requires-clause-room : goal.strike_any-requires-clause-room
strike_any-requires-clause-room c =
    let k = c.args.kept.now in
    let here = shown-at k.nodes.items k.waiters.items c.owner-at.result c.waiter_at-waiter.result c.waiter_at-waiter.ensures in
    c.requires.room c.owner-at.result (shown_of k.nodes.items c.waiter_at-waiter.result) c.owner-at.ensures here (sym c.is_passed.ensures ∙ c.if-is_passed.false)

pub returns-then-is_passed-clause-stays : goal.returns-then-is_passed-clause-stays
returns-then-is_passed-clause-stays c at s is here =
    let k = c.args.kept.now in
    let same = of-same k c.args.i at c.owner-at.result is c.owner-at.ensures in
    let P : ℕ → Type 0 = λ a. slice_get (shown_by k) a ≡ Some s in
    let alike = same-waiter k c.owner-at.result c.waiter_at-waiter.result s c.waiter_at-waiter.ensures (subst P same here) in
    let by : passed_by s ≡ true = ap passed_by alike ∙ sym c.is_passed.ensures ∙ c.if-is_passed.true in
    sym (ap (λ b. b || not s.for_all) by)

pub returns-then-waiter-clause-stays : goal.returns-then-waiter-clause-stays
returns-then-waiter-clause-stays c at s is here =
    let k = c.args.kept.now in
    let same = of-same k c.args.i at c.owner-at.result is c.owner-at.ensures in
    let P : ℕ → Type 0 = λ a. slice_get (shown_by k) a ≡ Some s in
    let alike = same-waiter k c.owner-at.result c.waiter_at-waiter.result s c.waiter_at-waiter.ensures (subst P same here) in
    let active : passed_by s ≡ false = ap passed_by alike ∙ sym c.is_passed.ensures ∙ c.if-is_passed.false in
    let kind : s.for_all ≡ true = ap (λ (x : Shown). x.for_all) alike ∙ c.if-waiter.true in
    sym (λ x. active x || not (kind x))

pub returns-clause-stays : goal.returns-clause-stays
returns-clause-stays c at s is here =
    let k = c.args.kept.now in
    let same = of-same k c.args.i at c.owner-at.result is c.owner-at.ensures in
    let P : ℕ → Type 0 = λ a. slice_get (shown_by k) a ≡ Some s in
    let alike = same-waiter k c.owner-at.result c.waiter_at-waiter.result s c.waiter_at-waiter.ensures (subst P same here) in
    let active : passed_by s ≡ false = ap passed_by alike ∙ sym c.is_passed.ensures ∙ c.if-is_passed.false in
    let kind : s.for_all ≡ false = ap (λ (x : Shown). x.for_all) alike ∙ c.if-waiter.false in
    sym (λ x. active x || not (kind x))

pub returns-then-waiter-clause-passed : goal.returns-then-waiter-clause-passed
returns-then-waiter-clause-passed c at s is here by =
    let k = c.args.kept.now in
    let same = of-same k c.args.i at c.owner-at.result is c.owner-at.ensures in
    let P : ℕ → Type 0 = λ a. slice_get (shown_by k) a ≡ Some s in
    let alike = same-waiter k c.owner-at.result c.waiter_at-waiter.result s c.waiter_at-waiter.ensures (subst P same here) in
    absurd (true≢false (sym by ∙ ap passed_by alike ∙ sym c.is_passed.ensures ∙ c.if-is_passed.false))

pub returns-clause-passed : goal.returns-clause-passed
returns-clause-passed c at s is here by =
    let k = c.args.kept.now in
    let same = of-same k c.args.i at c.owner-at.result is c.owner-at.ensures in
    let P : ℕ → Type 0 = λ a. slice_get (shown_by k) a ≡ Some s in
    let alike = same-waiter k c.owner-at.result c.waiter_at-waiter.result s c.waiter_at-waiter.ensures (subst P same here) in
    absurd (true≢false (sym by ∙ ap passed_by alike ∙ sym c.is_passed.ensures ∙ c.if-is_passed.false))

pub returns-then-is_passed-clause-over : goal.returns-then-is_passed-clause-over
returns-then-is_passed-clause-over c at s is here active kind =
    let k = c.args.kept.now in
    let same = of-same k c.args.i at c.owner-at.result is c.owner-at.ensures in
    let P : ℕ → Type 0 = λ a. slice_get (shown_by k) a ≡ Some s in
    let alike = same-waiter k c.owner-at.result c.waiter_at-waiter.result s c.waiter_at-waiter.ensures (subst P same here) in
    absurd (true≢false (sym (ap passed_by alike ∙ sym c.is_passed.ensures ∙ c.if-is_passed.true) ∙ active))

pub returns-then-waiter-clause-over : goal.returns-then-waiter-clause-over
returns-then-waiter-clause-over c at s is here active kind =
    let k = c.args.kept.now in
    let same = of-same k c.args.i at c.owner-at.result is c.owner-at.ensures in
    let P : ℕ → Type 0 = λ a. slice_get (shown_by k) a ≡ Some s in
    let alike = same-waiter k c.owner-at.result c.waiter_at-waiter.result s c.waiter_at-waiter.ensures (subst P same here) in
    absurd (true≢false (sym (ap (λ (x : Shown). x.for_all) alike ∙ c.if-waiter.true) ∙ kind))

pub returns-clause-over : goal.returns-clause-over
returns-clause-over c at s is here active kind =
    let k = c.args.kept.now in
    let same = of-same k c.args.i at c.owner-at.result is c.owner-at.ensures in
    let P : ℕ → Type 0 = λ a. slice_get (shown_by k) a ≡ Some s in
    let alike = same-waiter k c.owner-at.result c.waiter_at-waiter.result s c.waiter_at-waiter.ensures (subst P same here) in
    let Q : ℕ → Type 0 = λ a. IsOver k c.strike_any.new.kept a s in (
      subst Q (sym same) (c.strike_any.ensures.over s (subst P same here)),
      c.strike_any.ensures.told ∙ ap (λ p. c.args.out.now.items ++ p ∷ []) (sym (ap (λ (x : Shown). x.serial) alike)),
    )

pub returns-then-waiter-clause-shorter : goal.returns-then-waiter-clause-shorter
returns-then-waiter-clause-shorter c at s is here gone =
    let k = c.args.kept.now in
    let same = of-same k c.args.i at c.owner-at.result is c.owner-at.ensures in
    let P : ℕ → Type 0 = λ a. slice_get (shown_by k) a ≡ Some s in
    let alike = same-waiter k c.owner-at.result c.waiter_at-waiter.result s c.waiter_at-waiter.ensures (subst P same here) in
    let Q : ℕ → Type 0 = λ a. IsShorter k c.strike_one.new.kept a c.args.i s in
    let R : ℕ → Type 0 = λ a. IsCutAt k c.strike_one.new.kept a in
    (subst Q (sym same) (c.strike_one.ensures.shorter s (subst P same here)), subst R (sym same) c.strike_one.ensures.cut)

pub returns-then-waiter-clause-told : goal.returns-then-waiter-clause-told
returns-then-waiter-clause-told c at s t is here gone there =
    let k = c.args.kept.now in
    let same = of-same k c.args.i at c.owner-at.result is c.owner-at.ensures in
    let P : ℕ → Type 0 = λ a. slice_get (shown_by k) a ≡ Some s in
    let alike = same-waiter k c.owner-at.result c.waiter_at-waiter.result s c.waiter_at-waiter.ensures (subst P same here) in
    let Q : ℕ → Type 0 = λ a. slice_get (shown_by c.strike_one.new.kept) a ≡ Some t in
    c.strike_one.ensures.told t (subst Q same there) ∙ ap (λ p. c.args.out.now.items ++ cond (length t.events == 0) (p ∷ []) []) (sym (ap (λ (x : Shown). x.serial) alike))

pub returns-clause-whole : goal.returns-clause-whole
returns-clause-whole c is =
    let k = c.args.kept.now in
    let here = shown-at k.nodes.items k.waiters.items c.owner-at.result c.waiter_at-waiter.result c.waiter_at-waiter.ensures in
    ap (λ v. length v.items) (c.strike_any.ensures.over (shown_of k.nodes.items c.waiter_at-waiter.result) here).nodes
