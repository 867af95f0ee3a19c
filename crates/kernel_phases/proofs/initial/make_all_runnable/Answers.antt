use Rattle.std.proofs.Common.{◌≡◌, ◌+◌, suc, sym, ap, ◌∙◌, subst, arith}
use Rattle.std.specs.Prelude.{slice_get, Some, length}
use Rattle.std.proofs.lemmas.Option.{slice_get-get_or}
use Rattle.kernel_phases.proofs.Initialized.{Initializes, none_initialized, left_out, one_initialized}
use Rattle.kernel_phases.proofs.initial.make_all_runnable.Goals.{then-not-as_slice-p, else-not-as_slice-p}
use Rattle.kernel_phases.proofs.initial.make_all_runnable.Goals as goal

pub loop-p-preserved : goal.loop-p-preserved
loop-p-preserved c =
    let old = c.args.k.now in
    let p = c.loop-p.p in
    let x = c.index-as_slice-p.result in
    let list : c.as_slice-in-loop-p.result.now ≡ old.design.processes = c.as_slice-in-loop-p.ensures ∙ ap (λ d. d.processes) c.loop-p.invariant.kept.design in
    let below = c.loop-p-test.true in
    let many = ap length (c.as_slice.ensures ∙ sym c.as_slice-in-loop-p.ensures) in
    let there : slice_get old.design.processes p ≡ Some x = ap (λ xs. slice_get xs p) (sym list) ∙ slice_get-get_or c.as_slice-in-loop-p.result.now p x (omega (arith, below, many)) ∙ ap Some (sym c.index-as_slice-p.is) in
    let next : suc p ≡ p + 1 = omega arith in
    elim c.if-not-as_slice-p.branch [
      | then-not-as_slice-p w ↦
          subst (λ k. Initializes (p + 1) old k) (sym w.k-is)
          (subst (λ n. Initializes n old (record c.loop-p.k { schedule = w.initialize.new.s })) next
          (one_initialized p old c.loop-p.k c.loop-p.invariant x there (ap (λ z. z.dont_initialize) c.index-as_slice-p.is ∙ w.if-not-as_slice-p.true) w.initialize.new.s w.initialize.ensures.sound w.initialize.ensures.moves
          (c.loop-p.invariant.fresh.lives p (let few = ap (λ d. length d.processes) c.loop-p.invariant.kept.design in let all = ap length c.as_slice.ensures in omega (arith, below, all, few)))))
      | else-not-as_slice-p w ↦
          subst (λ k. Initializes (p + 1) old k) (sym w.k-is)
          (subst (λ n. Initializes n old c.loop-p.k) next (left_out p old c.loop-p.k c.loop-p.invariant x there (ap (λ z. z.dont_initialize) c.index-as_slice-p.is ∙ w.if-not-as_slice-p.false)))
    ]

pub loop-p-init : goal.loop-p-init
loop-p-init c = none_initialized c.args.k.now c.requires.sound c.requires.fresh
