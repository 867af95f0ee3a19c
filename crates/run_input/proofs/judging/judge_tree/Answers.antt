use Rattle.std.proofs.Common.{◌≡◌, ◌∙◌, Some, None, ap, inl, inr, subst}
use Rattle.model_tree.specs.WholeTree.{model_of, source_of}
use Rattle.model_tree.specs.Tree as tree
use Rattle.model_tree.specs.declared.items.Head.{Head}
use Rattle.elaborate.specs.TickRules.Sources.{resolution_of, source_fault, ticked}
use Rattle.elaborate.specs.Elaborated.{elaboration_fault}
use Rattle.elaborate.specs.DesignRules.Designs.{IsDesignOf}
use Rattle.run_input.proofs.Refusals.{refused_fault}
use Rattle.run_input.proofs.Designs.{can_run}
use Rattle.run_input.proofs.judging.judge_tree.Goals as goal

pub sound_design-requires-clause-limits : goal.sound_design-requires-clause-limits
sound_design-requires-clause-limits c = c.in-Ok.checked.tree.sound

pub returns-in-Ok-sound_design-clause-accepted : goal.returns-in-Ok-sound_design-clause-accepted
returns-in-Ok-sound_design-clause-accepted c = λ text reads.
    record {
      reads = reads;
      faultless = c.in-Ok.ensures.accepted;
      elaborated = subst (λ (m : tree.Model). elaboration_fault m ≡ None) c.in-Ok.ensures.tree c.in-Ok-sound_design.ensures.accepted;
    }

pub returns-in-Ok-sound_design-clause-design : goal.returns-in-Ok-sound_design-clause-design
returns-in-Ok-sound_design-clause-design c =
    record {
      parts = subst (λ (m : tree.Model). IsDesignOf m c.in-Ok-sound_design.design) c.in-Ok.ensures.tree c.in-Ok-sound_design.ensures.design;
      apart = c.in-Ok-sound_design.ensures.apart;
      resolution = c.in-Ok-sound_design.ensures.resolution ∙ ap (λ (h : Head). (resolution_of h).power) c.in-Ok.ensures.head;
    }

pub returns-in-Ok-sound_design-clause-runs : goal.returns-in-Ok-sound_design-clause-runs
returns-in-Ok-sound_design-clause-runs c =
    let made = c.in-Ok-sound_design.ensures in
    can_run (model_of c.in-Ok.checked.tree) c.in-Ok-sound_design.design c.designs_are_few.ensures.processes c.designs_are_few.ensures.events c.semaphores_start_low.ensures c.in-Ok.checked.accepted made.accepted made.design made.sound

pub returns-in-Err-Refused-clause-fault : goal.returns-in-Err-Refused-clause-fault
returns-in-Err-Refused-clause-fault c = λ text reads.
    let refused = c.in-Err-Refused in
    let found : source_fault (source_of c.args.tree) ≡ Some refused.fault = refused_fault refused.field-0 refused.fault (source_fault (source_of c.args.tree)) refused.field-0-is refused.ensures.refused in
    (source_of c.args.tree, reads, rw refused.field-0-is (inl found))

pub returns-in-Err-Refused-sound_design-clause-fault : goal.returns-in-Err-Refused-sound_design-clause-fault
returns-in-Err-Refused-sound_design-clause-fault c = λ text reads.
    let refused = c.in-Err-Refused-sound_design in
    let found : elaboration_fault (model_of c.in-Ok.checked.tree) ≡ Some refused.fault = refused_fault refused.field-0 refused.fault (elaboration_fault (model_of c.in-Ok.checked.tree)) refused.field-0-is refused.ensures.refused in
    let whole : elaboration_fault (ticked (source_of c.args.tree)) ≡ Some refused.fault = subst (λ (m : tree.Model). elaboration_fault m ≡ Some refused.fault) c.in-Ok.ensures.tree found in
    (source_of c.args.tree, reads, inr (c.in-Ok.ensures.accepted, whole))
