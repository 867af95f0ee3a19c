use Rattle.std.proofs.Common.{List, ℕ, ◌++◌, ap, ◌∙◌}
use Rattle.std.specs.Prelude.{slice_get, unwrap_or}
use Rattle.elaborate_objects.specs.FlatDesign.declared.objects.Object.{Object}
use Rattle.elaborate_objects.specs.DesignRules.declared.counts.Counts.{Counts}
use Rattle.elaborate_objects.specs.DesignRules.Parts.{home_of}
use Rattle.elaborate_objects.specs.DesignRules.Statics.{process_by}
use Rattle.elaborate_design.proofs.Walks.{along_turn}
use Rattle.elaborate_design.proofs.processes.processes.Goals as goal

pub loop-object-preserved : goal.loop-object-preserved
loop-object-preserved c =
    let os = c.args.objects.now in
    let ls = c.args.from.now.lists.now in
    let ps = c.args.from.now.ports.now in
    let is = c.args.from.now.instances.now in
    let n = c.loop-object.n in
    let o = c.object-item.result in
    let home = c.home_of-home.ensures ∙ ap (λ (ns : List ℕ). unwrap_or (slice_get ns o.parent) 0) c.requires in
    let part = λ (m : Counts) (x : Object). process_by ls ps is m.objects (home_of os x.parent) x.form in
    along_turn part os c.loop-object.object-index o c.loop-object-test.true c.object-item.is n c.in_ok-n.n c.loop-object.found c.add_process.new.found _ c.in_ok-n.ensures
    (c.in_ok-add_process.ensures ∙ ap (λ h. c.loop-object.found ++ process_by ls ps is n.objects h o.form) home) c.loop-object.invariant
