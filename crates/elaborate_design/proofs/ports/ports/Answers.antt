use Rattle.std.proofs.Common.{◌<◌, ◌+◌, List, ◌++◌, drop, length, get_or, subst, ap, ◌∙◌}
use Rattle.elaborate_objects.specs.FlatDesign.declared.objects.Object.{Object}
use Rattle.elaborate_objects.specs.DesignRules.Paths.{ends_of}
use Rattle.elaborate_objects.specs.DesignRules.Bound.{ports_from}
use Rattle.elaborate_objects.specs.DesignRules.declared.counts.Counts.{Counts}
use Rattle.elaborate_objects.specs.DesignRules.Parts.{port_by}
use Rattle.elaborate_design.proofs.Walks.{one_object_more, next_object, along_turn}
use Rattle.elaborate_design.proofs.PortLemmas.{same_port, ports_left}
use Rattle.elaborate_design.proofs.ports.ports.Goals as goal

pub loop-object-preserved : goal.loop-object-preserved
loop-object-preserved c =
    let os = c.args.objects.now in
    let all = c.args.all.now in
    let bs = c.args.bound.now in
    let n = c.loop-object.n in
    let k = c.loop-object.object-index in
    let o = c.object-item.result in
    let held = c.loop-object.invariant in
    let same = c.as_slice-object-items.ensures in
    let within = subst (λ (ys : List Object). k < length ys) same c.loop-object-test.true in
    let is = c.object-item.is ∙ ap (λ (ys : List Object). get_or ys k o) same in
    let part = λ (m : Counts) (x : Object). port_by all (ends_of os m.objects) m.objects x.form in
    let rest = drop (k + 1) os.list in
    let left = held.left ∙ ap (ports_from os k) (next_object part os.list k o within is n) in
    let added =
    c.in_ok-add_port.ensures ∙ ap (λ cs. c.loop-object.found ++ port_by all cs n.objects o.form) c.bound_channels-ends.ensures
    ∙ ap (λ ps. c.loop-object.found ++ ps) (same_port os all bs n k held.at rest o.form left) in
    record {
      found = along_turn part os.list k o within is n c.in_ok-n.n c.loop-object.found c.add_port.new.found _ c.in_ok-n.ensures added held.found;
      at = ap (λ (m : Counts). m.objects) c.in_ok-n.ensures ∙ one_object_more n o.form ∙ ap (λ i. i + 1) held.at;
      left = ap (λ (m : Counts). drop m.ports bs) c.in_ok-n.ensures ∙ ports_left os all bs n k held.at rest o.form left;
    }
