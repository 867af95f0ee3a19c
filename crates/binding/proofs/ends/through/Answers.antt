use Rattle.std.proofs.Common.{length, take, ap, ◌∙◌, arith}
use Rattle.std.specs.List.{flat_map}
use Rattle.std.proofs.lemmas.List.{length-take, take_all}
use Rattle.design_rules.specs.FlatDesign.declared.objects.Binding.{Binding}
use Rattle.binding.specs.Rows.{row_at}
use Rattle.binding.specs.Ends.{leads}
use Rattle.binding.proofs.Lists.{front_more}
use Rattle.binding.proofs.Linked.{no_binding}
use Rattle.binding.proofs.ends.through.Goals as goal

pub add_leads-requires : goal.add_leads-requires
add_leads-requires c =
    let long = ap length c.loop-b.invariant ∙ length-take 65 (flat_map (λ (b : Binding). leads c.args.objects.now (row_at c.args.known.now) b.right) (take c.loop-b.b-index c.args.links.now)) in
    omega arith

pub loop-b-preserved : goal.loop-b-preserved
loop-b-preserved c =
    front_more 65 c.loop-b.b-index (λ (b : Binding). leads c.args.objects.now (row_at c.args.known.now) b.right) c.args.links.now no_binding c.loop-b.found c.add_leads.new.found c.loop-b-test.true c.loop-b.invariant c.in_ok-add_leads.ensures

pub returns : goal.returns
returns c =
    c.loop-b.invariant ∙ ap (λ links. take 65 (flat_map (λ (b : Binding). leads c.args.objects.now (row_at c.args.known.now) b.right) links)) (take_all c.loop-b.b-index c.args.links.now c.loop-b-test.false)
