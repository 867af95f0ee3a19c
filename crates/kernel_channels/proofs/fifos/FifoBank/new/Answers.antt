use Rattle.std.proofs.Common.{◌≡◌, ◌∙◌, false, map, length, replicate, sym, ap, subst, arith}
use Rattle.std.proofs.lemmas.List.{length-map}
use Rattle.kernel_events.specs.FifoSync.Fifos.{after_update, nothing_in}
use Rattle.kernel_events.specs.FlatDesign.declared.design.FifoPart.{FifoPart}
use Rattle.kernel_channels.specs.UpdateMarks.{Rests}
use Rattle.kernel_channels.proofs.Resting.{empty_rests}
use Rattle.kernel_channels.proofs.fifos.FifoBank.new.Goals as goal

pub invariant_of-result : goal.invariant_of-result
invariant_of-result c =
    let ps = c.args.parts.now in
    let size = c.in_ok-size.ensures in
    let many : length c.in_ok-fifos.fifos.items ≡ length ps = ap length c.in_ok-fifos.ensures ∙ length-map ps (λ (p : FifoPart). nothing_in p.size) in
    record {
      rests = subst (λ qs. Rests after_update qs c.in_ok-asked.asked) (sym c.in_ok-fifos.ensures)
          (subst (λ bs. Rests after_update (map (λ (p : FifoPart). nothing_in p.size) ps) bs) (sym (c.in_ok-asked.ensures ∙ ap (λ k. replicate k false) size)) (empty_rests ps));
      visits = record {
        none = c.in_ok-visited.ensures.items;
        room = let capacity = c.in_ok-visited.ensures.capacity in omega (arith, many, capacity);
      };
    }
