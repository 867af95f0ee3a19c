use Rattle.std.proofs.Common.{replicate, vec_capacity, ap, sym, ◌∙◌, subst}
use Rattle.numbered_slots.specs.declared.flags.Flag.TheVariants.{Free}
use Rattle.numbered_slots.specs.MarkLayout.{marks_of, IsSound}
use Rattle.numbered_slots.proofs.Listed.{marks_of_free}
use Rattle.numbered_slots.proofs.Sound.{sound_free}
use Rattle.numbered_slots.proofs.marks.Marks.new.Goals as goal

pub invariant_of-result : goal.invariant_of-result
invariant_of-result c =
    let items = c.in_ok-flags.ensures.items_if_clones_equal (λ y e. e) in
    subst (λ fs. IsSound fs c.in_ok-listed.listed.items (vec_capacity c.in_ok-listed.listed) 0) (sym items)
    (subst (λ xs. IsSound (replicate c.args.size Free) xs (vec_capacity c.in_ok-listed.listed) 0) (sym c.in_ok-listed.ensures.items)
    (sound_free c.args.size (vec_capacity c.in_ok-listed.listed) c.ranges.size.fits c.in_ok-listed.ensures.capacity))

pub returns : goal.returns
returns c = ap marks_of (c.in_ok-flags.ensures.items_if_clones_equal (λ y e. e)) ∙ marks_of_free c.args.size
