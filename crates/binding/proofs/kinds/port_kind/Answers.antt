use Rattle.std.proofs.Common.{length, ap, ◌∙◌}
use Rattle.std.specs.Prelude.{nat_lt}
use Rattle.design_rules.specs.Paths.{ends_of}
use Rattle.design_rules.specs.BindingFaults.{first_broken, has_twice}
use Rattle.binding.proofs.PortChannels.{judged_kept}
use Rattle.binding.proofs.kinds.port_kind.Goals as goal

pub returns : goal.returns
returns c =
    let size = c.args.size in
    let row = c.row.result.now in
    c.first_broken.ensures ∙ ap (λ t. first_broken t (nat_lt size (length row)) c.has_too_few.result) c.in_ok-twice.ensures
    ∙ ap (first_broken (has_twice (ends_of c.args.objects.now c.args.i)) (nat_lt size (length row))) c.has_too_few.ensures
    ∙ judged_kept c.args.objects.now c.args.i size c.args.rule row (c.row.ensures ∙ c.requires.known.ended c.args.i) c.requires.small
