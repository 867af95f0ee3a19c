use Rattle.std.proofs.Common.{◌<◌, List, Bool, length, sym, subst, ◌∙◌}
use Rattle.std.specs.Bool.{MatchBool}
use Rattle.design_rules.specs.FlatDesign.declared.objects.Object.{Object}
use Rattle.binding.specs.Twice.{ReachesTwice, ReachesOnce}
use Rattle.binding.proofs.Followed.{answered}
use Rattle.binding.proofs.twice.is_reached_twice.Goals as goal

pub returns : goal.returns
returns c =
    let os = c.args.objects.now in
    answered os c.requires.formed (length c.as_slice.result.now) c.args.i c.follow_all.result
    (subst (λ (xs : List Object). c.args.i < length xs) (sym c.as_slice.ensures) c.requires.within) c.requires.going
    (subst (λ (marks : List Bool). MatchBool c.follow_all.result (ReachesTwice os marks) (ReachesOnce os marks)) (c.as_mut_slice.ensures.value ∙ c.in_ok-marks.ensures) c.follow_all.ensures)
