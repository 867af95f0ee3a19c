use Rattle.std.proofs.Common.{◌≡◌}
use Rattle.kernel_state.specs.SimModel.Configuration.{path_up}
use Rattle.report_texts.specs.Climbs.{path_through}
use Rattle.report_texts.proofs.paths.push_path_by_list.Given as goal

abbrev pub invariant-above : goal.invariant-above
invariant-above l = path_up l.most l.objects l.number ≡ path_through l.objects (path_up l.steps l.objects l.at) l.below.items

abbrev pub decreases-above : goal.decreases-above
decreases-above l = l.steps
