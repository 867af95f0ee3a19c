use Rattle.std.proofs.Common.{◌≡◌, bytes_eq}
use Rattle.sim_model.specs.Configuration.{path_up}
use Rattle.script_text.proofs.paths.is_path_of.Given as goal

abbrev pub invariant-names : goal.invariant-names
invariant-names l = bytes_eq (path_up l.steps l.objects l.at) l.rest ≡ bytes_eq (path_up l.fn.object l.objects l.fn.object) l.fn.path

abbrev pub decreases-names : goal.decreases-names
decreases-names l = l.steps
