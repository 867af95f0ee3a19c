use Rattle.std.proofs.Common.{◌≡◌, ◌++◌, drop}
use Rattle.std.specs.Prelude.{slice_get}
use Rattle.kernel_state.specs.SimModel.Configuration.{name_of}
use Rattle.report_texts.specs.Climbs.{path_through}
use Rattle.report_texts.proofs.paths.push_names.Given as goal

abbrev pub invariant-loop-place : goal.invariant-loop-place
invariant-loop-place l = l.text.items ≡ l.fn.text.items ++ path_through l.objects (name_of (slice_get l.objects l.top)) (drop l.place l.below)
