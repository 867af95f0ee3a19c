use Rattle.laws_design.proofs.Upward.{named_path}
use Rattle.laws_design.proofs.Inside.{inside_design}
use Rattle.laws_design.proofs.paths.names_have_the_paths_of_their_instances.Goals as goal

pub returns : goal.returns
returns c = record {
  path = λ os inside instance name o found. named_path os inside instance name o found;
  inside = inside_design;
}
