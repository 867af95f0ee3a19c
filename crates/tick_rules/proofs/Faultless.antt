-- A text without a first fault.
use Rattle.std.proofs.Common.{◌≡◌, Option, Some, None, option_map, refl}
use Rattle.std.specs.Option.{option_or}
use Rattle.model_tree.specs.Tree as tree
use Rattle.model_tree.specs.declared.faults.Fault.{Fault}
use Rattle.model_rules.specs.Passes.{first_fault}
use Rattle.tick_trees.specs.Unfit.{first_unfit}
use Rattle.tick_rules.specs.Sources.{source_fault, ticked, resolution_fault, resolution_of, told_fault, modules_fault}

second_none : {T : Type 0} (o p : Option T) → option_or o p ≡ None → p ≡ None
second_none None p h = h
second_none (Some x) p h = cc

mapped_none : {A B : Type 0} (f : A → B) (o : Option A) → option_map f o ≡ None → o ≡ None
mapped_none f None h = refl
mapped_none f (Some x) h = cc

pub faultless : (s : tree.Source) → source_fault s ≡ None → first_fault (ticked s) ≡ None
faultless s h =
    mapped_none (told_fault (first_unfit (resolution_of s.head) s.model)) (first_fault (ticked s))
    (second_none (resolution_fault s.head) (modules_fault (resolution_of s.head) s.model) h)
