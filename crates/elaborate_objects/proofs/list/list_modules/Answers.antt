use Rattle.std.proofs.Common.{◌≡◌, Bool, true, false, sym, subst}
use Rattle.std.specs.Bool.{MatchBool}
use Rattle.check_names.specs.ModelTree.Tree as tree
use Rattle.check_names.specs.ModelTree.Views.{modules_of}
use Rattle.elaborate_objects.specs.Parents.{AreInside}
use Rattle.elaborate_objects.proofs.Parents.{are_inside}
use Rattle.elaborate_objects.proofs.list.list_modules.Goals as goal

when : (A B : Type 0) (b : Bool) → b ≡ true → MatchBool b A B → A
when A B true e h = h
when A B false e h = cc

pub returns-in-Ok-default-true-clause-parents : goal.returns-in-Ok-default-true-clause-parents
returns-in-Ok-default-true-clause-parents c =
    let m : tree.Model = record { modules = modules_of c.in-Ok.places; top = c.args.top.now } in
    subst AreInside (sym (when _ _ c.in-Ok-default-true.field-0-1 c.in-Ok-default-true.field-0-1-test c.in-Ok-default-true.ensures).0) (are_inside m)
