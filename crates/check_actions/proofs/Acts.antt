-- The first fault at a construct itself, by its names, its types and its other rules.
use Rattle.std.proofs.Common.{◌≡◌, ℕ, List, Option, None, ap, ◌∙◌}
use Rattle.std.specs.Option.{option_or}
use Rattle.model_tree.specs.Tree as tree
use Rattle.model_tree.specs.declared.faults.Fault.{Fault}
use Rattle.model_tree.specs.declared.faults.Kind.TheVariants as kind
use Rattle.check_expressions.specs.ModelRules.Scopes.{Scope}
use Rattle.check_expressions.specs.ModelRules.Sites.{Part, site, of_operation, of_statement}
use Rattle.check_expressions.specs.ModelRules.Names.{first, unknown_use, wrong_use, operation_uses, action_uses}
use Rattle.check_expressions.specs.ModelRules.Values.{operation_differs, action_differs}
use Rattle.check_expressions.specs.ModelRules.Calls.{bad_spawn_in, argument_count_in, return_differs_in}
use Rattle.check_expressions.specs.ModelRules.Items.{binding_in}
use Rattle.check_expressions.specs.ModelRules.Passes.{constructs, fault_at}
use Rattle.check_expressions.specs.Findings.{told, told_if}
use Rattle.check_actions.specs.Uses.{operation_fault, action_fault}
use Rattle.check_actions.proofs.Parts.{or_nothing}

shape : (line : ℕ) (u w : Option (List ℕ)) (t a b c d : Option Fault)
    → option_or (told kind.UnknownName line (option_or u None)) (option_or (told kind.WrongKind line (option_or w None)) (option_or t (option_or a (option_or b (option_or c (option_or d None))))))
    ≡ option_or (told kind.UnknownName line u) (option_or (told kind.WrongKind line w) (option_or t (option_or a (option_or b (option_or c d)))))
shape line u w t a b c d =
    ap (λ x. option_or (told kind.UnknownName line x) (option_or (told kind.WrongKind line (option_or w None)) (option_or t (option_or a (option_or b (option_or c (option_or d None))))))) (or_nothing u)
    ∙ ap (λ x. option_or (told kind.UnknownName line u) (option_or (told kind.WrongKind line x) (option_or t (option_or a (option_or b (option_or c (option_or d None))))))) (or_nothing w)
    ∙ ap (λ x. option_or (told kind.UnknownName line u) (option_or (told kind.WrongKind line w) (option_or t (option_or a (option_or b (option_or c x)))))) (or_nothing d)

pub act_is : (s : Scope) (line : ℕ) (a : tree.Action) → fault_at constructs (site s line (of_statement (tree.act line a))) ≡ action_fault s line a
act_is s line a =
    let p : Part = of_statement (tree.act line a) in
    shape line (first (unknown_use s) (action_uses a)) (first (wrong_use s) (action_uses a)) (told_if kind.TypeDiffers line s.around (action_differs s a)) (told kind.BadSpawn line (bad_spawn_in s p))
    (told kind.ArgumentCount line (argument_count_in s p)) (told kind.ReturnDiffers line (return_differs_in s p)) (told kind.BadBinding line (binding_in s p))

pub operation_is : (s : Scope) (line : ℕ) (o : tree.Operation) → fault_at constructs (site s line (of_operation o)) ≡ operation_fault s line o
operation_is s line o =
    let p : Part = of_operation o in
    shape line (first (unknown_use s) (operation_uses o)) (first (wrong_use s) (operation_uses o)) (told_if kind.TypeDiffers line s.around (operation_differs s o)) (told kind.BadSpawn line (bad_spawn_in s p))
    (told kind.ArgumentCount line (argument_count_in s p)) (told kind.ReturnDiffers line (return_differs_in s p)) (told kind.BadBinding line (binding_in s p))
