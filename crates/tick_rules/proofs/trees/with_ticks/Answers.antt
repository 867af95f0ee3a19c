use Rattle.std.proofs.Common.{◌≡◌, ℕ, ◌++◌, true, List, length, map, take, drop, append-nil, refl, sym, ap, subst, ◌∙◌, arith}
use Rattle.std.proofs.lemmas.List.{take_all, drop_all}
use Rattle.model_tree.specs.Languages.{keeps_language}
use Rattle.model_tree.specs.Limits.{is_sound}
use Rattle.model_tree.specs.WholeTree.{model_of}
use Rattle.model_tree.specs.Tree as tree
use Rattle.model_tree.specs.Views.{modules_of}
use Rattle.tick_trees.specs.Retimed as retimed
use Rattle.tick_trees.specs.Ticks.{ticks_span}
use Rattle.tick_rules.proofs.trees.with_ticks.Goals as goal

-- a list of the same length in the place of another
seam : {X : Type 0} (news olds : List X) (n : ℕ) → length news ≡ length olds → n ≡ length olds → take n (news ++ drop (length news) olds) ≡ news
seam news olds n same full = rw (drop_all (length news) olds (omega (arith, same)), append-nil news, take_all n news (omega (arith, same, full))) refl

pub invariant_of-result : goal.invariant_of-result
invariant_of-result c =
    let olds = c.args.tree.modules.items in let news = c.retime_modules.new.modules in
    let same : length news ≡ length olds = c.retime_modules.auto.modules ∙ ap length c.deref_mut.ensures.value in
    let are : modules_of (take c.args.tree.modules.len (news ++ drop (length news) olds)) ≡ map (retimed.module_ (ticks_span c.args.r)) (modules_of olds) =
    ap modules_of (seam news olds c.args.tree.modules.len same c.args.tree.modules.ok.0)
    ∙ c.retime_modules.ensures ∙ ap (λ ms. map (retimed.module_ (ticks_span c.args.r)) (modules_of ms)) c.deref_mut.ensures.value in
    record {
      sound = subst (λ (ms : List tree.Module). is_sound (record { modules = ms; top = c.args.tree.top }) ≡ true) (sym are) (c.ticks_are_trees.ensures.limits c.args.r (model_of c.args.tree) c.args.tree.sound);
      limits = c.args.tree.limits;
      language = subst (λ (ms : List tree.Module). keeps_language c.args.tree.head (record { modules = ms; top = c.args.tree.top }) ≡ true) (sym are) (c.ticks_are_trees.ensures.language c.args.r c.args.tree.head (model_of c.args.tree) c.args.tree.language);
    }
