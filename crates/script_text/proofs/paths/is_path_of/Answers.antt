use Rattle.std.proofs.Common.{◌≡◌, ◌-◌, ℕ, List, Option, Some, None, sym, ap, ◌∙◌, bytes_eq, is_some}
use Rattle.std.specs.Prelude.{slice_get}
use Rattle.std.specs.Option.{option_copied}
use Rattle.std.specs.Borrow.{Bor}
use Rattle.sim_model.specs.FlatDesign.declared.objects.Object.{Object}
use Rattle.sim_model.specs.Configuration.{below, path_up}
use Rattle.script_text.proofs.PathLemmas.{same_below, other_below, no_path, top_path, step_path}
use Rattle.script_text.proofs.paths.is_path_of.Goals as goal

pub returns-in_default : goal.returns-in_default
returns-in_default c =
    let none : slice_get c.args.objects.now c.names.at ≡ None = sym c.object_at.ensures ∙ ap (λ (o : Option (Bor Object)). option_copied o) c.in_default.is in
    c.is_nothing.ensures
    ∙ ap (λ (p : List ℕ). bytes_eq p c.names.rest.now) (sym (no_path c.names.steps c.args.objects.now c.names.at none))
    ∙ c.names.invariant

pub returns-then-is_top : goal.returns-then-is_top
returns-then-is_top c =
    let there : slice_get c.args.objects.now c.names.at ≡ Some c.in-Some.here.now = sym c.object_at.ensures ∙ ap (λ (o : Option (Bor Object)). option_copied o) c.in-Some.is in
    let path : path_up c.names.steps c.args.objects.now c.names.at ≡ c.in-Some.here.now.name =
    top_path c.names.steps c.args.objects.now c.names.at c.in-Some.here.now there (c.is_top.ensures.top c.if-is_top.true) in
    c.are_same.ensures
    ∙ ap (λ (p : List ℕ). bytes_eq p c.names.rest.now) (c.as_slice.ensures ∙ sym path)
    ∙ c.names.invariant

pub returns-in_default-before_last : goal.returns-in_default-before_last
returns-in_default-before_last c =
    let there : slice_get c.args.objects.now c.names.at ≡ Some c.in-Some.here.now = sym c.object_at.ensures ∙ ap (λ (o : Option (Bor Object)). option_copied o) c.in-Some.is in
    let path : path_up c.names.steps c.args.objects.now c.names.at ≡ below (path_up (c.names.steps - 1) c.args.objects.now c.in-Some.here.now.parent) c.in-Some.here.now.name =
    step_path c.names.steps c.args.objects.now c.names.at c.in-Some.here.now there (c.is_top.ensures.below c.if-is_top.false) in
    sym (ap (λ (p : List ℕ). bytes_eq p c.names.rest.now) (path ∙ ap (below (path_up (c.names.steps - 1) c.args.objects.now c.in-Some.here.now.parent)) (sym c.as_slice-in-names.ensures))
    ∙ other_below (path_up (c.names.steps - 1) c.args.objects.now c.in-Some.here.now.parent) c.as_slice-in-names.result.now c.names.rest.now (c.before_last.ensures.none (ap (λ (o : Option (Bor (List ℕ))). is_some o) c.in_default-before_last.is)))
    ∙ c.names.invariant

pub names-preserved : goal.names-preserved
names-preserved c =
    let there : slice_get c.args.objects.now c.names.at ≡ Some c.in-Some.here.now = sym c.object_at.ensures ∙ ap (λ (o : Option (Bor Object)). option_copied o) c.in-Some.is in
    let path : path_up c.names.steps c.args.objects.now c.names.at ≡ below (path_up (c.names.steps - 1) c.args.objects.now c.in-Some.here.now.parent) c.in-Some.here.now.name =
    step_path c.names.steps c.args.objects.now c.names.at c.in-Some.here.now there (c.is_top.ensures.below c.if-is_top.false) in
    sym (same_below (path_up (c.names.steps - 1) c.args.objects.now c.in-Some.here.now.parent) c.as_slice-in-names.result.now c.names.rest.now c.in-Some-before_last.front.now c.in-Some-before_last.ensures.front)
    ∙ ap (λ (p : List ℕ). bytes_eq p c.names.rest.now) (ap (below (path_up (c.names.steps - 1) c.args.objects.now c.in-Some.here.now.parent)) c.as_slice-in-names.ensures ∙ sym path)
    ∙ c.names.invariant
