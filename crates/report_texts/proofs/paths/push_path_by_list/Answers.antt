use Rattle.std.proofs.Common.{◌-◌, ℕ, List, refl, sym, ap, ◌∙◌}
use Rattle.std.specs.Prelude.{slice_get}
use Rattle.kernel_state.specs.SimModel.Configuration.{path_up, name_of, parent_of}
use Rattle.report_texts.specs.Climbs.{path_through}
use Rattle.report_texts.proofs.Upward.{path_at_top, path_above, through-push}
use Rattle.report_texts.proofs.paths.push_path_by_list.Goals as goal

pub above-preserved : goal.above-preserved
above-preserved c =
    let os = c.args.objects.now in
    let at = c.above.at in
    let up = c.above.below.items in
    let higher = path_up (c.above.steps - 1) os (parent_of (slice_get os at)) in
    c.above.invariant
    ∙ ap (λ (p : List ℕ). path_through os p up) (path_above c.above.steps os at (c.above-test.ensures.below refl))
    ∙ sym (through-push os higher up at)
    ∙ ap (path_through os higher) (sym c.in_ok-push.ensures.items)
    ∙ ap (λ (i : ℕ). path_through os (path_up (c.above.steps - 1) os i) c.push.new.self.items) (sym c.parent_of-at.ensures)

pub returns : goal.returns
returns c =
    let os = c.args.objects.now in
    let at = c.above.at in
    let is =
    c.above.invariant
    ∙ ap (λ (p : List ℕ). path_through os p c.above.below.items) (path_at_top c.above.steps os at (c.above-test.ensures.top refl))
    ∙ ap (path_through os (name_of (slice_get os at))) (sym c.as_slice.ensures.value) in
    rw is c.push_names.ensures
