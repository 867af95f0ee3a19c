use Rattle.std.proofs.Common.{◌≡◌, sym, ap, ◌∙◌}
use Rattle.std.proofs.lemmas.Result.{IfOk-weaker}
use Rattle.design_rules.specs.Objects.{object_at, name_of, parent_at, path_of}
use Rattle.binding.specs.Names.{path_through}
use Rattle.binding.proofs.Upward.{path_below, path_own, through-push}
use Rattle.binding.proofs.paths.path_of.Goals as goal

pub loop-up-preserved : goal.loop-up-preserved
loop-up-preserved c =
    let os = c.args.objects.now in
    let at = c.loop-up.at in
    let up = c.loop-up.up.items in
    c.loop-up.invariant ∙ ap (λ p. path_through os p up) (path_below os c.requires at (sym c.loop-up-test.ensures)) ∙ sym (through-push os (path_of os (parent_at os at)) up at)
    ∙ ap (path_through os (path_of os (parent_at os at))) (sym c.in_ok-push.ensures.items) ∙ ap (λ i. path_through os (path_of os i) c.push.new.self.items) (sym c.parent_at-at.ensures)

pub returns : goal.returns
returns c =
    let os = c.args.objects.now in
    let at = c.loop-up.at in
    IfOk-weaker c.written.result (λ path. path.items ≡ path_through os (name_of (object_at os at)) c.as_slice.result.now) (λ path. path.items ≡ path_of os c.args.i)
    (λ path is. is ∙ ap (path_through os (name_of (object_at os at))) c.as_slice.ensures.value ∙ ap (λ p. path_through os p c.loop-up.up.items) (sym (path_own os c.requires at (sym c.loop-up-test.ensures))) ∙ sym c.loop-up.invariant)
    c.written.ensures
