use Rattle.std.proofs.Common.{List, length, set, false, Some, sym, ap, subst, ◌∙◌}
use Rattle.std.proofs.lemmas.List.{length-set}
use Rattle.std.proofs.lemmas.Option.{slice_get-get_or}
use Rattle.design_rules.specs.FlatDesign.declared.objects.Binding.{Binding}
use Rattle.design_rules.specs.Objects.{bindings_of}
use Rattle.binding.specs.Twice.{AreWithin}
use Rattle.binding.proofs.Followed.{links_within, followed}
use Rattle.binding.proofs.twice.follow.Goals as goal

pub mark_all-requires-clause-within : goal.mark_all-requires-clause-within
mark_all-requires-clause-within c =
    subst (λ (row : List Binding). AreWithin row (length (set c.args.marks.now c.args.i false))) (sym (c.row.ensures ∙ c.requires.linked c.args.i))
    (subst (AreWithin (bindings_of c.args.objects.now c.args.i)) (sym (length-set c.args.marks.now c.args.i false ∙ c.requires.long)) (links_within c.args.objects.now c.requires.formed c.args.i))

pub returns : goal.returns
returns c =
    followed c.args.objects.now c.requires.formed c.args.i c.args.marks.now c.mark_all.new.marks
    (slice_get-get_or c.args.marks.now c.args.i false c.requires.within ∙ ap Some c.if-not-marks-i.false) (sym c.is_end.ensures ∙ c.if-is_end.false)
    c.mark_all.result c.row.result.now (c.row.ensures ∙ c.requires.linked c.args.i) c.mark_all.ensures
