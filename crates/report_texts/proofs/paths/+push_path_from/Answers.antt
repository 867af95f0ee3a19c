use Rattle.std.proofs.lemmas.Result.{on_ok_weaker}
use Rattle.report_texts.proofs.Upward.{path_at_top, path_grown}
use Rattle.report_texts.proofs.paths.+push_path_from.Goals as goal

pub returns-then-is_top : goal.returns-then-is_top
returns-then-is_top t c = rw (path_at_top c.args.most c.args.objects.now c.args.number (c.is_top.ensures.top c.if-is_top.true), ← c.name_of-name.ensures) c.push_bytes.ensures

pub returns : goal.returns
returns t c =
    on_ok_weaker c.push_below.result
    (λ last. path_grown c.args.objects.now c.args.most c.args.number c.args.text.now.items c.push_path_from.new.text.items c.push_below.new.text.items c.name_of-name.result.now c.parent_of-up.result
    (c.is_top.ensures.below c.if-is_top.false) c.in_ok-push_path_from.ensures c.parent_of-up.ensures last c.name_of-name.ensures)
    c.push_below.ensures
