use Rattle.std.proofs.Common.{ℕ, List, ◌++◌, length, drop, ap, ◌∙◌, arith, append-nil}
use Rattle.std.proofs.lemmas.List.{drop_all}
use Rattle.std.proofs.lemmas.Option.{IfSome_then}
use Rattle.kernel_state.specs.SimModel.Storing.{print_line}
use Rattle.report_texts.specs.Instances.{path_at}
use Rattle.report_texts.proofs.PathTexts.{is_print}
use Rattle.report_texts.proofs.prints.print_within.Goals as goal

-- behind the line the room has nothing
pub returns : goal.returns
returns c =
    let room = c.args.room.now in
    let line = print_line c.args.k.now.cycle.now.0 (path_at c.args.k.now c.args.p) c.text_at.result.now c.args.value in
    IfSome_then c.row_of_print.result c.row_of_print.ensures
    (λ start is. (
      is.0,
      is_print c.args.k.now c.args.p c.args.s c.args.value c.text_at.result.now (drop start c.row_of_print.new.room) c.text_at.ensures
          (is.1 ∙ ap (λ (rest : List ℕ). line ++ rest) (drop_all (length room) room (omega arith)) ∙ append-nil line),
    ))
