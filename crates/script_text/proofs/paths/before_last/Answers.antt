use Rattle.std.proofs.Common.{◌<◌, ◌-◌, length, sym, ◌∙◌, arith, bytes_eq}
use Rattle.std.proofs.lemmas.Slice.Eq.{bytes_eq-Decides}
use Rattle.script_text.proofs.PathLemmas.{ends_so, no_name, is_not}
use Rattle.script_text.proofs.paths.before_last.Goals as goal

pub returns-then-are_same-clause-front : goal.returns-then-are_same-clause-front
returns-then-are_same-clause-front c =
    let within : length c.args.path.now - length c.args.name.now - 1 < length c.args.path.now = omega (arith, c.if-path-name.false) in
    ends_so c.args.name.now c.args.path.now (length c.args.path.now - length c.args.name.now - 1) within c.if-path-dot-ne46.false
    (sym c.past-last.ensures ∙ (bytes_eq-Decides c.past-last.result.now c.args.name.now).0 (sym c.are_same.ensures ∙ c.if-are_same.true))

pub returns-else-are_same-clause-none : goal.returns-else-are_same-clause-none
returns-else-are_same-clause-none c = λ none front is.
    no_name front c.args.name.now c.args.path.now is
    (λ same. is_not (bytes_eq c.past-last.result.now c.args.name.now)
    (sym c.are_same.ensures ∙ c.if-are_same.false)
    ((bytes_eq-Decides c.past-last.result.now c.args.name.now).1 (c.past-last.ensures ∙ same)))
