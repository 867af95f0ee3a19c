use Rattle.std.proofs.Common.{get_or, sym, subst}
use Rattle.std.proofs.lemmas.List.Elements.{Contains-get_or}
use Rattle.result_texts.specs.Lines.{IsReturnOrder}
use Rattle.result_texts.proofs.texts.text_of.Goals as goal

pub push_lines-requires-clause-there : goal.push_lines-requires-clause-there
push_lines-requires-clause-there c = λ i below.
    let ks = c.as_slice.result.now in
    let order = subst (λ xs. IsReturnOrder c.args.bus.now c.args.rows.now xs) (sym c.as_slice.ensures.value) c.in_ok-order.ensures in
    (order.all (get_or ks i 0)).0 (Contains-get_or ks i 0 below)
