use Rattle.std.proofs.Common.{◌-◌, ℕ, List, Option, Some, None, length, ap, ◌∙◌, arith}
use Rattle.std.proofs.lemmas.List.{length-replicate, length-set}
use Rattle.vcd_trace.specs.Tables.{variable_at}
use Rattle.vcd_trace.proofs.Rows.{none_found, found_down}
use Rattle.vcd_trace.proofs.tables.variables_of_each.Goals as goal

pub loop-variable-init : goal.loop-variable-init
loop-variable-init c =
    let e = c.in_ok-variables.ensures in
    record {
      many = ap (λ (vs : List (Option ℕ)). length vs) e ∙ length-replicate c.args.count None;
      found = λ i below. ap (λ (vs : List (Option ℕ)). variable_at vs i) e ∙ none_found c.args.visible.now c.args.count i;
    }

pub loop-variable-preserved : goal.loop-variable-preserved
loop-variable-preserved c =
    let vs = c.loop-variable.variables.items in
    let p = c.loop-variable.variable in
    let e = c.set_variable.ensures in
    let many = c.loop-variable.invariant.many in
    record {
      many = ap (λ (xs : List (Option ℕ)). length xs) e ∙ length-set vs _ (Some (p - 1)) ∙ many;
      found = λ i below.
          ap (λ (xs : List (Option ℕ)). variable_at xs i) e
          ∙ found_down c.args.visible.now p _ vs i (omega arith) (omega arith) (omega (arith, below, many)) (c.loop-variable.invariant.found i below);
    }
