use Rattle.std.proofs.Common.{List, ℕ, sym, subst, IfOk}
use Rattle.model_tree.specs.WholeTree.{source_of}
use Rattle.script_text.specs.ModelLexer.Reads.{Reads}
use Rattle.run_input.proofs.Refusals.{expanded_only, expanded_read}
use Rattle.run_input.proofs.judging.read_expanded.Goals as goal

pub returns-in-Ok-Some-clause-reads : goal.returns-in-Ok-Some-clause-reads
returns-in-Ok-Some-clause-reads c =
    let becomes = rw c.in-Ok-Some.field-0-is at c.in-Ok-Some.ensures.becomes in
    expanded_read c.args.text.now c.in-Ok-Some.out c.parse.result becomes (subst (λ (x : List ℕ). IfOk c.parse.result (λ t. Reads x (source_of t))) c.as_slice.ensures c.parse.ensures.found)

pub returns-in-Ok-Some-clause-only : goal.returns-in-Ok-Some-clause-only
returns-in-Ok-Some-clause-only c =
    let becomes = rw c.in-Ok-Some.field-0-is at c.in-Ok-Some.ensures.becomes in
    expanded_only c.args.text.now c.in-Ok-Some.out c.parse.result c.one_reading.ensures becomes
    (λ m reads. c.parse.ensures.only m (subst (λ (x : List ℕ). Reads x m) (sym c.as_slice.ensures) reads))

pub returns-in-Ok-None-clause-only : goal.returns-in-Ok-None-clause-only
returns-in-Ok-None-clause-only c = λ m reads.
    let some = c.in-Ok-None.ensures.only reads.0 reads.1 in
    let none = rw c.in-Ok-None.field-0-is at some in
    cc

pub returns-in-Err-clause-only : goal.returns-in-Err-clause-only
returns-in-Err-clause-only c = λ m reads. c.in-Err.ensures.only reads.0 reads.1
