use Rattle.std.proofs.lemmas.Result.{err_from_is_err_and}
use Rattle.parse_statements.proofs.ModelLexer.CutLaws.{reads_sound, reads_fits, reads_keeps}
use Rattle.model_parser.specs.Parse.{source_of_parts}
use Rattle.model_parser.proofs.ModelLaws.{found_reads, found_one}
use Rattle.model_parser.proofs.Stops.{stopped_memory}
use Rattle.model_parser.proofs.parsing.parse.Goals as goal

-- a refusal of a text that reads as a tree is out of memory
pub returns-in_err-head-clause-only : goal.returns-in_err-head-clause-only
returns-in_err-head-clause-only c x reads =
    let p = err_from_is_err_and c.from_residual.result c.from_residual.ensures.1 in
    rw (p.1, p.2) (stopped_memory _ c.args.text.now x reads c.in_err-head.ensures.stopped)

pub invariant_of-result : goal.invariant_of-result
invariant_of-result c =
    let reads = found_reads c.args.text.now (source_of_parts (c.in_ok-head.head, c.in_ok-head.modules, c.in_ok-head.top)) c.in_ok-head.ensures.found in
    record { sound = reads_sound c.args.text.now _ reads; limits = reads_fits c.args.text.now _ reads; language = reads_keeps c.args.text.now _ reads }

pub returns-clause-found : goal.returns-clause-found
returns-clause-found c = found_reads c.args.text.now (source_of_parts (c.in_ok-head.head, c.in_ok-head.modules, c.in_ok-head.top)) c.in_ok-head.ensures.found

pub returns-clause-only : goal.returns-clause-only
returns-clause-only c x reads = found_one c.args.text.now _ x c.in_ok-head.ensures.found reads
