use Rattle.std.proofs.Common.{option_map, sym, ap, ◌∙◌, true≢false, Bor}
use Rattle.std.specs.Prelude.{is_some, unwrap_or}
use Rattle.flat_design.specs.Code.{arena_of}
use Rattle.exec_data.specs.KernelBodies.Layers.{call_of}
use Rattle.exec_data.specs.KernelBodies.declared.layers.Frame.{Frame}
use Rattle.exec_data.specs.ProcessBodies.Bodies.{left_in, settled_in}
use Rattle.exec_data.specs.SimModel.Residual as residual
use Rattle.exec_data.specs.SimModel.Residual.{next_of}
use Rattle.exec_calls.proofs.Ends.{ends_as, leaves_innermost}
use Rattle.exec_calls.proofs.leaving.ending_in.Goals as goal

pub returns : goal.returns
returns c =
    let w = ends_as (next_of (settled_in c.args.program.now c.args.body.now)) c.requires in
    let same = sym (ap (option_map (λ (y : Bor Frame). call_of y.now)) c.in-Some.is) ∙ c.innermost.ensures ∙ leaves_innermost (arena_of c.args.program.now.code) (left_in c.args.program.now c.args.body.now) w.0 w.1 in
    w.1 ∙ ap residual.leaves (sym (ap (λ o. unwrap_or o w.0) same))

pub unreachable-requires : goal.unreachable-requires
unreachable-requires c =
    let w = ends_as (next_of (settled_in c.args.program.now c.args.body.now)) c.requires in
    let same = sym (ap (option_map (λ (y : Bor Frame). call_of y.now)) c.in-None.is) ∙ c.innermost.ensures ∙ leaves_innermost (arena_of c.args.program.now.code) (left_in c.args.program.now c.args.body.now) w.0 w.1 in
    absurd (true≢false (sym (ap is_some same)))
