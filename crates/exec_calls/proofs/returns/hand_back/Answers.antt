use Rattle.std.proofs.Common.{map, sym, ap, ◌∙◌, subst}
use Rattle.flat_design.specs.Code.{argument_term, arena_of}
use Rattle.exec_data.specs.KernelBodies.Layers.{call_of}
use Rattle.exec_data.specs.SimModel.Reading.{here}
use Rattle.exec_data.specs.SimModel.Storing.{stored_if}
use Rattle.exec_data.specs.SimModel.Calls.{given_back, answer_of}
use Rattle.exec_data.specs.KernelState.Kernel.{StandsFor}
use Rattle.exec_calls.proofs.returns.hand_back.Goals as goal

pub returns-clause-moves : goal.returns-clause-moves
returns-clause-moves c = λ d i h there.
    let stands = here d c.args.p i i.residual in
    let home = sym (c.home_at-home.ensures d i h there) in
    let given = given_back d c.args.p stands (call_of c.args.frame.now) 0 (map argument_term c.args.arguments.now) in
    subst (λ v. StandsFor c.store_if_in.new.k (stored_if given c.args.p stands c.args.target v))
    (c.answer_of-answer.ensures ∙ sym (ap (λ e. answer_of (arena_of e.code) (call_of c.args.frame.now)) h.design))
    (c.store_if_in.ensures.moves stands (h.design ∙ sym c.give_back.ensures.design) home given (c.give_back.ensures.moves stands h.design home d h))
