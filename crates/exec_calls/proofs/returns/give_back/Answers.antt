use Rattle.std.proofs.Common.{◌∷◌, [], sym, ◌∙◌, subst}
use Rattle.flat_design.specs.Code.{argument_term}
use Rattle.exec_data.specs.KernelBodies.Layers.{call_of}
use Rattle.exec_data.specs.SimModel.Calls.{given_back}
use Rattle.exec_data.specs.KernelState.Kernel.{StandsFor}
use Rattle.exec_calls.proofs.Going.{given_next, given_all}
use Rattle.exec_calls.proofs.returns.give_back.Goals as goal

pub loop-i-preserved : goal.loop-i-preserved
loop-i-preserved c = record {
  sound = c.give_one.ensures.sound;
  lives = c.give_one.ensures.lives;
  design = c.give_one.ensures.design ∙ c.loop-i.invariant.design;
  made = c.give_one.ensures.made ∙ c.loop-i.invariant.made;
  moves = λ h design home d stands.
      let w = c.loop-i.invariant.moves h design home d stands in (
        given_back w.0 c.args.p h (call_of c.args.frame.now) c.loop-i.i (argument_term c.index-arguments-i.result ∷ []),
        sym (given_next c.args.arguments.now c.loop-i.i c.index-arguments-i.result c.loop-i-test.true c.index-arguments-i.is w.0 c.args.p h (call_of c.args.frame.now)) ∙ w.1,
        c.give_one.ensures.moves h (design ∙ sym c.loop-i.invariant.design) home w.0 w.2,
      );
}

pub returns-clause-moves : goal.returns-clause-moves
returns-clause-moves c = λ h design home d stands.
    let w = c.loop-i.invariant.moves h design home d stands in
    subst (StandsFor c.loop-i.k) (sym (given_all c.args.arguments.now c.loop-i.i c.loop-i-test.false w.0 c.args.p h (call_of c.args.frame.now)) ∙ w.1) w.2
