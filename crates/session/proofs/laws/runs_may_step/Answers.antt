use Rattle.std.proofs.Common.{◌<◌, ◌-◌, ◌^◌, All, subst}
use Rattle.flat_design.specs.declared.design.Design.{Design}
use Rattle.flat_design.specs.declared.design.SemaphorePart.{SemaphorePart}
use Rattle.session.proofs.laws.runs_may_step.Goals as goal

pub returns : goal.returns
returns c k d h reached few starts steps = record {
  ready = record {
    names = c.reached_designs_are_sound.ensures.names k d h reached;
    numbers = c.reached_designs_are_sound.ensures.numbers k d h reached (subst (λ (x : Design). x.events < 2 ^ 32 - 1) h.design few);
  };
  throws = λ p top. c.throws_are_free.ensures.next k d h reached p;
  others = c.others_have_no_goal.ensures k d h reached;
  posts = c.semaphores_are_within.ensures.room k d h reached (subst (λ (x : Design). All (λ (p : SemaphorePart). p.start < 2 ^ 31) x.semaphores) h.design starts) steps;
  fresh = λ begins. c.fresh_at_start.ensures.kernel k d h reached begins;
}
