use Rattle.std.proofs.Common.{inr, refl}
use Rattle.sim_io.proofs.Steps.{neither, not_lacking}
use Rattle.sim_io.proofs.memory_shelf.MemoryShelf.open.Goals as goal

pub returns-in_default-clause-exact : goal.returns-in_default-clause-exact
returns-in_default-clause-exact c = (λ _. inr c.in_default.ensures.0, λ _. refl)

pub returns-in_default-add_reader-clause-exact : goal.returns-in_default-add_reader-clause-exact
returns-in_default-add_reader-clause-exact c = (
  λ e. cc,
  λ cause. absurd (neither (λ listed. let f = c.if-is_next_listed.ensures.listed.1 listed in cc)
      (not_lacking c.args.self.now.files c.args.name.now c.in-Some.place c.in-Some.ensures.0 c.in-Some.ensures.1) cause),
)

pub returns-clause-exact : goal.returns-clause-exact
returns-clause-exact c = (
  λ e. cc,
  λ cause. absurd (neither (λ listed. let f = c.if-is_next_listed.ensures.listed.1 listed in cc)
      (not_lacking c.args.self.now.files c.args.name.now c.in-Some.place c.in-Some.ensures.0 c.in-Some.ensures.1) cause),
)
