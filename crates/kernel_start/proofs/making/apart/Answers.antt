use Rattle.std.proofs.Common.{sym, ap, ◌∙◌, subst}
use Rattle.kernel_state.specs.FlatDesign.Code.{arena_of}
use Rattle.kernel_state.specs.FlatDesign.Reach.{IsIn}
use Rattle.kernel_state.specs.FlatDesign.declared.design.Design.{Design}
use Rattle.kernel_start.proofs.making.apart.Goals as goal

pub new-requires : goal.new-requires
new-requires c = λ b j s is inner. c.requires b j s (subst (λ x. IsIn (arena_of x) b s) c.without_code-design.ensures.code is) inner

pub returns-in-Ok : goal.returns-in-Ok
returns-in-Ok c = ap {A = Design} (λ y. record y { code = c.in-Ok.program.code }) c.without_code-design.ensures.others ∙ ap (λ y. record c.args.design { code = y }) (c.in-Ok.ensures ∙ c.without_code-design.ensures.code)
