use Rattle.std.proofs.Common.{sym, ap, ◌∙◌}
use Rattle.std.specs.Option.{option_copied}
use Rattle.flat_design.specs.Code.{arena_of}
use Rattle.exec_calls.proofs.Homes.{home_there}
use Rattle.exec_calls.proofs.standings.home_at.Goals as goal

pub returns : goal.returns
returns c = λ d i h there.
    c.home_of.ensures (arena_of c.args.k.now.program.now.code) ∙ sym (home_there c.args.k.now c.args.p c.in-Some.x.now (sym c.get.ensures.value ∙ ap option_copied c.in-Some.is) d i h there)
