use Rattle.std.specs.Prelude.{not}
use Rattle.std.proofs.Common.{rules}
use Rattle.std.proofs.lemmas.Fn.{filter_same}
use Rattle.dmi_map.specs.Regions.{reaches}
use Rattle.dmi_map.proofs.RegionLemmas.{taken}
use Rattle.dmi_map.proofs.grants.strike_out.Goals as goal

pub returns-clause-left : goal.returns-clause-left
returns-clause-left c = filter_same _ (λ region. not (reaches c.args.low c.args.high region)) _ (λ x b q r. search rules) _ _ c.retain.ensures.filtered

pub returns-clause-taken : goal.returns-clause-taken
returns-clause-taken c =
    let is = filter_same _ (λ region. not (reaches c.args.low c.args.high region)) _ (λ x b q r. search rules) _ _ c.retain.ensures.filtered in
    rw is (taken c.args.low c.args.high c.args.regions.now.items)
