use Rattle.logic_values.proofs.ConversionLemmas.{number_is}
use Rattle.logic_values.proofs.planes.Lv.number.Goals as goal

pub returns : goal.returns
returns c = let v = c.args.self in number_is v.width v.unknown v.ones v.at_most_64 v.unknown_fit v.ones_fit
