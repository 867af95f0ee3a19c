use Rattle.laws_texts.proofs.Once.{each_once}
use Rattle.laws_texts.proofs.site_laws.sites_are_productions.Goals as goal

pub returns : goal.returns
returns c = λ m. each_once m
