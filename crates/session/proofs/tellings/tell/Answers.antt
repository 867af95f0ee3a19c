use Rattle.std.proofs.Common.{[], sym, subst}
use Rattle.session.specs.Telling.{TextOf}
use Rattle.session.proofs.Texts.{none_told, nothing_text}
use Rattle.session.proofs.tellings.tell.Goals as goal

pub returns-in-Nothing-clause-tells : goal.returns-in-Nothing-clause-tells
returns-in-Nothing-clause-tells g c = none_told (TextOf c.args.k.now c.args.told) _ _ (subst (λ t. TextOf c.args.k.now t []) (sym c.in-Nothing.is) (nothing_text c.args.k.now))
