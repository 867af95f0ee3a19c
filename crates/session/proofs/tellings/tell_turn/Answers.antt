use Rattle.std.proofs.Common.{[], sym, subst}
use Rattle.sim_io.specs.Contents.{Grew}
use Rattle.session.specs.Telling.{Into, TextOfTurn}
use Rattle.session.proofs.Texts.{none_told, no_turn_text}
use Rattle.session.proofs.tellings.tell_turn.Goals as goal

pub returns-in-Prints-clause-tells : goal.returns-in-Prints-clause-tells
returns-in-Prints-clause-tells g c = none_told (TextOfTurn c.args.k.now c.args.log c.args.p) _ _ (subst (λ l. TextOfTurn c.args.k.now l c.args.p []) (sym c.in-Prints.is) (no_turn_text c.args.k.now c.args.p))

pub returns-in-Turns-clause-tells : goal.returns-in-Turns-clause-tells
returns-in-Turns-clause-tells g c =
    subst (λ l. Into (TextOfTurn c.args.k.now l c.args.p) (Grew (g.O.Sink.holds c.args.out.now) (g.O.Sink.holds c.tell_taking.new.out)) c.args.held.now c.tell_taking.new.held c.tell_taking.result) (sym c.in-Turns.is) c.tell_taking.ensures.tells
