-- The design of an accepted model is sound.
use Rattle.elaborate_objects.specs.ModelTree.Tree as tree
use Rattle.elaborate_objects.specs.FlatDesign.Sound.{SoundDesign}
use Rattle.elaborate_objects.specs.FlatDesign.declared.design.Design.{Design}
use Rattle.elaborate_objects.specs.DesignRules.Designs.{IsDesignOf}
use Rattle.laws_code.specs.Standing.{DesignStands}
use Rattle.laws_design.proofs.Fits.{names_fit}
use Rattle.laws_design.proofs.Events.{signals_have_events, resolved_have_events, fifos_have_events}
use Rattle.laws_design.proofs.Parts.{parents_before, signals_typed, variables_typed, fifos_sized}
use Rattle.laws_code.specs.TypedCode.{IsTypedCode}
use Rattle.laws_code.proofs.TypedModels.{model_typed}
use Rattle.laws_code.specs.Bodies.{HandlersStand}
use Rattle.laws_code.proofs.Fields.{methods, handlers, unwinding, threads}
use Rattle.laws_design.proofs.Standing.{design_stands}
use Rattle.laws_design.proofs.Handlers.{handlers_stand}
use Rattle.laws_design.proofs.SocketHops.{sockets_have_hops}
use Rattle.laws_code.specs.CodeRules.RoomFields.{HopsFit}
use Rattle.laws_code.proofs.CodeRules.Suffices.{waits, calls}
use Rattle.laws_design.proofs.FittingHops.{hops_fit}
use Rattle.laws_design.proofs.Ports.{ports_fit, no_binding_fault}
use Rattle.laws_design.proofs.Processes.{processes_fit}
use Rattle.laws_design.specs.Accepted.{IsAccepted, IsLaidOut}

module _ (m : tree.Model) (accepted : IsAccepted m) (d : Design) (design : IsDesignOf m d) (laid : IsLaidOut d) where
  stands : DesignStands m d
  stands = design_stands m d design (sockets_have_hops m accepted.rules accepted.acyclic accepted.few d accepted.bindings design) accepted.rules accepted.acyclic

  named : HandlersStand m d
  named = handlers_stand m accepted.rules d design

  typed : IsTypedCode d
  typed = model_typed m d stands accepted.rules accepted.within_limits design.code

  hops : HopsFit d
  hops = hops_fit m accepted.rules d design accepted.acyclic accepted.few

  pub sound : SoundDesign d
  sound =
      record {
        parents = parents_before m d design;
        names = names_fit m d design;
        signals = λ n p e. (signals_typed m d accepted.rules design n p e, signals_have_events m d design n p e);
        resolved = resolved_have_events m d design;
        fifos = λ n p e. (fifos_sized m d accepted.rules design n p e, fifos_have_events m d design n p e);
        variables = variables_typed m d accepted.rules design;
        ports = ports_fit m d design (no_binding_fault m d design accepted.bindings);
        processes = processes_fit m accepted.rules accepted.acyclic accepted.few accepted.bindings d design;
        hops = hops;
        nested = laid.nested;
        typed = typed;
        methods = methods m d accepted.rules design.code stands laid.standing;
        handlers = handlers m d accepted.rules design.code stands named;
        unwinding = unwinding m d accepted.rules design.code stands;
        threads = threads m d accepted.rules design.code laid.standing named;
        waits = waits d laid.rooms;
        room = calls d laid.rooms typed hops;
      }
