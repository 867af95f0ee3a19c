use Rattle.std.proofs.Common.{None, refl, sym, ap, ◌∙◌, subst}
use Rattle.std.specs.Prelude.{All, slice_get}
use Rattle.exec_data.specs.SimModel.Calls.{port_channels}
use Rattle.exec_calls.specs.Sensitive.{HasNumbers, NumbersThose}
use Rattle.exec_calls.proofs.Sensing.{of_port}
use Rattle.exec_calls.proofs.sensitivity.add_events.Goals as goal

pub channel_event-requires : goal.channel_event-requires
channel_event-requires c = subst (NumbersThose c.args.design.now) c.in-Channel.is c.requires None c.in-Channel.channel refl

pub add_port-requires : goal.add_port-requires
add_port-requires c = subst (All HasNumbers) (sym (c.channels_of.ensures ∙ ap (λ ps. port_channels (slice_get ps c.in-Port.n)) c.as_slice.ensures)) (of_port c.args.design.now c.in-Port.n (subst (NumbersThose c.args.design.now) c.in-Port.is c.requires))
