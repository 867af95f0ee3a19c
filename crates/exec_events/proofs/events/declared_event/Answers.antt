use Rattle.std.proofs.Common.{ap, ◌∙◌}
use Rattle.kernel_view.specs.SimModel.Waiting.{event_number}
use Rattle.kernel_view.specs.Standings.{next_here}
use Rattle.exec_events.proofs.Channels.{own_event, of_channel, of_none}
use Rattle.exec_events.proofs.events.declared_event.Goals as goal

pub returns-in-Some : goal.returns-in-Some
returns-in-Some c = λ d i h there. own_event (next_here d c.args.p i) c.args.member c.args.place _ c.in-Some.e (c.in-Some.ensures ∙ ap event_number (c.denoted_at.ensures d i h there))

pub returns-in-Ok : goal.returns-in-Ok
returns-in-Ok c = λ d i h there. of_channel c.args.k.now c.args.p c.args.n c.args.place c.args.member d i h (c.in-None.ensures ∙ ap event_number (c.denoted_at.ensures d i h there)) c.requires.numbers c.in-Ok.channel c.channel_event.result
    c.channel_event.ensures (c.in-Ok.ensures d i h there)

pub returns-in-Err : goal.returns-in-Err
returns-in-Err c = λ d i h there. of_none c.args.k.now c.args.p c.args.n c.args.place c.args.member d i h (c.in-None.ensures ∙ ap event_number (c.denoted_at.ensures d i h there)) c.in-Err.fault (c.in-Err.ensures d i h there)
