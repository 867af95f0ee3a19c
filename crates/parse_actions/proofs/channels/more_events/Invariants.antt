use Rattle.std.proofs.Common.{◌≡◌, ◌-◌, map}
use Rattle.model_tree.specs.Views.{event_of}
use Rattle.parse_expressions.specs.Parse.{repeat, one_more}
use Rattle.parse_actions.specs.ChannelParse.{next_event, at_no_comma, more_events}
use Rattle.parse_actions.proofs.channels.more_events.Given as goal

-- the turns that are left, behind the events found so far, give what all of them give
abbrev pub invariant-loop-turn : goal.invariant-loop-turn
invariant-loop-turn l = repeat at_no_comma (one_more (next_event l.fn.depth)) (l.turns - l.turn) (map event_of l.found.items) l.tokens ≡ more_events l.fn.depth (map event_of l.fn.first.items) l.fn.tokens
