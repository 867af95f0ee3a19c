use Rattle.std.proofs.Common.{sym, ◌∙◌}
use Rattle.kernel_processes.proofs.Timing.{untimed_heard}
use Rattle.kernel_processes.proofs.moves.meet.Goals as goal

pub end_time_if-requires : goal.end_time_if-requires
end_time_if-requires g c off = untimed_heard c.args.s.now c.hear_at-heard.new.s c.args.p c.hear_at-heard.ensures.changes c.requires.timed (sym c.hear_at-heard.ensures.timed ∙ off)

pub end_time_if-requires-in-Joins : goal.end_time_if-requires-in-Joins
end_time_if-requires-in-Joins g c off = untimed_heard c.args.s.now c.hear_at-heard.new.s c.args.p c.hear_at-heard.ensures.changes c.requires.timed (sym c.hear_at-heard.ensures.timed ∙ off)
