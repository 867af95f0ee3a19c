use Rattle.std.proofs.Common.{sym, ◌∙◌}
use Rattle.exec_data.proofs.KernelState.Ending.{alive_in}
use Rattle.exec_control.proofs.Others.{over_past, no_thread_past, thrown_past}
use Rattle.exec_control.proofs.exceptions.throw_at_other.Goals as goal

pub inject-requires-clause-target : goal.inject-requires-clause-target
inject-requires-clause-target c = sym c.lives.ensures ∙ c.if-not-lives.false

pub is_begun_thread-requires : goal.is_begun_thread-requires
is_begun_thread-requires c = sym c.lives.ensures ∙ c.if-not-lives.false

pub returns-then-not-lives-clause-does : goal.returns-then-not-lives-clause-does
returns-then-not-lives-clause-does c d i h there = over_past c.args.way c.args.k.now d c.args.p c.args.q c.requires.apart i c.args.e h there (sym c.lives.ensures ∙ c.if-not-lives.true) c.move_on.new.k (c.move_on.ensures.steps d i h there)

pub returns-then-not-is_begun_thread-clause-does : goal.returns-then-not-is_begun_thread-clause-does
returns-then-not-is_begun_thread-clause-does c d i h there =
    let alive = alive_in c.args.k.now d h c.args.q (sym c.lives.ensures ∙ c.if-not-lives.false) in
    no_thread_past c.args.way c.args.k.now d c.args.p c.args.q c.requires.apart i c.args.e h there c.requires.sound alive.0 alive.1.0 alive.1.1 c.requires.rests (sym (c.is_begun_thread.ensures d alive.0 h alive.1.0) ∙ c.if-not-is_begun_thread.true) c.move_on-then-not-is_begun_thread.new.k (c.move_on-then-not-is_begun_thread.ensures.steps d i h there)

pub returns-clause-does : goal.returns-clause-does
returns-clause-does c d i h there =
    let alive = alive_in c.args.k.now d h c.args.q (sym c.lives.ensures ∙ c.if-not-lives.false) in
    thrown_past c.args.way c.args.k.now d c.args.p c.args.q c.requires.apart i c.args.e h there c.requires.sound alive.0 alive.1.0 alive.1.1 c.requires.rests (sym (c.is_begun_thread.ensures d alive.0 h alive.1.0) ∙ c.if-not-is_begun_thread.false) c.inject.new.k c.inject.result (c.inject.ensures.follows d i alive.0 h there alive.1.0)
