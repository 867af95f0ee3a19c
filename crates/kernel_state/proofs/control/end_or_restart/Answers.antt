use Rattle.std.proofs.Common.{◌≡◌, true, false, refl, sym, ap, ◌∙◌, subst}
use Rattle.std.specs.Prelude.{Ok}
use Rattle.kernel_processes.specs.SimModel.Configuration.{instance_at}
use Rattle.kernel_processes.specs.SimModel.Control.{unwinds, unless_ended, ends_or_restarts}
use Rattle.kernel_state.proofs.Stacks.{not_below}
use Rattle.kernel_state.proofs.Ending.{alive_in, over_in, is_spared, is_unwound, follows_as}
use Rattle.kernel_state.proofs.control.end_or_restart.Goals as goal

pub returns-then-not-lives-clause-follows : goal.returns-then-not-lives-clause-follows
returns-then-not-lives-clause-follows c = λ d h.
    follows_as c.args.k.now d (Ok tt) (unless_ended d (instance_at d c.args.q) (λ i. ends_or_restarts d c.args.q i c.args.end)) (Ok d)
    (over_in c.args.k.now d h c.args.q (sym c.lives.ensures ∙ c.if-not-lives.true) (λ i. ends_or_restarts d c.args.q i c.args.end)) h

pub returns-then-is_in_unwinding-clause-follows : goal.returns-then-is_in_unwinding-clause-follows
returns-then-is_in_unwinding-clause-follows c = λ d h.
    let alive = alive_in c.args.k.now d h c.args.q (sym c.lives.ensures ∙ c.if-not-lives.false) in
    follows_as c.args.k.now d (Ok tt) (unless_ended d (instance_at d c.args.q) (λ i. ends_or_restarts d c.args.q i c.args.end)) (Ok d)
    (is_spared d c.args.q c.args.end alive.0 alive.1.0 alive.1.1 (not_below c.args.k.now d h c.args.q c.requires.sound.schedule.once c.requires.place) (sym (c.is_in_unwinding.ensures d alive.0 h alive.1.0) ∙ c.if-is_in_unwinding.true)) h

pub returns-clause-follows : goal.returns-clause-follows
returns-clause-follows c = λ d h.
    let alive = alive_in c.args.k.now d h c.args.q (sym c.lives.ensures ∙ c.if-not-lives.false) in
    follows_as c.unwind.new.k d (Ok tt) (unless_ended d (instance_at d c.args.q) (λ i. ends_or_restarts d c.args.q i c.args.end)) (Ok (unwinds d c.args.q alive.0 c.args.end))
    (is_unwound d c.args.q c.args.end alive.0 alive.1.0 alive.1.1 (not_below c.args.k.now d h c.args.q c.requires.sound.schedule.once c.requires.place) (sym (c.is_in_unwinding.ensures d alive.0 h alive.1.0) ∙ c.if-is_in_unwinding.false))
    (c.unwind.ensures.moves d alive.0 h alive.1.0)

pub is_in_unwinding-requires-clause-lives : goal.is_in_unwinding-requires-clause-lives
is_in_unwinding-requires-clause-lives c = sym c.lives.ensures ∙ c.if-not-lives.false

pub unwind-requires-clause-lives : goal.unwind-requires-clause-lives
unwind-requires-clause-lives c = sym c.lives.ensures ∙ c.if-not-lives.false
