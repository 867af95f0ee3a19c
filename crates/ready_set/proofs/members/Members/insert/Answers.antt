use Rattle.std.proofs.Common.{◌≡◌, ◌∙◌, false, ap, sym, ⊎_elim, true≢false, ◌<◌, subst}
use Rattle.std.specs.FinSet as set
use Rattle.ready_set.specs.Ready.{with_member}
use Rattle.ready_set.specs.Layout.{keys_of}
use Rattle.ready_set.proofs.Shown.{absent, shown-put, with_again}
use Rattle.ready_set.proofs.members.Members.insert.Goals as goal

pub returns-then-has : goal.returns-then-has
returns-then-has c = with_again c.args.self.now c.args.p (sym c.has.ensures ∙ c.if-has.true)

pub insert-requires-clause-absent : goal.insert-requires-clause-absent
insert-requires-clause-absent c = absent c.args.p c.self.inside.kept.entries (ap (λ r. set.contains r.members c.args.p) c.self.view_is ∙ sym c.has.ensures ∙ c.if-has.false)

pub insert-requires-clause-room : goal.insert-requires-clause-room
insert-requires-clause-room c = ⊎_elim
    (λ there. absurd (true≢false (sym there ∙ sym c.has.ensures ∙ c.if-has.false)))
    (λ room. subst (λ n. 0 < n) (sym (ap (λ r. r.spare) c.self.view_is)) room)
    c.requires.room

pub returns : goal.returns
returns c =
    let es = c.self.inside.kept.entries in
    let none : set.contains (set.from_list (keys_of es)) c.args.p ≡ false = ap (λ r. set.contains r.members c.args.p) c.self.view_is ∙ sym c.has.ensures ∙ c.if-has.false in
    shown-put c.args.p es c.insert.new.self.entries c.self.inside.kept.spare c.insert.new.self.spare c.insert.ensures.entries c.insert.ensures.takes_one none
    ∙ ap (λ r. with_member r c.args.p) c.self.view_is
