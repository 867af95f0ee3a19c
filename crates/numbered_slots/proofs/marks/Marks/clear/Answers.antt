use Rattle.std.proofs.Common.{◌≡◌, true, false, get_or, set, vec_capacity, sym, ap, ◌∙◌}
use Rattle.std.proofs.lemmas.List.{map-set}
use Rattle.std.proofs.lemmas.Option.{unwrap_or-slice_get}
use Rattle.numbered_slots.specs.declared.flags.Flag.TheVariants.{Struck}
use Rattle.numbered_slots.specs.MarkLayout.{is_marked, marks_of}
use Rattle.numbered_slots.proofs.Listed.{where_marked}
use Rattle.numbered_slots.proofs.Sound.{some_marked, sound_struck, clear_again}
use Rattle.numbered_slots.proofs.marks.Marks.clear.Goals as goal

pub overflow_sub-self : goal.overflow_sub-self
overflow_sub-self c =
    let flags = c.self.inside.flags.items in
    let there : get_or (marks_of flags) c.args.n false ≡ true = ap (λ marks. get_or marks c.args.n false) c.self.view_is
    ∙ sym (unwrap_or-slice_get c.args.self.now c.args.n false) ∙ sym c.has.ensures ∙ c.if-has.true in
    let found = where_marked flags c.args.n there in
    some_marked flags c.self.inside.listed.items (vec_capacity c.self.inside.listed) c.self.inside.marked c.self.invariant c.args.n found.0 found.1

pub invariant_of-self : goal.invariant_of-self
invariant_of-self c =
    let flags = c.self.inside.flags.items in
    let there : get_or (marks_of flags) c.args.n false ≡ true = ap (λ marks. get_or marks c.args.n false) c.self.view_is
    ∙ sym (unwrap_or-slice_get c.args.self.now c.args.n false) ∙ sym c.has.ensures ∙ c.if-has.true in
    let found = where_marked flags c.args.n there in
    sound_struck flags c.self.inside.listed.items (vec_capacity c.self.inside.listed) c.self.inside.marked c.self.invariant c.args.n found.0 found.1

pub returns-then-has : goal.returns-then-has
returns-then-has c = map-set is_marked c.self.inside.flags.items c.args.n Struck ∙ ap (λ marks. set marks c.args.n false) c.self.view_is

pub returns-else-has : goal.returns-else-has
returns-else-has c = clear_again c.args.self.now c.args.n (sym c.has.ensures ∙ c.if-has.false)
