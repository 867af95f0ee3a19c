use Rattle.std.proofs.Common.{◌≡◌, ◌+◌, ◌++◌, ℕ, List, true, [], ◌∷◌, set, slice_get, Some, None, vec_capacity, sym, ap, ◌∙◌, subst, arith}
use Rattle.std.proofs.lemmas.List.{map-set}
use Rattle.std.proofs.lemmas.Option.{slice_get_within, get_or_from_slice_get}
use Rattle.numbered_slots.specs.declared.flags.Flag.TheVariants.{Free, Marked, Struck}
use Rattle.numbered_slots.specs.MarkLayout.{is_marked, IsSound}
use Rattle.numbered_slots.proofs.Sound.{room_to_list, room_to_mark, sound_listed, sound_again, set_again, set_past_size}
use Rattle.numbered_slots.proofs.marks.Marks.set.Goals as goal

pub push_reserved-requires : goal.push_reserved-requires
push_reserved-requires c =
    let flags = c.self.inside.flags.items in
    let is : slice_get flags c.args.n ≡ Some Free = cc (c.flag_of.ensures, c.as_slice.ensures.value, c.in-Some-Free.is, c.in-Some-Free.field-0-is) in
    omega (
      arith,
      room_to_list flags c.self.inside.listed.items (vec_capacity c.self.inside.listed) c.self.inside.marked c.self.invariant c.args.n
          (slice_get_within flags c.args.n Free is) (get_or_from_slice_get flags c.args.n Free Free is),
    )

pub overflow_add-self : goal.overflow_add-self
overflow_add-self c =
    let flags = c.self.inside.flags.items in
    let is : slice_get flags c.args.n ≡ Some Free = cc (c.flag_of.ensures, c.as_slice.ensures.value, c.in-Some-Free.is, c.in-Some-Free.field-0-is) in
    omega (
      arith,
      room_to_mark flags c.self.inside.listed.items (vec_capacity c.self.inside.listed) c.self.inside.marked c.self.invariant c.args.n
          (slice_get_within flags c.args.n Free is) (ap is_marked (get_or_from_slice_get flags c.args.n Free Free is)),
    )

pub invariant_of-self : goal.invariant_of-self
invariant_of-self c =
    let flags = c.self.inside.flags.items in
    let is : slice_get flags c.args.n ≡ Some Free = cc (c.flag_of.ensures, c.as_slice.ensures.value, c.in-Some-Free.is, c.in-Some-Free.field-0-is) in
    subst (λ (xs : List ℕ). IsSound (set flags c.args.n Marked) xs (vec_capacity c.push_reserved.new.self) (c.self.inside.marked + 1)) (sym c.push_reserved.ensures.items)
    (subst (λ (room : ℕ). IsSound (set flags c.args.n Marked) (c.self.inside.listed.items ++ c.args.n ∷ []) room (c.self.inside.marked + 1)) (sym c.push_reserved.ensures.capacity)
    (sound_listed flags c.self.inside.listed.items (vec_capacity c.self.inside.listed) c.self.inside.marked c.self.invariant c.args.n
    (slice_get_within flags c.args.n Free is) (get_or_from_slice_get flags c.args.n Free Free is)))

pub returns-in-Some-Free : goal.returns-in-Some-Free
returns-in-Some-Free c = map-set is_marked c.self.inside.flags.items c.args.n Marked ∙ ap (λ marks. set marks c.args.n true) c.self.view_is

pub index_mut-requires-in-Some-Struck : goal.index_mut-requires-in-Some-Struck
index_mut-requires-in-Some-Struck c =
    let flags = c.self.inside.flags.items in
    let is : slice_get flags c.args.n ≡ Some Struck = cc (c.flag_of.ensures, c.as_slice.ensures.value, c.in-Some-Struck.is, c.in-Some-Struck.field-0-is) in
    omega (arith, slice_get_within flags c.args.n Struck is)

pub overflow_add-self-in-Some-Struck : goal.overflow_add-self-in-Some-Struck
overflow_add-self-in-Some-Struck c =
    let flags = c.self.inside.flags.items in
    let is : slice_get flags c.args.n ≡ Some Struck = cc (c.flag_of.ensures, c.as_slice.ensures.value, c.in-Some-Struck.is, c.in-Some-Struck.field-0-is) in
    omega (
      arith,
      room_to_mark flags c.self.inside.listed.items (vec_capacity c.self.inside.listed) c.self.inside.marked c.self.invariant c.args.n
          (slice_get_within flags c.args.n Struck is) (ap is_marked (get_or_from_slice_get flags c.args.n Struck Free is)),
    )

pub invariant_of-self-in-Some-Struck : goal.invariant_of-self-in-Some-Struck
invariant_of-self-in-Some-Struck c =
    let flags = c.self.inside.flags.items in
    let is : slice_get flags c.args.n ≡ Some Struck = cc (c.flag_of.ensures, c.as_slice.ensures.value, c.in-Some-Struck.is, c.in-Some-Struck.field-0-is) in
    sound_again flags c.self.inside.listed.items (vec_capacity c.self.inside.listed) c.self.inside.marked c.self.invariant c.args.n
    (slice_get_within flags c.args.n Struck is) (get_or_from_slice_get flags c.args.n Struck Free is)

pub returns-in-Some-Struck : goal.returns-in-Some-Struck
returns-in-Some-Struck c = map-set is_marked c.self.inside.flags.items c.args.n Marked ∙ ap (λ marks. set marks c.args.n true) c.self.view_is

pub returns-in-Some-Marked : goal.returns-in-Some-Marked
returns-in-Some-Marked c =
    let flags = c.self.inside.flags.items in
    let is : slice_get flags c.args.n ≡ Some Marked = cc (c.flag_of.ensures, c.as_slice.ensures.value, c.in-Some-Marked.is, c.in-Some-Marked.field-0-is) in
    subst (λ marks. marks ≡ set marks c.args.n true) c.self.view_is (set_again flags c.args.n (get_or_from_slice_get flags c.args.n Marked Free is))

pub returns-in-None : goal.returns-in-None
returns-in-None c =
    let flags = c.self.inside.flags.items in
    let none : slice_get flags c.args.n ≡ None = cc (c.flag_of.ensures, c.as_slice.ensures.value, c.in-None.is) in
    subst (λ marks. marks ≡ set marks c.args.n true) c.self.view_is (set_past_size flags c.args.n none)
