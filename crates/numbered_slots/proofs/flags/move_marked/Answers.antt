use Rattle.std.proofs.Common.{◌≡◌, ◌++◌, ℕ, Bool, true, List, [], ◌∷◌, length, get_or, set, replicate, vec_items, vec_capacity, sym, ap, ◌∙◌, arith, append_assoc, append-nil, length-append}
use Rattle.numbered_slots.specs.declared.flags.Flag.TheVariants as flag
use Rattle.numbered_slots.specs.MarkLayout.{is_marked, marks_of}
use Rattle.numbered_slots.specs.Places.{marked_places}
use Rattle.numbered_slots.proofs.Places.{length-marked_places}
use Rattle.numbered_slots.proofs.Listed.{next_within, next_freed, none_marked_below, mark_told, moved_one, moved_none, free_at_end, no_places}
use Rattle.numbered_slots.proofs.flags.move_marked.Goals as goal
use Rattle.numbered_slots.proofs.flags.move_marked.Goals.{then-is_marked_at, else-is_marked_at}

pub bounds-flags-n : goal.bounds-flags-n
bounds-flags-n c = next_within c.loop-n.flags c.args.listed.now c.loop-n.n-index c.loop-n-test.true c.loop-n.invariant.lists

pub push_reserved-requires : goal.push_reserved-requires
push_reserved-requires c =
    let flags = c.loop-n.flags in
    let n = get_or c.args.listed.now c.loop-n.n-index 0 in
    let there : is_marked (get_or flags n flag.Free) ≡ true = mark_told flags n c.is_marked_at.result c.is_marked_at.ensures ∙ c.if-is_marked_at.true in
    let one = moved_one flags n there (none_marked_below flags c.args.listed.now c.loop-n.n-index c.loop-n-test.true c.loop-n.invariant.lists c.requires.sorted) in
    omega (
      arith,
      ap length one,
      ap length c.loop-n.invariant.moved,
      length-append c.loop-n.out.items (marked_places (marks_of flags)),
      length-append c.args.out.now.items (marked_places (marks_of c.args.flags.now)),
      length-marked_places (marks_of c.args.flags.now),
      c.loop-n.invariant.room,
      c.requires.room,
    )

pub loop-n-preserved : goal.loop-n-preserved
loop-n-preserved c =
    let flags = c.loop-n.flags in
    let n = get_or c.args.listed.now c.loop-n.n-index 0 in
    let told : is_marked (get_or flags n flag.Free) ≡ c.is_marked_at.result = mark_told flags n c.is_marked_at.result c.is_marked_at.ensures in
    let rest = next_freed flags c.args.listed.now c.loop-n.n-index c.loop-n-test.true c.loop-n.invariant.lists in
    let after = marked_places (marks_of (set flags n flag.Free)) in
    elim c.if-is_marked_at.branch [
      | then-is_marked_at w ↦ record {
        lists = rest;
        moved = ap (λ (xs : List ℕ). xs ++ after) (ap vec_items w.out-is ∙ w.push_reserved.ensures.items)
            ∙ append_assoc c.loop-n.out.items (n ∷ []) after
            ∙ ap (λ (ps : List ℕ). c.loop-n.out.items ++ ps) (sym (moved_one flags n (told ∙ w.if-is_marked_at.true)
            (none_marked_below flags c.args.listed.now c.loop-n.n-index c.loop-n-test.true c.loop-n.invariant.lists c.requires.sorted)))
            ∙ c.loop-n.invariant.moved;
        room = ap vec_capacity w.out-is ∙ w.push_reserved.ensures.capacity ∙ c.loop-n.invariant.room;
      }
      | else-is_marked_at w ↦ record {
        lists = rest;
        moved = ap (λ (xs : List ℕ). xs ++ after) (ap vec_items w.out-is)
            ∙ ap (λ (ms : List Bool). c.loop-n.out.items ++ marked_places ms) (moved_none flags n (told ∙ w.if-is_marked_at.false))
            ∙ c.loop-n.invariant.moved;
        room = ap vec_capacity w.out-is ∙ c.loop-n.invariant.room;
      }
    ]

pub returns-clause-freed : goal.returns-clause-freed
returns-clause-freed c = free_at_end c.loop-n.flags c.args.listed.now c.loop-n.n-index c.loop-n-test.false c.loop-n.invariant.lists
    ∙ ap (λ k. replicate k flag.Free) c.loop-n.auto.flags

pub returns-clause-moved : goal.returns-clause-moved
returns-clause-moved c =
    let freed = free_at_end c.loop-n.flags c.args.listed.now c.loop-n.n-index c.loop-n-test.false c.loop-n.invariant.lists in
    let none : marked_places (marks_of c.loop-n.flags) ≡ [] = ap (λ fs. marked_places (marks_of fs)) freed ∙ no_places (length c.loop-n.flags) in
    sym (append-nil c.loop-n.out.items) ∙ ap (λ ps. c.loop-n.out.items ++ ps) (sym none) ∙ c.loop-n.invariant.moved
