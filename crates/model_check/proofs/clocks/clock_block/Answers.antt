use Rattle.std.proofs.Common.{◌≡◌, ◌<◌, ◌-◌, ◌+◌, ◌==◌, ℕ, length, List, [], ◌∷◌, ◌++◌, Some, Bool, true, false, refl, sym, ap, ◌∙◌, subst, arith}
use Rattle.code_rules.specs.LogicValues.declared.kinds.Value.TheVariants as value
use Rattle.flat_design.specs.Code as code
use Rattle.std.specs.Prelude.{slice_get, if◌then◌else◌}
use Rattle.flat_design.specs.Code.{Arena}
use Rattle.flat_design.specs.Reach.{Inside, inner_blocks}
use Rattle.flat_design.specs.Typed.{EachOf}
use Rattle.code_blocks.specs.Laid.{EachFrom, FromNowOn, Grows, HangsFrom, OnlyFrom, StandsInside}
use Rattle.code_blocks.proofs.Owned.{added_owned, block_owned, each_of_two, none_from, one_owned}
use Rattle.code_blocks.proofs.Only.{added_from, block_only, first_only, none_hangs, one_only, only_up}
use Rattle.code_rules.specs.Bodies.{span_of, start_of, wait_for, waits_first, one_period}
use Rattle.code_rules.specs.Numbered.{AtBlock, AreFirst}
use Rattle.model_check.specs.Parts.{high_and_low}
use Rattle.code_blocks.proofs.Growth.{block_there, blocks_grow}
use Rattle.model_check.proofs.LaidLemmas.{first_more, if_ok_grown}
use Rattle.code_blocks.proofs.Results.{if_three, on_ok}
use Rattle.model_check.proofs.clocks.clock_block.Goals as goal

-- the wait for the start holds no blocks
plain_if : (b : Bool) (f : code.Statement) → inner_blocks f ≡ [] → EachOf (λ (g : code.Statement). inner_blocks g ≡ []) (if b then [] else f ∷ [])
plain_if true f plain = tt
plain_if false f plain = (plain, tt)

pub add-requires-clause-inner : goal.add-requires-clause-inner
add-requires-clause-inner c =
    let P : Arena → List ℕ → Type 0 = λ a ids. AreFirst a (high_and_low c.args.channel c.in_ok-high.high c.saturating_sub-low.result) ids [] in
    let there = block_there c.period_block.new.laid c.in_ok-inner.inner P c.in_ok-inner.ensures.reads in
    let more = blocks_grow c.period_block.new.laid c.add_start.new.laid c.in_ok-add_start.ensures.grows in
    (omega (arith, there, more), tt)

pub returns-clause-grows : goal.returns-clause-grows
returns-clause-grows c =
    on_ok c.push_block.result (λ grows a begins. c.in_ok-inner.ensures.grows a (c.in_ok-add_start.ensures.grows a (c.in_ok-add.ensures.grows a (grows a begins)))) c.push_block.ensures.grows

pub returns-clause-reads : goal.returns-clause-reads
returns-clause-reads c =
    let k = c.args.clock.now in
    let n = c.args.channel in
    let high = c.in_ok-high.high in
    let low = c.saturating_sub-low.result in
    let inner = c.in_ok-inner.inner in
    let started = c.in_ok-add_start.ensures.reads in
    let forever = code.while_ (code.literal (value.Bool true)) inner in
    let low_is : low ≡ span_of k.period - span_of k.high =
    c.saturating_sub-low.ensures ∙ ap (λ (t : ℕ). t - high) c.in_ok-span_time.ensures ∙ ap (λ (t : ℕ). span_of k.period - t) c.in_ok-high.ensures in
    let period_is : high_and_low n high low ≡ one_period n k =
    ap (λ (t : ℕ). high_and_low n t low) c.in_ok-high.ensures ∙ ap (λ (t : ℕ). high_and_low n (span_of k.high) t) low_is in
    let ids_are : started.0 ++ c.in_ok-add.field-0 ∷ [] ≡ c.add.new.ids =
    sym (c.in_ok-add.ensures.numbers ∙ ap (λ (is : List ℕ). is ++ c.in_ok-add.field-0 ∷ []) (started.1 ∙ ap (λ (is : List ℕ). is ++ started.0) c.new-ids.ensures)) in
    if_ok_grown c.push_block.result
    (λ b grows at a begins.
    let h2 = grows a begins in
    let h1 = c.in_ok-add.ensures.grows a h2 in
    let h0 = c.in_ok-add_start.ensures.grows a h1 in
    let first = first_more a (waits_first c.in_ok-start.start) forever started.0 c.in_ok-add.field-0 (started.2 a h1) (c.in_ok-add.ensures.at a h2) in (
      c.add.new.ids,
      at a begins,
      (
        inner,
        subst (λ (t : ℕ). AreFirst a (waits_first t ++ forever ∷ []) c.add.new.ids []) c.in_ok-start.ensures
            (subst (λ (is : List ℕ). AreFirst a (waits_first c.in_ok-start.start ++ forever ∷ []) is []) ids_are first),
        subst (λ (fs : List code.Statement). AtBlock a inner (λ is. AreFirst a fs is [])) period_is (c.in_ok-inner.ensures.reads a h0),
      ),
    ))
    c.push_block.ensures.grows c.push_block.ensures.at

pub returns-clause-owned : goal.returns-clause-owned
returns-clause-owned c =
    let first = length c.args.laid.now.blocks in
    let begun = c.period_block.new.laid in
    let old = c.add.new.laid in
    let l = c.push_block.new.laid in
    let ids = c.add.new.ids in
    let inner = c.in_ok-inner.inner in
    let started = c.in_ok-add_start.ensures in
    let added = c.in_ok-add.ensures in
    let kept : EachFrom first c.add_start.new.laid (λ a n. Inside a inner n) =
    each_of_two first begun c.add_start.new.laid (λ a n. Inside a inner n) started.grows c.in_ok-inner.ensures.owned (none_from begun c.add_start.new.laid (λ a n. Inside a inner n) started.blocks)
    in
    let hangs = added_owned first c.add_start.new.laid old c.add_start.new.ids ids c.in_ok-add.field-0 (code.while_ (code.literal (value.Bool true)) inner) added.grows added.blocks added.numbers added.at (one_owned first c.add_start.new.laid inner [] kept) in
    if_three (Grows old l) (λ b. (b ≡ length old.blocks) × (length l.blocks ≡ b + 1)) (λ b. FromNowOn l (λ a. slice_get a.blocks b ≡ Some ids)) (λ b. EachFrom first l (λ a n. Inside a b n)) c.push_block.result
    (λ grows b last at. block_owned first old l ids b grows last.0 last.1 at hangs)
    c.push_block.ensures.grows c.push_block.ensures.last c.push_block.ensures.at

pub returns-clause-only : goal.returns-clause-only
returns-clause-only c =
    let start = c.args.laid.now in
    let first = length start.blocks in
    let begun = c.period_block.new.laid in
    let mid = c.add_start.new.laid in
    let old = c.add.new.laid in
    let l = c.push_block.new.laid in
    let none = c.new-ids.result in
    let ids = c.add.new.ids in
    let time = c.in_ok-start.start in
    let inner = c.in_ok-inner.inner in
    let made = c.in_ok-inner.ensures in
    let started = c.in_ok-add_start.ensures in
    let added = c.in_ok-add.ensures in
    let forever = code.while_ (code.literal (value.Bool true)) inner in
    let grown : Grows start old = λ a begins. made.grows a (started.grows a (added.grows a begins)) in
    let nothing : OnlyFrom first begun (λ a n. HangsFrom a none n) = subst (λ (ns : List ℕ). OnlyFrom first begun (λ a n. HangsFrom a ns n)) (sym c.new-ids.ensures) (none_hangs first begun) in
    let waits : OnlyFrom first mid (λ a n. HangsFrom a c.add_start.new.ids n) =
    first_only begun mid none c.add_start.new.ids (waits_first time) (plain_if (time == 0) (wait_for time) refl) started.grows started.reads first (blocks_grow start begun made.grows) nothing
    in
    let held : OnlyFrom first mid (λ a n. StandsInside a (inner ∷ []) n) = only_up first first begun mid (λ a n. StandsInside a (inner ∷ []) n) (omega arith) started.grows (one_only first begun inner made.only) in
    let hangs = added_from first mid mid old c.add_start.new.ids ids c.in_ok-add.field-0 forever added.grows added.grows added.numbers added.at waits held in
    if_three (Grows old l) (λ b. (b ≡ length old.blocks) × (length l.blocks ≡ b + 1)) (λ b. FromNowOn l (λ a. slice_get a.blocks b ≡ Some ids)) (λ b. OnlyFrom first l (λ a n. Inside a b n)) c.push_block.result
    (λ grows b last at. block_only first old l ids b (blocks_grow start old grown) grows last.0 last.1 at hangs)
    c.push_block.ensures.grows c.push_block.ensures.last c.push_block.ensures.at
