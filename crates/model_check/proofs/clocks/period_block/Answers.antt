use Rattle.std.proofs.Common.{◌≡◌, ◌+◌, length, Some, refl, sym, ap, ◌∙◌}
use Rattle.std.specs.Prelude.{slice_get}
use Rattle.flat_design.specs.Code.{statement_at}
use Rattle.flat_design.specs.Reach.{Inside}
use Rattle.code_blocks.specs.Laid.{EachFrom, FromNowOn, Grows, HangsFrom, OnlyFrom}
use Rattle.code_blocks.proofs.Growth.{blocks_grow}
use Rattle.code_blocks.proofs.Owned.{block_owned, none_from}
use Rattle.code_blocks.proofs.Only.{block_only, plain_hangs}
use Rattle.model_check.specs.Parts.{high_and_low}
use Rattle.model_check.proofs.LaidLemmas.{four_first, if_ok_grown}
use Rattle.code_blocks.proofs.Results.{if_three, on_ok}
use Rattle.model_check.proofs.clocks.period_block.Goals as goal

pub returns-clause-grows : goal.returns-clause-grows
returns-clause-grows c =
    on_ok c.push_block.result
    (λ grows a begins. c.in_ok-add.ensures.grows a (c.in_ok-add-2.ensures.grows a (c.in_ok-add-3.ensures.grows a (c.in_ok-add-4.ensures.grows a (grows a begins)))))
    c.push_block.ensures.grows

pub returns-clause-reads : goal.returns-clause-reads
returns-clause-reads c =
    if_ok_grown c.push_block.result
    (λ b grows at a begins.
    let h4 = grows a begins in
    let h3 = c.in_ok-add-4.ensures.grows a h4 in
    let h2 = c.in_ok-add-3.ensures.grows a h3 in
    let h1 = c.in_ok-add-2.ensures.grows a h2 in (
      c.add-4.new.ids,
      at a begins,
      four_first a _ _ _ _ _ _ _ _ c.new-ids.result c.add.new.ids c.add-2.new.ids c.add-3.new.ids c.add-4.new.ids
          c.new-ids.ensures c.in_ok-add.ensures.numbers c.in_ok-add-2.ensures.numbers c.in_ok-add-3.ensures.numbers c.in_ok-add-4.ensures.numbers
          (c.in_ok-add.ensures.at a h1 ∙ ap Some c.write_truth.ensures) (c.in_ok-add-2.ensures.at a h2 ∙ ap Some c.wait_for.ensures)
          (c.in_ok-add-3.ensures.at a h3 ∙ ap Some c.write_truth-2.ensures) (c.in_ok-add-4.ensures.at a h4 ∙ ap Some c.wait_for-2.ensures),
    ))
    c.push_block.ensures.grows c.push_block.ensures.at

pub returns-clause-owned : goal.returns-clause-owned
returns-clause-owned c =
    let start = c.args.laid.now in
    let old = c.add-4.new.laid in
    let l = c.push_block.new.laid in
    let ids = c.add-4.new.ids in
    let same = c.in_ok-add-4.ensures.blocks ∙ c.in_ok-add-3.ensures.blocks ∙ c.in_ok-add-2.ensures.blocks ∙ c.in_ok-add.ensures.blocks in
    if_three (Grows old l) (λ b. (b ≡ length old.blocks) × (length l.blocks ≡ b + 1)) (λ b. FromNowOn l (λ a. slice_get a.blocks b ≡ Some ids)) (λ b. EachFrom (length start.blocks) l (λ a n. Inside a b n)) c.push_block.result
    (λ grows b last at. block_owned (length start.blocks) old l ids b grows last.0 last.1 at (none_from start old (λ a n. HangsFrom a ids n) same))
    c.push_block.ensures.grows c.push_block.ensures.last c.push_block.ensures.at

pub returns-clause-only : goal.returns-clause-only
returns-clause-only c =
    let start = c.args.laid.now in
    let old = c.add-4.new.laid in
    let l = c.push_block.new.laid in
    let ids = c.add-4.new.ids in
    let grown : Grows start old = λ a h4. c.in_ok-add.ensures.grows a (c.in_ok-add-2.ensures.grows a (c.in_ok-add-3.ensures.grows a (c.in_ok-add-4.ensures.grows a h4))) in
    let none : OnlyFrom (length start.blocks) old (λ a n. HangsFrom a ids n) = λ a h4 n h.
    let h3 = c.in_ok-add-4.ensures.grows a h4 in
    let h2 = c.in_ok-add-3.ensures.grows a h3 in
    let h1 = c.in_ok-add-2.ensures.grows a h2 in
    absurd (plain_hangs a (high_and_low c.args.channel c.args.high c.args.low) ids n (refl, (refl, (refl, (refl, tt))))
    (four_first a _ _ _ _ _ _ _ _ c.new-ids.result c.add.new.ids c.add-2.new.ids c.add-3.new.ids c.add-4.new.ids
    c.new-ids.ensures c.in_ok-add.ensures.numbers c.in_ok-add-2.ensures.numbers c.in_ok-add-3.ensures.numbers c.in_ok-add-4.ensures.numbers
    (c.in_ok-add.ensures.at a h1 ∙ ap Some c.write_truth.ensures) (c.in_ok-add-2.ensures.at a h2 ∙ ap Some c.wait_for.ensures)
    (c.in_ok-add-3.ensures.at a h3 ∙ ap Some c.write_truth-2.ensures) (c.in_ok-add-4.ensures.at a h4 ∙ ap Some c.wait_for-2.ensures)) h)
    in
    if_three (Grows old l) (λ b. (b ≡ length old.blocks) × (length l.blocks ≡ b + 1)) (λ b. FromNowOn l (λ a. slice_get a.blocks b ≡ Some ids)) (λ b. OnlyFrom (length start.blocks) l (λ a n. Inside a b n)) c.push_block.result
    (λ grows b last at. block_only (length start.blocks) old l ids b (blocks_grow start old grown) grows last.0 last.1 at none)
    c.push_block.ensures.grows c.push_block.ensures.last c.push_block.ensures.at
