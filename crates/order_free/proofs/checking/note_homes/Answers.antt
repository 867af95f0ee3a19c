use Rattle.std.proofs.Common.{◌≡◌, ◌+◌, List, [], length, sym, ◌∙◌, subst, arith}
use Rattle.std.proofs.lemmas.List.{get_or_default}
use Rattle.std.proofs.lemmas.Option.{unwrap_or-slice_get, slice_get_within}
use Rattle.order_free.specs.Spreading.{AreEmpty}
use Rattle.order_free.specs.Roots.{roots_at, AreRootsOf, TellsHomes}
use Rattle.order_free.specs.declared.roots.Root.{Root}
use Rattle.order_free.proofs.Begun.{roots_of_home}
use Rattle.order_free.proofs.Labels.{none_labelled}
use Rattle.order_free.proofs.Homes.{no_home_told, all_told}
use Rattle.order_free.proofs.checking.note_homes.Goals as goal

pub loop-home-init : goal.loop-home-init
loop-home-init c = record {
  empty = subst (AreEmpty c.args.parts.now) (sym c.in_ok-labels.ensures) (none_labelled c.args.parts.now);
  told = no_home_told c.args.design.now c.args.tables.now c.requires.told;
}

pub note_home-requires-clause-begun : goal.note_home-requires-clause-begun
note_home-requires-clause-begun c =
    let d = c.args.design.now in
    let rows = c.args.rows.now in
    let home = c.loop-home.home in
    let row : List Root = c.index-rows-home.result in
    let same : roots_at rows home ≡ row = unwrap_or-slice_get rows home [] ∙ get_or_default rows home [] row c.loop-home-test.true ∙ sym c.index-rows-home.is in
    subst (AreRootsOf d home) (same ∙ sym c.as_slice.ensures)
    (roots_of_home d rows home c.requires.rows (λ p b is. slice_get_within d.processes p is.part is.found))

pub returns : goal.returns
returns c =
    let test = c.loop-home-test.false in
    let end = c.loop-home.auto.home-end in
    let many = c.requires.rows.many in
    let last : c.loop-home.home ≡ length c.args.design.now.instances + 1 = omega (arith, test, end, many) in
    all_told c.args.design.now c.loop-home.tables (subst (λ n. TellsHomes c.args.design.now n c.loop-home.tables) last c.loop-home.invariant.told)
