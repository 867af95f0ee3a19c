use Rattle.std.proofs.Common.{◌≡◌, ◌+◌, ℕ, suc, [], ◌∷◌, ◌++◌, drop, length, reverse, sym, ap, ◌∙◌, arith}
use Rattle.std.proofs.lemmas.List.{length_push}
use Rattle.kernel_bodies.specs.SimModel.Waits.{holds}
use Rattle.kernel_bodies.specs.SimModel.Control.{descended, found_with}
use Rattle.process_bodies.specs.Marks.{marked, marked_if, with_if}
use Rattle.process_bodies.proofs.Found.{more_agree, found_more}
use Rattle.process_bodies.proofs.parents.with_descendants.Goals as goal

pub loop-place-preserved : goal.loop-place-preserved
loop-place-preserved c =
    let q = c.args.q in
    let place = c.loop-place.place in
    let parents = c.args.parents.now in
    let marks = c.loop-place.marks.items in
    let found = reverse c.loop-place.found.items in
    let size = c.loop-place.invariant.size in
    let agree = c.loop-place.invariant.agree in
    let parent = c.parent_at-parent.result in
    let b = c.is_marked-is_found.result in
    let is : b ≡ marked_if marks q parent = c.is_marked-is_found.ensures ∙ ap (λ ms. marked_if ms q parent) c.as_slice.ensures.value in
    let longer = length_push marks b in
    let grown : q + length (marks ++ b ∷ []) ≡ place + 1 = omega (arith, longer, size) in
    let next : place + 1 ≡ suc place = omega arith in
    record {
      size = ap (λ ms. q + length ms) c.in_ok-find.ensures.marks ∙ grown;
      agree = λ n. ap (λ ms. marked ms q n) c.in_ok-find.ensures.marks ∙ more_agree marks q place found size agree b n ∙ sym (ap (λ ns. holds ns n) c.in_ok-find.ensures.found);
      all = ap (descended (place + 1) (drop (place + 1) parents)) (c.in_ok-find.ensures.found ∙ ap (λ t. with_if t place found) is ∙ found_more marks q place found size agree parent)
          ∙ ap (λ k. descended k (drop (place + 1) parents) (found_with place parent found)) next
          ∙ sym (ap (λ ps. descended place ps found) c.parent_at-parent.ensures) ∙ c.loop-place.invariant.all;
    }
