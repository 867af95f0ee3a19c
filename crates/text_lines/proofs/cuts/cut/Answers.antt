use Rattle.std.proofs.Common.{◌≡◌, ◌==◌, false, ◌∷◌, ap, ◌∙◌, arith, take, rules}
use Rattle.std.specs.List.{slice_split}
use Rattle.std.proofs.lemmas.List.{take_all}
use Rattle.std.proofs.lemmas.List.Elements.{All-more}
use Rattle.std.proofs.lemmas.List.Splits.{slice_split_none}
use Rattle.std.proofs.lemmas.Grind.{common_steps}
use Rattle.text_lines.proofs.CutLemmas.{slice_split_there}
use Rattle.text_lines.proofs.cuts.cut.Goals as goal

pub returns-then-byte-at-clause-split : goal.returns-then-byte-at-clause-split
returns-then-byte-at-clause-split c =
    slice_split_there c.args.at c.args.text.now c.loop-i.i c.loop-i-test.true (search rules) c.loop-i.invariant
    ∙ ap (λ t. take c.loop-i.i c.args.text.now ∷ slice_split (λ b. b == c.args.at) t) (grind (arith, common_steps))

pub loop-i-preserved : goal.loop-i-preserved
loop-i-preserved c =
    All-more (λ b. (b == c.args.at) ≡ false) c.args.text.now c.loop-i.i 0 c.loop-i-test.true c.loop-i.invariant (search rules)

pub returns-clause-split : goal.returns-clause-split
returns-clause-split c =
    slice_split_none (λ b. b == c.args.at) c.args.text.now (rw (take_all _ _ c.loop-i-test.false) at c.loop-i.invariant)
