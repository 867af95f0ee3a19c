-- Where the resolution is a picosecond, the rules see the same times in the tree of ticks of a tree without femtoseconds.
use Rattle.std.proofs.Common.{◌≡◌, Bool, true, false, not, List, [], ◌∷◌, map, refl, sym, ap, ap₂, ◌∙◌, true≢false}
use Rattle.std.specs.List.{list_all}
use Rattle.std.proofs.lemmas.Bool.{and_parts}
use Rattle.model_tree.specs.Languages.{in_unit, is_femtoseconds, keeps_language, may_have}
use Rattle.model_tree.specs.SimTime.declared.moments.Resolution.{Resolution}
use Rattle.model_tree.specs.Tree as tree
use Rattle.model_tree.specs.declared.items.Head.TheVariants as head
use Rattle.model_tree.specs.declared.types.Span.{Span}
use Rattle.tick_trees.specs.Laws.{retimed_timed, seen}
use Rattle.laws_texts.specs.RuleTimes.{seen_at}
use Rattle.tick_trees.specs.Ticks.{ticks, ticks_span}
use Rattle.tick_trees.specs.Times.{Timed, times_of}
use Rattle.laws_texts.proofs.First.{passes, units_pass}
use Rattle.tick_trees.proofs.Spans.{seen_at_picosecond}
use Rattle.tick_trees.proofs.Times.{of_model}

not_so : (b : Bool) → not b ≡ true → b ≡ false
not_so true e = absurd (true≢false (sym e))
not_so false e = refl

of_spans : (r : Resolution) → r.power ≡ 3 → (ss : List Span) → list_all (λ (s : Span). may_have head.First (in_unit s.unit)) ss ≡ true → map seen (map (ticks_span r) ss) ≡ map seen ss
of_spans r e [] h = refl
of_spans r e (s ∷ ss) h =
    let parts = and_parts (not (is_femtoseconds s.unit)) (list_all (λ (x : Span). may_have head.First (in_unit x.unit)) ss) h in
    ap₂ (λ a b. a ∷ b) (seen_at_picosecond r s e (not_so (is_femtoseconds s.unit) parts.0)) (of_spans r e ss parts.1)

of_times : (r : Resolution) → r.power ≡ 3 → (ts : List Timed) → list_all (passes (may_have head.First)) ts ≡ true → map seen_at (map (retimed_timed (ticks_span r)) ts) ≡ map seen_at ts
of_times r e [] h = refl
of_times r e (t ∷ ts) h =
    let parts = and_parts (passes (may_have head.First) t) (list_all (passes (may_have head.First)) ts) h in
    ap₂ (λ a b. a ∷ b) (ap (λ ss. (t.line, ss)) (of_spans r e t.spans parts.0)) (of_times r e ts parts.1)

pub same_times : (r : Resolution) (m : tree.Model) → r.power ≡ 3 → keeps_language head.First m ≡ true → map seen_at (times_of (ticks r m)) ≡ map seen_at (times_of m)
same_times r m e h = ap (map seen_at) (of_model (ticks_span r) m) ∙ of_times r e (times_of m) (units_pass (may_have head.First) m h)
