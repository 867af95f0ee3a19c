-- A list of events from one place on.
use Rattle.std.proofs.Common.{◌≡◌, ℕ, suc, ◌+◌, ◌-◌, ◌<◌, ◌≤◌, List, [], ◌∷◌, length, drop, get_or, refl, sym, ap, ◌∙◌, arith}
use Rattle.std.proofs.Math.Seq.{drop-cons}
use Rattle.std.proofs.lemmas.List.{length-drop}
use Rattle.event_core.specs.declared.event.Ev.{Ev}
use Rattle.event_core.specs.declared.event.Ev.TheVariants.{Fixed}
use Rattle.wait_lists.specs.Nodes.{code_of, event_of}
use Rattle.wait_lists.proofs.EventLemmas.{event_of-code_of}

pub drop_whole : (xs : List Ev) → drop (length xs) xs ≡ []
drop_whole [] = refl
drop_whole (x ∷ xs) = drop_whole xs

pub rest_short : (k : ℕ) (xs : List Ev) → k ≤ length xs → length (drop k xs) + k ≡ length xs
rest_short k xs within = omega (arith, length-drop k xs)

pub one_before : (k code : ℕ) (xs : List Ev) → 0 < k → k ≤ length xs → code ≡ code_of (get_or xs (k - 1) (Fixed 0)) → event_of code ∷ drop k xs ≡ drop (k - 1) xs
one_before k code xs some within read =
    let before : k - 1 < length xs = omega arith in
    let next : suc (k - 1) ≡ k = omega arith in
    (λ i. (ap event_of read ∙ event_of-code_of (get_or xs (k - 1) (Fixed 0))) i ∷ drop (sym next i) xs)
    ∙ sym (drop-cons xs (k - 1) (Fixed 0) before)
