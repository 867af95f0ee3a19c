-- How far a run has come: what it leads to from here is what it led to from the start, and what the rule picks from here
-- on it picks from the start on.
use Rattle.std.proofs.Common.{◌≡◌, ◌+◌, ℕ, zero, suc, List, [], ◌∷◌, ◌++◌, drop, length, Option, None, Some, refl, sym, ◌∙◌, ap, subst, arith, append_assoc, append-nil, zero-add, add-zero, length-append}
use Rattle.std.proofs.lemmas.Option.{none-some, same_Some}
use Rattle.vcd_trace.specs.SimModel.Configuration.{Config}
use Rattle.vcd_trace.specs.SimModel.Steps.{Outcome, went, faulted, takes, ended, step, taking}
use Rattle.vcd_trace.specs.SimModel.Runs.{after, and_then, took, Chooser, chooser_of, picked, held_then, Ruled, RuledFrom, ruled_on, took_as}
use Rattle.vcd_trace.specs.SimModel.declared.plain.Rule.{Rule}

-- ---- of one run so many steps lead to one configuration, with the choices that are its own

pub record IsSame (a b : Config) (xs ys : List ℕ) : Type 0 where
  pub config : b ≡ a
  pub choices : ys ≡ xs

push_same : (a b : Config) (p : ℕ) (xs ys : List ℕ) → IsSame a b xs ys → IsSame a b (p ∷ xs) (p ∷ ys)
push_same a b p xs ys same = record { config = same.config; choices = ap (λ zs. p ∷ zs) same.choices }

head_or : ℕ → List ℕ → ℕ
head_or d [] = d
head_or d (x ∷ xs) = x

head_same : (p q : ℕ) (xs ys : List ℕ) → p ∷ xs ≡ q ∷ ys → p ≡ q
unfolding head_or
head_same p q xs ys e = ap (head_or 0) e

abbrev pub OneRun : ℕ → Type 0
OneRun n = (xs ys left more : List ℕ) (c a b : Config) → after n xs c ≡ Some a → after n ys c ≡ Some b → xs ++ left ≡ ys ++ more → IsSame a b xs ys

taken_once : (n : ℕ) → OneRun n → (o : Option Config) (p q : ℕ) (xs ys left more : List ℕ) (a b : Config) → took o (after n xs) ≡ Some a → took o (after n ys) ≡ Some b → p ∷ (xs ++ left) ≡ q ∷ (ys ++ more) → IsSame a b (p ∷ xs) (q ∷ ys)
taken_once n once None p q xs ys left more a b h k e = absurd (none-some a h)
taken_once n once (Some d) p q xs ys left more a b h k e =
    let same = push_same a b p xs ys (once xs ys left more d a b h k (ap (drop 1) e)) in
    record { config = same.config; choices = ap (λ x. x ∷ ys) (sym (head_same p q (xs ++ left) (ys ++ more) e)) ∙ same.choices }

stepped_once : (n : ℕ) → OneRun n → (o : Outcome) (c : Config) (xs ys left more : List ℕ) (a b : Config) → and_then o c xs (after n) ≡ Some a → and_then o c ys (after n) ≡ Some b → xs ++ left ≡ ys ++ more → IsSame a b xs ys
stepped_once n once (went d) c xs ys left more a b h k e = once xs ys left more d a b h k e
stepped_once n once (faulted f) c xs ys left more a b h k e = absurd (none-some a h)
stepped_once n once takes c [] ys left more a b h k e = absurd (none-some a h)
stepped_once n once takes c (p ∷ xs) [] left more a b h k e = absurd (none-some b k)
stepped_once n once takes c (p ∷ xs) (q ∷ ys) left more a b h k e = taken_once n once (taking c p) p q xs ys left more a b h (subst (λ r. took (taking c r) (after n ys) ≡ Some b) (sym (head_same p q (xs ++ left) (ys ++ more) e)) k) e
stepped_once n once ended c xs ys left more a b h k e = absurd (none-some a h)

pub run_once : (n : ℕ) → OneRun n
run_once zero [] [] left more c a b h k e = record { config = sym (same_Some c b k) ∙ same_Some c a h; choices = refl }
run_once zero [] (q ∷ ys) left more c a b h k e = absurd (none-some b k)
run_once zero (p ∷ xs) ys left more c a b h k e = absurd (none-some a h)
run_once (suc n) xs ys left more c a b h k e = stepped_once n (run_once n) (step c) c xs ys left more a b h k e

-- what a rule holds after so many takings
abbrev pub held_after : ℕ → Chooser → Chooser
held_after zero k = k
held_after (suc n) k = held_then (held_after n k)

pub record Reached (rule : Rule) (first : Config) (held : Chooser) (choices : List ℕ) (steps : ℕ) (at : Config) : Type 0 where
  pub goes_on : (n : ℕ) (cs : List ℕ) → after (steps + n) (choices ++ cs) first ≡ after n cs at
  pub ruled : (n : ℕ) (cs : List ℕ) → RuledFrom n held cs at → RuledFrom (steps + n) (chooser_of rule) (choices ++ cs) first
  pub holds : held ≡ held_after (length choices) (chooser_of rule)

one_more : (steps n : ℕ) → steps + suc n ≡ steps + 1 + n
one_more steps n = omega arith

module _ (rule : Rule) (first : Config) where
  pub starts : Reached rule first (chooser_of rule) [] 0 first
  starts = record {
    goes_on = λ n cs. ap (λ m. after m cs first) (zero-add n);
    ruled = λ n cs h. subst (λ m. RuledFrom m (chooser_of rule) cs first) (sym (zero-add n)) h;
    holds = refl;
  }

  -- a step that is no taking
  pub by_step : (held : Chooser) (choices : List ℕ) (steps : ℕ) (at to : Config) → Reached rule first held choices steps at → step at ≡ went to → Reached rule first held choices (steps + 1) to
  by_step held choices steps at to r is = record {
    goes_on = λ n cs.
        ap (λ m. after m (choices ++ cs) first) (sym (one_more steps n)) ∙ r.goes_on (suc n) cs ∙ ap (λ o. and_then o at cs (after n)) is;
    ruled = λ n cs h.
        let here : RuledFrom (suc n) held cs at = subst (λ o. ruled_on o held at cs (RuledFrom n)) (sym is) h in
        subst (λ m. RuledFrom m (chooser_of rule) (choices ++ cs) first) (one_more steps n) (r.ruled (suc n) cs here);
    holds = r.holds;
  }

  one_longer : (choices : List ℕ) (p : ℕ) → length (choices ++ p ∷ []) ≡ suc (length choices)
  one_longer choices p = length-append choices (p ∷ []) ∙ omega arith

  -- the taking of p, which the rule picks
  pub by_taking : (held : Chooser) (choices : List ℕ) (steps : ℕ) (at to : Config) (p : ℕ) → Reached rule first held choices steps at → step at ≡ takes → taking at p ≡ Some to → picked held at.processes.runnable ≡ Some p
      → Reached rule first (held_then held) (choices ++ p ∷ []) (steps + 1) to
  by_taking held choices steps at to p r is taken picks = record {
    goes_on = λ n cs.
        ap (λ m. after m ((choices ++ p ∷ []) ++ cs) first) (sym (one_more steps n))
        ∙ ap (λ used. after (steps + suc n) used first) (append_assoc choices (p ∷ []) cs)
        ∙ r.goes_on (suc n) (p ∷ cs)
        ∙ ap (λ o. and_then o at (p ∷ cs) (after n)) is
        ∙ ap (λ t. took t (after n cs)) taken;
    ruled = λ n cs h.
        let took_it : took_as (taking at p) (picked held at.processes.runnable ≡ Some p) (RuledFrom n (held_then held) cs) = subst (λ t. took_as t (picked held at.processes.runnable ≡ Some p) (RuledFrom n (held_then held) cs)) (sym taken) (picks, h) in
        let here : RuledFrom (suc n) held (p ∷ cs) at = subst (λ o. ruled_on o held at (p ∷ cs) (RuledFrom n)) (sym is) took_it in
        let there : RuledFrom (steps + suc n) (chooser_of rule) ((choices ++ p ∷ []) ++ cs) first = subst (λ used. RuledFrom (steps + suc n) (chooser_of rule) used first) (sym (append_assoc choices (p ∷ []) cs)) (r.ruled (suc n) (p ∷ cs) here) in
        subst (λ m. RuledFrom m (chooser_of rule) ((choices ++ p ∷ []) ++ cs) first) (one_more steps n) there;
    holds = ap held_then r.holds ∙ sym (ap (λ n. held_after n (chooser_of rule)) (one_longer choices p));
  }

  -- the run so far, where nothing more comes
  pub run_of : (held : Chooser) (choices : List ℕ) (steps : ℕ) (at : Config) → Reached rule first held choices steps at → after steps choices first ≡ Some at
  run_of held choices steps at r =
      ap (λ m. after m choices first) (sym (add-zero steps)) ∙ ap (λ used. after (steps + 0) used first) (sym (append-nil choices)) ∙ r.goes_on 0 []

  pub ruled_of : (held : Chooser) (choices : List ℕ) (steps : ℕ) (at : Config) → Reached rule first held choices steps at → Ruled rule steps choices first
  ruled_of held choices steps at r =
      let whole : RuledFrom steps (chooser_of rule) (choices ++ []) first = subst (λ m. RuledFrom m (chooser_of rule) (choices ++ []) first) (add-zero steps) (r.ruled 0 [] refl) in
      subst (λ used. RuledFrom steps (chooser_of rule) used first) (append-nil choices) whole
