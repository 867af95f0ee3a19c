-- A run that goes on past a step had no end there, whatever the rule of choices.
use Rattle.std.proofs.Common.{◌≡◌, ◌<◌, ◌+◌, ◌++◌, ℕ, zero, suc, Bool, true, false, not, cond, List, [], ◌∷◌, length, drop, slice_get, Option, Some, None, nat_le, refl, sym, ap, ◌∙◌, subst, arith, zero-add}
use Rattle.std.proofs.lemmas.Option.{none-some}
use Rattle.std.proofs.lemmas.Bool.Decides.{nat_tests}
use Rattle.sim_model.specs.Configuration.{Config}
use Rattle.sim_model.specs.Waits.{holds}
use Rattle.sim_model.specs.Steps.{Outcome, went, faulted, takes, ended, step, taken_if, taking}
use Rattle.sim_model.specs.Runs.{after, and_then, took, Chooser, listed, chooser_of, first_of, rest_of, picked, held_then, took_as, ruled_on, RuledFrom, Ruled, missing, stop_taking, stop_at, stop_of}
use Rattle.sim_model.specs.declared.plain.Rule.{Rule}
use Rattle.sim_model.specs.declared.plain.Rule.TheVariants as rule
use Rattle.sim_model.specs.declared.plain.Stop.TheVariants as stop
use Rattle.laws_runs.proofs.Splits.{suc-sum}

-- ---- what a rule's chooser holds after t takings: of listed choices those that are left

abbrev pub HeldAfter : Rule → ℕ → Chooser → Type 0
HeldAfter rule.First t k = Unit {0}
HeldAfter rule.Last t k = Unit {0}
HeldAfter (rule.Seed seed) t k = Unit {0}
HeldAfter (rule.Replay choices) t k = k ≡ listed (drop t choices)

held-first : (r : Rule) → HeldAfter r 0 (chooser_of r)
held-first rule.First = tt
held-first rule.Last = tt
held-first (rule.Seed seed) = tt
held-first (rule.Replay choices) = refl

rest-drop : (t : ℕ) (ps : List ℕ) → rest_of (drop t ps) ≡ drop (suc t) ps
rest-drop zero [] = refl
rest-drop zero (p ∷ ps) = refl
rest-drop (suc t) [] = refl
rest-drop (suc t) (p ∷ ps) = rest-drop t ps

first-drop : (t : ℕ) (ps : List ℕ) → first_of (drop t ps) ≡ slice_get ps t
first-drop zero [] = refl
first-drop zero (p ∷ ps) = refl
first-drop (suc t) [] = refl
first-drop (suc t) (p ∷ ps) = first-drop t ps

held-next : (r : Rule) (t : ℕ) (k : Chooser) → HeldAfter r t k → HeldAfter r (suc t) (held_then k)
held-next rule.First t k h = tt
held-next rule.Last t k h = tt
held-next (rule.Seed seed) t k h = tt
held-next (rule.Replay choices) t k h = ap held_then h ∙ ap listed (rest-drop t choices)

-- ---- a step that goes on

runnable-if : (c d : Config) (p : ℕ) (b : Bool) → holds c.processes.runnable p ≡ b → taken_if c p b ≡ Some d → holds c.processes.runnable p ≡ true
runnable-if c d p true is h = is
runnable-if c d p false is h = absurd (none-some d h)

runnable : (c d : Config) (p : ℕ) → taking c p ≡ Some d → holds c.processes.runnable p ≡ true
runnable c d p h = runnable-if c d p (holds c.processes.runnable p) refl h

not-missing : (c : Config) (choices : List ℕ) (t p : ℕ) → slice_get choices t ≡ Some p → holds c.processes.runnable p ≡ true → stop_taking c (rule.Replay choices) t ≡ None
not-missing c choices t p at is =
    ap (λ o. cond (missing c.processes.runnable o) (Some (stop.Replay (t + 1))) None) at
    ∙ ap (λ b. cond (not b) (Some (stop.Replay (t + 1))) None) is

goes-taking : (r : Rule) (t : ℕ) (k : Chooser) (c d : Config) (p : ℕ) → HeldAfter r t k → picked k c.processes.runnable ≡ Some p → taking c p ≡ Some d → stop_taking c r t ≡ None
goes-taking rule.First t k c d p held is gone = refl
goes-taking rule.Last t k c d p held is gone = refl
goes-taking (rule.Seed seed) t k c d p held is gone = refl
goes-taking (rule.Replay choices) t k c d p held is gone =
    not-missing c choices t p (sym (first-drop t choices) ∙ sym (ap (λ k. picked k c.processes.runnable) held) ∙ is) (runnable c d p gone)

goes-took : (r : Rule) (t : ℕ) (k : Chooser) (c last : Config) (p : ℕ) (o : Option Config) (on : Config → Option Config) (rest : Config → Type 0) → HeldAfter r t k → taking c p ≡ o
    → took o on ≡ Some last → took_as o (picked k c.processes.runnable ≡ Some p) rest → stop_taking c r t ≡ None
goes-took r t k c last p None on rest held is h ruled = absurd (none-some last h)
goes-took r t k c last p (Some d) on rest held is h ruled = goes-taking r t k c d p held ruled.0 is

goes : (r : Rule) (t : ℕ) (k : Chooser) (o : Outcome) (c last : Config) (choices : List ℕ) (on : List ℕ → Config → Option Config) (rest : Chooser → List ℕ → Config → Type 0) → HeldAfter r t k
    → and_then o c choices on ≡ Some last → ruled_on o k c choices rest → stop_at c r t o ≡ None
goes r t k (went d) c last choices on rest held h ruled = refl
goes r t k (faulted f) c last choices on rest held h ruled = absurd (none-some last h)
goes r t k takes c last [] on rest held h ruled = absurd (none-some last h)
goes r t k takes c last (p ∷ choices) on rest held h ruled = goes-took r t k c last p (taking c p) (on choices) (rest (held_then k) choices) held refl h ruled
goes r t k ended c last choices on rest held h ruled = absurd (none-some last h)

-- ---- the configuration after n steps of a run that goes on past them, with the choices that were used by then

pub record GoesOn (r : Rule) (t n : ℕ) (choices : List ℕ) (first : Config) : Type 0 where
  pub at : Config
  pub used : List ℕ
  pub left : List ℕ
  pub split : choices ≡ used ++ left
  pub reached : after n used first ≡ Some at
  pub no_stop : stop_at at r (t + length used) (step at) ≡ None

by-taking : (r : Rule) (t n : ℕ) (k : Chooser) (on : List ℕ → Config → Option Config) (rest : Chooser → List ℕ → Config → Type 0) (p : ℕ) (choices : List ℕ) (first last : Config) → step first ≡ takes
    → (o : Option Config) → taking first p ≡ o → took o (on choices) ≡ Some last → took_as o (picked k first.processes.runnable ≡ Some p) (rest (held_then k) choices)
    → ((cs : List ℕ) (d : Config) → on cs d ≡ Some last → rest (held_then k) cs d → GoesOn r (suc t) n cs d) → GoesOn r t (suc n) (p ∷ choices) first
by-taking r t n k on rest p choices first last e None is h ruled later = absurd (none-some last h)
by-taking r t n k on rest p choices first last e (Some d) is h ruled later =
    let g = later choices d h ruled.1 in
    let one_more : suc t + length g.used ≡ t + suc (length g.used) = omega arith in
    record {
      at = g.at;
      used = p ∷ g.used;
      left = g.left;
      split = ap (λ cs. p ∷ cs) g.split;
      reached = ap (λ o. and_then o first (p ∷ g.used) (after n)) e ∙ ap (λ o. took o (after n g.used)) is ∙ g.reached;
      no_stop = ap (λ k. stop_at g.at r k (step g.at)) (sym one_more) ∙ g.no_stop;
    }

one-more : (r : Rule) (t n : ℕ) (k : Chooser) (on : List ℕ → Config → Option Config) (rest : Chooser → List ℕ → Config → Type 0) (choices : List ℕ) (first last : Config)
    → (o : Outcome) → step first ≡ o → and_then o first choices on ≡ Some last → ruled_on o k first choices rest
    → ((cs : List ℕ) (d : Config) → on cs d ≡ Some last → rest k cs d → GoesOn r t n cs d)
    → ((cs : List ℕ) (d : Config) → on cs d ≡ Some last → rest (held_then k) cs d → GoesOn r (suc t) n cs d) → GoesOn r t (suc n) choices first
one-more r t n k on rest choices first last (went d) e h ruled same next =
    let g = same choices d h ruled in
    record { at = g.at; used = g.used; left = g.left; split = g.split; reached = ap (λ o. and_then o first g.used (after n)) e ∙ g.reached; no_stop = g.no_stop }
one-more r t n k on rest choices first last (faulted f) e h ruled same next = absurd (none-some last h)
one-more r t n k on rest [] first last takes e h ruled same next = absurd (none-some last h)
one-more r t n k on rest (p ∷ choices) first last takes e h ruled same next = by-taking r t n k on rest p choices first last e (taking first p) refl h ruled next
one-more r t n k on rest choices first last ended e h ruled same next = absurd (none-some last h)

goes-on : (r : Rule) (t : ℕ) (k : Chooser) (n more : ℕ) (choices : List ℕ) (first last : Config) → HeldAfter r t k → after (n + suc more) choices first ≡ Some last → RuledFrom (n + suc more) k choices first
    → GoesOn r t n choices first
goes-on r t k zero more choices first last held h ruled =
    let same = zero-add (suc more) in
    let here : after (suc more) choices first ≡ Some last = ap (λ j. after j choices first) (sym same) ∙ h in
    let there : t + zero ≡ t = omega arith in
    record {
      at = first;
      used = [];
      left = choices;
      split = refl;
      reached = refl;
      no_stop =
          ap (λ j. stop_at first r j (step first)) there
          ∙ goes r t k (step first) first last choices (after more) (RuledFrom more) held here (subst (λ j. RuledFrom j k choices first) same ruled);
    }
goes-on r t k (suc n) more choices first last held h ruled =
    let same = suc-sum n (suc more) in
    one-more r t n k (after (n + suc more)) (RuledFrom (n + suc more)) choices first last (step first) refl (ap (λ j. after j choices first) (sym same) ∙ h) (subst (λ j. RuledFrom j k choices first) same ruled)
    (λ cs d later rest. goes-on r t k n more cs d last held later rest)
    (λ cs d later rest. goes-on r (suc t) (held_then k) n more cs d last (held-next r t k held) later rest)

below : (n budget : ℕ) → n < budget → nat_le budget n ≡ false
below n budget h = grind (arith, nat_tests)

pub no-end : (r : Rule) (n more budget : ℕ) (choices : List ℕ) (first last : Config) → after (n + suc more) choices first ≡ Some last → Ruled r (n + suc more) choices first → n < budget
    → (c : Config) × (used : List ℕ) × (left : List ℕ) × (choices ≡ used ++ left) × (after n used first ≡ Some c) × (stop_of c r (length used) n budget ≡ None)
no-end r n more budget choices first last h ruled less =
    let g = goes-on r 0 (chooser_of r) n more choices first last (held-first r) h ruled in
    let takings : 0 + length g.used ≡ length g.used = omega arith in
    (g.at, g.used, g.left, g.split, g.reached, rw (below n budget less) (ap (λ k. stop_at g.at r k (step g.at)) (sym takings) ∙ g.no_stop))
