-- A tick that is left normally was entered as many takings before as its number says.
use Rattle.std.proofs.Common.{◌≡◌, ◌+◌, ◌≤◌, ℕ, zero, suc, Bool, true, false, List, [], ◌∷◌, ◌++◌, Option, Some, None, refl, sym, ap, ◌∙◌, subst, arith, ⊎_elim, true≢false, zero-add}
use Rattle.std.proofs.lemmas.Bool.{cases_eq}
use Rattle.std.proofs.lemmas.Option.{none-some, same_Some}
use Rattle.laws_runs.specs.FlatDesign.Code.{arena_of}
use Rattle.laws_runs.specs.FlatDesign.Sound.{SoundDesign}
use Rattle.laws_runs.specs.FlatDesign.declared.design.Design.{Design}
use Rattle.laws_runs.specs.SimModel.Residual.{Residual, skip, goal, settle, has_goal}
use Rattle.laws_runs.specs.SimModel.Configuration.{Config, arena, start}
use Rattle.laws_runs.specs.SimModel.Steps.{Outcome, went, faulted, takes, ended, step, taking}
use Rattle.laws_runs.specs.SimModel.Runs.{after, and_then, took}
use Rattle.laws_runs.specs.SimModel.Clean.{times}
use Rattle.laws_runs.specs.SimModel.declared.plain.Command.{Command}
use Rattle.laws_runs.proofs.CleanRuns.{clean-after}
use Rattle.laws_runs.proofs.Splits.{joined, suc-sum}
use Rattle.laws_runs.proofs.Times.{times-here, times-other}
use Rattle.laws_runs.proofs.Roots.{IsRooted}
use Rattle.laws_runs.proofs.MarkedRuns.{marked-after}
use Rattle.laws_runs.proofs.RunSteps.{step-moves, taking-moves}
use Rattle.laws_clocked.specs.Spots.{IsLeft, Shows}
use Rattle.laws_clocked.specs.Ticks.{Tick, HasTick, left_at, entering}
use Rattle.laws_clocked.specs.Turns.{ComesTo, IsLeaving, IsNotUnwound, EachBefore, EachUpTo}
use Rattle.laws_clocked.proofs.Counted.{LeavesCounted}
use Rattle.laws_clocked.proofs.Showing.{shows-left, shows-goal}
use Rattle.laws_clocked.proofs.SameDesign.{design-went, design-taken}
use Rattle.laws_clocked.proofs.Passing.{State, comes, state-went, state-taken, state-own_taken, left-none}

-- ---- what is left of a run, one step on

-- P before the end, Q up to it
pub record Goes (P Q : Config → Type 0) (n : ℕ) (choices : List ℕ) (c e : Config) : Type 0 where
  pub reached : after n choices c ≡ Some e
  pub before : EachBefore P n choices c
  pub up_to : EachUpTo Q n choices c

module _ (P Q : Config → Type 0) where
  pub goes-first : (n : ℕ) (choices : List ℕ) (c e : Config) → Goes P Q (suc n) choices c e → P c
  goes-first n choices c e g = g.before 0 [] choices c (omega arith) refl refl

  pub goes-here : (n : ℕ) (choices : List ℕ) (c e : Config) → Goes P Q n choices c e → Q c
  goes-here n choices c e g = g.up_to 0 [] choices c (omega arith) refl refl

  pub goes-went : (n : ℕ) (choices : List ℕ) (c d e : Config) → step c ≡ went d → Goes P Q (suc n) choices c e → Goes P Q n choices d e
  goes-went n choices c d e now g = record {
    reached = sym (ap (λ o. and_then o c choices (after n)) now) ∙ g.reached;
    before = λ k own left x less split there. g.before (suc k) own left x (omega (arith, less)) split (ap (λ o. and_then o c own (after k)) now ∙ there);
    up_to = λ k own left x less split there. g.up_to (suc k) own left x (omega (arith, less)) split (ap (λ o. and_then o c own (after k)) now ∙ there);
  }

  pub goes-taken : (n q : ℕ) (choices : List ℕ) (c d e : Config) → step c ≡ takes → taking c q ≡ Some d → Goes P Q (suc n) (q ∷ choices) c e → Goes P Q n choices d e
  goes-taken n q choices c d e now to g = record {
    reached = sym (ap (λ o. and_then o c (q ∷ choices) (after n)) now ∙ ap (λ m. took m (after n choices)) to) ∙ g.reached;
    before = λ k own left x less split there. g.before (suc k) (q ∷ own) left x (omega (arith, less)) (ap (λ l. q ∷ l) split) (ap (λ o. and_then o c (q ∷ own) (after k)) now ∙ ap (λ m. took m (after k own)) to ∙ there);
    up_to = λ k own left x less split there. g.up_to (suc k) (q ∷ own) left x (omega (arith, less)) (ap (λ l. q ∷ l) split) (ap (λ o. and_then o c (q ∷ own) (after k)) now ∙ ap (λ m. took m (after k own)) to ∙ there);
  }

-- ---- a run of a sound design

module _ (design : Design) (script : List Command) where
  pub record IsReached (c : Config) : Type 0 where
    pub steps : ℕ
    pub choices : List ℕ
    pub reached : after steps choices (start design script) ≡ Some c

  pub reached-went : (c d : Config) → IsReached c → step c ≡ went d → IsReached d
  reached-went c d r now = record {
    steps = r.steps + 1;
    choices = r.choices ++ [];
    reached = joined r.steps 1 r.choices [] (start design script) c r.reached ∙ ap (λ o. and_then o c [] (after 0)) now;
  }

  pub reached-taken : (c d : Config) (q : ℕ) → IsReached c → step c ≡ takes → taking c q ≡ Some d → IsReached d
  reached-taken c d q r now to = record {
    steps = r.steps + 1;
    choices = r.choices ++ q ∷ [];
    reached = joined r.steps 1 r.choices (q ∷ []) (start design script) c r.reached ∙ ap (λ o. and_then o c (q ∷ []) (after 0)) now ∙ ap (λ m. took m (after 0 [])) to;
  }

  -- nobody stands on the stack twice
  pub few-on_stack : (c : Config) → IsReached c → (p : ℕ) → times p c.processes.stack ≤ 1
  few-on_stack c r p = let once = (clean-after design script r.steps r.choices c r.reached).once p in omega (arith, once)

  module _ (sound : SoundDesign design) (p : ℕ) (t : Tick) where
    pub unbegun : (x : Residual) → IsLeft x → has_goal x ≡ false → (a : _) (b : Bool) (r : Residual) → IsRooted b r → Shows x (settle a r) → b ≡ true
    unbegun x l none a true r rooted h = refl
    unbegun x l none a false skip rooted h = absurd (shows-left x skip h l)
    unbegun x l none a false (goal r k) rooted h = absurd (true≢false (shows-goal x (goal (settle a r) k) h none))
    unbegun x l none a false other rooted h = absurd rooted

    pub is-begun : (c : Config) → IsReached c → (old : _) (ct : ComesTo c p t entering old) → ct.instance.started ≡ true
    is-begun c r old ct =
        unbegun (left_at t entering) tt refl (arena c) ct.instance.started ct.instance.residual
        ((marked-after design script sound r.steps r.choices c r.reached).rooted p ct.instance ct.at) ct.inside.shows

    abbrev Ends : ℕ → List ℕ → Config → Config → Type 0
    Ends n choices c e = Goes (λ x. IsLeaving x p t → ⊥) (λ x. IsNotUnwound x p) n choices c e

    -- the tick of a configuration is that of the next
    tick-went : (c d : Config) → step c ≡ went d → HasTick (arena c) t → HasTick (arena d) t
    tick-went c d now has = subst (λ (z : Design). HasTick (arena_of z.code) t) (sym (design-went c.design c d (step-moves c d now) refl)) has

    tick-taken : (c d : Config) (q : ℕ) → step c ≡ takes → taking c q ≡ Some d → HasTick (arena c) t → HasTick (arena d) t
    tick-taken c d q now to has = subst (λ (z : Design). HasTick (arena_of z.code) t) (sym (design-taken c.design c d q (taking-moves c d q now to) refl)) has

    -- ---- where the thread is at each configuration between

    pub record Between (n : ℕ) (choices : List ℕ) (x e : Config) : Type 0 where
      pub takings : ℕ
      pub is_reached : IsReached x
      pub has : HasTick (arena x) t
      pub state : State p t x takings
      pub ends : Ends n choices x e

    pub between-taken : (n : ℕ) (q : ℕ) (choices : List ℕ) (c d e : Config) → step c ≡ takes → taking c q ≡ Some d → Between (suc n) (q ∷ choices) c e → Between n choices d e
    between-taken n q choices c d e now to b =
        let h = goes-taken (λ x. IsLeaving x p t → ⊥) (λ x. IsNotUnwound x p) n q choices c d e now to b.ends in
        let free = goes-here (λ x. IsLeaving x p t → ⊥) (λ x. IsNotUnwound x p) n choices d e h in
        let r = reached-taken c d q b.is_reached now to in
        let has' = tick-taken c d q now to b.has in
        ⊎_elim
        (λ same.
        let own = state-own_taken p t c b.has b.takings b.state now d (subst (λ k. taking c k ≡ Some d) (sym same) to) in
        record { takings = own.0; is_reached = r; has = has'; state = own.2; ends = h })
        (λ apart. record { takings = b.takings; is_reached = r; has = has'; state = state-taken p t c b.has b.takings b.state now q d to apart free; ends = h })
        (cases_eq p q)

    pub between-went : (n : ℕ) (choices : List ℕ) (c d e : Config) → step c ≡ went d → Between (suc n) choices c e → Between n choices d e
    between-went n choices c d e now b =
        let h = goes-went (λ x. IsLeaving x p t → ⊥) (λ x. IsNotUnwound x p) n choices c d e now b.ends in
        let free = goes-here (λ x. IsLeaving x p t → ⊥) (λ x. IsNotUnwound x p) n choices d e h in
        let first = goes-first (λ x. IsLeaving x p t → ⊥) (λ x. IsNotUnwound x p) n choices c e b.ends in
        record {
          takings = b.takings;
          is_reached = reached-went c d b.is_reached now;
          has = tick-went c d now b.has;
          state = state-went p t c b.has b.takings b.state first (few-on_stack c b.is_reached p) d now free;
          ends = h;
        }

    abbrev Reaches : ℕ → ℕ → List ℕ → Config → Config → Type 0
    Reaches k j left x e = (own : List ℕ) (c : Config) → Between (k + j) (own ++ left) c e → after k own c ≡ Some x → Between j left x e

    reach_taken : (k j : ℕ) (left : List ℕ) (x e : Config) → Reaches k j left x e → (c : Config) → step c ≡ takes → (q : ℕ) (own : List ℕ) → Between (suc (k + j)) (q ∷ (own ++ left)) c e
        → (o : Option Config) → taking c q ≡ o → took o (after k own) ≡ Some x → Between j left x e
    reach_taken k j left x e later c now q own b None to there = absurd (none-some x there)
    reach_taken k j left x e later c now q own b (Some d) to there = later own d (between-taken (k + j) q (own ++ left) c d e now to b) there

    reach_on : (k j : ℕ) (left : List ℕ) (x e : Config) → Reaches k j left x e → (own : List ℕ) (c : Config) → Between (suc (k + j)) (own ++ left) c e → (o : Outcome) → step c ≡ o → and_then o c own (after k) ≡ Some x → Between j left x e
    reach_on k j left x e later own c b (went d) now there = later own d (between-went (k + j) (own ++ left) c d e now b) there
    reach_on k j left x e later own c b (faulted f) now there = absurd (none-some x there)
    reach_on k j left x e later [] c b takes now there = absurd (none-some x there)
    reach_on k j left x e later (q ∷ own) c b takes now there = reach_taken k j left x e later c now q own b (taking c q) refl there
    reach_on k j left x e later own c b ended now there = absurd (none-some x there)

    pub reach : (k j : ℕ) (left : List ℕ) (x e : Config) → Reaches k j left x e
    reach zero j left x e [] c b there = subst (λ m. Between m left x e) (zero-add j) (subst (λ z. Between (zero + j) left z e) (same_Some c x there) b)
    reach zero j left x e (q ∷ own) c b there = absurd (none-some x there)
    reach (suc k) j left x e own c b there = reach_on k j left x e (reach k j left x e) own c (subst (λ m. Between m (own ++ left) c e) (suc-sum k j) b) (step c) refl there

    pub between-first : (c e : Config) → IsReached c → HasTick (arena c) t → (n : ℕ) (choices : List ℕ) → LeavesCounted c e p t n choices → Between n choices c e
    between-first c e r has n choices l = record {
      takings = t.edges;
      is_reached = r;
      has = has;
      state = comes entering l.old tt l.enters (is-begun c r l.old l.enters) refl;
      ends = record { reached = l.reached; before = l.not_before; up_to = l.not_unwound };
    }

    -- ---- takings, counted from the end

    abbrev Counts : ℕ → Config → Type 0
    Counts n e = (choices : List ℕ) (c : Config) (m : ℕ) → IsReached c → HasTick (arena c) t → State p t c m → Ends n choices c e → times p choices ≡ m

    count_taken : (n : ℕ) (e c : Config) → IsReached c → HasTick (arena c) t → (m : ℕ) → State p t c m → step c ≡ takes → Counts n e
        → (q : ℕ) (choices : List ℕ) → Ends (suc n) (q ∷ choices) c e → (o : Option Config) → taking c q ≡ o → took o (after n choices) ≡ Some e → times p (q ∷ choices) ≡ m
    count_taken n e c r has m s now later q choices g None to reached = absurd (none-some e reached)
    count_taken n e c r has m s now later q choices g (Some d) to reached =
        let h = goes-taken (λ x. IsLeaving x p t → ⊥) (λ x. IsNotUnwound x p) n q choices c d e now to g in
        let free = goes-here (λ x. IsLeaving x p t → ⊥) (λ x. IsNotUnwound x p) n choices d e h in
        let r' = reached-taken c d q r now to in
        let has' = tick-taken c d q now to has in
        ⊎_elim
        (λ same.
        let own = state-own_taken p t c has m s now d (subst (λ k. taking c k ≡ Some d) (sym same) to) in
        ap (λ k. times p (k ∷ choices)) (sym same) ∙ times-here p choices ∙ ap (λ k. 1 + k) (later choices d own.0 r' has' own.2 h) ∙ one_more own.0 ∙ sym own.1)
        (λ apart. times-other p q choices (λ same. apart (sym same)) ∙ later choices d m r' has' (state-taken p t c has m s now q d to apart free) h)
        (cases_eq p q)
      where
        one_more : (k : ℕ) → 1 + k ≡ suc k
        one_more k = omega arith

    count_on : (n : ℕ) (e c : Config) → IsReached c → HasTick (arena c) t → (m : ℕ) → State p t c m → Counts n e
        → (choices : List ℕ) → Ends (suc n) choices c e → (o : Outcome) → step c ≡ o → and_then o c choices (after n) ≡ Some e → times p choices ≡ m
    count_on n e c r has m s later choices g (went d) now reached =
        let h = goes-went (λ x. IsLeaving x p t → ⊥) (λ x. IsNotUnwound x p) n choices c d e now g in
        let free = goes-here (λ x. IsLeaving x p t → ⊥) (λ x. IsNotUnwound x p) n choices d e h in
        let first = goes-first (λ x. IsLeaving x p t → ⊥) (λ x. IsNotUnwound x p) n choices c e g in
        later choices d m (reached-went c d r now) (tick-went c d now has) (state-went p t c has m s first (few-on_stack c r p) d now free) h
    count_on n e c r has m s later choices g (faulted f) now reached = absurd (none-some e reached)
    count_on n e c r has m s later [] g takes now reached = absurd (none-some e reached)
    count_on n e c r has m s later (q ∷ choices) g takes now reached = count_taken n e c r has m s now later q choices g (taking c q) refl reached
    count_on n e c r has m s later choices g ended now reached = absurd (none-some e reached)

    counts : (n : ℕ) (e : Config) → IsLeaving e p t → Counts n e
    counts zero e leaves [] c m r has s g =
        let same = same_Some c e g.reached in
        sym (left-none p t c has (subst (λ z. IsLeaving z p t) (sym same) leaves) m s)
    counts zero e leaves (q ∷ choices) c m r has s g = absurd (none-some e g.reached)
    counts (suc n) e leaves choices c m r has s g = count_on n e c r has m s (counts n e leaves) choices g (step c) refl g.reached

    pub takings-counted : (c e : Config) → IsReached c → HasTick (arena c) t → (n : ℕ) (choices : List ℕ) → LeavesCounted c e p t n choices → times p choices ≡ t.edges
    takings-counted c e r has n choices l =
        counts n e l.leaves choices c t.edges r has (comes entering l.old tt l.enters (is-begun c r l.old l.enters) refl)
        (record { reached = l.reached; before = l.not_before; up_to = l.not_unwound })
