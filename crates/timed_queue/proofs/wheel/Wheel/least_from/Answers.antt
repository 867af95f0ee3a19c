use Rattle.std.proofs.Common.{◌≡◌, ◌≢◌, ◌+◌, ℕ, Option, Some, None, IfNone, IfSome, refl, sym, subst, ⊎_elim, arith}
use Rattle.std.proofs.lemmas.Bool.{cases_eq}
use Rattle.timed_queue.specs.Nodes.{next_of}
use Rattle.timed_queue.proofs.WalkLaws.{IsWalk, walk_begins, walk_goes_on, walk_none, walk_some, steps-lt}
use Rattle.timed_queue.proofs.wheel.Wheel.least_from.Goals as goal

none_clause : (o : Option ℕ) (A : Type 0) → (o ≡ None → A) → IfNone o A
none_clause None A f = f refl
none_clause (Some b) A f = tt

some_clause : (o : Option ℕ) (P : ℕ → Type 0) → ((b : ℕ) → o ≡ Some b → P b) → IfSome o P
some_clause None P f = tt
some_clause (Some b) P f = f b refl

pub next_of-at-requires : goal.next_of-at-requires
next_of-at-requires c = c.requires.within

pub walking-init : goal.walking-init
walking-init c =
    let ns = c.args.self.now.nodes.items in
    subst (λ (k : ℕ). IsWalk ns c.args.place c.args.t 0 k None) (sym c.next_of-at.ensures)
    (walk_begins ns c.requires.sound.up c.args.place c.args.t c.requires.sound.rings c.requires.low c.requires.within)

pub returns-then-at-place-clause-none : goal.returns-then-at-place-clause-none
returns-then-at-place-clause-none c =
    none_clause c.walking.least _ (walk_none c.args.self.now.nodes.items c.args.place c.args.t c.walking.step c.walking.at c.walking.least c.walking.invariant c.if-at-place.true)

pub returns-then-at-place-clause-some : goal.returns-then-at-place-clause-some
returns-then-at-place-clause-some c =
    some_clause c.walking.least _ (walk_some c.args.self.now.nodes.items c.args.place c.args.t c.walking.step c.walking.at c.walking.least c.walking.invariant c.if-at-place.true)

pub walking-preserved : goal.walking-preserved
walking-preserved c =
    let ns = c.args.self.now.nodes.items in
    subst (λ (k : ℕ). IsWalk ns c.args.place c.args.t (c.walking.step + 1) k c.nearer-least.result) (sym c.next_of-at-in-walking.ensures)
    (subst (λ (o : Option ℕ). IsWalk ns c.args.place c.args.t (c.walking.step + 1) (next_of ns c.walking.at) o) (sym c.nearer-least.ensures)
    (walk_goes_on ns c.args.place c.args.t c.walking.step c.walking.at c.walking.least c.walking.invariant c.if-at-place.false))

pub returns-clause-none : goal.returns-clause-none
returns-clause-none c =
    let ns = c.args.self.now.nodes.items in
    let home : c.walking.at ≡ c.args.place = ⊎_elim (λ (e : c.walking.at ≡ c.args.place). e)
    (λ (apart : c.walking.at ≢ c.args.place). let more = steps-lt ns c.args.place c.args.t c.walking.step c.walking.at c.walking.least c.walking.invariant apart in absurd (omega (arith, more)))
    (cases_eq c.walking.at c.args.place) in
    none_clause c.walking.least _ (walk_none ns c.args.place c.args.t c.walking.step c.walking.at c.walking.least c.walking.invariant home)

pub returns-clause-some : goal.returns-clause-some
returns-clause-some c =
    let ns = c.args.self.now.nodes.items in
    let home : c.walking.at ≡ c.args.place = ⊎_elim (λ (e : c.walking.at ≡ c.args.place). e)
    (λ (apart : c.walking.at ≢ c.args.place). let more = steps-lt ns c.args.place c.args.t c.walking.step c.walking.at c.walking.least c.walking.invariant apart in absurd (omega (arith, more)))
    (cases_eq c.walking.at c.args.place) in
    some_clause c.walking.least _ (walk_some ns c.args.place c.args.t c.walking.step c.walking.at c.walking.least c.walking.invariant home)
