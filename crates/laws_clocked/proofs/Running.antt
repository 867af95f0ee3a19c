-- A clocked thread of a tree and its ticks, which a design has in its code, at each configuration of a run of the design.
use Rattle.std.proofs.Common.{◌≡◌, ℕ, zero, suc, true, List, [], ◌∷◌, ◌++◌, Contains, Some, None, refl, sym, ap, ◌∙◌, subst, arith}
use Rattle.std.specs.List.{AllZip}
use Rattle.std.proofs.lemmas.Option.{same_Some}
use Rattle.code_rules.specs.ModelTree.Tree as tree
use Rattle.code_rules.specs.ModelTree.declared.expressions.BinaryOp.TheVariants as op
use Rattle.code_rules.specs.LogicValues.declared.kinds.Value.TheVariants as value
use Rattle.code_rules.specs.FlatDesign.Code as code
use Rattle.code_rules.specs.FlatDesign.Code.{Arena, Statement, arena_of, block_at, body_at, statement_at}
use Rattle.code_rules.specs.FlatDesign.Reach.{Inside, itself, deeper, inner_blocks}
use Rattle.code_rules.specs.FlatDesign.declared.code.BodyKind.TheVariants as body_kind
use Rattle.code_rules.specs.FlatDesign.declared.code.CodeBody.{CodeBody}
use Rattle.code_rules.specs.FlatDesign.declared.names.NameUse.TheVariants as name_use
use Rattle.code_rules.specs.FlatDesign.declared.value_types.ValueType.TheVariants as type
use Rattle.code_rules.specs.ModelRules.Scopes.{Scope, item_scope}
use Rattle.expanded_text.specs.Clocked.{Reset, Tick}
use Rattle.laws_runs.specs.FlatDesign.Sound.{SoundDesign}
use Rattle.laws_runs.specs.FlatDesign.declared.design.Design.{Design}
use Rattle.laws_runs.specs.SimModel.Configuration.{Config, arena, start}
use Rattle.laws_runs.specs.SimModel.Runs.{after}
use Rattle.laws_runs.specs.SimModel.declared.plain.Command.{Command}
use Rattle.laws_clocked.specs.Ticks as coded
use Rattle.laws_clocked.specs.Ticks.{Test, HasTick, IsInNoFunction, count_of}
use Rattle.laws_clocked.specs.Clocked.{HasClocked, UncaughtIn}
use Rattle.laws_clocked.proofs.SameDesign.{design-after}
use Rattle.laws_clocked.proofs.Ticking.{takings-counted}
use Rattle.laws_clocked.proofs.Levels.{levels-at}
use Rattle.laws_clocked.proofs.Waking.{follows-at}
use Rattle.laws_clocked.proofs.Counts.{counted-leaves}
use Rattle.laws_clocked.proofs.BegunByCode.{begins-at_level}
use Rattle.laws_code.specs.OwnBlocks.{HaveOwnBlocks}
use Rattle.laws_clocked.specs.Coded.{IsTestOf, IsTickOf, HasThread}
use Rattle.laws_clocked.specs.Runs.{KeepsTick}

zip_mapped : {A B : Type 0} (R S : A → B → Type 0) → ((x : A) (y : B) → R x y → S x y) → (xs : List A) (ys : List B) → AllZip R xs ys → AllZip S xs ys
zip_mapped R S each [] [] h = tt
zip_mapped R S each [] (y ∷ ys) h = absurd h
zip_mapped R S each (x ∷ xs) [] h = absurd h
zip_mapped R S each (x ∷ xs) (y ∷ ys) h = (each x y h.0, zip_mapped R S each xs ys h.1)

head_is : (x y : Test) (xs ys : List Test) → x ∷ xs ≡ y ∷ ys → x ≡ y
head_is x y xs ys is = cc

tail_is : (x y : Test) (xs ys : List Test) → x ∷ xs ≡ y ∷ ys → xs ≡ ys
tail_is x y xs ys is = cc

-- each test throws the exception
thrown : (s : Scope) (e : ℕ) (rs : List Reset) (xs : List Test) → AllZip (IsTestOf s e) rs xs → (before : List Test) (y : Test) (behind : List Test) → xs ≡ before ++ y ∷ behind → y.exception ≡ e
thrown s e [] [] h [] y behind is = absurd cc
thrown s e [] [] h (z ∷ before) y behind is = absurd cc
thrown s e [] (x ∷ xs) h before y behind is = absurd h
thrown s e (r ∷ rs) [] h before y behind is = absurd h
thrown s e (r ∷ rs) (x ∷ xs) h [] y behind is = subst (λ (z : Test). z.exception ≡ e) (head_is x y xs behind is) h.0.throws
thrown s e (r ∷ rs) (x ∷ xs) h (z ∷ before) y behind is = thrown s e rs xs h.1 before y behind (tail_is x z xs (before ++ y ∷ behind) is)

-- a block inside a block that is inside a block
inside_inside : (a : Arena) (b k n : ℕ) → Inside a k n → Inside a b k → Inside a b n
inside_inside a b k _ (itself _) x = x
inside_inside a b k n (deeper _ m _ s y is c) x = deeper b m n s (inside_inside a b k m y x) is c

thread_apart : body_kind.Thread ≡ body_kind.Function → ⊥
thread_apart is = cc

module _ (design : Design) (script : List Command) (sound : SoundDesign design) (apart : HaveOwnBlocks design.code) (m : tree.Model) (items : List tree.Item) (place n : ℕ) (p : tree.ProcessItem) (block : tree.Block) (ts : List Tick) (h : HasThread m items place n p block ts design.code) where
  abbrev IsOne : Tick → coded.Tick → Type 0
  IsOne = IsTickOf (arena_of design.code) h.exception (item_scope m.modules items p.name) p.body h.around.inside

  abbrev a : Arena
  a = arena_of design.code

  abbrev body : CodeBody
  body = h.has.body

  -- a block of a statement of a block of the thread's body
  next_inside : (k n j : ℕ) (s : Statement) → Inside a body.block k → Contains (block_at a k) n → statement_at a n ≡ Some s → Contains (inner_blocks s) j → Inside a body.block j
  next_inside k n j s inside listed found inner = deeper body.block k j s inside (record { number = n; listed_there = listed; found = found }) inner

  -- the round of a tick stands in the thread's body
  round_inside : (t : Tick) (u : coded.Tick) → IsOne t u → Inside a body.block u.round
  round_inside t u is =
      let b = h.around in
      let has = h.has in
      let round = next_inside body.block b.loops b.round (code.while_ (code.name (name_use.Local b.again)) b.round) (itself body.block)
      (subst (λ (ss : List ℕ). Contains ss b.loops) (sym has.begins) (suc zero, omega arith, refl)) has.around.loops (zero, omega arith, refl) in
      let inside = next_inside b.round b.tries b.inside (code.try_ b.inside b.handlers) round
      (subst (λ (ss : List ℕ). Contains ss b.tries) (sym has.around.round) (zero, omega arith, refl)) has.around.tries (zero, omega arith, refl) in
      let within = next_inside is.stands.block u.whole u.inside (code.if_ (code.literal (value.Bool true)) u.inside None) (inside_inside a body.block b.inside is.stands.block is.stands.inside inside)
      is.stands.listed is.has.whole (zero, omega arith, refl) in
      next_inside u.inside u.loops u.round (code.while_ (code.binary op.Greater (type.Uint is.has.zero_width) (count_of u) (code.literal is.has.zero)) u.round) within
      (subst (λ (ss : List ℕ). Contains ss u.loops) (sym is.has.inside) (suc zero, omega arith, refl)) is.has.loops (zero, omega arith, refl)

  -- and so in the body of no function
  in_no_function : (t : Tick) (u : coded.Tick) → IsOne t u → IsInNoFunction a u
  in_no_function t u is f b found function inside =
      let one_body : h.function ≡ f = apart h.function f body b u.round h.has.found found (round_inside t u is) inside in
      let same_body : body ≡ b = same_Some body b (sym h.has.found ∙ ap (body_at a) one_body ∙ found) in
      thread_apart (sym h.kind ∙ ap (λ (x : CodeBody). x.kind) same_body ∙ function)

  module _ (steps : ℕ) (chosen : List ℕ) (c : Config) (reached : after steps chosen (start design script) ≡ Some c) where
    same : c.design ≡ design
    same = design-after design script steps chosen c reached

    tick_there : (t : Tick) (u : coded.Tick) → IsOne t u → HasTick (arena c) u
    tick_there t u is = subst (λ (d : Design). HasTick (arena_of d.code) u) (sym same) is.has

    clocked_there : (e f : ℕ) → e ≡ h.exception → f ≡ h.function → HasClocked (arena c) h.around e f
    clocked_there e f thrown_is body_is =
        subst (λ (d : Design). HasClocked (arena_of d.code) h.around e f) (sym same)
        (subst (λ j. HasClocked (arena_of design.code) h.around j f) (sym thrown_is) (subst (λ j. HasClocked (arena_of design.code) h.around h.exception j) (sym body_is) h.has))

    in_none_there : (t : Tick) (u : coded.Tick) → IsOne t u → IsInNoFunction (arena c) u
    in_none_there t u is = subst (λ (d : Design). IsInNoFunction (arena_of d.code) u) (sym same) (in_no_function t u is)

    uncaught_there : (e : ℕ) → e ≡ h.exception → UncaughtIn (arena c) h.around e
    uncaught_there e thrown_is =
        subst (λ (d : Design). UncaughtIn (arena_of d.code) h.around e) (sym same) (subst (λ j. UncaughtIn (arena_of design.code) h.around j) (sym thrown_is) h.uncaught)

  keeps : (t : Tick) (u : coded.Tick) → IsOne t u → KeepsTick design script h.around h.function t u
  keeps t u is = record {
    counted = λ steps chosen c reached q k choices e leaves.
        let has = tick_there steps chosen c reached t u is in
        takings-counted design script sound q u c e (record { steps = steps; choices = chosen; reached = reached }) has k choices (counted-leaves design script sound steps chosen c reached q u has k choices e leaves)
        ∙ is.edges;
    levels = λ steps chosen c reached q k choices e leaves j own left x less split there now.
        let has = tick_there steps chosen c reached t u is in
        levels-at design script sound q u c e (record { steps = steps; choices = chosen; reached = reached }) has k choices (counted-leaves design script sound steps chosen c reached q u has k choices e leaves) j own left x less split there now;
    follows = λ steps chosen c reached q k choices e leaves j own left x less split there now.
        let has = tick_there steps chosen c reached t u is in
        follows-at design script sound q u c e (record { steps = steps; choices = chosen; reached = reached }) has k choices (counted-leaves design script sound steps chosen c reached q u has k choices e leaves) j own left x less split there now;
    begins = λ steps chosen c reached q w now d to before y behind split none level f r body_is left.
        let thrown_is = thrown is.scope h.exception t.resets u.tests is.tests before y behind split in
        begins-at_level design script sound steps chosen c reached q u (tick_there steps chosen c reached t u is) (in_none_there steps chosen c reached t u is) w now d to before y behind split none level h.around f r
        (clocked_there steps chosen c reached y.exception f.body thrown_is body_is) (uncaught_there steps chosen c reached y.exception thrown_is) left;
  }

  pub each-keeps : AllZip (KeepsTick design script h.around h.function) ts h.coded_ticks
  each-keeps = zip_mapped IsOne (KeepsTick design script h.around h.function) keeps ts h.coded_ticks h.has_ticks
