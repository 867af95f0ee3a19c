-- A tree that keeps the limits keeps them with its times written otherwise, where each number that is written may be one.
use Rattle.std.proofs.Common.{◌≡◌, ℕ, zero, suc, ◌+◌, max, Bool, true, ◌&&◌, nat_le, List, [], ◌∷◌, map, Option, Some, None, refl, ap, ap₂}
use Rattle.std.proofs.lemmas.Bool.{and_parts, and_from}
use Rattle.model_tree.specs.Tree as tree
use Rattle.model_tree.specs.Parts as part
use Rattle.model_tree.specs.Parts.{Part, changed_part}
use Rattle.model_tree.proofs.Parts.{changed_linked}
use Rattle.tick_trees.specs.Retimed as retimed
use Rattle.tick_trees.specs.Retimed.{span}
use Rattle.model_tree.specs.Leaves.{is_name}
use Rattle.model_tree.specs.Limits.{is_number, is_formed, token_count, depth, level, operand_level, primary_level, chain_level, token_limit, bracket_limit, fits, fits_option, fits_all, within, fits_place, fits_channel, option_name, fits_event, fits_events, is_some_of, fits_waiting, fits_notification, fits_index, fits_target, fits_operation, fits_spawn, fits_part, fits_action, fits_type, fits_var_type, fits_constant_form, fits_constant, fits_span, fits_parameters, fits_answer, fits_statement, fits_block, fits_else, fits_handlers, has_handler, fits_item, fits_items, fits_modules, is_sound}
use Rattle.model_tree.specs.declared.types.Constant.{Constant}
use Rattle.model_tree.specs.declared.types.ConstantForm.{ConstantForm}
use Rattle.model_tree.specs.declared.types.ConstantForm.TheVariants as constant
use Rattle.model_tree.specs.declared.types.Span.{Span}

-- the second passes where the first does
abbrev pub Passes : Bool → Bool → Type 0
Passes a b = a ≡ true → b ≡ true

same : (a : Bool) → Passes a a
same a h = h

both : (a x b y : Bool) → Passes a x → Passes b y → Passes (a && b) (x && y)
both a x b y f g h = let parts = and_parts a b h in and_from x y (f parts.0) (g parts.1)

-- with a test in front, or behind
behind : (a b y : Bool) → Passes b y → Passes (a && b) (a && y)
behind a b y g = both a a b y (same a) g

before : (a x b : Bool) → Passes a x → Passes (a && b) (x && b)
before a x b f = both a x b b f (same b)

-- a number in its place
above : (a b : ℕ) (most : ℕ) → b ≡ a → Passes (nat_le a most) (nat_le b most)
above a b most e h = rw e h

inside : (n : ℕ) (test other : ℕ → Bool) → ((m : ℕ) → Passes (test m) (other m)) → Passes (within n test) (within n other)
inside zero test other f h = h
inside (suc n) test other f h = f n h

module _ (f : Span → Span) (small : (s : Span) → is_number (f s).count ≡ true) where
  abbrev new : tree.Expression → tree.Expression
  new e = retimed.expression f e

  formed : (e : tree.Expression) (at : ℕ) → Passes (is_formed e at) (is_formed (new e) at)
  formed (tree.number line n) at h = h
  formed (tree.time line n unit) at h = and_from (nat_le at primary_level) _ (and_parts (nat_le at primary_level) (is_number n) h).0 (small (span n unit))
  formed (tree.logic line digits) at h = h
  formed (tree.truth line b) at h = h
  formed (tree.now line) at h = h
  formed (tree.myself line) at h = h
  formed (tree.constant line word) at h = h
  formed (tree.paren line e) at h = behind (nat_le at primary_level) (is_formed e 0) (is_formed (new e) 0) (formed e 0) h
  formed (tree.convert line c e) at h = behind (nat_le at primary_level) (is_formed e 0) (is_formed (new e) 0) (formed e 0) h
  formed (tree.to_vector line width e) at h =
      behind (nat_le at primary_level) (is_number width && is_formed e 0) (is_number width && is_formed (new e) 0) (behind (is_number width) (is_formed e 0) (is_formed (new e) 0) (formed e 0)) h
  formed (tree.concat line upper lower) at h =
      behind (nat_le at primary_level) (is_formed upper 0 && is_formed lower 0) (is_formed (new upper) 0 && is_formed (new lower) 0) (both (is_formed upper 0) (is_formed (new upper) 0) (is_formed lower 0) (is_formed (new lower) 0) (formed upper 0) (formed lower 0)) h
  formed (tree.named line name) at h = h
  formed (tree.placed line name n) at h = h
  formed (tree.placed_by line name e) at h = behind (is_name name) (is_formed e 0) (is_formed (new e) 0) (formed e 0) h
  formed (tree.member e name) at h = before (is_formed e chain_level) (is_formed (new e) chain_level) (is_name name) (formed e chain_level) h
  formed (tree.element e index) at h =
      both (is_formed e chain_level) (is_formed (new e) chain_level) (is_formed index 0) (is_formed (new index) 0) (formed e chain_level) (formed index 0) h
  formed (tree.slice e high low) at h = before (is_formed e chain_level) (is_formed (new e) chain_level) (is_number high && is_number low) (formed e chain_level) h
  formed (tree.unary line o e) at h = behind (nat_le at operand_level) (is_formed e primary_level) (is_formed (new e) primary_level) (formed e primary_level) h
  formed (tree.binary o left right) at h =
      behind (nat_le at (level o)) (is_formed left (level o) && is_formed right (suc (level o))) (is_formed (new left) (level o) && is_formed (new right) (suc (level o)))
      (both (is_formed left (level o)) (is_formed (new left) (level o)) (is_formed right (suc (level o))) (is_formed (new right) (suc (level o))) (formed left (level o)) (formed right (suc (level o)))) h

  counted : (e : tree.Expression) → token_count (new e) ≡ token_count e
  counted (tree.number line n) = refl
  counted (tree.time line n unit) = refl
  counted (tree.logic line digits) = refl
  counted (tree.truth line b) = refl
  counted (tree.now line) = refl
  counted (tree.myself line) = refl
  counted (tree.constant line word) = refl
  counted (tree.paren line e) = ap (λ n. n + 2) (counted e)
  counted (tree.convert line c e) = ap (λ n. n + 3) (counted e)
  counted (tree.to_vector line width e) = ap (λ n. n + 6) (counted e)
  counted (tree.concat line upper lower) = ap₂ (λ m n. m + n + 4) (counted upper) (counted lower)
  counted (tree.named line name) = refl
  counted (tree.placed line name n) = refl
  counted (tree.placed_by line name e) = ap (λ n. n + 4) (counted e)
  counted (tree.member e name) = ap (λ n. n + 2) (counted e)
  counted (tree.element e index) = ap₂ (λ m n. m + n + 2) (counted e) (counted index)
  counted (tree.slice e high low) = ap (λ n. n + 5) (counted e)
  counted (tree.unary line o e) = ap (λ n. n + 1) (counted e)
  counted (tree.binary o left right) = ap₂ (λ m n. m + n + 1) (counted left) (counted right)

  deep : (e : tree.Expression) → depth (new e) ≡ depth e
  deep (tree.number line n) = refl
  deep (tree.time line n unit) = refl
  deep (tree.logic line digits) = refl
  deep (tree.truth line b) = refl
  deep (tree.now line) = refl
  deep (tree.myself line) = refl
  deep (tree.constant line word) = refl
  deep (tree.paren line e) = ap suc (deep e)
  deep (tree.convert line c e) = ap suc (deep e)
  deep (tree.to_vector line width e) = ap suc (deep e)
  deep (tree.concat line upper lower) = ap₂ (λ m n. suc (max m n)) (deep upper) (deep lower)
  deep (tree.named line name) = refl
  deep (tree.placed line name n) = refl
  deep (tree.placed_by line name e) = ap suc (deep e)
  deep (tree.member e name) = deep e
  deep (tree.element e index) = ap₂ (λ m n. max m (suc n)) (deep e) (deep index)
  deep (tree.slice e high low) = ap (λ m. max m 1) (deep e)
  deep (tree.unary line o e) = deep e
  deep (tree.binary o left right) = ap₂ (λ m n. max m n) (deep left) (deep right)

  fit : (n : ℕ) (e : tree.Expression) → Passes (fits n e) (fits n (new e))
  fit n e =
      both (is_formed e 0 && nat_le (token_count e) token_limit) (is_formed (new e) 0 && nat_le (token_count (new e)) token_limit) (nat_le (depth e) n) (nat_le (depth (new e)) n)
      (both (is_formed e 0) (is_formed (new e) 0) (nat_le (token_count e) token_limit) (nat_le (token_count (new e)) token_limit) (formed e 0) (above (token_count e) (token_count (new e)) token_limit (counted e)))
      (above (depth e) (depth (new e)) n (deep e))

  fit_option : (n : ℕ) (e : Option tree.Expression) → Passes (fits_option n e) (fits_option n (retimed.option new e))
  fit_option n None h = h
  fit_option n (Some e) h = fit n e h

  fit_all : (n : ℕ) (es : List tree.Expression) → Passes (fits_all n es) (fits_all n (map new es))
  fit_all n [] h = h
  fit_all n (e ∷ es) h = both (fits n e) (fits n (new e)) (fits_all n es) (fits_all n (map new es)) (fit n e) (fit_all n es) h

  fit_place : (n : ℕ) (p : tree.Place) → Passes (fits_place n p) (fits_place n (retimed.place f p))
  fit_place n tree.first h = h
  fit_place n (tree.place_number at) h = h
  fit_place n (tree.computed e) h = inside n (λ m. fits m e) (λ m. fits m (new e)) (λ m. fit m e) h

  fit_channel : (n : ℕ) (c : tree.Channel) → Passes (fits_channel n c) (fits_channel n (retimed.channel f c))
  fit_channel n c = behind (is_name c.name) (fits_place n c.place) (fits_place n (retimed.place f c.place)) (fit_place n c.place)

  fit_event : (n : ℕ) (e : tree.Event) → Passes (fits_event n e) (fits_event n (retimed.event f e))
  fit_event n e = before (fits_channel n e.channel) (fits_channel n (retimed.channel f e.channel)) (option_name e.member) (fit_channel n e.channel)

  fit_events : (n : ℕ) (es : List tree.Event) → Passes (fits_events n es) (fits_events n (map (retimed.event f) es))
  fit_events n [] h = h
  fit_events n (e ∷ es) h =
      both (fits_event n e) (fits_event n (retimed.event f e)) (fits_events n es) (fits_events n (map (retimed.event f) es)) (fit_event n e) (fit_events n es) h

  some_events : (es : List tree.Event) → Passes (is_some_of es) (is_some_of (map (retimed.event f) es))
  some_events [] h = h
  some_events (e ∷ es) h = h

  -- events that are waited for, with a time-out
  fit_listed : (n : ℕ) (es : List tree.Event) (t : Option tree.Expression)
      → Passes (is_some_of es && (fits_events n es && fits_option n t)) (is_some_of (map (retimed.event f) es) && (fits_events n (map (retimed.event f) es) && fits_option n (retimed.option new t)))
  fit_listed n es t =
      both (is_some_of es) (is_some_of (map (retimed.event f) es)) (fits_events n es && fits_option n t) (fits_events n (map (retimed.event f) es) && fits_option n (retimed.option new t)) (some_events es)
      (both (fits_events n es) (fits_events n (map (retimed.event f) es)) (fits_option n t) (fits_option n (retimed.option new t)) (fit_events n es) (fit_option n t))

  fit_waiting : (n : ℕ) (w : tree.Waiting) → Passes (fits_waiting n w) (fits_waiting n (retimed.waiting f w))
  fit_waiting n tree.static h = h
  fit_waiting n tree.delta h = h
  fit_waiting n (tree.for_ e) h = fit n e h
  fit_waiting n (tree.one e t) h =
      both (fits_event n e) (fits_event n (retimed.event f e)) (fits_option n t) (fits_option n (retimed.option new t)) (fit_event n e) (fit_option n t) h
  fit_waiting n (tree.any es t) h = fit_listed n es t h
  fit_waiting n (tree.all es t) h = fit_listed n es t h

  fit_notification : (n : ℕ) (x : tree.Notification) → Passes (fits_notification n x) (fits_notification n (retimed.notification f x))
  fit_notification n tree.immediate h = h
  fit_notification n tree.next_delta h = h
  fit_notification n (tree.after e) h = fit n e h

  fit_index : (n : ℕ) (e : Option tree.Expression) → Passes (fits_index n e) (fits_index n (retimed.option new e))
  fit_index n None h = h
  fit_index n (Some e) h = inside n (λ m. fits m e) (λ m. fits m (new e)) (λ m. fit m e) h

  fit_target : (n : ℕ) (t : tree.Target) → Passes (fits_target n t) (fits_target n (retimed.target f t))
  fit_target n t = behind (is_name t.name && option_name t.member) (fits_index n t.index) (fits_index n (retimed.option new t.index)) (fit_index n t.index)

  fit_arguments : (n : ℕ) (es : List tree.Expression) → Passes (within n (λ m. fits_all m es)) (within n (λ m. fits_all m (map new es)))
  fit_arguments n es = inside n (λ m. fits_all m es) (λ m. fits_all m (map new es)) (λ m. fit_all m es)

  fit_operation : (n : ℕ) (o : tree.Operation) → Passes (fits_operation n o) (fits_operation n (retimed.operation f o))
  fit_operation n (tree.call name es) h = behind (is_name name) (within n (λ m. fits_all m es)) (within n (λ m. fits_all m (map new es))) (fit_arguments n es) h
  fit_operation n (tree.read c) h = fit_channel n c h
  fit_operation n (tree.nb_read c name) h = before (fits_channel n c) (fits_channel n (retimed.channel f c)) (is_name name) (fit_channel n c) h
  fit_operation n (tree.nb_write c e) h = both (fits_channel n c) (fits_channel n (retimed.channel f c)) (fits n e) (fits n (new e)) (fit_channel n c) (fit n e) h
  fit_operation n (tree.trylock c) h = fit_channel n c h
  fit_operation n (tree.unlock c) h = fit_channel n c h
  fit_operation n (tree.sem_trywait c) h = fit_channel n c h
  fit_operation n (tree.nb_transport s p phase t) h = h

  fit_spawn : (n : ℕ) (s : tree.Spawn) → Passes (fits_spawn n s) (fits_spawn n (retimed.spawn f s))
  fit_spawn n s =
      behind (option_name s.handle && is_name s.function) (within n (λ m. fits_all m s.arguments) && fits_events n s.sensitive) (within n (λ m. fits_all m (map new s.arguments)) && fits_events n (map (retimed.event f) s.sensitive))
      (both (within n (λ m. fits_all m s.arguments)) (within n (λ m. fits_all m (map new s.arguments))) (fits_events n s.sensitive) (fits_events n (map (retimed.event f) s.sensitive)) (fit_arguments n s.arguments) (fit_events n s.sensitive))

  fit_part : (n : ℕ) (p : Part) → Passes (fits_part n p) (fits_part n (changed_part (retimed.change f) p))
  fit_part n (part.name r x) h = h
  fit_part n (part.next_name r x) h = h
  fit_part n (part.reaching_name r x all) h = h
  fit_part n (part.text x) h = h
  fit_part n (part.term u e) h = fit n e h
  fit_part n (part.term_if u e) h = fit_option n e h
  fit_part n (part.next_term u e) h = fit n e h
  fit_part n (part.next_term_if u e) h = fit_option n e h
  fit_part n (part.channel u c) h = fit_channel n c h
  fit_part n (part.waiting w) h = fit_waiting n w h
  fit_part n (part.notification t) h = fit_notification n t h
  fit_part n (part.instance s) h = fit_spawn n s h
  fit_part n (part.process w) h = h
  fit_part n (part.reaching_process w all) h = h

  fit_action : (n : ℕ) (a : tree.Action) → Passes (fits_action n a) (fits_action n (retimed.action f a))
  fit_action n a = changed_linked (retimed.change f) (λ x u. Passes u x) (fits_part n) (fits_part n) (λ x y. x && y) (λ x y. x && y) true true (λ x y u v g h. both u x v y g h) (fit_part n) (same true) a

  some_handler : (hs : tree.Handlers) → Passes (has_handler hs) (has_handler (retimed.handlers_ f hs))
  some_handler tree.no_more h = h
  some_handler (tree.handler name body more) h = h

  mutual
    fit_statement : (s : tree.Statement) (n : ℕ) → Passes (fits_statement s n) (fits_statement (retimed.statement f s) n)
    fit_statement (tree.var line t name e) n h =
        behind (fits_var_type t) (is_name name && fits_option n e) (is_name name && fits_option n (retimed.option new e)) (behind (is_name name) (fits_option n e) (fits_option n (retimed.option new e)) (fit_option n e)) h
    fit_statement (tree.assign line t e) n h = both (fits_target n t) (fits_target n (retimed.target f t)) (fits n e) (fits n (new e)) (fit_target n t) (fit n e) h
    fit_statement (tree.operate line name at o) n h = behind (option_name name) (fits_operation n o) (fits_operation n (retimed.operation f o)) (fit_operation n o) h
    fit_statement (tree.act line a) n h = fit_action n a h
    fit_statement (tree.if_ line e body other) n h =
        both (fits n e) (fits n (new e)) (within n (fits_block body) && fits_else other n) (within n (fits_block (retimed.block f body)) && fits_else (retimed.else_ f other) n) (fit n e)
        (both (within n (fits_block body)) (within n (fits_block (retimed.block f body))) (fits_else other n) (fits_else (retimed.else_ f other) n) (inside n (fits_block body) (fits_block (retimed.block f body)) (λ m. fit_block body m)) (fit_else other n)) h
    fit_statement (tree.while_ line e body) n h =
        both (fits n e) (fits n (new e)) (within n (fits_block body)) (within n (fits_block (retimed.block f body))) (fit n e) (inside n (fits_block body) (fits_block (retimed.block f body)) (λ m. fit_block body m)) h
    fit_statement (tree.guard line body undo) n h =
        both (within n (fits_block body)) (within n (fits_block (retimed.block f body))) (within n (fits_block undo)) (within n (fits_block (retimed.block f undo))) (inside n (fits_block body) (fits_block (retimed.block f body)) (λ m. fit_block body m)) (inside n (fits_block undo) (fits_block (retimed.block f undo)) (λ m. fit_block undo m)) h
    fit_statement (tree.try_ line body hs) n h =
        both (within n (fits_block body)) (within n (fits_block (retimed.block f body))) (has_handler hs && fits_handlers hs n) (has_handler (retimed.handlers_ f hs) && fits_handlers (retimed.handlers_ f hs) n) (inside n (fits_block body) (fits_block (retimed.block f body)) (λ m. fit_block body m))
        (both (has_handler hs) (has_handler (retimed.handlers_ f hs)) (fits_handlers hs n) (fits_handlers (retimed.handlers_ f hs) n) (some_handler hs) (fit_handlers hs n)) h

    fit_block : (ss : tree.Block) (n : ℕ) → Passes (fits_block ss n) (fits_block (retimed.block f ss) n)
    fit_block tree.over n h = h
    fit_block (tree.then s ss) n h =
        both (fits_statement s n) (fits_statement (retimed.statement f s) n) (fits_block ss n) (fits_block (retimed.block f ss) n) (fit_statement s n) (fit_block ss n) h

    fit_else : (other : tree.Else) (n : ℕ) → Passes (fits_else other n) (fits_else (retimed.else_ f other) n)
    fit_else tree.no_else n h = h
    fit_else (tree.else_block body) n h = inside n (fits_block body) (fits_block (retimed.block f body)) (λ m. fit_block body m) h

    fit_handlers : (hs : tree.Handlers) (n : ℕ) → Passes (fits_handlers hs n) (fits_handlers (retimed.handlers_ f hs) n)
    fit_handlers tree.no_more n h = h
    fit_handlers (tree.handler name body more) n h =
        behind (is_name name) (within n (fits_block body) && fits_handlers more n) (within n (fits_block (retimed.block f body)) && fits_handlers (retimed.handlers_ f more) n)
        (both (within n (fits_block body)) (within n (fits_block (retimed.block f body))) (fits_handlers more n) (fits_handlers (retimed.handlers_ f more) n) (inside n (fits_block body) (fits_block (retimed.block f body)) (λ m. fit_block body m)) (fit_handlers more n)) h

  -- in braces
  fit_body : (ss : tree.Block) (n : ℕ) → Passes (within n (fits_block ss)) (within n (fits_block (retimed.block f ss)))
  fit_body ss n = inside n (fits_block ss) (fits_block (retimed.block f ss)) (λ m. fit_block ss m)

  fit_form : (c : ConstantForm) → Passes (fits_constant_form c) (fits_constant_form (retimed.form f c))
  fit_form (constant.Number n) h = h
  fit_form (constant.Negative n) h = h
  fit_form (constant.Time n unit) h = small (span n unit)
  fit_form (constant.Logic digits) h = h
  fit_form (constant.Truth b) h = h

  fit_constant : (c : Option Constant) → Passes (fits_constant c) (fits_constant (retimed.option (retimed.constant_ f) c))
  fit_constant None h = h
  fit_constant (Some c) h = fit_form c.form h

  fit_span : (s : Option Span) → Passes (fits_span s) (fits_span (retimed.option f s))
  fit_span None h = h
  fit_span (Some s) h = small s

  fit_item : (i : tree.Item) (n : ℕ) → Passes (fits_item i n) (fits_item (retimed.item f i) n)
  fit_item (tree.signal line s) n h =
      behind (is_name s.name) (fits_type s.value_type && fits_constant s.initial) (fits_type s.value_type && fits_constant (retimed.option (retimed.constant_ f) s.initial))
      (behind (fits_type s.value_type) (fits_constant s.initial) (fits_constant (retimed.option (retimed.constant_ f) s.initial)) (fit_constant s.initial)) h
  fit_item (tree.resolved line name) n h = h
  fit_item (tree.clock line c) n h =
      behind (is_name c.name) (is_number c.period.count && (is_number c.high.count && fits_span c.start)) (is_number (f c.period).count && (is_number (f c.high).count && fits_span (retimed.option f c.start)))
      (both (is_number c.period.count) (is_number (f c.period).count) (is_number c.high.count && fits_span c.start) (is_number (f c.high).count && fits_span (retimed.option f c.start)) (λ g. small c.period)
      (both (is_number c.high.count) (is_number (f c.high).count) (fits_span c.start) (fits_span (retimed.option f c.start)) (λ g. small c.high) (fit_span c.start))) h
  fit_item (tree.fifo line t name size) n h = h
  fit_item (tree.plain line kind name) n h = h
  fit_item (tree.semaphore line name c) n h = behind (is_name name) (fits_constant_form c.form) (fits_constant_form (retimed.form f c.form)) (fit_form c.form) h
  fit_item (tree.memory line name size) n h = h
  fit_item (tree.variable line t name c) n h =
      behind (is_name name) (fits_var_type t && fits_constant c) (fits_var_type t && fits_constant (retimed.option (retimed.constant_ f) c))
      (behind (fits_var_type t) (fits_constant c) (fits_constant (retimed.option (retimed.constant_ f) c)) (fit_constant c)) h
  fit_item (tree.port line i name size) n h = h
  fit_item (tree.export line i name) n h = h
  fit_item (tree.initiator line name role) n h = h
  fit_item (tree.target line name role) n h = h
  fit_item (tree.instance line kind name) n h = h
  fit_item (tree.bind line left right) n h = h
  fit_item (tree.function line x) n h =
      behind (is_name x.name && fits_parameters x.parameters) (fits_answer x.answer && within n (fits_block x.body)) (fits_answer x.answer && within n (fits_block (retimed.block f x.body)))
      (behind (fits_answer x.answer) (within n (fits_block x.body)) (within n (fits_block (retimed.block f x.body))) (fit_body x.body n)) h
  fit_item (tree.process line x) n h =
      behind (is_name x.name) (fits_events n x.sensitive && within n (fits_block x.body)) (fits_events n (map (retimed.event f) x.sensitive) && within n (fits_block (retimed.block f x.body)))
      (both (fits_events n x.sensitive) (fits_events n (map (retimed.event f) x.sensitive)) (within n (fits_block x.body)) (within n (fits_block (retimed.block f x.body))) (fit_events n x.sensitive) (fit_body x.body n)) h

  fit_items : (is : List tree.Item) (n : ℕ) → Passes (fits_items is n) (fits_items (map (retimed.item f) is) n)
  fit_items [] n h = h
  fit_items (i ∷ is) n h = both (fits_item i n) (fits_item (retimed.item f i) n) (fits_items is n) (fits_items (map (retimed.item f) is) n) (fit_item i n) (fit_items is n) h

  fit_modules : (ms : List tree.Module) (n : ℕ) → Passes (fits_modules ms n) (fits_modules (map (retimed.module_ f) ms) n)
  fit_modules [] n h = h
  fit_modules (m ∷ ms) n h =
      both (is_name m.name && within n (fits_items m.items)) (is_name m.name && within n (fits_items (map (retimed.item f) m.items))) (fits_modules ms n) (fits_modules (map (retimed.module_ f) ms) n)
      (behind (is_name m.name) (within n (fits_items m.items)) (within n (fits_items (map (retimed.item f) m.items))) (inside n (fits_items m.items) (fits_items (map (retimed.item f) m.items)) (λ k. fit_items m.items k)))
      (fit_modules ms n) h

  pub retimed_are_sound : (m : tree.Model) → Passes (is_sound m) (is_sound (retimed.model f m))
  retimed_are_sound m =
      before (fits_modules m.modules bracket_limit) (fits_modules (map (retimed.module_ f) m.modules) bracket_limit) (is_name m.top.module && is_name m.top.name) (fit_modules m.modules bracket_limit)
