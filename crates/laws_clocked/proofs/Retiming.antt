-- A clocked thread whose times are written otherwise is one, with the same ticks.
use Rattle.std.proofs.Common.{◌≡◌, ℕ, zero, suc, true, inl, inr, List, [], ◌∷◌, ◌++◌, map, Option, Some, None, refl, sym, ap, ◌∙◌, subst}
use Rattle.std.specs.Prelude.{slice_get}
use Rattle.code_rules.specs.ModelTree.Tree as tree
use Rattle.code_rules.specs.ModelTree.declared.types.Span.{Span}
use Rattle.code_rules.specs.ModelTree.declared.expressions.BinaryOp.TheVariants as op
use Rattle.code_rules.specs.ModelTree.declared.types.TypeForm.TheVariants as type_form
use Rattle.tick_trees.specs.Retimed as retimed
use Rattle.expanded_text.specs.Named.{Names, in_expression, in_expression_if, in_expressions, in_place, in_channel, in_event, in_events, in_waiting, in_notification, in_target, in_operation, in_spawn, in_action, name_if}
use Rattle.expanded_text.specs.Clocked.{Reset, Tick, IsTick, Avoids, Ticks, HasTicks, ElseTicks, HandlerTicks, count_name, again_name, reset_name, behind, plain_type, test_form, tests_form, count_form, wait_form, tick_form, with_last, last_form, body_form, IsEdge, IsClocked}

pub mapped_at : {A B : Type 0} (g : A → B) (xs : List A) (n : ℕ) (x : A) → slice_get xs n ≡ Some x → slice_get (map g xs) n ≡ Some (g x)
mapped_at g [] n x e = cc
mapped_at g (y ∷ ys) zero x e = let same : y ≡ x = cc in ap (λ z. Some (g z)) same
mapped_at g (y ∷ ys) (suc n) x e = mapped_at g ys n x e

joined : (xs ys us vs : Names) → xs ≡ ys → us ≡ vs → xs ++ us ≡ ys ++ vs
joined xs ys us vs e g = cc

module _ (f : Span → Span) where
  -- ---- the names that pieces use

  expression_names : (e : tree.Expression) → in_expression (retimed.expression f e) ≡ in_expression e
  expression_names (tree.number line v) = refl
  expression_names (tree.time line v u) = refl
  expression_names (tree.logic line ds) = refl
  expression_names (tree.truth line b) = refl
  expression_names (tree.now line) = refl
  expression_names (tree.myself line) = refl
  expression_names (tree.constant line c) = refl
  expression_names (tree.paren line e) = expression_names e
  expression_names (tree.convert line c e) = expression_names e
  expression_names (tree.to_vector line width e) = expression_names e
  expression_names (tree.concat line upper lower) =
      joined (in_expression (retimed.expression f upper)) (in_expression upper) (in_expression (retimed.expression f lower)) (in_expression lower) (expression_names upper) (expression_names lower)
  expression_names (tree.named line x) = refl
  expression_names (tree.placed line x at) = refl
  expression_names (tree.placed_by line x e) = ap (λ (xs : Names). x ∷ xs) (expression_names e)
  expression_names (tree.member e x) = ap (λ (xs : Names). xs ++ x ∷ []) (expression_names e)
  expression_names (tree.element e index) =
      joined (in_expression (retimed.expression f e)) (in_expression e) (in_expression (retimed.expression f index)) (in_expression index) (expression_names e) (expression_names index)
  expression_names (tree.slice e high low) = expression_names e
  expression_names (tree.unary line o e) = expression_names e
  expression_names (tree.binary o left right) =
      joined (in_expression (retimed.expression f left)) (in_expression left) (in_expression (retimed.expression f right)) (in_expression right) (expression_names left) (expression_names right)

  if_names : (o : Option tree.Expression) → in_expression_if (retimed.option (retimed.expression f) o) ≡ in_expression_if o
  if_names None = refl
  if_names (Some e) = expression_names e

  expressions_names : (es : List tree.Expression) → in_expressions (map (retimed.expression f) es) ≡ in_expressions es
  expressions_names [] = refl
  expressions_names (e ∷ es) =
      joined (in_expression (retimed.expression f e)) (in_expression e) (in_expressions (map (retimed.expression f) es)) (in_expressions es) (expression_names e) (expressions_names es)

  place_names : (p : tree.Place) → in_place (retimed.place f p) ≡ in_place p
  place_names tree.first = refl
  place_names (tree.place_number n) = refl
  place_names (tree.computed e) = expression_names e

  channel_names : (c : tree.Channel) → in_channel (retimed.channel f c) ≡ in_channel c
  channel_names c = ap (λ (xs : Names). c.name ∷ xs) (place_names c.place)

  event_names : (e : tree.Event) → in_event (retimed.event f e) ≡ in_event e
  event_names e = ap (λ (xs : Names). xs ++ name_if e.member) (channel_names e.channel)

  events_names : (es : List tree.Event) → in_events (map (retimed.event f) es) ≡ in_events es
  events_names [] = refl
  events_names (e ∷ es) = joined (in_event (retimed.event f e)) (in_event e) (in_events (map (retimed.event f) es)) (in_events es) (event_names e) (events_names es)

  abbrev timed : Option tree.Expression → Names
  timed t = in_expression_if (retimed.option (retimed.expression f) t)

  waiting_names : (w : tree.Waiting) → in_waiting (retimed.waiting f w) ≡ in_waiting w
  waiting_names tree.static = refl
  waiting_names tree.delta = refl
  waiting_names (tree.for_ e) = expression_names e
  waiting_names (tree.one e t) = joined (in_event (retimed.event f e)) (in_event e) (timed t) (in_expression_if t) (event_names e) (if_names t)
  waiting_names (tree.any es t) = joined (in_events (map (retimed.event f) es)) (in_events es) (timed t) (in_expression_if t) (events_names es) (if_names t)
  waiting_names (tree.all es t) = joined (in_events (map (retimed.event f) es)) (in_events es) (timed t) (in_expression_if t) (events_names es) (if_names t)

  notification_names : (n : tree.Notification) → in_notification (retimed.notification f n) ≡ in_notification n
  notification_names tree.immediate = refl
  notification_names tree.next_delta = refl
  notification_names (tree.after e) = expression_names e

  target_names : (t : tree.Target) → in_target (retimed.target f t) ≡ in_target t
  target_names t = ap (λ (xs : Names). t.name ∷ (name_if t.member ++ xs)) (if_names t.index)

  operation_names : (o : tree.Operation) → in_operation (retimed.operation f o) ≡ in_operation o
  operation_names (tree.call x es) = ap (λ (xs : Names). x ∷ xs) (expressions_names es)
  operation_names (tree.read c) = channel_names c
  operation_names (tree.nb_read c x) = ap (λ (xs : Names). xs ++ x ∷ []) (channel_names c)
  operation_names (tree.nb_write c e) = joined (in_channel (retimed.channel f c)) (in_channel c) (in_expression (retimed.expression f e)) (in_expression e) (channel_names c) (expression_names e)
  operation_names (tree.trylock c) = channel_names c
  operation_names (tree.unlock c) = channel_names c
  operation_names (tree.sem_trywait c) = channel_names c
  operation_names (tree.nb_transport socket payload phase delay) = refl

  spawn_names : (x : tree.Spawn) → in_spawn (retimed.spawn f x) ≡ in_spawn x
  spawn_names x =
      ap (λ (xs : Names). name_if x.handle ++ (x.function ∷ xs))
      (joined (in_expressions (map (retimed.expression f) x.arguments)) (in_expressions x.arguments) (in_events (map (retimed.event f) x.sensitive)) (in_events x.sensitive) (expressions_names x.arguments) (events_names x.sensitive))

  action_names : (a : tree.Action) → in_action (retimed.action f a) ≡ in_action a
  action_names (tree.write c e) = joined (in_channel (retimed.channel f c)) (in_channel c) (in_expression (retimed.expression f e)) (in_expression e) (channel_names c) (expression_names e)
  action_names (tree.print text e) = if_names e
  action_names (tree.notify x n) = ap (λ (xs : Names). x ∷ xs) (notification_names n)
  action_names (tree.cancel x) = refl
  action_names (tree.wait w) = waiting_names w
  action_names (tree.next_trigger w) = waiting_names w
  action_names (tree.lock c) = channel_names c
  action_names (tree.sem_wait c) = channel_names c
  action_names (tree.post c) = channel_names c
  action_names (tree.make x len enables) =
      ap (λ (xs : Names). x ∷ xs) (joined (in_expression (retimed.expression f len)) (in_expression len) (timed enables) (in_expression_if enables) (expression_names len) (if_names enables))
  action_names (tree.acquire x) = refl
  action_names (tree.release x) = refl
  action_names (tree.carry payload memory) = refl
  action_names (tree.b_transport socket payload delay) = refl
  action_names (tree.qk_global e) = expression_names e
  action_names (tree.qk_inc x e) = ap (λ (xs : Names). x ∷ xs) (expression_names e)
  action_names (tree.qk_set x e) = ap (λ (xs : Names). x ∷ xs) (expression_names e)
  action_names (tree.qk_reset x) = refl
  action_names (tree.qk_sync x) = refl
  action_names (tree.spawn x) = spawn_names x
  action_names (tree.control c x all) = refl
  action_names (tree.throw_it x exception all) = refl
  action_names (tree.throw x) = refl
  action_names (tree.return_ e) = if_names e
  action_names tree.stop = refl

  -- ---- ticks

  tests_still : (at : ℕ → ℕ) (rs : List Reset) (last : tree.Statement) → retimed.statement f last ≡ last → retimed.block f (tests_form at rs last) ≡ tests_form at rs last
  tests_still at [] last e = ap (λ x. tree.then x tree.over) e
  tests_still at (r ∷ rs) last e = ap (λ xs. tree.then (test_form at r) xs) (tests_still (behind at 4) rs last e)

  wait_still : (at : ℕ → ℕ) (rs : List Reset) → retimed.statement f (wait_form at rs) ≡ wait_form at rs
  wait_still at rs =
      ap (λ xs. tree.while_ (at 0) (tree.binary op.Greater (tree.named (at 1) count_name) (tree.number (at 2) 0)) (tree.then (tree.act (at 3) (tree.wait tree.static)) xs))
      (tests_still (behind at 7) rs (count_form (behind at 4)) refl)

  tick_still : (at : ℕ → ℕ) (t : Tick) → retimed.statement f (tick_form at t) ≡ tick_form at t
  tick_still at t =
      ap (λ x. tree.if_ (at 0) (tree.truth (at 1) true)
      (tree.then (tree.var (at 2) (plain_type (at 3) (type_form.Uint 32)) count_name (Some (tree.number (at 4) t.edges))) (tree.then x tree.over)) tree.no_else)
      (wait_still (behind at 5) t.resets)

  tick_stays : (t : Tick) (x : tree.Statement) → IsTick t x → IsTick t (retimed.statement f x)
  tick_stays t x i = record { at = i.at; form = ap (retimed.statement f) i.form ∙ tick_still i.at t; counts = i.counts; others = i.others }

  avoided : (xs ys : Names) → xs ≡ ys → Avoids ys → Avoids xs
  avoided xs ys e k = subst Avoids (sym e) k

  mutual
    statement_ticks : (x : tree.Statement) (ts : List Tick) → Ticks x ts → Ticks (retimed.statement f x) ts
    statement_ticks (tree.var line t x e) ts h = (avoided (x ∷ timed e) (x ∷ in_expression_if e) (ap (λ (xs : Names). x ∷ xs) (if_names e)) h.0, h.1)
    statement_ticks (tree.assign line t e) ts h = (
      avoided (in_target (retimed.target f t) ++ in_expression (retimed.expression f e)) (in_target t ++ in_expression e)
          (joined (in_target (retimed.target f t)) (in_target t) (in_expression (retimed.expression f e)) (in_expression e) (target_names t) (expression_names e)) h.0,
      h.1,
    )
    statement_ticks (tree.operate line x at o) ts h =
        (avoided (name_if x ++ in_operation (retimed.operation f o)) (name_if x ++ in_operation o) (ap (λ (xs : Names). name_if x ++ xs) (operation_names o)) h.0, h.1)
    statement_ticks (tree.act line a) ts h = (avoided (in_action (retimed.action f a)) (in_action a) (action_names a) h.0, h.1)
    statement_ticks (tree.if_ line e body other) ts (inl h) = inl (h.0, tick_stays h.0 (tree.if_ line e body other) h.1, h.2)
    statement_ticks (tree.if_ line e body other) ts (inr h) =
        inr (avoided (in_expression (retimed.expression f e)) (in_expression e) (expression_names e) h.0, (h.1.0, h.1.1, h.1.2, block_ticks body h.1.0 h.1.3, else_ticks other h.1.1 h.1.4))
    statement_ticks (tree.while_ line e body) ts h = (avoided (in_expression (retimed.expression f e)) (in_expression e) (expression_names e) h.0, block_ticks body ts h.1)
    statement_ticks (tree.guard line body undo) ts h = (h.0, h.1, h.2, block_ticks body h.0 h.3, block_ticks undo h.1 h.4)
    statement_ticks (tree.try_ line body hs) ts h = (h.0, h.1, h.2, block_ticks body h.0 h.3, handler_ticks hs h.1 h.4)

    block_ticks : (x : tree.Block) (ts : List Tick) → HasTicks x ts → HasTicks (retimed.block f x) ts
    block_ticks tree.over ts h = h
    block_ticks (tree.then x xs) ts h = (h.0, h.1, h.2, statement_ticks x h.0 h.3, block_ticks xs h.1 h.4)

    else_ticks : (x : tree.Else) (ts : List Tick) → ElseTicks x ts → ElseTicks (retimed.else_ f x) ts
    else_ticks tree.no_else ts h = h
    else_ticks (tree.else_block body) ts h = block_ticks body ts h

    handler_ticks : (x : tree.Handlers) (ts : List Tick) → HandlerTicks x ts → HandlerTicks (retimed.handlers_ f x) ts
    handler_ticks tree.no_more ts h = h
    handler_ticks (tree.handler x body more) ts h = (h.0, (h.1.0, h.1.1, h.1.2, block_ticks body h.1.0 h.1.3, handler_ticks more h.1.1 h.1.4))

  -- ---- a thread

  last_still : (b : tree.Block) (at : ℕ → ℕ) → retimed.block f (with_last b (last_form at)) ≡ with_last (retimed.block f b) (last_form at)
  last_still tree.over at = refl
  last_still (tree.then x xs) at = ap (λ ys. tree.then (retimed.statement f x) ys) (last_still xs at)

  body_still : (at : ℕ → ℕ) (b : tree.Block) → retimed.block f (body_form at b) ≡ body_form at (retimed.block f b)
  body_still at b =
      ap (λ xs. tree.then (tree.var (at 0) (plain_type (at 1) type_form.Bool) again_name (Some (tree.truth (at 2) true)))
      (tree.then (tree.while_ (at 3) (tree.named (at 4) again_name) (tree.then (tree.try_ (at 5) xs (tree.handler reset_name tree.over tree.no_more)) tree.over)) tree.over))
      (last_still b at)

  edge_still : (es : List tree.Event) → IsEdge es → IsEdge (map (retimed.event f) es)
  edge_still [] h = h
  edge_still (e ∷ []) h = h
  edge_still (e ∷ g ∷ es) h = h

  pub clocked_still : (p : tree.ProcessItem) (b : tree.Block) (ts : List Tick) → IsClocked p b ts → IsClocked (retimed.process f p) (retimed.block f b) ts
  clocked_still p b ts h =
      record {
        thread = h.thread;
        edge = edge_still p.sensitive h.edge;
        later = h.later;
        at = h.at;
        form = ap (retimed.block f) h.form ∙ body_still h.at b;
        only = block_ticks b ts h.only;
      }
