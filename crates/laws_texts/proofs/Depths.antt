-- How many brackets are open: line numbers do not change it, and a sound tree keeps the limit.
use Rattle.std.proofs.Common.{◌≡◌, ℕ, zero, suc, ◌≤◌, max, Bool, true, ◌&&◌, List, [], ◌∷◌, Option, Some, None, refl, ap, arith}
use Rattle.std.specs.Prelude.{map, option_map, nat_le}
use Rattle.std.proofs.lemmas.Bool.{and_parts, leb-true}
use Rattle.model_print.specs.ModelTree.declared.types.PortSize.{PortSize}
use Rattle.model_print.specs.ModelTree.Limits.{depth, token_count, token_limit, bracket_limit, is_formed, fits, fits_option, fits_all, within, fits_place, fits_channel, option_name, fits_event, fits_events, fits_waiting, fits_notification, fits_index, fits_target, fits_operation, fits_spawn, fits_part, fits_action, fits_var_type, fits_statement, fits_block, fits_else, fits_handlers, has_handler, fits_parameters, fits_answer, fits_item, fits_items, fits_modules, is_sound}
use Rattle.model_print.specs.ModelTree.Leaves.{is_name}
use Rattle.model_print.specs.ModelTree.Tree as tree
use Rattle.model_tree.specs.Parts as part
use Rattle.model_tree.specs.Parts.{Part, changed_part, parts_of}
use Rattle.model_tree.proofs.Parts.{linked, changed_linked}
use Rattle.model_lexer.specs.Brackets.{in_option, in_all, in_place, in_channel, in_events, in_waiting, in_notification, in_index, in_operation, in_part, in_action, in_statement, in_block, in_else, in_handlers, in_size, in_item, in_items, in_modules, brackets}
use Rattle.laws_texts.specs.Unlined as unlined

-- without line numbers

same_depth : (e : tree.Expression) → depth (unlined.expression e) ≡ depth e
same_depth (tree.paren line e) = ap suc (same_depth e)
same_depth (tree.convert line c e) = ap suc (same_depth e)
same_depth (tree.to_vector line width e) = ap suc (same_depth e)
same_depth (tree.concat line upper lower) = rw (same_depth upper, same_depth lower) refl
same_depth (tree.placed_by line x e) = ap suc (same_depth e)
same_depth (tree.member e x) = same_depth e
same_depth (tree.element e index) = rw (same_depth e, same_depth index) refl
same_depth (tree.slice e high low) = rw (same_depth e) refl
same_depth (tree.unary line o e) = same_depth e
same_depth (tree.binary o left right) = rw (same_depth left, same_depth right) refl
same_depth _ = refl

same_option : (o : Option tree.Expression) → in_option (option_map unlined.expression o) ≡ in_option o
same_option None = refl
same_option (Some e) = same_depth e

same_all : (es : List tree.Expression) → in_all (map unlined.expression es) ≡ in_all es
same_all [] = refl
same_all (e ∷ es) = rw (same_depth e, same_all es) refl

same_place : (p : tree.Place) → in_place (unlined.place p) ≡ in_place p
same_place tree.first = refl
same_place (tree.place_number n) = refl
same_place (tree.computed e) = ap suc (same_depth e)

same_events : (es : List tree.Event) → in_events (map unlined.event es) ≡ in_events es
same_events [] = refl
same_events (e ∷ es) = rw (same_place e.channel.place, same_events es) refl

same_waiting : (x : tree.Waiting) → in_waiting (unlined.waiting x) ≡ in_waiting x
same_waiting tree.static = refl
same_waiting tree.delta = refl
same_waiting (tree.for_ e) = same_depth e
same_waiting (tree.one e t) = rw (same_place e.channel.place, same_option t) refl
same_waiting (tree.any es t) = rw (same_events es, same_option t) refl
same_waiting (tree.all es t) = rw (same_events es, same_option t) refl

same_notification : (x : tree.Notification) → in_notification (unlined.notification x) ≡ in_notification x
same_notification tree.immediate = refl
same_notification tree.next_delta = refl
same_notification (tree.after e) = same_depth e

same_index : (o : Option tree.Expression) → in_index (option_map unlined.expression o) ≡ in_index o
same_index None = refl
same_index (Some e) = ap suc (same_depth e)

same_operation : (o : tree.Operation) → in_operation (unlined.operation o) ≡ in_operation o
same_operation (tree.call x es) = ap suc (same_all es)
same_operation (tree.read c) = same_place c.place
same_operation (tree.nb_read c x) = same_place c.place
same_operation (tree.nb_write c e) = rw (same_place c.place, same_depth e) refl
same_operation (tree.trylock c) = same_place c.place
same_operation (tree.unlock c) = same_place c.place
same_operation (tree.sem_trywait c) = same_place c.place
same_operation (tree.nb_transport x p phase t) = refl

same_part : (p : Part) → in_part (changed_part unlined.change p) ≡ in_part p
same_part (part.term u e) = same_depth e
same_part (part.term_if u e) = same_option e
same_part (part.next_term u e) = same_depth e
same_part (part.next_term_if u e) = same_option e
same_part (part.channel u c) = same_place c.place
same_part (part.waiting t) = same_waiting t
same_part (part.notification t) = same_notification t
same_part (part.instance x) = rw (same_all x.arguments, same_events x.sensitive) refl
same_part _ = refl

same_most : (m n k l : ℕ) → m ≡ k → n ≡ l → max m n ≡ max k l
same_most m n k l a b = rw (a, b) refl

same_action : (a : tree.Action) → in_action (unlined.action a) ≡ in_action a
same_action a = changed_linked unlined.change (λ (m k : ℕ). m ≡ k) in_part in_part max max 0 0 same_most same_part refl a

mutual
  same_statement : (x : tree.Statement) → in_statement (unlined.statement x) ≡ in_statement x
  same_statement (tree.var line t x e) = same_option e
  same_statement (tree.assign line t e) = rw (same_index t.index, same_depth e) refl
  same_statement (tree.operate line x at o) = same_operation o
  same_statement (tree.act line a) = same_action a
  same_statement (tree.if_ line e body other) = rw (same_depth e, same_block body, same_else other) refl
  same_statement (tree.while_ line e body) = rw (same_depth e, same_block body) refl
  same_statement (tree.guard line body undo) = rw (same_block body, same_block undo) refl
  same_statement (tree.try_ line body hs) = rw (same_block body, same_handlers hs) refl

  same_block : (x : tree.Block) → in_block (unlined.block x) ≡ in_block x
  same_block tree.over = refl
  same_block (tree.then x xs) = rw (same_statement x, same_block xs) refl

  same_else : (x : tree.Else) → in_else (unlined.otherwise x) ≡ in_else x
  same_else tree.no_else = refl
  same_else (tree.else_block body) = ap suc (same_block body)

  same_handlers : (x : tree.Handlers) → in_handlers (unlined.handlers x) ≡ in_handlers x
  same_handlers tree.no_more = refl
  same_handlers (tree.handler x body hs) = rw (same_block body, same_handlers hs) refl

same_item : (x : tree.Item) → in_item (unlined.item x) ≡ in_item x
same_item (tree.function line f) = ap suc (same_block f.body)
same_item (tree.process line p) = rw (same_events p.sensitive, same_block p.body) refl
same_item _ = refl

same_items : (xs : List tree.Item) → in_items (map unlined.item xs) ≡ in_items xs
same_items [] = refl
same_items (x ∷ xs) = rw (same_item x, same_items xs) refl

same_modules : (ms : List tree.Module) → in_modules (map unlined.module_ ms) ≡ in_modules ms
same_modules [] = refl
same_modules (m ∷ ms) = rw (same_items m.items, same_modules ms) refl

pub same_brackets : (m : tree.Model) → brackets (unlined.model m) ≡ brackets m
same_brackets m = same_modules m.modules

-- within the limits

deep : (n : ℕ) (e : tree.Expression) → fits n e ≡ true → depth e ≤ n
deep n e h = leb-true (depth e) n (and_parts (is_formed e 0 && nat_le (token_count e) token_limit) (nat_le (depth e) n) h).1

deeper : (n : ℕ) (d : ℕ) (test : ℕ → Bool) → ((m : ℕ) → test m ≡ true → d ≤ m) → within n test ≡ true → suc d ≤ n
deeper zero d test f h = cc
deeper (suc n) d test f h = let k = f n h in omega arith

most : (a b n : ℕ) → a ≤ n → b ≤ n → max a b ≤ n
most a b n h k = omega arith

option_deep : (n : ℕ) (o : Option tree.Expression) → fits_option n o ≡ true → in_option o ≤ n
option_deep n None h = omega arith
option_deep n (Some e) h = deep n e h

all_deep : (n : ℕ) (es : List tree.Expression) → fits_all n es ≡ true → in_all es ≤ n
all_deep n [] h = omega arith
all_deep n (e ∷ es) h = let parts = and_parts (fits n e) (fits_all n es) h in most (depth e) (in_all es) n (deep n e parts.0) (all_deep n es parts.1)

place_deep : (n : ℕ) (p : tree.Place) → fits_place n p ≡ true → in_place p ≤ n
place_deep n tree.first h = omega arith
place_deep n (tree.place_number at) h = omega arith
place_deep n (tree.computed e) h = deeper n (depth e) (λ m. fits m e) (λ m k. deep m e k) h

channel_deep : (n : ℕ) (c : tree.Channel) → fits_channel n c ≡ true → in_channel c ≤ n
channel_deep n c h = place_deep n c.place (and_parts (is_name c.name) (fits_place n c.place) h).1

event_deep : (n : ℕ) (e : tree.Event) → fits_event n e ≡ true → in_channel e.channel ≤ n
event_deep n e h = channel_deep n e.channel (and_parts (fits_channel n e.channel) (option_name e.member) h).0

events_deep : (n : ℕ) (es : List tree.Event) → fits_events n es ≡ true → in_events es ≤ n
events_deep n [] h = omega arith
events_deep n (e ∷ es) h = let parts = and_parts (fits_event n e) (fits_events n es) h in most (in_channel e.channel) (in_events es) n (event_deep n e parts.0) (events_deep n es parts.1)

waiting_deep : (n : ℕ) (x : tree.Waiting) → fits_waiting n x ≡ true → in_waiting x ≤ n
waiting_deep n tree.static h = omega arith
waiting_deep n tree.delta h = omega arith
waiting_deep n (tree.for_ e) h = deep n e h
waiting_deep n (tree.one e t) h = let parts = and_parts (fits_event n e) (fits_option n t) h in most (in_channel e.channel) (in_option t) n (event_deep n e parts.0) (option_deep n t parts.1)
waiting_deep n (tree.any [] t) h = cc
waiting_deep n (tree.any (e ∷ es) t) h = let parts = and_parts (fits_events n (e ∷ es)) (fits_option n t) h in most (in_events (e ∷ es)) (in_option t) n (events_deep n (e ∷ es) parts.0) (option_deep n t parts.1)
waiting_deep n (tree.all [] t) h = cc
waiting_deep n (tree.all (e ∷ es) t) h = let parts = and_parts (fits_events n (e ∷ es)) (fits_option n t) h in most (in_events (e ∷ es)) (in_option t) n (events_deep n (e ∷ es) parts.0) (option_deep n t parts.1)

notification_deep : (n : ℕ) (x : tree.Notification) → fits_notification n x ≡ true → in_notification x ≤ n
notification_deep n tree.immediate h = omega arith
notification_deep n tree.next_delta h = omega arith
notification_deep n (tree.after e) h = deep n e h

index_deep : (n : ℕ) (o : Option tree.Expression) → fits_index n o ≡ true → in_index o ≤ n
index_deep n None h = omega arith
index_deep n (Some e) h = deeper n (depth e) (λ m. fits m e) (λ m k. deep m e k) h

operation_deep : (n : ℕ) (o : tree.Operation) → fits_operation n o ≡ true → in_operation o ≤ n
operation_deep n (tree.call x es) h = deeper n (in_all es) (λ m. fits_all m es) (λ m k. all_deep m es k) (and_parts (is_name x) (within n (λ m. fits_all m es)) h).1
operation_deep n (tree.read c) h = channel_deep n c h
operation_deep n (tree.nb_read c x) h = channel_deep n c (and_parts (fits_channel n c) (is_name x) h).0
operation_deep n (tree.nb_write c e) h = let parts = and_parts (fits_channel n c) (fits n e) h in most (in_channel c) (depth e) n (channel_deep n c parts.0) (deep n e parts.1)
operation_deep n (tree.trylock c) h = channel_deep n c h
operation_deep n (tree.unlock c) h = channel_deep n c h
operation_deep n (tree.sem_trywait c) h = channel_deep n c h
operation_deep n (tree.nb_transport x p phase t) h = omega arith

spawn_deep : (n : ℕ) (x : tree.Spawn) → fits_spawn n x ≡ true → in_action (tree.spawn x) ≤ n
spawn_deep n x h =
    let parts = and_parts (option_name x.handle && is_name x.function) (within n (λ m. fits_all m x.arguments) && fits_events n x.sensitive) h in
    let lists = and_parts (within n (λ m. fits_all m x.arguments)) (fits_events n x.sensitive) parts.1 in
    most (suc (in_all x.arguments)) (in_events x.sensitive) n (deeper n (in_all x.arguments) (λ m. fits_all m x.arguments) (λ m k. all_deep m x.arguments k) lists.0) (events_deep n x.sensitive lists.1)

part_deep : (n : ℕ) (p : Part) → fits_part n p ≡ true → in_part p ≤ n
part_deep n (part.term u e) h = deep n e h
part_deep n (part.term_if u e) h = option_deep n e h
part_deep n (part.next_term u e) h = deep n e h
part_deep n (part.next_term_if u e) h = option_deep n e h
part_deep n (part.channel u c) h = channel_deep n c h
part_deep n (part.waiting t) h = waiting_deep n t h
part_deep n (part.notification t) h = notification_deep n t h
part_deep n (part.instance x) h = spawn_deep n x h
part_deep n _ h = omega arith

both_deep : (n a b : ℕ) (x y : Bool) → (x ≡ true → a ≤ n) → (y ≡ true → b ≤ n) → (x && y) ≡ true → max a b ≤ n
both_deep n a b x y f g h = let parts = and_parts x y h in most a b n (f parts.0) (g parts.1)

action_deep : (n : ℕ) (a : tree.Action) → fits_action n a ≡ true → in_action a ≤ n
action_deep n a h = linked (λ (m : ℕ) (x : Bool). x ≡ true → m ≤ n) in_part (fits_part n) max (λ x y. x && y) 0 true (both_deep n) (part_deep n) (λ k. omega arith) (parts_of a) h

mutual
  statement_deep : (n : ℕ) (x : tree.Statement) → fits_statement x n ≡ true → in_statement x ≤ n
  statement_deep n (tree.var line t x e) h = option_deep n e (and_parts (is_name x) (fits_option n e) (and_parts (fits_var_type t) (is_name x && fits_option n e) h).1).1
  statement_deep n (tree.assign line t e) h =
      let parts = and_parts (fits_target n t) (fits n e) h in
      most (in_index t.index) (depth e) n (index_deep n t.index (and_parts (is_name t.name && option_name t.member) (fits_index n t.index) parts.0).1) (deep n e parts.1)
  statement_deep n (tree.operate line x at o) h = operation_deep n o (and_parts (option_name x) (fits_operation n o) h).1
  statement_deep n (tree.act line a) h = action_deep n a h
  statement_deep n (tree.if_ line e body other) h =
      let parts = and_parts (fits n e) (within n (fits_block body) && fits_else other n) h in
      let more = and_parts (within n (fits_block body)) (fits_else other n) parts.1 in
      most (depth e) (max (suc (in_block body)) (in_else other)) n (deep n e parts.0)
      (most (suc (in_block body)) (in_else other) n (deeper n (in_block body) (fits_block body) (λ m k. block_deep m body k) more.0) (else_deep n other more.1))
  statement_deep n (tree.while_ line e body) h =
      let parts = and_parts (fits n e) (within n (fits_block body)) h in
      most (depth e) (suc (in_block body)) n (deep n e parts.0) (deeper n (in_block body) (fits_block body) (λ m k. block_deep m body k) parts.1)
  statement_deep n (tree.guard line body undo) h =
      let parts = and_parts (within n (fits_block body)) (within n (fits_block undo)) h in
      most (suc (in_block body)) (suc (in_block undo)) n (deeper n (in_block body) (fits_block body) (λ m k. block_deep m body k) parts.0) (deeper n (in_block undo) (fits_block undo) (λ m k. block_deep m undo k) parts.1)
  statement_deep n (tree.try_ line body hs) h =
      let parts = and_parts (within n (fits_block body)) (has_handler hs && fits_handlers hs n) h in
      most (suc (in_block body)) (in_handlers hs) n (deeper n (in_block body) (fits_block body) (λ m k. block_deep m body k) parts.0) (handlers_deep n hs (and_parts (has_handler hs) (fits_handlers hs n) parts.1).1)

  block_deep : (n : ℕ) (x : tree.Block) → fits_block x n ≡ true → in_block x ≤ n
  block_deep n tree.over h = omega arith
  block_deep n (tree.then x xs) h =
      let parts = and_parts (fits_statement x n) (fits_block xs n) h in
      most (in_statement x) (in_block xs) n (statement_deep n x parts.0) (block_deep n xs parts.1)

  else_deep : (n : ℕ) (x : tree.Else) → fits_else x n ≡ true → in_else x ≤ n
  else_deep n tree.no_else h = omega arith
  else_deep n (tree.else_block body) h = deeper n (in_block body) (fits_block body) (λ m k. block_deep m body k) h

  handlers_deep : (n : ℕ) (x : tree.Handlers) → fits_handlers x n ≡ true → in_handlers x ≤ n
  handlers_deep n tree.no_more h = omega arith
  handlers_deep n (tree.handler x body hs) h =
      let parts = and_parts (is_name x) (within n (fits_block body) && fits_handlers hs n) h in
      let more = and_parts (within n (fits_block body)) (fits_handlers hs n) parts.1 in
      most (suc (in_block body)) (in_handlers hs) n (deeper n (in_block body) (fits_block body) (λ m k. block_deep m body k) more.0) (handlers_deep n hs more.1)

-- the items of a module, in which one more bracket may be opened
size_deep : (n : ℕ) (o : Option PortSize) → 1 ≤ n → in_size o ≤ n
size_deep n None k = omega arith
size_deep n (Some p) k = k

item_deep : (n : ℕ) (x : tree.Item) → 1 ≤ n → fits_item x n ≡ true → in_item x ≤ n
item_deep n (tree.memory line x size) k h = k
item_deep n (tree.port line i x size) k h = size_deep n size k
item_deep n (tree.function line f) k h =
    let parts = and_parts (is_name f.name && fits_parameters f.parameters) (fits_answer f.answer && within n (fits_block f.body)) h in
    deeper n (in_block f.body) (fits_block f.body) (λ m k. block_deep m f.body k) (and_parts (fits_answer f.answer) (within n (fits_block f.body)) parts.1).1
item_deep n (tree.process line p) k h =
    let parts = and_parts (is_name p.name) (fits_events n p.sensitive && within n (fits_block p.body)) h in
    let last = and_parts (fits_events n p.sensitive) (within n (fits_block p.body)) parts.1 in
    most (in_events p.sensitive) (suc (in_block p.body)) n (events_deep n p.sensitive last.0) (deeper n (in_block p.body) (fits_block p.body) (λ m k. block_deep m p.body k) last.1)
item_deep n _ k h = omega arith

items_deep : (n : ℕ) (xs : List tree.Item) → 1 ≤ n → fits_items xs n ≡ true → in_items xs ≤ n
items_deep n [] k h = omega arith
items_deep n (x ∷ xs) k h = let parts = and_parts (fits_item x n) (fits_items xs n) h in most (in_item x) (in_items xs) n (item_deep n x k parts.0) (items_deep n xs k parts.1)

modules_deep : (ms : List tree.Module) → fits_modules ms bracket_limit ≡ true → in_modules ms ≤ bracket_limit
modules_deep [] h = omega arith
modules_deep (m ∷ ms) h =
    let parts = and_parts (is_name m.name && within bracket_limit (fits_items m.items)) (fits_modules ms bracket_limit) h in
    let inside : in_items m.items ≤ 63 = items_deep 63 m.items (omega arith) (and_parts (is_name m.name) (within bracket_limit (fits_items m.items)) parts.0).1 in
    most (suc (in_items m.items)) (in_modules ms) bracket_limit (omega arith) (modules_deep ms parts.1)

pub sound_deep : (m : tree.Model) → is_sound m ≡ true → brackets m ≤ bracket_limit
sound_deep m h = modules_deep m.modules (and_parts (fits_modules m.modules bracket_limit) (is_name m.top.module && is_name m.top.name) h).0
