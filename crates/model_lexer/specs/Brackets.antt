-- How many brackets are open at the deepest place of a tree's text.
use Rattle.std.specs.Prelude.{ℕ, suc, max, List, [], ◌∷◌, Option, Some, None}
use Rattle.model_tree.specs.Tree as tree
use Rattle.model_tree.specs.Parts as part
use Rattle.model_tree.specs.Parts.{Part, parts_of, joined}
use Rattle.model_tree.specs.Limits.{depth}
use Rattle.model_tree.specs.declared.types.PortSize.{PortSize}

abbrev pub in_option : Option tree.Expression → ℕ
in_option None = 0
in_option (Some e) = depth e

abbrev pub in_all : List tree.Expression → ℕ
in_all [] = 0
in_all (e ∷ es) = max (depth e) (in_all es)

abbrev pub in_place : tree.Place → ℕ
in_place tree.first = 0
in_place (tree.place_number n) = 0
in_place (tree.computed e) = suc (depth e)

abbrev pub in_channel : tree.Channel → ℕ
in_channel c = in_place c.place

abbrev pub in_events : List tree.Event → ℕ
in_events [] = 0
in_events (e ∷ es) = max (in_channel e.channel) (in_events es)

abbrev pub in_waiting : tree.Waiting → ℕ
in_waiting tree.static = 0
in_waiting tree.delta = 0
in_waiting (tree.for_ e) = depth e
in_waiting (tree.one e t) = max (in_channel e.channel) (in_option t)
in_waiting (tree.any es t) = max (in_events es) (in_option t)
in_waiting (tree.all es t) = max (in_events es) (in_option t)

abbrev pub in_notification : tree.Notification → ℕ
in_notification tree.immediate = 0
in_notification tree.next_delta = 0
in_notification (tree.after e) = depth e

abbrev pub in_index : Option tree.Expression → ℕ
in_index None = 0
in_index (Some e) = suc (depth e)

abbrev pub in_operation : tree.Operation → ℕ
in_operation (tree.call x arguments) = suc (in_all arguments)
in_operation (tree.read c) = in_channel c
in_operation (tree.nb_read c x) = in_channel c
in_operation (tree.nb_write c e) = max (in_channel c) (depth e)
in_operation (tree.trylock c) = in_channel c
in_operation (tree.unlock c) = in_channel c
in_operation (tree.sem_trywait c) = in_channel c
in_operation (tree.nb_transport a b c d) = 0

abbrev pub in_part : Part → ℕ
in_part (part.name r x) = 0
in_part (part.next_name r x) = 0
in_part (part.reaching_name r x all) = 0
in_part (part.text x) = 0
in_part (part.term u e) = depth e
in_part (part.term_if u e) = in_option e
in_part (part.next_term u e) = depth e
in_part (part.next_term_if u e) = in_option e
in_part (part.channel u c) = in_channel c
in_part (part.waiting t) = in_waiting t
in_part (part.notification t) = in_notification t
in_part (part.instance x) = max (suc (in_all x.arguments)) (in_events x.sensitive)
in_part (part.process x) = 0
in_part (part.reaching_process x all) = 0

abbrev pub in_action : tree.Action → ℕ
in_action a = joined in_part max 0 (parts_of a)

abbrev mutual
  pub in_statement : tree.Statement → ℕ
  in_statement (tree.var line t x e) = in_option e
  in_statement (tree.assign line t e) = max (in_index t.index) (depth e)
  in_statement (tree.operate line x at o) = in_operation o
  in_statement (tree.act line a) = in_action a
  in_statement (tree.if_ line e body other) = max (depth e) (max (suc (in_block body)) (in_else other))
  in_statement (tree.while_ line e body) = max (depth e) (suc (in_block body))
  in_statement (tree.guard line body undo) = max (suc (in_block body)) (suc (in_block undo))
  in_statement (tree.try_ line body handlers) = max (suc (in_block body)) (in_handlers handlers)

  pub in_block : tree.Block → ℕ
  in_block tree.over = 0
  in_block (tree.then s ss) = max (in_statement s) (in_block ss)

  pub in_else : tree.Else → ℕ
  in_else tree.no_else = 0
  in_else (tree.else_block body) = suc (in_block body)

  pub in_handlers : tree.Handlers → ℕ
  in_handlers tree.no_more = 0
  in_handlers (tree.handler x body more) = max (suc (in_block body)) (in_handlers more)

abbrev pub in_size : Option PortSize → ℕ
in_size None = 0
in_size (Some s) = 1

abbrev pub in_item : tree.Item → ℕ
in_item (tree.signal line s) = 0
in_item (tree.resolved line x) = 0
in_item (tree.clock line c) = 0
in_item (tree.fifo line t x size) = 0
in_item (tree.plain line kind x) = 0
in_item (tree.semaphore line x c) = 0
in_item (tree.memory line x size) = 1
in_item (tree.variable line t x c) = 0
in_item (tree.port line i x size) = in_size size
in_item (tree.export line i x) = 0
in_item (tree.initiator line x role) = 0
in_item (tree.target line x role) = 0
in_item (tree.instance line kind x) = 0
in_item (tree.bind line left right) = 0
in_item (tree.function line f) = suc (in_block f.body)
in_item (tree.process line p) = max (in_events p.sensitive) (suc (in_block p.body))

abbrev pub in_items : List tree.Item → ℕ
in_items [] = 0
in_items (i ∷ is) = max (in_item i) (in_items is)

abbrev pub in_modules : List tree.Module → ℕ
in_modules [] = 0
in_modules (m ∷ ms) = max (suc (in_items m.items)) (in_modules ms)

abbrev pub brackets : tree.Model → ℕ
brackets m = in_modules m.modules
