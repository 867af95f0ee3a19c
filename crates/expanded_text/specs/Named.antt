-- The names that a piece of a tree uses itself, those of what stands in its blocks aside: names of what there is, of members and
-- of exceptions.
use Rattle.std.specs.Prelude.{ℕ, List, [], ◌∷◌, ◌++◌, Option, Some, None}
use Rattle.model_tree.specs.Tree as tree
use Rattle.model_tree.specs.Parts as part
use Rattle.model_tree.specs.Parts.{Part, parts_of, joined}
use Rattle.model_tree.specs.declared.statements.Who.{Who}
use Rattle.model_tree.specs.declared.statements.Who.TheVariants as who

abbrev pub Names : Type 0
Names = List (List ℕ)

-- a name, where there is one
abbrev pub name_if : Option (List ℕ) → Names
name_if None = []
name_if (Some x) = x ∷ []

abbrev pub in_expression : tree.Expression → Names
in_expression (tree.number line v) = []
in_expression (tree.time line v u) = []
in_expression (tree.logic line ds) = []
in_expression (tree.truth line b) = []
in_expression (tree.now line) = []
in_expression (tree.myself line) = []
in_expression (tree.constant line c) = []
in_expression (tree.paren line e) = in_expression e
in_expression (tree.convert line c e) = in_expression e
in_expression (tree.to_vector line width e) = in_expression e
in_expression (tree.concat line upper lower) = in_expression upper ++ in_expression lower
in_expression (tree.named line x) = x ∷ []
in_expression (tree.placed line x at) = x ∷ []
in_expression (tree.placed_by line x e) = x ∷ in_expression e
in_expression (tree.member e x) = in_expression e ++ x ∷ []
in_expression (tree.element e index) = in_expression e ++ in_expression index
in_expression (tree.slice e high low) = in_expression e
in_expression (tree.unary line o e) = in_expression e
in_expression (tree.binary o left right) = in_expression left ++ in_expression right

abbrev pub in_expression_if : Option tree.Expression → Names
in_expression_if None = []
in_expression_if (Some e) = in_expression e

abbrev pub in_expressions : List tree.Expression → Names
in_expressions [] = []
in_expressions (e ∷ es) = in_expression e ++ in_expressions es

abbrev pub in_place : tree.Place → Names
in_place tree.first = []
in_place (tree.place_number n) = []
in_place (tree.computed e) = in_expression e

abbrev pub in_channel : tree.Channel → Names
in_channel c = c.name ∷ in_place c.place

abbrev pub in_event : tree.Event → Names
in_event e = in_channel e.channel ++ name_if e.member

abbrev pub in_events : List tree.Event → Names
in_events [] = []
in_events (e ∷ es) = in_event e ++ in_events es

abbrev pub in_waiting : tree.Waiting → Names
in_waiting tree.static = []
in_waiting tree.delta = []
in_waiting (tree.for_ e) = in_expression e
in_waiting (tree.one e t) = in_event e ++ in_expression_if t
in_waiting (tree.any es t) = in_events es ++ in_expression_if t
in_waiting (tree.all es t) = in_events es ++ in_expression_if t

abbrev pub in_notification : tree.Notification → Names
in_notification tree.immediate = []
in_notification tree.next_delta = []
in_notification (tree.after e) = in_expression e

abbrev pub in_target : tree.Target → Names
in_target t = t.name ∷ (name_if t.member ++ in_expression_if t.index)

abbrev pub in_operation : tree.Operation → Names
in_operation (tree.call x es) = x ∷ in_expressions es
in_operation (tree.read c) = in_channel c
in_operation (tree.nb_read c x) = in_channel c ++ x ∷ []
in_operation (tree.nb_write c e) = in_channel c ++ in_expression e
in_operation (tree.trylock c) = in_channel c
in_operation (tree.unlock c) = in_channel c
in_operation (tree.sem_trywait c) = in_channel c
in_operation (tree.nb_transport socket payload phase delay) = socket ∷ payload ∷ phase ∷ delay ∷ []

abbrev pub in_spawn : tree.Spawn → Names
in_spawn x = name_if x.handle ++ (x.function ∷ (in_expressions x.arguments ++ in_events x.sensitive))

abbrev pub in_who : Who → Names
in_who (who.Named line x) = x ∷ []
in_who (who.Myself line) = []

abbrev pub in_part : Part → Names
in_part (part.name r x) = x ∷ []
in_part (part.next_name r x) = x ∷ []
in_part (part.reaching_name r x all) = x ∷ []
in_part (part.text x) = []
in_part (part.term u e) = in_expression e
in_part (part.term_if u e) = in_expression_if e
in_part (part.next_term u e) = in_expression e
in_part (part.next_term_if u e) = in_expression_if e
in_part (part.channel u c) = in_channel c
in_part (part.waiting t) = in_waiting t
in_part (part.notification n) = in_notification n
in_part (part.instance x) = in_spawn x
in_part (part.process x) = in_who x
in_part (part.reaching_process x all) = in_who x

abbrev pub in_action : tree.Action → Names
in_action a = joined in_part (λ xs ys. xs ++ ys) [] (parts_of a)
