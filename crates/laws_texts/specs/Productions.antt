-- The productions of a tree, and which of them stand directly in which.
use Rattle.std.specs.Prelude.{◌≡◌, ℕ, List, [], ◌∷◌, ◌++◌, Option, Some, None, map}
use Rattle.model_rules.specs.ModelTree.Tree as tree
use Rattle.model_rules.specs.ModelTree.Parts as part
use Rattle.model_rules.specs.ModelTree.Parts.{Part, parts_of, joined}
use Rattle.model_rules.specs.ModelTree.Lines.{item_line, first_line}
use Rattle.model_rules.specs.ModelTree.declared.types.SignalType.{SignalType}
use Rattle.model_rules.specs.ModelTree.declared.types.VarType.{VarType}
use Rattle.model_rules.specs.ModelTree.declared.types.VarType.TheVariants as var_type
use Rattle.model_rules.specs.ModelTree.declared.types.Interface.{Interface}
use Rattle.model_rules.specs.ModelTree.declared.types.Interface.TheVariants as interface
use Rattle.model_rules.specs.ModelTree.declared.types.Constant.{Constant}
use Rattle.model_rules.specs.ModelTree.declared.types.Parameter.{Parameter}
use Rattle.model_rules.specs.ModelTree.declared.types.End.{End}
use Rattle.model_rules.specs.ModelTree.declared.statements.Who.{Who}
use Rattle.model_rules.specs.ModelTree.declared.items.Top.{Top}
use Rattle.model_rules.specs.Sites as site

-- A production that is written in a text, with its parts. An operation has the line of its word beside it.
pub data Production : Type 0 where
  of_module : tree.Module → Production
  of_top : Top → Production
  of_item : tree.Item → Production
  of_type : SignalType → Production
  of_constant : Constant → Production
  of_end : End → Production
  of_parameter : Parameter → Production
  of_event : tree.Event → Production
  of_channel : tree.Channel → Production
  of_expression : tree.Expression → Production
  of_statement : tree.Statement → Production
  of_operation : ℕ → tree.Operation → Production
  of_who : Who → Production

-- the production that a site is of, with nothing of what is known around it
abbrev pub production_of : ℕ → site.Part → Production
production_of line (site.of_module before m) = of_module m
production_of line (site.of_top t) = of_top t
production_of line (site.of_item before i) = of_item i
production_of line (site.of_type t) = of_type t
production_of line (site.of_constant c) = of_constant c
production_of line (site.of_end e) = of_end e
production_of line (site.of_parameter p) = of_parameter p
production_of line (site.of_event static e) = of_event e
production_of line (site.of_channel need c) = of_channel c
production_of line (site.of_member indexed e name) = of_expression (tree.member e name)
production_of line (site.of_expression e) = of_expression e
production_of line (site.of_statement x) = of_statement x
production_of line (site.of_operation o) = of_operation line o
production_of line (site.of_who w) = of_who w

-- the line of a statement's first token
abbrev pub statement_line : tree.Statement → ℕ
statement_line (tree.var line t name e) = line
statement_line (tree.assign line target e) = line
statement_line (tree.operate line name at o) = line
statement_line (tree.act line a) = line
statement_line (tree.if_ line e body other) = line
statement_line (tree.while_ line e body) = line
statement_line (tree.guard line body undo) = line
statement_line (tree.try_ line body handlers) = line

-- the line of a production's first token
abbrev pub line_of : Production → ℕ
line_of (of_module m) = m.line
line_of (of_top t) = t.line
line_of (of_item i) = item_line i
line_of (of_type t) = t.line
line_of (of_constant c) = c.line
line_of (of_end e) = e.line
line_of (of_parameter p) = p.line
line_of (of_event e) = e.channel.line
line_of (of_channel c) = c.line
line_of (of_expression e) = first_line e
line_of (of_statement x) = statement_line x
line_of (of_operation line o) = line
line_of (of_who w) = site.who_line w

-- what stands directly in each, in text order

-- an expression; a name, with its place where one is written, is a channel
abbrev pub term : tree.Expression → Production
term (tree.number line n) = of_expression (tree.number line n)
term (tree.time line n unit) = of_expression (tree.time line n unit)
term (tree.logic line digits) = of_expression (tree.logic line digits)
term (tree.truth line b) = of_expression (tree.truth line b)
term (tree.now line) = of_expression (tree.now line)
term (tree.myself line) = of_expression (tree.myself line)
term (tree.constant line word) = of_expression (tree.constant line word)
term (tree.paren line e) = of_expression (tree.paren line e)
term (tree.convert line c e) = of_expression (tree.convert line c e)
term (tree.to_vector line width e) = of_expression (tree.to_vector line width e)
term (tree.concat line upper lower) = of_expression (tree.concat line upper lower)
term (tree.named line name) = of_channel (record { line = line; name = name; place = tree.first })
term (tree.placed line name n) = of_channel (record { line = line; name = name; place = tree.place_number n })
term (tree.placed_by line name e) = of_channel (record { line = line; name = name; place = tree.computed e })
term (tree.member e name) = of_expression (tree.member e name)
term (tree.element e index) = of_expression (tree.element e index)
term (tree.slice e high low) = of_expression (tree.slice e high low)
term (tree.unary line op e) = of_expression (tree.unary line op e)
term (tree.binary op left right) = of_expression (tree.binary op left right)

abbrev pub in_expression : tree.Expression → List Production
in_expression (tree.number line n) = []
in_expression (tree.time line n unit) = []
in_expression (tree.logic line digits) = []
in_expression (tree.truth line b) = []
in_expression (tree.now line) = []
in_expression (tree.myself line) = []
in_expression (tree.constant line word) = []
in_expression (tree.paren line e) = term e ∷ []
in_expression (tree.convert line c e) = term e ∷ []
in_expression (tree.to_vector line width e) = term e ∷ []
in_expression (tree.concat line upper lower) = term upper ∷ term lower ∷ []
in_expression (tree.named line name) = []
in_expression (tree.placed line name n) = []
in_expression (tree.placed_by line name e) = term e ∷ []
in_expression (tree.member e name) = term e ∷ []
in_expression (tree.element e index) = term e ∷ term index ∷ []
in_expression (tree.slice e high low) = term e ∷ []
in_expression (tree.unary line op e) = term e ∷ []
in_expression (tree.binary op left right) = term left ∷ term right ∷ []

abbrev pub in_option : Option tree.Expression → List Production
in_option None = []
in_option (Some e) = term e ∷ []

abbrev pub in_arguments : List tree.Expression → List Production
in_arguments es = map term es

abbrev pub in_place : tree.Place → List Production
in_place tree.first = []
in_place (tree.place_number n) = []
in_place (tree.computed e) = term e ∷ []

abbrev pub in_events : List tree.Event → List Production
in_events es = map of_event es

abbrev pub in_waiting : tree.Waiting → List Production
in_waiting tree.static = []
in_waiting tree.delta = []
in_waiting (tree.for_ e) = term e ∷ []
in_waiting (tree.one e t) = of_event e ∷ in_option t
in_waiting (tree.any es t) = in_events es ++ in_option t
in_waiting (tree.all es t) = in_events es ++ in_option t

abbrev pub in_notification : tree.Notification → List Production
in_notification tree.immediate = []
in_notification tree.next_delta = []
in_notification (tree.after e) = term e ∷ []

abbrev pub in_operation : tree.Operation → List Production
in_operation (tree.call name arguments) = in_arguments arguments
in_operation (tree.read c) = of_channel c ∷ []
in_operation (tree.nb_read c name) = of_channel c ∷ []
in_operation (tree.nb_write c e) = of_channel c ∷ term e ∷ []
in_operation (tree.trylock c) = of_channel c ∷ []
in_operation (tree.unlock c) = of_channel c ∷ []
in_operation (tree.sem_trywait c) = of_channel c ∷ []
in_operation (tree.nb_transport socket p phase delay) = []

abbrev pub in_part : Part → List Production
in_part (part.name r x) = []
in_part (part.next_name r x) = []
in_part (part.reaching_name r x all) = []
in_part (part.text x) = []
in_part (part.term u e) = term e ∷ []
in_part (part.term_if u e) = in_option e
in_part (part.next_term u e) = term e ∷ []
in_part (part.next_term_if u e) = in_option e
in_part (part.channel u c) = of_channel c ∷ []
in_part (part.waiting w) = in_waiting w
in_part (part.notification n) = in_notification n
in_part (part.instance x) = in_arguments x.arguments ++ in_events x.sensitive
in_part (part.process w) = of_who w ∷ []
in_part (part.reaching_process w all) = of_who w ∷ []

abbrev pub in_action : tree.Action → List Production
in_action a = joined in_part (λ xs ys. xs ++ ys) [] (parts_of a)

abbrev pub in_var_type : VarType → List Production
in_var_type (var_type.Plain t) = of_type t ∷ []
in_var_type var_type.Time = []
in_var_type var_type.Process = []
in_var_type var_type.Payload = []

abbrev pub in_block : tree.Block → List Production
in_block tree.over = []
in_block (tree.then x xs) = of_statement x ∷ in_block xs

abbrev pub in_else : tree.Else → List Production
in_else tree.no_else = []
in_else (tree.else_block body) = in_block body

abbrev pub in_handlers : tree.Handlers → List Production
in_handlers tree.no_more = []
in_handlers (tree.handler name body more) = in_block body ++ in_handlers more

abbrev pub in_statement : tree.Statement → List Production
in_statement (tree.var line t name e) = in_var_type t ++ in_option e
in_statement (tree.assign line target e) = in_option target.index ++ term e ∷ []
in_statement (tree.operate line name at o) = of_operation at o ∷ []
in_statement (tree.act line a) = in_action a
in_statement (tree.if_ line e body other) = term e ∷ in_block body ++ in_else other
in_statement (tree.while_ line e body) = term e ∷ in_block body
in_statement (tree.guard line body undo) = in_block body ++ in_block undo
in_statement (tree.try_ line body handlers) = in_block body ++ in_handlers handlers

abbrev pub in_interface : Interface → List Production
in_interface (interface.In t) = of_type t ∷ []
in_interface (interface.Out t) = of_type t ∷ []
in_interface (interface.FifoIn t) = of_type t ∷ []
in_interface (interface.FifoOut t) = of_type t ∷ []
in_interface interface.Mutex = []
in_interface interface.Semaphore = []

abbrev pub in_constant : Option Constant → List Production
in_constant None = []
in_constant (Some c) = of_constant c ∷ []

abbrev pub in_answer : Option VarType → List Production
in_answer None = []
in_answer (Some t) = in_var_type t

abbrev pub in_parameters : List Parameter → List Production
in_parameters ps = map of_parameter ps

abbrev pub in_item : tree.Item → List Production
in_item (tree.signal line x) = of_type x.value_type ∷ in_constant x.initial
in_item (tree.resolved line name) = []
in_item (tree.clock line c) = []
in_item (tree.fifo line t name size) = of_type t ∷ []
in_item (tree.plain line kind name) = []
in_item (tree.semaphore line name c) = of_constant c ∷ []
in_item (tree.memory line name size) = []
in_item (tree.variable line t name c) = in_var_type t ++ in_constant c
in_item (tree.port line i name size) = in_interface i
in_item (tree.export line i name) = in_interface i
in_item (tree.initiator line name role) = []
in_item (tree.target line name role) = []
in_item (tree.instance line kind name) = []
in_item (tree.bind line left right) = of_end left ∷ of_end right ∷ []
in_item (tree.function line f) = in_parameters f.parameters ++ in_answer f.answer ++ in_block f.body
in_item (tree.process line p) = in_events p.sensitive ++ in_block p.body

abbrev pub parts : Production → List Production
parts (of_module m) = map of_item m.items
parts (of_top t) = []
parts (of_item i) = in_item i
parts (of_type t) = []
parts (of_constant c) = []
parts (of_end e) = []
parts (of_parameter p) = in_var_type p.var_type
parts (of_event e) = of_channel e.channel ∷ []
parts (of_channel c) = in_place c.place
parts (of_expression e) = in_expression e
parts (of_statement x) = in_statement x
parts (of_operation line o) = in_operation o
parts (of_who w) = []

-- the productions of a whole text that stand in no other
abbrev pub in_model : tree.Model → List Production
in_model m = map of_module m.modules ++ of_top m.top ∷ []

-- The sites of these productions and of all that stands in them: of each one site, with its line, and behind it those of what
-- stands directly in it.
pub data AreSitesOf : List Production → List site.Site → Type 0 where
  none : AreSitesOf [] []
  one : (p : Production) (ps : List Production) (x : site.Site) (inner outer : List site.Site)
      → production_of x.line x.part ≡ p → x.line ≡ line_of p → AreSitesOf (parts p) inner → AreSitesOf ps outer
      → AreSitesOf (p ∷ ps) (x ∷ inner ++ outer)
