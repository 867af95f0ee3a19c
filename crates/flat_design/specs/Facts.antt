-- What each form of statement is, one line a form: what it evaluates, the blocks in it, what it can wait for, what it calls,
-- owes and fires. What is asked of all statements alike is read off here; what a step of each does stands with the steps.
use Rattle.std.specs.Prelude.{ℕ, Bool, true, false, List, [], ◌∷◌, ◌++◌, Option, Some, None}
use Rattle.model_tree.specs.declared.statements.Control.{Control}
use Rattle.flat_design.specs.Code as code
use Rattle.flat_design.specs.Code.{Term, ChannelTerm, EventTerm, AwaitTerm, ArgumentTerm, DestinationTerm, Statement}
use Rattle.flat_design.specs.declared.names.NameUse.{NameUse}
use Rattle.flat_design.specs.declared.code.Store.{Store}
use Rattle.flat_design.specs.declared.code.Handler.{Handler}

abbrev pub listed : {A : Type 0} → Option A → List A
listed None = []
listed (Some x) = x ∷ []

-- the blocks in a statement, and how it carries them out
pub data Inner : Type 0 where
  no_block : Inner
  choice : ℕ → Option ℕ → Inner
  loop : ℕ → Inner
  guarded : ℕ → ℕ → Inner
  handled : ℕ → List Handler → Inner

-- what a statement can wait for: nothing; an event of its channel; one of the channel of this name, where that is a fifo; these events;
-- the return of a call over a socket; or nothing, but these events are what its method waits for next
pub data Waiting : Type 0 where
  for_nothing : Waiting
  for_channel : Waiting
  for_fifo : ℕ → Waiting
  for_events : AwaitTerm → Waiting
  for_return : Waiting
  next_time : AwaitTerm → Waiting

-- what a statement calls
pub data Called : Type 0 where
  no_call : Called
  function : Option Store → ℕ → List ArgumentTerm → Called
  nonblocking : Option Store → ℕ → NameUse → NameUse → NameUse → Called
  blocking : ℕ → NameUse → NameUse → Called

-- the call that a statement owes to each process that it is for
pub data Owed : Type 0 where
  no_order : Owed
  order : Control → Owed
  exception : ℕ → Owed

-- the events that a statement fires at once: none; that of this name; that of this channel, if its owner unlocks it; that of this
-- channel, to which it gives
pub data Fired : Type 0 where
  no_event : Fired
  named : ℕ → Fired
  unlocked : ChannelTerm → Fired
  posted : ChannelTerm → Fired

-- the terms in the order in which they are evaluated; whether it neither throws nor spawns nor makes a transport call
pub record Facts : Type 0 where
  pub terms : List Term
  pub inner : Inner
  pub waiting : Waiting
  pub called : Called
  pub owed : Owed
  pub fired : Fired
  pub prints : Bool
  pub is_plain : Bool

abbrev pub terms_of_events : List EventTerm → List Term
terms_of_events [] = []
terms_of_events (e ∷ es) = listed e.place ++ terms_of_events es

abbrev pub terms_of_await : AwaitTerm → List Term
terms_of_await code.static = []
terms_of_await code.delta = []
terms_of_await (code.for_ e) = e ∷ []
terms_of_await (code.any es t) = terms_of_events es ++ listed t
terms_of_await (code.all es t) = terms_of_events es ++ listed t

abbrev pub terms_of_arguments : List ArgumentTerm → List Term
terms_of_arguments [] = []
terms_of_arguments (code.by_value e ∷ xs) = e ∷ terms_of_arguments xs
terms_of_arguments (code.inout n ∷ xs) = terms_of_arguments xs

abbrev pub terms_of_destination : DestinationTerm → List Term
terms_of_destination (code.to_name s) = []
terms_of_destination (code.to_field n f) = []
terms_of_destination (code.to_element n index) = index ∷ []
terms_of_destination (code.to_payload_byte n bytes index) = index ∷ []

-- a statement that evaluates these terms and acts at once
abbrev pub acts : List Term → Facts
acts es = record { terms = es; inner = no_block; waiting = for_nothing; called = no_call; owed = no_order; fired = no_event; prints = false; is_plain = true }

abbrev pub waits : Waiting → List Term → Facts
waits w es = record (acts es) { waiting = w }

abbrev pub calls : Called → List Term → Facts
calls f es = record (acts es) { called = f }

abbrev pub holds : Inner → List Term → Facts
holds blocks es = record (acts es) { inner = blocks }

abbrev pub owes : Owed → Facts
owes call = record (acts []) { owed = call }

abbrev pub fires : Fired → List Term → Facts
fires events es = record (acts es) { fired = events }

abbrev pub facts : Statement → Facts
facts (code.var i t e) = acts (listed e)
facts (code.assign to e) = acts (terms_of_destination to ++ e ∷ [])
facts (code.call x f arguments) = calls (function x f arguments) (terms_of_arguments arguments)
facts (code.read x ch) = waits for_channel (listed ch.place)
facts (code.nb_read x ch y) = acts (listed ch.place)
facts (code.nb_write x ch t e) = acts (listed ch.place ++ e ∷ [])
facts (code.trylock x ch) = acts (listed ch.place)
facts (code.unlock x ch) = fires (unlocked ch) (listed ch.place)
facts (code.sem_trywait x ch) = acts (listed ch.place)
facts (code.nb_transport x s p phase delay) = record (calls (nonblocking x s p phase delay) []) { is_plain = false }
facts (code.write ch t e) = waits (for_fifo ch.channel_name) (listed ch.place ++ e ∷ [])
facts (code.print text e) = record (acts (listed e)) { prints = true }
facts (code.notify n) = fires (named n) []
facts (code.notify_delta n) = acts []
facts (code.notify_after n e) = acts (e ∷ [])
facts (code.cancel n) = acts []
facts (code.wait w) = waits (for_events w) (terms_of_await w)
facts (code.next_trigger w) = waits (next_time w) (terms_of_await w)
facts (code.lock ch) = waits for_channel (listed ch.place)
facts (code.sem_wait ch) = waits for_channel (listed ch.place)
facts (code.post ch) = fires (posted ch) (listed ch.place)
facts (code.make p n enables) = acts (n ∷ listed enables)
facts (code.acquire p) = acts []
facts (code.release p) = acts []
facts (code.carry p m) = acts []
facts (code.b_transport s p delay) = record (calls (blocking s p delay) []) { waiting = for_return; is_plain = false }
facts (code.qk_global e) = acts (e ∷ [])
facts (code.qk_inc n e) = acts (e ∷ [])
facts (code.qk_set n e) = acts (e ∷ [])
facts (code.qk_reset n) = acts []
facts (code.spawn s) = record (acts s.arguments) { is_plain = false }
facts (code.control asked who all) = owes (order asked)
facts (code.throw_it who n all) = owes (exception n)
facts (code.throw n) = record (acts []) { is_plain = false }
facts (code.return_ e) = acts (listed e)
facts code.stop = acts []
facts (code.if_ e b other) = holds (choice b other) (e ∷ [])
facts (code.while_ e b) = holds (loop b) (e ∷ [])
facts (code.guard b u) = holds (guarded b u) []
facts (code.try_ b handlers) = holds (handled b handlers) []
