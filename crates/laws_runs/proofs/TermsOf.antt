-- Each expression of a typed statement has a type.
use Rattle.std.proofs.Common.{ℕ, List, [], ◌∷◌, ◌++◌, Option, Some, None, ⊎_elim}
use Rattle.sim_model.specs.FlatDesign.Code as code
use Rattle.sim_model.specs.FlatDesign.Code.{Term, ChannelTerm, EventTerm, AwaitTerm, ArgumentTerm, Statement, Arena}
use Rattle.sim_model.specs.FlatDesign.Denotes.{Context}
use Rattle.sim_model.specs.FlatDesign.Typed.{HasType, Gives, GivesInteger, GivesTime, IfWritten, EachOf, PlaceFits, IsEventAt, IsEventUse, IsAwait, AreArguments, AreFirstArguments, IsReturned, IsDestination, IsPrinted, IsTyped}
use Rattle.sim_model.specs.FlatDesign.Facts.{listed, terms_of_events, terms_of_await, terms_of_arguments, terms_of_destination}
use Rattle.sim_model.specs.FlatDesign.declared.value_types.ValueType.{ValueType}
use Rattle.sim_model.specs.FlatDesign.declared.value_types.ValueType.TheVariants as type
use Rattle.sim_model.specs.FlatDesign.declared.names.NameUse.{NameUse}
use Rattle.sim_model.specs.FlatDesign.declared.names.NameUse.TheVariants as name_use
use Rattle.sim_model.specs.FlatDesign.declared.names.EventMember.{EventMember}
use Rattle.sim_model.specs.FlatDesign.declared.code.Local.{Local}
use Rattle.laws_runs.proofs.EachLists.{each-more}
use Rattle.laws_runs.specs.Terms.{terms_of}

module _ (c : Context) where
  abbrev pub IsSome : Term → Type 0
  IsSome e = (t : ValueType) × HasType c e t

  given : (e : Term) (t : ValueType) → Gives c e t → IsSome e
  given e t g = (g.0, g.1)

  if_written : (P : Term → Type 0) → ((e : Term) → P e → IsSome e) → (o : Option Term) → IfWritten P o → EachOf IsSome (listed o)
  if_written P each None h = tt
  if_written P each (Some e) h = (each e h, tt)

  integer : (e : Term) → GivesInteger c e → IsSome e
  integer e g = (g.0, g.1)

  time : (e : Term) → GivesTime c e → IsSome e
  time e g = (type.Time, g)

  at_place : (n : ℕ) (o : Option Term) → PlaceFits c n o → EachOf IsSome (listed o)
  at_place n None h = tt
  at_place n (Some e) h = (integer e h.1, tt)

  event_place : (n : NameUse) (o : Option Term) (x : EventMember) → IsEventAt c n o x → EachOf IsSome (listed o)
  event_place (name_use.Local i) None x h = tt
  event_place (name_use.Local i) (Some e) x h = cc
  event_place (name_use.Declared n) o x h = at_place n o h.1

  events_typed : (es : List EventTerm) → EachOf (IsEventUse c) es → EachOf IsSome (terms_of_events es)
  events_typed [] h = tt
  events_typed (e ∷ es) h = each-more IsSome (listed e.place) (terms_of_events es) (event_place e.event_name e.place e.event h.0) (events_typed es h.1)

  await_typed : (w : AwaitTerm) → IsAwait c w → EachOf IsSome (terms_of_await w)
  await_typed code.static h = tt
  await_typed code.delta h = tt
  await_typed (code.for_ e) h = (time e h, tt)
  await_typed (code.any es t) h = each-more IsSome (terms_of_events es) (listed t) (events_typed es h.0) (if_written (GivesTime c) time t h.1)
  await_typed (code.all es t) h = each-more IsSome (terms_of_events es) (listed t) (events_typed es h.0) (if_written (GivesTime c) time t h.1)

  arguments_typed : (ps : List Local) (xs : List ArgumentTerm) → AreArguments c ps xs → EachOf IsSome (terms_of_arguments xs)
  arguments_typed [] [] h = tt
  arguments_typed [] (x ∷ xs) h = absurd h
  arguments_typed (p ∷ ps) [] h = absurd h
  arguments_typed (p ∷ ps) (code.by_value e ∷ xs) h = (given e p.value_type h.0.1, arguments_typed ps xs h.1)
  arguments_typed (p ∷ ps) (code.inout n ∷ xs) h = arguments_typed ps xs h.1

  first_typed : (ps : List Local) (es : List Term) → AreFirstArguments c ps es → EachOf IsSome es
  first_typed [] [] h = tt
  first_typed [] (e ∷ es) h = absurd h
  first_typed (p ∷ ps) [] h = absurd h
  first_typed (p ∷ ps) (e ∷ es) h = (given e p.value_type h.1, first_typed ps es h.2)

  returned_typed : (a : Option ValueType) (e : Option Term) → IsReturned c a e → EachOf IsSome (listed e)
  returned_typed None None h = tt
  returned_typed None (Some e) h = absurd h
  returned_typed (Some t) None h = absurd h
  returned_typed (Some t) (Some e) h = (given e t h, tt)

  assigned : (d : code.DestinationTerm) (e : Term) → IsDestination c d e → EachOf IsSome (terms_of_destination d ++ e ∷ [])
  assigned (code.to_name s) e h = (given e s.value_type h.1, tt)
  assigned (code.to_field n f) e h = ((h.1.0, h.1.1), tt)
  assigned (code.to_element n index) e h = (integer index h.1, (integer e h.2, tt))
  assigned (code.to_payload_byte n bytes index) e h = (integer index h.1, (integer e h.2, tt))

  placed : (ch : ChannelTerm) → PlaceFits c ch.channel_name ch.place → EachOf IsSome (listed ch.place)
  placed ch h = at_place ch.channel_name ch.place h

  placed_with : (ch : ChannelTerm) (t : ValueType) (e : Term) → PlaceFits c ch.channel_name ch.place → Gives c e t → EachOf IsSome (listed ch.place ++ e ∷ [])
  placed_with ch t e h g = each-more IsSome (listed ch.place) (e ∷ []) (placed ch h) (given e t g, tt)

  pub terms-typed : (a : Arena) (m : ℕ) (answer : Option ValueType) (s : Statement) → IsTyped a m answer c s → EachOf IsSome (terms_of s)
  terms-typed a m answer (code.var i t e) h = if_written (λ x. Gives c x t) (λ x g. given x t g) e h.1
  terms-typed a m answer (code.assign d e) h = assigned d e h
  terms-typed a m answer (code.call x f arguments) h = arguments_typed _ arguments h.2
  terms-typed a m answer (code.read x ch) h = placed ch h.1.1
  terms-typed a m answer (code.nb_read x ch y) h = placed ch h.1.1
  terms-typed a m answer (code.nb_write x ch t e) h = placed_with ch t e h.0.1 h.1
  terms-typed a m answer (code.trylock x ch) h = placed ch h.0.1
  terms-typed a m answer (code.unlock x ch) h = placed ch h.0.1
  terms-typed a m answer (code.sem_trywait x ch) h = placed ch h.0.1
  terms-typed a m answer (code.write ch t e) h = placed_with ch t e (⊎_elim (λ u. u.1) (λ u. u.1) h.0) h.1
  terms-typed a m answer (code.print text e) h = if_written (IsPrinted c) (λ x g. (g.0, g.1)) e h
  terms-typed a m answer (code.wait w) h = await_typed w h
  terms-typed a m answer (code.next_trigger w) h = await_typed w h
  terms-typed a m answer (code.lock ch) h = placed ch h.1
  terms-typed a m answer (code.sem_wait ch) h = placed ch h.1
  terms-typed a m answer (code.post ch) h = placed ch h.1
  terms-typed a m answer (code.make p n enables) h = (integer n h.1, if_written (GivesInteger c) integer enables h.2)
  terms-typed a m answer (code.spawn s) h = first_typed _ s.arguments h.2
  terms-typed a m answer (code.return_ e) h = returned_typed answer e h
  terms-typed a m answer (code.if_ e b other) h = ((type.Bool, h), tt)
  terms-typed a m answer (code.while_ e b) h = ((type.Bool, h), tt)
  terms-typed a m answer other h = search (time)
