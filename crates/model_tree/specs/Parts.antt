-- Of what an action is made: one line a form. What goes over the parts of an action alone is said of the parts, and here of each form.
use Rattle.std.specs.Prelude.{ℕ, Bool, List, [], ◌∷◌, map, Option}
use Rattle.model_tree.specs.Spelling.{control_word}
use Rattle.model_tree.specs.Tree as tree
use Rattle.model_tree.specs.declared.vocabulary.Word.{Word}
use Rattle.model_tree.specs.declared.vocabulary.Word.TheVariants as w
use Rattle.model_tree.specs.declared.statements.Who.{Who}

-- what a name in an action is to be: an event, payload, memory, initiator or keeper that is declared, a variable that holds a payload or a
-- time, or an exception
pub data Role : Type 0 where
  event : Role
  payload : Role
  memory : Role
  initiator : Role
  keeper : Role
  carried : Role
  delay : Role
  exception : Role

-- what an action does to a channel
pub data Access : Type 0 where
  written : Access
  mutex : Access
  semaphore : Access

-- what an expression in an action is there for: it is written to a channel, printed, a time, a count, or an answer
pub data Purpose : Type 0 where
  value : tree.Channel → Purpose
  shown : Purpose
  time : Purpose
  count : Purpose
  answer : Purpose

-- a part of an action; what is next stands behind a comma, and what reaches descendants may have their word behind it
pub data Part : Type 0 where
  name : Role → List ℕ → Part
  next_name : Role → List ℕ → Part
  reaching_name : Role → List ℕ → Bool → Part
  text : List ℕ → Part
  term : Purpose → tree.Expression → Part
  term_if : Purpose → Option tree.Expression → Part
  next_term : Purpose → tree.Expression → Part
  next_term_if : Purpose → Option tree.Expression → Part
  channel : Access → tree.Channel → Part
  waiting : tree.Waiting → Part
  notification : tree.Notification → Part
  instance : tree.Spawn → Part
  process : Who → Part
  reaching_process : Who → Bool → Part

-- whether an action may make its process wait
pub data Blocking : Type 0 where
  never : Blocking
  always : Blocking
  where_fifo : tree.Channel → Blocking

-- the word of an action, whether it blocks, and its parts in the order of its text
pub record Form : Type 0 where
  pub word : Word
  pub blocking : Blocking
  pub parts : List Part

abbrev pub plain : Word → List Part → Form
plain x ps = record { word = x; blocking = never; parts = ps }

abbrev pub waits : Word → List Part → Form
waits x ps = record { word = x; blocking = always; parts = ps }

-- action = "write" chan expr | "print" TEXT [ expr ] | "notify" NAME [ "delta" | "after" expr ] | "cancel" NAME
--        | ( "wait" | "next_trigger" ) [ waiting ] | ( "lock" | "sem_wait" | "post" ) chan
--        | "make" NAME "," expr [ "," expr ] | ( "acquire" | "release" ) NAME | "carry" NAME "," NAME
--        | "b_transport" NAME "," NAME "," NAME | "qk_global" expr | ( "qk_inc" | "qk_set" ) NAME expr
--        | ( "qk_reset" | "qk_sync" ) NAME | "spawn" [ NAME "=" ] [ "method" ] NAME args [ sens ] [ "dont_initialize" ]
--        | ( "suspend" | "resume" | "disable" | "enable" | "kill" | "reset" ) who [ "descendants" ] | "throw_it" who NAME [ "descendants" ]
--        | "throw" NAME | "return" [ expr ] | "stop"
abbrev pub form_of : tree.Action → Form
form_of (tree.write c e) = record { word = w.Write; blocking = where_fifo c; parts = channel written c ∷ term (value c) e ∷ [] }
form_of (tree.print x e) = plain w.Print (text x ∷ term_if shown e ∷ [])
form_of (tree.notify x t) = plain w.Notify (name event x ∷ notification t ∷ [])
form_of (tree.cancel x) = plain w.Cancel (name event x ∷ [])
form_of (tree.wait t) = waits w.Wait (waiting t ∷ [])
form_of (tree.next_trigger t) = plain w.NextTrigger (waiting t ∷ [])
form_of (tree.lock c) = waits w.Lock (channel mutex c ∷ [])
form_of (tree.sem_wait c) = waits w.SemWait (channel semaphore c ∷ [])
form_of (tree.post c) = plain w.Post (channel semaphore c ∷ [])
form_of (tree.make x len enables) = plain w.Make (name payload x ∷ next_term count len ∷ next_term_if count enables ∷ [])
form_of (tree.acquire x) = plain w.Acquire (name payload x ∷ [])
form_of (tree.release x) = plain w.Release (name payload x ∷ [])
form_of (tree.carry p m) = plain w.Carry (name payload p ∷ next_name memory m ∷ [])
form_of (tree.b_transport x p t) = waits w.BTransport (name initiator x ∷ next_name carried p ∷ next_name delay t ∷ [])
form_of (tree.qk_global e) = plain w.QkGlobal (term time e ∷ [])
form_of (tree.qk_inc x e) = plain w.QkInc (name keeper x ∷ term time e ∷ [])
form_of (tree.qk_set x e) = plain w.QkSet (name keeper x ∷ term time e ∷ [])
form_of (tree.qk_reset x) = plain w.QkReset (name keeper x ∷ [])
form_of (tree.qk_sync x) = waits w.QkSync (name keeper x ∷ [])
form_of (tree.spawn x) = plain w.Spawn (instance x ∷ [])
form_of (tree.control c x all) = plain (control_word c) (reaching_process x all ∷ [])
form_of (tree.throw_it x y all) = plain w.ThrowIt (process x ∷ reaching_name exception y all ∷ [])
form_of (tree.throw x) = plain w.Throw (name exception x ∷ [])
form_of (tree.return_ e) = plain w.Return (term_if answer e ∷ [])
form_of tree.stop = plain w.Stop []

abbrev pub word_of_action : tree.Action → Word
word_of_action a = (form_of a).word

abbrev pub parts_of : tree.Action → List Part
parts_of a = (form_of a).parts

-- what f says of each part, joined in the order of the text; empty where there is none
module _ {A : Type 0} (f : Part → A) (join : A → A → A) (empty : A) where
  abbrev pub behind : Part → List Part → A
  behind p [] = f p
  behind p (q ∷ qs) = join (f p) (behind q qs)

  abbrev pub joined : List Part → A
  joined [] = empty
  joined (p ∷ ps) = behind p ps

-- an action with its parts written otherwise, each as f says
pub record Change : Type 0 where
  pub expression : tree.Expression → tree.Expression
  pub option : Option tree.Expression → Option tree.Expression
  pub channel_ : tree.Channel → tree.Channel
  pub waiting_ : tree.Waiting → tree.Waiting
  pub notification_ : tree.Notification → tree.Notification
  pub instance_ : tree.Spawn → tree.Spawn
  pub process_ : Who → Who

module _ (f : Change) where
  abbrev pub changed : tree.Action → tree.Action
  changed (tree.write c e) = tree.write (f.channel_ c) (f.expression e)
  changed (tree.print x e) = tree.print x (f.option e)
  changed (tree.notify x t) = tree.notify x (f.notification_ t)
  changed (tree.cancel x) = tree.cancel x
  changed (tree.wait t) = tree.wait (f.waiting_ t)
  changed (tree.next_trigger t) = tree.next_trigger (f.waiting_ t)
  changed (tree.lock c) = tree.lock (f.channel_ c)
  changed (tree.sem_wait c) = tree.sem_wait (f.channel_ c)
  changed (tree.post c) = tree.post (f.channel_ c)
  changed (tree.make x len enables) = tree.make x (f.expression len) (f.option enables)
  changed (tree.acquire x) = tree.acquire x
  changed (tree.release x) = tree.release x
  changed (tree.carry p m) = tree.carry p m
  changed (tree.b_transport x p t) = tree.b_transport x p t
  changed (tree.qk_global e) = tree.qk_global (f.expression e)
  changed (tree.qk_inc x e) = tree.qk_inc x (f.expression e)
  changed (tree.qk_set x e) = tree.qk_set x (f.expression e)
  changed (tree.qk_reset x) = tree.qk_reset x
  changed (tree.qk_sync x) = tree.qk_sync x
  changed (tree.spawn x) = tree.spawn (f.instance_ x)
  changed (tree.control c x all) = tree.control c (f.process_ x) all
  changed (tree.throw_it x y all) = tree.throw_it (f.process_ x) y all
  changed (tree.throw x) = tree.throw x
  changed (tree.return_ e) = tree.return_ (f.option e)
  changed tree.stop = tree.stop

  abbrev pub changed_purpose : Purpose → Purpose
  changed_purpose (value c) = value (f.channel_ c)
  changed_purpose shown = shown
  changed_purpose time = time
  changed_purpose count = count
  changed_purpose answer = answer

  abbrev pub changed_part : Part → Part
  changed_part (name r x) = name r x
  changed_part (next_name r x) = next_name r x
  changed_part (reaching_name r x all) = reaching_name r x all
  changed_part (text x) = text x
  changed_part (term u e) = term (changed_purpose u) (f.expression e)
  changed_part (term_if u e) = term_if (changed_purpose u) (f.option e)
  changed_part (next_term u e) = next_term (changed_purpose u) (f.expression e)
  changed_part (next_term_if u e) = next_term_if (changed_purpose u) (f.option e)
  changed_part (channel u c) = channel u (f.channel_ c)
  changed_part (waiting t) = waiting (f.waiting_ t)
  changed_part (notification t) = notification (f.notification_ t)
  changed_part (instance x) = instance (f.instance_ x)
  changed_part (process x) = process (f.process_ x)
  changed_part (reaching_process x all) = reaching_process (f.process_ x) all

  abbrev pub changed_blocking : Blocking → Blocking
  changed_blocking never = never
  changed_blocking always = always
  changed_blocking (where_fifo c) = where_fifo (f.channel_ c)

  abbrev pub changed_form : Form → Form
  changed_form x = record { word = x.word; blocking = changed_blocking x.blocking; parts = map changed_part x.parts }
