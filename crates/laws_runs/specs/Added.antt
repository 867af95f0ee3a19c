-- Which entry a step is about to add to the history of a hop, and how it is judged.
use Rattle.std.specs.Prelude.{None, ◌≡◌, ◌⊎◌, ℕ, Bool, false, List, [], ◌∷◌, ◌++◌, slice_get, Option, Some, is_some, Ok}
use Rattle.sim_model.specs.LogicValues.declared.kinds.Value.TheVariants as value
use Rattle.sim_model.specs.PayloadPool.declared.payload.Payload.{Payload}
use Rattle.sim_model.specs.TransportPhases.History.{Entry, Call, Return, BCall, BReturn, broken}
use Rattle.sim_model.specs.TransportPhases.declared.phases.Rule.{Rule}
use Rattle.sim_model.specs.TransportPhases.declared.phases.Rule.TheVariants as rule_of
use Rattle.sim_model.specs.TransportPhases.Lawful.{Lawful}
use Rattle.sim_model.specs.FlatDesign.Code as code
use Rattle.sim_model.specs.FlatDesign.Code.{statement_at}
use Rattle.sim_model.specs.FlatDesign.declared.names.NameUse.{NameUse}
use Rattle.sim_model.specs.FlatDesign.declared.code.Store.{Store as Target}
use Rattle.sim_model.specs.FlatDesign.declared.faults.RunFault.{RunFault}
use Rattle.sim_model.specs.FlatDesign.declared.faults.RunFault.TheVariants as fault
use Rattle.sim_model.specs.Residual as residual
use Rattle.sim_model.specs.Residual.{Residual, Frame, settle, next_of}
use Rattle.sim_model.specs.Payloads.{payload_of}
use Rattle.sim_model.specs.Configuration.{Config, Instance, arena, instance_at}
use Rattle.sim_model.specs.Reading.{Here, here, denotes, payload_number, live_payload}
use Rattle.sim_model.specs.Calls.{answer_of, final_value}
use Rattle.sim_model.specs.Transport.{socket_of, blocking_handler, nonblocking_handler, may_enter_handler, path_of_call, int_of, value_named, is_complete, history, rule_number}
use Rattle.sim_model.specs.Statements.{settled_in}
use Rattle.sim_model.specs.Steps.{Outcome, went, faulted}
use Rattle.sim_model.specs.declared.plain.Phase.TheVariants as phase
use Rattle.sim_model.specs.declared.plain.Via.{Via}

-- the next step is one of the instance p, which is i, on top of the stack
pub record IsNext (c : Config) (p : ℕ) (i : Instance) : Type 0 where
  pub runs : c.cycle.stopped ≡ false
  pub evaluates : c.cycle.phase ≡ phase.Evaluate
  pub rest : List ℕ
  pub top : c.processes.stack ≡ p ∷ rest
  pub at : instance_at c p ≡ Some i

-- what is left of its body once finished parts have fallen away, and where the statement in place stands
abbrev pub left_of : Config → Instance → Residual
left_of c i = settle (arena c) i.residual

abbrev pub place_of : Config → ℕ → Instance → Here
place_of c p i = here (settled_in c p i.residual) p (record i { residual = left_of c i }) (left_of c i)

-- The step comes to a call over a hop, of a payload that is not freed, and not too deep; or to the end of such a call, the
-- payload not freed. This is the entry that it adds to the hop, if that may be.
pub data WouldAdd (c : Config) : ℕ → ℕ → Entry → Type 0 where
  b_call : (p : ℕ) (i : Instance) (s socket : ℕ) (n d : NameUse) (hop : ℕ) (forward : Bool) (t : ℕ) (q : Payload) → IsNext c p i
      → next_of (left_of c i) ≡ residual.statement s → statement_at (arena c) s ≡ Some (code.b_transport socket n d)
      → socket_of (denotes (place_of c p i) socket) ≡ Some (hop, forward) → payload_number (place_of c p i) n ≡ Ok t → live_payload c t ≡ Ok q
      → may_enter_handler (left_of c i) (blocking_handler (slice_get c.design.hops hop)) ≡ Ok tt
      → WouldAdd c hop t (BCall t (is_some (blocking_handler (slice_get c.design.hops hop))))
  nb_call : (p : ℕ) (i : Instance) (s socket : ℕ) (y : Option Target) (n ph d : NameUse) (hop : ℕ) (forward : Bool) (t : ℕ) (q : Payload) → IsNext c p i
      → next_of (left_of c i) ≡ residual.statement s → statement_at (arena c) s ≡ Some (code.nb_transport y socket n ph d)
      → socket_of (denotes (place_of c p i) socket) ≡ Some (hop, forward) → payload_number (place_of c p i) n ≡ Ok t → live_payload c t ≡ Ok q
      → may_enter_handler (left_of c i) (nonblocking_handler forward (slice_get c.design.hops hop)) ≡ Ok tt
      → WouldAdd c hop t (Call t (path_of_call forward) (int_of (value_named (place_of c p i) ph)) (is_complete q) (is_some (nonblocking_handler forward (slice_get c.design.hops hop))))
  b_return : (p : ℕ) (i : Instance) (x : Frame) (s socket : ℕ) (n d : NameUse) (via : Via) (q : Payload) → IsNext c p i
      → next_of (left_of c i) ≡ residual.leaves x → x.call ≡ Some s → statement_at (arena c) s ≡ Some (code.b_transport socket n d) → x.via ≡ Some via
      → payload_of c.transactions.pool via.payload ≡ Some q
      → WouldAdd c via.hop via.payload (BReturn via.payload (is_complete q))
  nb_return : (p : ℕ) (i : Instance) (x : Frame) (s socket : ℕ) (y : Option Target) (n ph d : NameUse) (via : Via) (q : Payload) → IsNext c p i
      → next_of (left_of c i) ≡ residual.leaves x → x.call ≡ Some s → statement_at (arena c) s ≡ Some (code.nb_transport y socket n ph d) → x.via ≡ Some via
      → payload_of c.transactions.pool via.payload ≡ Some q
      → WouldAdd c via.hop via.payload (Return via.payload (int_of (answer_of (arena c) x)) (int_of (final_value x 1 (value.Int 32 0))) (is_complete q))

-- the step adds the entry exactly where the history with it is lawful; and where it is not, the step is the fault of the first
-- rule that is broken, with the hop and the payload
pub record IsJudged (c : Config) (hop t : ℕ) (e : Entry) (o : Outcome) : Type 0 where
  pub lawful : Lawful (history c hop ++ e ∷ []) → (d : Config) × (o ≡ went d) × (history d hop ≡ history c hop ++ e ∷ [])
  pub unlawful : (Lawful (history c hop ++ e ∷ []) → ⊥) → (rule : Rule) × (broken (history c hop) e ≡ Some rule) × (o ≡ faulted (fault.Protocol (rule_number rule) hop t))

-- The step comes to the end of a call whose payload is freed: it reads as incomplete.
pub data WouldAddFreed (c : Config) : ℕ → ℕ → Entry → Type 0 where
  b_freed : (p : ℕ) (i : Instance) (x : Frame) (s socket : ℕ) (n d : NameUse) (via : Via) → IsNext c p i
      → next_of (left_of c i) ≡ residual.leaves x → x.call ≡ Some s → statement_at (arena c) s ≡ Some (code.b_transport socket n d) → x.via ≡ Some via
      → payload_of c.transactions.pool via.payload ≡ None
      → WouldAddFreed c via.hop via.payload (BReturn via.payload false)
  nb_freed : (p : ℕ) (i : Instance) (x : Frame) (s socket : ℕ) (y : Option Target) (n ph d : NameUse) (via : Via) → IsNext c p i
      → next_of (left_of c i) ≡ residual.leaves x → x.call ≡ Some s → statement_at (arena c) s ≡ Some (code.nb_transport y socket n ph d) → x.via ≡ Some via
      → payload_of c.transactions.pool via.payload ≡ None
      → WouldAddFreed c via.hop via.payload (Return via.payload (int_of (answer_of (arena c) x)) (int_of (final_value x 1 (value.Int 32 0))) false)

-- the rule on the response is then the fault of a freed payload
abbrev pub fault_if_freed : Rule → ℕ → ℕ → RunFault
fault_if_freed rule_of.P1 hop t = fault.Protocol 1 hop t
fault_if_freed rule_of.P2 hop t = fault.Protocol 2 hop t
fault_if_freed rule_of.P3 hop t = fault.Protocol 3 hop t
fault_if_freed rule_of.P4 hop t = fault.Protocol 4 hop t
fault_if_freed rule_of.P5 hop t = fault.Protocol 5 hop t
fault_if_freed rule_of.P6 hop t = fault.PayloadFreed t
fault_if_freed rule_of.P7 hop t = fault.Protocol 7 hop t
fault_if_freed rule_of.P8 hop t = fault.Protocol 8 hop t
fault_if_freed rule_of.P9 hop t = fault.Protocol 9 hop t
fault_if_freed rule_of.P10 hop t = fault.Protocol 10 hop t

pub record IsJudgedFreed (c : Config) (hop t : ℕ) (e : Entry) (o : Outcome) : Type 0 where
  pub lawful : Lawful (history c hop ++ e ∷ []) → (d : Config) × (o ≡ went d) × (history d hop ≡ history c hop ++ e ∷ [])
  pub unlawful : (Lawful (history c hop ++ e ∷ []) → ⊥) → (rule : Rule) × (broken (history c hop) e ≡ Some rule) × (o ≡ faulted (fault_if_freed rule hop t))

-- The step comes to a call over a hop that names a payload which is freed.
pub data NamesFreed (c : Config) : ℕ → Type 0 where
  b_named : (p : ℕ) (i : Instance) (s socket : ℕ) (n d : NameUse) (hop : ℕ) (forward : Bool) (t : ℕ) → IsNext c p i
      → next_of (left_of c i) ≡ residual.statement s → statement_at (arena c) s ≡ Some (code.b_transport socket n d)
      → socket_of (denotes (place_of c p i) socket) ≡ Some (hop, forward) → payload_number (place_of c p i) n ≡ Ok t → payload_of c.transactions.pool t ≡ None
      → NamesFreed c t
  nb_named : (p : ℕ) (i : Instance) (s socket : ℕ) (y : Option Target) (n ph d : NameUse) (hop : ℕ) (forward : Bool) (t : ℕ) → IsNext c p i
      → next_of (left_of c i) ≡ residual.statement s → statement_at (arena c) s ≡ Some (code.nb_transport y socket n ph d)
      → socket_of (denotes (place_of c p i) socket) ≡ Some (hop, forward) → payload_number (place_of c p i) n ≡ Ok t → payload_of c.transactions.pool t ≡ None
      → NamesFreed c t

-- the step comes to an entry of this hop and this payload, and the first rule that the entry breaks has this number
pub record BreaksRule (c : Config) (number hop t : ℕ) : Type 0 where
  pub entry : Entry
  pub comes : WouldAdd c hop t entry ⊎ WouldAddFreed c hop t entry
  pub rule : Rule
  pub is_first : broken (history c hop) entry ≡ Some rule
  pub has_number : rule_number rule ≡ number
