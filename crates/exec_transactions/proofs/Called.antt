-- What a transport call does, part by part.
use Rattle.std.proofs.Common.{◌≡◌, ℕ, Bool, true, false, List, Option, Some, None, Result, Ok, Err, refl, sym, ◌∙◌, subst, true≢false}
use Rattle.std.specs.Prelude.{is_some, slice_get, ◌∷◌, []}
use Rattle.exec_calls.specs.LogicValues.declared.kinds.Value.{Value}
use Rattle.exec_calls.specs.LogicValues.declared.kinds.Value.TheVariants as value
use Rattle.exec_calls.specs.PayloadPool.declared.payload.Payload.{Payload}
use Rattle.exec_calls.specs.TransportPhases.declared.phases.Rule.{Rule}
use Rattle.exec_calls.specs.TransportPhases.History.{Entry, Call, BCall, broken}
use Rattle.flat_design.specs.declared.names.NameUse.{NameUse}
use Rattle.flat_design.specs.declared.faults.RunFault.{RunFault}
use Rattle.flat_design.specs.declared.faults.RunFault.TheVariants as fault
use Rattle.exec_calls.specs.SimModel.Values.{on_ok}
use Rattle.exec_calls.specs.SimModel.Residual.{Residual, settle}
use Rattle.exec_calls.specs.SimModel.Payloads.{payload_of}
use Rattle.exec_calls.specs.SimModel.Configuration.{Config, Instance, Transactions, arena, instance_at, with_residual}
use Rattle.exec_calls.specs.SimModel.Statements.{settled_in}
use Rattle.exec_calls.specs.SimModel.Reading.{Here, here, live_payload, not_freed}
use Rattle.exec_calls.specs.SimModel.Calls.{may_enter, enters, with_entry}
use Rattle.exec_calls.specs.SimModel.Transport.{history, is_complete, judged_by, judged, may_enter_handler, enters_handler, blocking_handler, nonblocking_handler, path_of_call, int_of, value_named}
use Rattle.exec_calls.specs.SimModel.declared.plain.Via.{Via}
use Rattle.exec_calls.specs.KernelTransactions.Board as board
use Rattle.exec_calls.specs.KernelTransactions.Board.{StandsForTransactions, SameQuantum, StaysWithin, entered}
use Rattle.exec_calls.specs.KernelTransactions.Answers.{complete_in}
use Rattle.exec_calls.specs.KernelTransactions.declared.TransactionBoard.{TransactionBoard}
use Rattle.exec_calls.specs.KernelState.Kernel.{StandsFor, IsSound}
use Rattle.exec_calls.specs.KernelState.Moves.{Moves, Steps}
use Rattle.exec_calls.specs.KernelState.declared.kernel.Kernel.{Kernel}
use Rattle.exec_calls.proofs.KernelState.Frames.{transactions_move, change-twice}
use Rattle.exec_calls.specs.KernelView.Standings.{Everywhere}
use Rattle.exec_calls.specs.KernelState.declared.stops.StatementStop.{StatementStop}
use Rattle.exec_calls.specs.KernelState.declared.stops.StatementStop.TheVariants as stop
use Rattle.exec_transactions.specs.Entries.{entry_of, JudgesOrLacks}
use Rattle.exec_calls.specs.KernelState.Stopping.{FollowsBut, DoesBut}
use Rattle.exec_transactions.specs.Calling.{IsOfProtocol}

-- ---- the judgement

-- where memory is refused, the judgement that is left can be at fault by the protocol alone
module _ (l : Kernel) (c d : Config) (hop t : ℕ) (e : Entry) (g : Config → Config) (stands : StandsFor l c) where
  lacks_by : (o : Option Rule) → FollowsBut IsOfProtocol l (Err stop.NoMemory) c (on_ok (judged_by d hop e t o) (λ x. Ok (g x)))
  lacks_by None = stands
  lacks_by (Some p) = (tt, stands)

  pub lacks : FollowsBut IsOfProtocol l (Err stop.NoMemory) c (on_ok (judged d hop e t) (λ x. Ok (g x)))
  lacks = lacks_by (broken (history d hop) e)

  pub refused : (s : StatementStop) → JudgesOrLacks (Err s) d hop e t → FollowsBut IsOfProtocol l (Err s) c (on_ok (judged d hop e t) (λ x. Ok (g x)))
  refused (stop.Fault f) is = subst (λ o. FollowsBut IsOfProtocol l (Err (stop.Fault f)) c (on_ok o (λ x. Ok (g x)))) (sym is) (refl, stands)
  refused stop.NoMemory is = lacks

-- a board that stands for the transactions of what a kernel stands for
pub board_stays : (k : Kernel) (b : TransactionBoard) → board.Moves k.transactions b (λ x. x) → SameQuantum k.transactions b → Moves k (record k { transactions = b }) (λ c. c)
board_stays k b stays same c h = transactions_move k c h b c.transactions (stays c.transactions h.transactions) same

pub board_sound : (k : Kernel) (b : TransactionBoard) → IsSound k → StaysWithin k.transactions b → IsSound (record k { transactions = b })
board_sound k b sound within = record {
  schedule = sound.schedule;
  bodies = sound.bodies;
  nobody_due = sound.nobody_due;
  serials = sound.serials;
  payloads = within k.made sound.payloads;
}

-- the history of a hop has an entry more
pub board_enters : (k : Kernel) (b : TransactionBoard) (hop : ℕ) (e : Transactions → Entry) → board.Moves k.transactions b (λ x. entered x hop (e x)) → SameQuantum k.transactions b
    → Moves k (record k { transactions = b }) (λ c. with_entry c hop (e c.transactions))
board_enters k b hop e moves same c h = transactions_move k c h b (entered c.transactions hop (e c.transactions)) (moves c.transactions h.transactions) same

-- ---- a handler begins

module _ (k : Kernel) (p s f : ℕ) (via : Via) (phase : Value) (values : List Value) where
  -- the call, once it is known that it may be entered
  abbrev pub entering : Config → ℕ → Instance → Residual → Result Config RunFault
  entering c q i r = on_ok (judged c via.hop (entry_of via phase (complete_in c.transactions via.payload) true) via.payload) (λ x. Ok (enters x q r s f values (Some via)))

  module _ (l : Kernel) (answer : Result Unit StatementStop) (c : Config) (i : Instance) where
    -- it may be entered
    pub entered_by : may_enter (settle (arena c) i.residual) ≡ Ok tt
        → FollowsBut IsOfProtocol l answer c (entering (settled_in c p i.residual) p (record i { residual = settle (arena c) i.residual }) (settle (arena c) i.residual))
        → FollowsBut IsOfProtocol l answer c (on_ok (may_enter (settle (arena c) i.residual)) (λ ok. entering (settled_in c p i.residual) p (record i { residual = settle (arena c) i.residual }) (settle (arena c) i.residual)))
    entered_by may = subst (λ o. FollowsBut IsOfProtocol l answer c (on_ok o (λ ok. entering (settled_in c p i.residual) p (record i { residual = settle (arena c) i.residual }) (settle (arena c) i.residual)))) (sym may)

    -- as many calls are open as may be
    pub too_deep : may_enter (settle (arena c) i.residual) ≡ Err fault.FrameDepth → StandsFor l c
        → FollowsBut IsOfProtocol l (Err (stop.Fault fault.FrameDepth)) c (on_ok (may_enter (settle (arena c) i.residual)) (λ ok. entering (settled_in c p i.residual) p (record i { residual = settle (arena c) i.residual }) (settle (arena c) i.residual)))
    too_deep may stands = subst (λ o. FollowsBut IsOfProtocol l (Err (stop.Fault fault.FrameDepth)) c (on_ok o (λ ok. entering (settled_in c p i.residual) p (record i { residual = settle (arena c) i.residual }) (settle (arena c) i.residual)))) (sym may) (refl, stands)

  -- the hop took the call into its history, and then the handler began with these arguments
  pub entered_then : (b : TransactionBoard) → board.Moves k.transactions b (λ x. entered x via.hop (entry_of via phase (complete_in x via.payload) true)) → SameQuantum k.transactions b
      → (args : List Value) → args ≡ values → (l : Kernel) → Steps (record k { transactions = b }) l p (λ c q i r. enters c q r s f args (Some via))
      → (c : Config) (i : Instance) → StandsFor k c → instance_at c p ≡ Some i
      → judged (settled_in c p i.residual) via.hop (entry_of via phase (complete_in c.transactions via.payload) true) via.payload ≡ Ok (with_entry (settled_in c p i.residual) via.hop (entry_of via phase (complete_in c.transactions via.payload) true))
      → FollowsBut IsOfProtocol l (Ok tt) c (entering (settled_in c p i.residual) p (record i { residual = settle (arena c) i.residual }) (settle (arena c) i.residual))
  entered_then b moves same args are l next c i h there is =
      let e = entry_of via phase (complete_in c.transactions via.payload) true in
      let first = settled_in c p i.residual in
      let left = settle (arena c) i.residual in
      subst (λ o. FollowsBut IsOfProtocol l (Ok tt) c (on_ok o (λ x. Ok (enters x p left s f values (Some via))))) (sym is)
      (subst (λ vs. StandsFor l (enters (with_entry first via.hop e) p left s f vs (Some via))) are
      (next (with_entry c via.hop e) i (board_enters k b via.hop (λ x. entry_of via phase (complete_in x via.payload) true) moves same c h) there))

-- ---- no handler begins

module _ (k : Kernel) (p : ℕ) (via : Via) (phase : Value) where
  pub unhandled_then : (b : TransactionBoard) → board.Moves k.transactions b (λ x. entered x via.hop (entry_of via phase (complete_in x via.payload) false)) → SameQuantum k.transactions b
      → (l : Kernel) → Steps (record k { transactions = b }) l p (λ c q i r. with_residual c q r)
      → (c : Config) (i : Instance) → StandsFor k c → instance_at c p ≡ Some i
      → judged (settled_in c p i.residual) via.hop (entry_of via phase (complete_in c.transactions via.payload) false) via.payload ≡ Ok (with_entry (settled_in c p i.residual) via.hop (entry_of via phase (complete_in c.transactions via.payload) false))
      → FollowsBut IsOfProtocol l (Ok tt) c (on_ok (judged (settled_in c p i.residual) via.hop (entry_of via phase (complete_in c.transactions via.payload) false) via.payload) (λ x. Ok x))
  unhandled_then b moves same l next c i h there is =
      let e = entry_of via phase (complete_in c.transactions via.payload) false in
      let first = settled_in c p i.residual in
      let left = settle (arena c) i.residual in
      subst (λ o. FollowsBut IsOfProtocol l (Ok tt) c (on_ok o (λ x. Ok x))) (sym is)
      (subst (λ is. StandsFor l (record (with_entry first via.hop e) { processes = record c.processes { instances = is } }))
      (change-twice c.processes.instances p (λ j. record j { residual = left }) (λ j. record j { residual = left }))
      (next (with_entry c via.hop e) i (board_enters k b via.hop (λ x. entry_of via phase (complete_in x via.payload) false) moves same c h) there))

-- ---- a live payload

live_by : (t : ℕ) (o : Option Payload) → is_some o ≡ true → (q : Payload) × (not_freed t o ≡ Ok q)
live_by t None is = absurd (true≢false (sym is))
live_by t (Some q) is = (q, refl)

freed_by : (t : ℕ) (o : Option Payload) → is_some o ≡ false → not_freed t o ≡ Err (fault.PayloadFreed t)
freed_by t None is = refl
freed_by t (Some q) is = absurd (true≢false is)

abbrev pub StatusIsRead : Type 0
StatusIsRead = (c : Config) (t : ℕ) (q : Payload) → live_payload c t ≡ Ok q → is_complete q ≡ complete_in c.transactions t

module _ (k : Kernel) (p s : ℕ) (handler : Option ℕ) (via : Via) (phase : Value) (values : List Value) where
  abbrev pub on_live : Bool → Config → ℕ → Instance → Residual → Result Config RunFault
  on_live complete c q i r = on_ok (may_enter_handler r handler) (λ ok. on_ok (judged c via.hop (entry_of via phase complete (is_some handler)) via.payload) (λ y. Ok (enters_handler y q r s handler values via)))

  abbrev pub on_payload : Config → ℕ → Instance → Residual → Result Config RunFault
  on_payload c q i r = on_ok (live_payload c via.payload) (λ x. on_live (is_complete x) c q i r)

  pub live_calls : StatusIsRead → (is_live : Bool) → ((x : Transactions) → StandsForTransactions k.transactions x → is_live ≡ is_some (payload_of x.pool via.payload)) → is_live ≡ true
      → (l : Kernel) (answer : Result Unit StatementStop) → DoesBut IsOfProtocol k l answer p (λ c q i r. on_live (complete_in c.transactions via.payload) c q i r) → DoesBut IsOfProtocol k l answer p on_payload
  live_calls read is_live tells live_is l answer calls c i h there =
      let first = settled_in c p i.residual in
      let left = settle (arena c) i.residual in
      let live = live_by via.payload (payload_of c.transactions.pool via.payload) (sym (tells c.transactions h.transactions) ∙ live_is) in
      subst (λ o. FollowsBut IsOfProtocol l answer c (on_ok o (λ x. on_live (is_complete x) first p (record i { residual = left }) left))) (sym live.1)
      (subst (λ b. FollowsBut IsOfProtocol l answer c (on_live b first p (record i { residual = left }) left)) (sym (read first via.payload live.0 live.1)) (calls c i h there))

  pub freed_calls : (is_live : Bool) → ((x : Transactions) → StandsForTransactions k.transactions x → is_live ≡ is_some (payload_of x.pool via.payload)) → is_live ≡ false
      → DoesBut IsOfProtocol k k (Err (stop.Fault (fault.PayloadFreed via.payload))) p on_payload
  freed_calls is_live tells live_is c i h there =
      let first = settled_in c p i.residual in
      let left = settle (arena c) i.residual in
      subst (λ o. FollowsBut IsOfProtocol k (Err (stop.Fault (fault.PayloadFreed via.payload))) c (on_ok o (λ x. on_live (is_complete x) first p (record i { residual = left }) left)))
      (sym (freed_by via.payload (payload_of c.transactions.pool via.payload) (sym (tells c.transactions h.transactions) ∙ live_is))) (refl, h)

-- ---- the statements, once the payload is known

abbrev pub b_call : ℕ → ℕ → NameUse → Config → ℕ → Instance → Residual → ℕ → Result Config RunFault
b_call s hop d c q i r t =
    let handler = blocking_handler (slice_get c.design.hops hop) in
    on_ok (live_payload c t) (λ x. on_ok (may_enter_handler r handler) (λ ok. on_ok (judged c hop (BCall t (is_some handler)) t) (λ y.
    Ok (enters_handler y q r s handler (value.Pay (Some t) ∷ value_named (here c q i r) d ∷ []) (record { hop = hop; forward = true; blocking = true; payload = t })))))

abbrev pub nb_call : ℕ → ℕ → Bool → NameUse → NameUse → Config → ℕ → Instance → Residual → ℕ → Result Config RunFault
nb_call s hop forward phase d c q i r t =
    let handler = nonblocking_handler forward (slice_get c.design.hops hop) in
    on_ok (live_payload c t) (λ x. on_ok (may_enter_handler r handler) (λ ok.
    on_ok (judged c hop (Call t (path_of_call forward) (int_of (value_named (here c q i r) phase)) (is_complete x) (is_some handler)) t) (λ y.
    Ok (enters_handler y q r s handler (value.Pay (Some t) ∷ value_named (here c q i r) phase ∷ value_named (here c q i r) d ∷ []) (record { hop = hop; forward = forward; blocking = false; payload = t })))))
