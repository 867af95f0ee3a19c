-- One step of the instance on top of the stack: by what shows of its body once finished parts have fallen away.
use Rattle.std.specs.Prelude.{ℕ, Option, Some, None, Result, Ok}
use Rattle.flat_design.specs.Code as code
use Rattle.flat_design.specs.Code.{Statement, statement_at}
use Rattle.flat_design.specs.declared.faults.RunFault.{RunFault}
use Rattle.sim_model.specs.Residual as residual
use Rattle.sim_model.specs.Residual.{Residual, Frame, Next, skip, settle, fall, next_of, put, taken_off}
use Rattle.sim_model.specs.Configuration.{Config, Instance, arena, instance_at, with_residual, with_marks}
use Rattle.sim_model.specs.Reading.{Here, here}
use Rattle.sim_model.specs.Storing.{passes, do_var, do_assign, do_print, do_if, do_while}
use Rattle.sim_model.specs.Waiting.{do_wait, do_next_trigger, do_notify, do_notify_delta, do_notify_after, do_cancel, do_stop}
use Rattle.sim_model.specs.Channels.{do_write, do_read, do_nb_read, do_nb_write, do_lock, do_trylock, do_unlock, do_sem_wait, do_sem_trywait, do_post}
use Rattle.sim_model.specs.Calls.{do_call, do_return, call_ends, do_guard, do_try, thrown, do_spawn}
use Rattle.sim_model.specs.Transport.{do_make, do_acquire, do_release, do_carry, do_b_transport, do_nb_transport, b_transport_ends, nb_transport_ends, do_qk_global, do_qk_inc, do_qk_set, do_qk_reset}
use Rattle.sim_model.specs.Control.{control_call, throw_call, do_control, do_throw_it, reaches_goal, done_by}
use Rattle.sim_model.specs.declared.plain.Via.{Via}

-- a statement of instance p, which is i and of which r is left with statement number s showing; h tells where it stands
abbrev pub do_statement : Config → ℕ → Instance → Residual → Here → ℕ → Statement → Result Config RunFault
do_statement c p i r h s (code.var n t e) = do_var c p r h n t e
do_statement c p i r h s (code.assign d e) = do_assign c p r h d e
do_statement c p i r h s (code.call x f arguments) = do_call c p r h s f arguments
do_statement c p i r h s (code.read x ch) = do_read c p r h x ch
do_statement c p i r h s (code.nb_read x ch y) = do_nb_read c p r h x ch y
do_statement c p i r h s (code.nb_write x ch t e) = do_nb_write c p r h x ch t e
do_statement c p i r h s (code.trylock x ch) = do_trylock c p r h x ch
do_statement c p i r h s (code.unlock x ch) = do_unlock c p r h x ch
do_statement c p i r h s (code.sem_trywait x ch) = do_sem_trywait c p r h x ch
do_statement c p i r h s (code.nb_transport x socket n phase d) = do_nb_transport c p r h s socket n phase d
do_statement c p i r h s (code.write ch t e) = do_write c p r h ch t e
do_statement c p i r h s (code.print text e) = do_print c p i r h text e
do_statement c p i r h s (code.notify n) = do_notify c p r h n
do_statement c p i r h s (code.notify_delta n) = do_notify_delta c p r h n
do_statement c p i r h s (code.notify_after n e) = do_notify_after c p r h n e
do_statement c p i r h s (code.cancel n) = do_cancel c p r h n
do_statement c p i r h s (code.wait w) = do_wait c p r h w
do_statement c p i r h s (code.next_trigger w) = do_next_trigger c p r h w
do_statement c p i r h s (code.lock ch) = do_lock c p r h ch
do_statement c p i r h s (code.sem_wait ch) = do_sem_wait c p r h ch
do_statement c p i r h s (code.post ch) = do_post c p r h ch
do_statement c p i r h s (code.make n e m) = do_make c p r h n e m
do_statement c p i r h s (code.acquire n) = do_acquire c p r h n
do_statement c p i r h s (code.release n) = do_release c p r h n
do_statement c p i r h s (code.carry n m) = do_carry c p r h n m
do_statement c p i r h s (code.b_transport socket n d) = do_b_transport c p r h s socket n d
do_statement c p i r h s (code.qk_global e) = do_qk_global c p r h e
do_statement c p i r h s (code.qk_inc n e) = do_qk_inc c p r h n e
do_statement c p i r h s (code.qk_set n e) = do_qk_set c p r h n e
do_statement c p i r h s (code.qk_reset n) = do_qk_reset c p r h n
do_statement c p i r h s (code.spawn x) = do_spawn c p r h x
do_statement c p i r h s (code.control k who all) = do_control c p r h s k who all
do_statement c p i r h s (code.throw_it who e all) = do_throw_it c p r h s who e all
do_statement c p i r h s (code.throw e) = thrown c p r e
do_statement c p i r h s (code.return_ e) = do_return c p r h e
do_statement c p i r h s code.stop = do_stop c p r
do_statement c p i r h s (code.if_ e b other) = do_if c p r h e b other
do_statement c p i r h s (code.while_ e b) = do_while c p r h s e b
do_statement c p i r h s (code.guard b u) = do_guard c p r b u
do_statement c p i r h s (code.try_ b handlers) = do_try c p r b handlers

-- Leaving a call: the frame x is gone, and what is handed back is stored where its statement stands; for a transport call
-- the return is judged first. A statement that calls nothing hands nothing back.
abbrev pub via_ends : Config → Option Via → (Via → Result Config RunFault) → Result Config RunFault
via_ends c None f = Ok c
via_ends c (Some via) f = f via

abbrev pub hands_back : Config → ℕ → Here → Frame → Statement → Result Config RunFault
hands_back c p h x (code.var n t e) = Ok c
hands_back c p h x (code.assign d e) = Ok c
hands_back c p h x (code.call target f arguments) = Ok (call_ends c p h x target arguments)
hands_back c p h x (code.read target ch) = Ok c
hands_back c p h x (code.nb_read target ch y) = Ok c
hands_back c p h x (code.nb_write target ch t e) = Ok c
hands_back c p h x (code.trylock target ch) = Ok c
hands_back c p h x (code.unlock target ch) = Ok c
hands_back c p h x (code.sem_trywait target ch) = Ok c
hands_back c p h x (code.nb_transport target socket n phase d) = via_ends c x.via (λ via. nb_transport_ends c p h x via target phase d)
hands_back c p h x (code.write ch t e) = Ok c
hands_back c p h x (code.print text e) = Ok c
hands_back c p h x (code.notify n) = Ok c
hands_back c p h x (code.notify_delta n) = Ok c
hands_back c p h x (code.notify_after n e) = Ok c
hands_back c p h x (code.cancel n) = Ok c
hands_back c p h x (code.wait w) = Ok c
hands_back c p h x (code.next_trigger w) = Ok c
hands_back c p h x (code.lock ch) = Ok c
hands_back c p h x (code.sem_wait ch) = Ok c
hands_back c p h x (code.post ch) = Ok c
hands_back c p h x (code.make n e m) = Ok c
hands_back c p h x (code.acquire n) = Ok c
hands_back c p h x (code.release n) = Ok c
hands_back c p h x (code.carry n m) = Ok c
hands_back c p h x (code.b_transport socket n d) = via_ends c x.via (λ via. b_transport_ends c p h x via d)
hands_back c p h x (code.qk_global e) = Ok c
hands_back c p h x (code.qk_inc n e) = Ok c
hands_back c p h x (code.qk_set n e) = Ok c
hands_back c p h x (code.qk_reset n) = Ok c
hands_back c p h x (code.spawn s) = Ok c
hands_back c p h x (code.control k who all) = Ok c
hands_back c p h x (code.throw_it who e all) = Ok c
hands_back c p h x (code.throw e) = Ok c
hands_back c p h x (code.return_ e) = Ok c
hands_back c p h x code.stop = Ok c
hands_back c p h x (code.if_ e b other) = Ok c
hands_back c p h x (code.while_ e b) = Ok c
hands_back c p h x (code.guard b u) = Ok c
hands_back c p h x (code.try_ b handlers) = Ok c

abbrev pub handed_back : Config → ℕ → Here → Frame → Option Statement → Result Config RunFault
handed_back c p h x None = Ok c
handed_back c p h x (Some s) = hands_back c p h x s

abbrev pub calling_statement : Config → Option ℕ → Option Statement
calling_statement c None = None
calling_statement c (Some s) = statement_at (arena c) s

-- the statement stands where its own instance of a module is, which is seen once the frame is gone
abbrev pub leaves_call : Config → ℕ → Instance → Residual → Frame → Result Config RunFault
leaves_call c p i r x = handed_back (passes c p r) p (here (passes c p r) p i (put r skip)) x (calling_statement c x.call)

-- the call that a statement owes to the instance q, to whom it is owed no more; a statement that is no control call owes none
abbrev pub owed_call : Config → ℕ → Statement → Result Config RunFault
owed_call c q (code.var n t e) = Ok c
owed_call c q (code.assign d e) = Ok c
owed_call c q (code.call target f arguments) = Ok c
owed_call c q (code.read target ch) = Ok c
owed_call c q (code.nb_read target ch y) = Ok c
owed_call c q (code.nb_write target ch t e) = Ok c
owed_call c q (code.trylock target ch) = Ok c
owed_call c q (code.unlock target ch) = Ok c
owed_call c q (code.sem_trywait target ch) = Ok c
owed_call c q (code.nb_transport target socket n phase d) = Ok c
owed_call c q (code.write ch t e) = Ok c
owed_call c q (code.print text e) = Ok c
owed_call c q (code.notify n) = Ok c
owed_call c q (code.notify_delta n) = Ok c
owed_call c q (code.notify_after n e) = Ok c
owed_call c q (code.cancel n) = Ok c
owed_call c q (code.wait w) = Ok c
owed_call c q (code.next_trigger w) = Ok c
owed_call c q (code.lock ch) = Ok c
owed_call c q (code.sem_wait ch) = Ok c
owed_call c q (code.post ch) = Ok c
owed_call c q (code.make n e m) = Ok c
owed_call c q (code.acquire n) = Ok c
owed_call c q (code.release n) = Ok c
owed_call c q (code.carry n m) = Ok c
owed_call c q (code.b_transport socket n d) = Ok c
owed_call c q (code.qk_global e) = Ok c
owed_call c q (code.qk_inc n e) = Ok c
owed_call c q (code.qk_set n e) = Ok c
owed_call c q (code.qk_reset n) = Ok c
owed_call c q (code.spawn s) = Ok c
owed_call c q (code.control k who all) = control_call c q k
owed_call c q (code.throw_it who e all) = throw_call c q e
owed_call c q (code.throw e) = Ok c
owed_call c q (code.return_ e) = Ok c
owed_call c q code.stop = Ok c
owed_call c q (code.if_ e b other) = Ok c
owed_call c q (code.while_ e b) = Ok c
owed_call c q (code.guard b u) = Ok c
owed_call c q (code.try_ b handlers) = Ok c

abbrev pub owed_by : Config → ℕ → Option Statement → Result Config RunFault
owed_by c q None = Ok c
owed_by c q (Some s) = owed_call c q s

abbrev pub on_statement : Config → ℕ → Instance → Residual → ℕ → Option Statement → Result Config RunFault
on_statement c p i r s None = Ok (passes c p r)
on_statement c p i r s (Some x) = do_statement c p i r (here c p i r) s x

abbrev pub do_next : Config → ℕ → Instance → Residual → Next → Result Config RunFault
do_next c p i r (residual.statement s) = on_statement c p i r s (statement_at (arena c) s)
do_next c p i r (residual.owes s q) = owed_by (with_residual c p (taken_off r)) q (statement_at (arena c) s)
do_next c p i r (residual.leaves x) = leaves_call c p i r x
do_next c p i r residual.done = Ok (done_by c p i i.kind)
do_next c p i r (residual.reaches k) = Ok (reaches_goal c p i r k)
do_next c p i r residual.nothing = Ok (done_by c p i i.kind)

-- finished parts fall away with their marks at the start of each step, and nowhere else
abbrev pub settled_in : Config → ℕ → Residual → Config
settled_in c p r = with_marks (with_residual c p (settle (arena c) r)) (fall p (arena c) r)

abbrev pub step_of : Config → ℕ → Instance → Residual → Result Config RunFault
step_of c p i r = do_next c p (record i { residual = r }) r (next_of r)

abbrev pub step_by : Config → ℕ → Option Instance → Result Config RunFault
step_by c p None = Ok c
step_by c p (Some i) = step_of (settled_in c p i.residual) p i (settle (arena c) i.residual)

abbrev pub statement_step : Config → ℕ → Result Config RunFault
statement_step c p = step_by c p (instance_at c p)
