-- The words of the base protocol: what is called and answered from a request to the end of a transaction, told by models of the
-- link. Each has a blocking call of the same payload behind it, which may come only where the transaction is idle. And models in
-- which a rule is broken.
use Rattle.std.specs.Prelude.{ℕ, List, [], ◌∷◌, ◌++◌, codes}
use Rattle.sim_model.specs.FlatDesign.declared.value_types.ValueType.TheVariants as type
use Rattle.sim_model.specs.FlatDesign.declared.code.Statement.{Statement}
use Rattle.sim_model.specs.FlatDesign.declared.design.Design.{Design}
use Rattle.worked_runs.specs.Body.{Body, end, does, item, named, assign, say, wait_for}
use Rattle.worked_runs.specs.Build.{thread}
use Rattle.worked_runs.specs.Transports.{answers}
use Rattle.worked_runs.specs.Links.{Handlers, all, link, link_of, makes, makes_q, phase, calls, calls_for, tells, tells_phase, sends, blocks, completed, idle, keeps, goes, updates, completes, at_phase, first_time, counts, accepts, nothing, woken}

-- the request is answered with COMPLETED
abbrev pub completed_request : Design
completed_request = link (does (makes ∷ sends 1 ++ idle) end) accepts (at_phase 1 (completes ∷ answers 2 ∷ []) 0) nothing nothing

-- the request is answered with the response, whose end is answered so
abbrev pub answered_request : ℕ → Design
answered_request e =
    link (does (makes ∷ sends 1 ++ tells_phase ∷ sends 4 ++ idle) end) accepts (at_phase 1 (completes ∷ updates 3 ∷ answers 1 ∷ []) e) nothing nothing

-- how the request ends: it is accepted, and the response follows; it ends by its answer; it ends by a call
pub data Request : Type 0 where
  left_open : Request
  ended_by_answer : Request
  ended_by_call : Request

abbrev pub request_handler : Request → ℕ → Body
request_handler left_open e = at_phase 1 (keeps ∷ goes ∷ answers 0 ∷ []) e
request_handler ended_by_answer e = at_phase 1 (keeps ∷ goes ∷ updates 2 ∷ answers 1 ∷ []) e
request_handler ended_by_call e = at_phase 1 (keeps ∷ goes ∷ answers 0 ∷ []) e

abbrev pub told_phase : Request → List Statement
told_phase left_open = []
told_phase ended_by_answer = tells_phase ∷ []
told_phase ended_by_call = []

abbrev pub request_ends : Request → List Statement
request_ends left_open = []
request_ends ended_by_answer = []
request_ends ended_by_call = sends 2

-- how the response ends: by a later call, which is answered so; by an answer that updates; by one that completes
pub data Response : Type 0 where
  by_call : ℕ → Response
  by_update : Response
  by_completion : Response

abbrev pub response_handler : Response → Body
response_handler (by_call e) = at_phase 3 (answers 0 ∷ []) 0
response_handler by_update = at_phase 3 (updates 4 ∷ answers 1 ∷ []) 0
response_handler by_completion = at_phase 3 (answers 2 ∷ []) 0

abbrev pub end_answer : Response → ℕ
end_answer (by_call e) = e
end_answer by_update = 0
end_answer by_completion = 0

abbrev pub updated_phase : Response → List Statement
updated_phase (by_call e) = []
updated_phase by_update = tells_phase ∷ []
updated_phase by_completion = []

abbrev pub response_ends : Response → List Statement
response_ends (by_call e) = sends 4
response_ends by_update = []
response_ends by_completion = []

-- the request at 0, its end and the response at 1 ns, and the end of the response at 2 ns
abbrev pub word : Request → Response → Design
word q s =
    link (does (makes ∷ sends 1 ++ told_phase q ++ wait_for 2000 ∷ response_ends s ++ idle) end)
    (response_handler s) (request_handler q (end_answer s)) nothing
    (woken (request_ends q ++ completed ∷ sends 3 ++ updated_phase s))

-- Rules that are broken.

-- t calls with a phase, after this
abbrev pub calls_behind : List Statement → Body → Design
calls_behind ss f = link (does (makes ∷ ss) end) accepts f nothing nothing

-- u calls back with a phase, once the request was accepted
abbrev pub calls_back : Handlers → List Statement → Body → Design
calls_back hs ss b = link_of hs (does (makes ∷ sends 1) end) b (at_phase 1 (keeps ∷ goes ∷ answers 0 ∷ []) 0) nothing (woken ss) []

-- the forward handler calls back
abbrev pub calls_in_a_call : Design
calls_in_a_call = calls_behind (sends 1) (does (keeps ∷ phase 2 ∷ calls ∷ answers 0 ∷ []) end)

-- two transactions: both are answered with the response; or the second responds while the first does
abbrev pub two_requests : List Statement
two_requests = makes_q ∷ sends 1 ++ phase 1 ∷ calls_for 5 ∷ tells ∷ []

abbrev pub two_responses_by_answer : Design
two_responses_by_answer = calls_behind two_requests (at_phase 1 (completes ∷ updates 3 ∷ answers 1 ∷ []) 0)

abbrev pub two_responses_by_call : Design
two_responses_by_call =
    link (does (makes ∷ two_requests) end) accepts
    (at_phase 1 (assign (item 9) type.Payload (named (item 1)) ∷ keeps ∷ goes ∷ updates 2 ∷ answers 1 ∷ []) 0) nothing
    (woken (completed ∷ sends 3 ++ phase 3 ∷ calls_for 9 ∷ []))

-- another thread of the initiator's module calls while a blocking call is open
abbrev pub calls_meanwhile : Handlers → List Statement → Design
calls_meanwhile hs ss = link_of hs (does (makes ∷ blocks ∷ []) end) accepts accepts (does (wait_for 2000 ∷ completes ∷ []) end) nothing (thread (codes "v") (does (wait_for 1000 ∷ ss) end) ∷ [])

-- t makes a blocking call, after this
abbrev pub blocks_behind : Handlers → List Statement → Body → Design
blocks_behind hs ss h = link_of hs (does (makes ∷ ss ++ blocks ∷ []) end) accepts accepts h nothing []

-- a handler that is missing
abbrev pub without_handler : Handlers → List Statement → Design
without_handler hs ss = link_of hs (does (makes ∷ ss) end) accepts accepts nothing nothing []

-- Several rules that are broken at once. A second transaction requests while the first does, which has requested before and has
-- had its answer.
abbrev pub requests_again : Design
requests_again = calls_behind (makes_q ∷ phase 1 ∷ calls_for 5 ∷ sends 1 ++ phase 1 ∷ calls_for 5 ∷ []) (first_time (does (counts ∷ updates 2 ∷ answers 1 ∷ []) end) accepts)

-- the first transaction is over, and is called back with a response while the second responds
abbrev pub response_of_an_idle_one : Design
response_of_an_idle_one =
    link (does (makes ∷ two_requests) end) accepts
    (first_time (does (counts ∷ completes ∷ keeps ∷ answers 2 ∷ []) end) (does (completes ∷ updates 3 ∷ goes ∷ answers 1 ∷ []) end)) nothing
    (woken (phase 3 ∷ calls ∷ []))

-- both are answered with the response, the second without a status
abbrev pub response_without_a_status : Design
response_without_a_status = calls_behind two_requests (first_time (does (counts ∷ completes ∷ updates 3 ∷ answers 1 ∷ []) end) (does (updates 3 ∷ answers 1 ∷ []) end))
