-- With other rooms a design has all that it had of its code.
use Rattle.std.proofs.Common.{◌≡◌, ℕ, Bool, Option, Some, None, inl, inr}
use Rattle.model_rules.specs.ModelTree.declared.items.ProcessKind.{ProcessKind}
use Rattle.model_rules.specs.FlatDesign.Code as code
use Rattle.model_rules.specs.FlatDesign.Code.{Statement, arena_of, body_at}
use Rattle.model_rules.specs.FlatDesign.Typed.{IsFunctionHere, IsTyped}
use Rattle.model_rules.specs.FlatDesign.Sound.{IsHomeOf, ProcessFits, HandlerFits, IsSpawnedAs, IsMethodBody, IsThreadBody, SoundDesign}
use Rattle.model_rules.specs.FlatDesign.declared.value_types.ValueType.{ValueType}
use Rattle.model_rules.specs.FlatDesign.declared.code.CodeBody.{CodeBody}
use Rattle.model_rules.specs.FlatDesign.declared.code.Code.{Code}
use Rattle.model_rules.specs.FlatDesign.declared.design.ProcessPart.{ProcessPart}
use Rattle.model_rules.specs.FlatDesign.declared.design.Design.{Design}
use Rattle.code_rules.specs.Rooms.{DiffersInRooms, HasRooms}
use Rattle.code_rules.specs.RoomFields.{IsTypedCode, HopsFit}
use Rattle.code_rules.proofs.Still.{differs_back, body_still, stands_still, holds_so, reached_still, nested_still}
use Rattle.code_rules.proofs.Suffices.{waits, calls}
use Rattle.code_rules.specs.DesignFields.{ProcessesFit, MethodsDoNotBlock, HandlersDoNotBlock, UnwindingIsPlain, ThreadsSetNoTrigger}

module _ (d : Design) (after : Code) (differs : DiffersInRooms d.code after) where
  abbrev new : Design
  new = record d { code = after }

  back : DiffersInRooms after d.code
  back = differs_back d.code after differs

  abbrev WithRoom : CodeBody → ℕ → CodeBody
  WithRoom b room = record b { room = room }

  was : (f : ℕ) (b : CodeBody) → body_at (arena_of after) f ≡ Some b → (room : ℕ) × (body_at (arena_of d.code) f ≡ Some (record b { room = room }))
  was f b found = body_still after d.code back f b found

  home_was : (home room : ℕ) (b : CodeBody) → IsHomeOf new home b → IsHomeOf d home (record b { room = room })
  home_was home room b x = record { instance = x.instance; found = x.found; same = x.same }

  home_still : (home room : ℕ) (b : CodeBody) → IsHomeOf d home b → IsHomeOf new home (record b { room = room })
  home_still home room b x = record { instance = x.instance; found = x.found; same = x.same }

  process_still : (p : ProcessPart) → ProcessFits d p → ProcessFits new p
  process_still p x =
      let w = body_still d.code after differs p.code x.body x.found in
      record {
        body = record x.body { room = w.0 };
        found = w.1;
        home = home_still p.home w.0 x.body x.home;
        kind = x.kind;
        parameters = x.parameters;
        answer = x.answer;
        sensitive = x.sensitive;
      }

  pub processes : ProcessesFit d → ProcessesFit new
  processes fit n p there = process_still p (fit n p there)

  handler_still : (home : ℕ) (parameters : _) (answer : Option ValueType) (h : Option ℕ) → HandlerFits d home parameters answer h → HandlerFits new home parameters answer h
  handler_still home parameters answer None x = tt
  handler_still home parameters answer (Some f) x =
      let w = body_still d.code after differs f x.body x.found in
      record {
        body = record x.body { room = w.0 };
        found = w.1;
        home_of = home_still home w.0 x.body x.home_of;
        is_function = x.is_function;
        has_parameters = x.has_parameters;
        has_answer = x.has_answer;
      }

  pub hops : HopsFit d → HopsFit new
  hops fit n h there = let x = fit n h there in record {
    initiator = x.initiator;
    target = x.target;
    backward = handler_still h.initiator_home _ _ h.backward x.backward;
    blocking = handler_still h.target_home _ _ h.blocking x.blocking;
    forward = handler_still h.target_home _ _ h.forward x.forward;
  }

  function_still : (place f : ℕ) (b : CodeBody) → IsFunctionHere (arena_of d.code) place f b → (room : ℕ) × IsFunctionHere (arena_of after) place f (record b { room = room })
  function_still place f b x =
      let w = body_still d.code after differs f b x.found in
      (w.0, record { found = w.1; is_function = x.is_function; here = x.here })

  module _ (place home : ℕ) (answer : Option ValueType) (locals : _) where
    typed_still : (s : Statement) → IsTyped (arena_of d.code) place answer (record { design = d; home = home; locals = locals }) s → IsTyped (arena_of after) place answer (record { design = new; home = home; locals = locals }) s
    typed_still (code.call x f arguments) t =
        let w = function_still place f t.0 t.1 in
        (record t.0 { room = w.0 }, w.1, t.2, t.3)
    typed_still (code.spawn s) t =
        let w = function_still place s.function t.0 t.1 in
        (record t.0 { room = w.0 }, w.1, t.2, t.3, t.4)
    typed_still other t = t

  pub typed : IsTypedCode d → IsTypedCode new
  typed fit f b home s found home_of stands =
      let w = was f b found in
      typed_still b.module_place home b.answer b.locals s
      (fit f (record b { room = w.0 }) home s w.1 (home_was home w.0 b home_of) (holds_so after d.code back b.block s stands))

  spawned_was : (kind : ProcessKind) (f : ℕ) → IsSpawnedAs (arena_of after) kind f → IsSpawnedAs (arena_of d.code) kind f
  spawned_was kind f x =
      record { block = x.block; spawn = x.spawn; stands = stands_still after d.code back x.block (code.spawn x.spawn) x.stands; function = x.function; spawned_kind = x.spawned_kind }

  method_was : (f : ℕ) (b : CodeBody) → IsMethodBody (arena_of after) f b → IsMethodBody (arena_of d.code) f b
  method_was f b (inl kind) = inl kind
  method_was f b (inr spawned) = inr (spawned_was _ f spawned)

  thread_was : (f : ℕ) (b : CodeBody) → IsThreadBody (arena_of after) f b → IsThreadBody (arena_of d.code) f b
  thread_was f b (inl kind) = inl kind
  thread_was f b (inr (inl kind)) = inr (inl kind)
  thread_was f b (inr (inr spawned)) = inr (inr (spawned_was _ f spawned))

  pub methods : MethodsDoNotBlock d → MethodsDoNotBlock new
  methods fit f b home s found root home_of x =
      let w = was f b found in
      fit f (record b { room = w.0 }) home s w.1 (method_was f b root) (home_was home w.0 b home_of) (reached_still after d.code back b.block s x)

  pub handlers : HandlersDoNotBlock d → HandlersDoNotBlock new
  handlers fit f b home s found root home_of x =
      let w = was f b found in
      fit f (record b { room = w.0 }) home s w.1 root (home_was home w.0 b home_of) (reached_still after d.code back b.block s x)

  pub unwinding : UnwindingIsPlain d → UnwindingIsPlain new
  unwinding fit f b home body unwind s found home_of stands x =
      let w = was f b found in
      fit f (record b { room = w.0 }) home body unwind s w.1 (home_was home w.0 b home_of) (holds_so after d.code back b.block (code.guard body unwind) stands) (reached_still after d.code back unwind s x)

  pub threads : ThreadsSetNoTrigger d → ThreadsSetNoTrigger new
  threads fit f b home s found (inl root) home_of x =
      let w = was f b found in
      fit f (record b { room = w.0 }) home s w.1 (inl (thread_was f b root)) (home_was home w.0 b home_of) (reached_still after d.code back b.block s x)
  threads fit f b home s found (inr root) home_of x =
      let w = was f b found in
      fit f (record b { room = w.0 }) home s w.1 (inr root) (home_was home w.0 b home_of) (reached_still after d.code back b.block s x)

  pub sound : HasRooms (arena_of after) → SoundDesign d → SoundDesign new
  sound rooms s = record {
    parents = s.parents;
    names = s.names;
    signals = s.signals;
    resolved = s.resolved;
    fifos = s.fifos;
    variables = s.variables;
    ports = s.ports;
    processes = processes s.processes;
    hops = hops s.hops;
    nested = nested_still d.code after differs s.nested;
    typed = typed s.typed;
    methods = methods s.methods;
    handlers = handlers s.handlers;
    unwinding = unwinding s.unwinding;
    threads = threads s.threads;
    waits = waits new rooms;
    room = calls new rooms (typed s.typed) (hops s.hops);
  }
