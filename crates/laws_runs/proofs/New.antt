-- What a statement puts in its own place stands where the statement stands.
use Rattle.std.proofs.Common.{◌≡◌, ℕ, zero, suc, Bool, true, false, List, [], ◌∷◌, map, slice_get, unwrap_or, option_map, Contains, Option, Some, None, refl, sym, ap, ◌∙◌, subst, arith}
use Rattle.std.specs.Prelude.{Result, Ok}
use Rattle.std.proofs.lemmas.Option.{none-some, same_Some}
use Rattle.sim_model.specs.LogicValues.declared.kinds.Value.{Value}
use Rattle.sim_model.specs.FlatDesign.Code as code
use Rattle.sim_model.specs.FlatDesign.Code.{Arena, Term, ArgumentTerm, Statement, block_at, statement_at, body_at}
use Rattle.sim_model.specs.FlatDesign.Typed.{EachOf, ChannelOffers}
use Rattle.sim_model.specs.FlatDesign.Reach.{inner_blocks}
use Rattle.sim_model.specs.FlatDesign.Blocking.{ChannelTakes, PortTakes, Takes}
use Rattle.sim_model.specs.FlatDesign.Sound.{IsHomeOf, SoundDesign, ChannelFits, HandlerFits}
use Rattle.sim_model.specs.FlatDesign.declared.code.CodeBody.{CodeBody}
use Rattle.sim_model.specs.FlatDesign.declared.code.Handler.{Handler}
use Rattle.sim_model.specs.FlatDesign.declared.code.Store.{Store as Target}
use Rattle.sim_model.specs.FlatDesign.declared.objects.LeadsTo.{LeadsTo}
use Rattle.sim_model.specs.FlatDesign.declared.objects.LeadsTo.TheVariants as leads
use Rattle.sim_model.specs.FlatDesign.declared.design.ChannelId.{ChannelId}
use Rattle.sim_model.specs.FlatDesign.declared.design.ChannelId.TheVariants as channel
use Rattle.sim_model.specs.FlatDesign.declared.design.Denoted.{Denoted}
use Rattle.sim_model.specs.FlatDesign.declared.design.Denoted.TheVariants as denoted
use Rattle.sim_model.specs.FlatDesign.declared.design.PortPart.{PortPart}
use Rattle.sim_model.specs.FlatDesign.declared.design.Hop.{Hop}
use Rattle.sim_model.specs.FlatDesign.declared.design.Design.{Design}
use Rattle.sim_model.specs.FlatDesign.declared.faults.RunFault.{RunFault}
use Rattle.sim_model.specs.Residual.{guard, try_, followed, block, entered, entered_in}
use Rattle.sim_model.specs.Reading.{channel_or, port_channel, channel_of, far_home, home_of_via}
use Rattle.sim_model.specs.Transport.{blocking_handler, nonblocking_handler}
use Rattle.sim_model.specs.Clean.{EachInBlock, EachInHandlers}
use Rattle.sim_model.specs.declared.plain.Via.{Via}
use Rattle.laws_runs.specs.Standing.{code_of, OfBody, IsOrdinary}
use Rattle.laws_runs.proofs.Blocks.{IsClosed, body-block}
use Rattle.laws_runs.proofs.BodiesKept.{followed-ordinary, statements-ordinary}

-- ---- what is closed, at a statement in its place

handlers_each : (P : ℕ → Type 0) (a : Arena) (handlers : List Handler) → ((j : ℕ) → Contains (map (λ (h : Handler). h.block) handlers) j → EachInBlock P a j) → EachInHandlers P a handlers
handlers_each P a [] each = tt
handlers_each P a (x ∷ xs) each = (each x.block (zero, omega arith, refl), handlers_each P a xs (λ j c. each j (let within = c.1 in (suc c.0, omega (arith, within), c.2))))

module _ (P : ℕ → ℕ → Type 0) (d : Design) (closed : IsClosed d P) (home n : ℕ) (here : P home n) where
  block_ordinary : (x : Statement) (b : ℕ) → statement_at (code_of d) n ≡ Some x → Contains (inner_blocks x) b → IsOrdinary P d home (block (code_of d) b)
  block_ordinary x b at inner = statements-ordinary P d home (block_at (code_of d) b) (closed.inner home n b x here at inner)

  pub if-new : (e : Term) (b : ℕ) (other : Option ℕ) → statement_at (code_of d) n ≡ Some (code.if_ e b other) → IsOrdinary P d home (block (code_of d) b)
  if-new e b other at = block_ordinary (code.if_ e b other) b at (zero, omega arith, refl)

  pub else-new : (e : Term) (b o : ℕ) → statement_at (code_of d) n ≡ Some (code.if_ e b (Some o)) → IsOrdinary P d home (block (code_of d) o)
  else-new e b o at = block_ordinary (code.if_ e b (Some o)) o at (suc zero, omega arith, refl)

  pub while-new : (e : Term) (b : ℕ) → statement_at (code_of d) n ≡ Some (code.while_ e b) → IsOrdinary P d home (followed (block (code_of d) b) (n ∷ []))
  while-new e b at = followed-ordinary P d home (block (code_of d) b) (n ∷ []) (block_ordinary (code.while_ e b) b at (zero, omega arith, refl)) (here, tt)

  pub guard-new : (b u g : ℕ) → statement_at (code_of d) n ≡ Some (code.guard b u) → IsOrdinary P d home (guard (block (code_of d) b) g u)
  guard-new b u g at =
      let body = closed.of_body home n here (code.guard b u) at in (
        block_ordinary (code.guard b u) b at (zero, omega arith, refl),
        record { function = body.function; body = body.body; block = b; found = body.found; home_of = body.home_of; stands = body.stands },
      )

  pub try-new : (b : ℕ) (handlers : List Handler) → statement_at (code_of d) n ≡ Some (code.try_ b handlers) → IsOrdinary P d home (try_ (block (code_of d) b) handlers)
  try-new b handlers at = (
    block_ordinary (code.try_ b handlers) b at (zero, omega arith, refl),
    handlers_each (P home) (code_of d) handlers (λ j c. let within = c.1 in closed.inner home n j (code.try_ b handlers) here at (suc c.0, omega (arith, within), c.2)),
  )

  pub call-new : SoundDesign d → (x : Option Target) (f : ℕ) (arguments : List ArgumentTerm) (args : List Value) (call : Option ℕ) → statement_at (code_of d) n ≡ Some (code.call x f arguments)
      → IsOrdinary P d home (entered (code_of d) f args call None)
  call-new sound x f arguments args call at =
      let b = closed.of_body home n here (code.call x f arguments) at in
      let typed = sound.typed b.function b.body home (code.call x f arguments) b.found b.home_of b.stands in
      let home_of : IsHomeOf d home typed.0 = record { instance = b.home_of.instance; found = b.home_of.found; same = b.home_of.same ∙ sym typed.1.here } in
      subst (λ o. IsOrdinary P d home (entered_in (code_of d) f args call None o)) (sym typed.1.found)
      (tt, statements-ordinary P d home (block_at (code_of d) typed.0.block) (closed.called home n f x arguments typed.0 here at typed.1.found home_of))

-- ---- a handler of the other end of a hop

entered_over : (d : Design) (home far f n : ℕ) (args : List Value) (via : Via) (hop : Hop) (b : CodeBody) → slice_get d.hops via.hop ≡ Some hop → far_home via.forward hop ≡ far → body_at (code_of d) f ≡ Some b → IsHomeOf d far b
    → IsOrdinary (OfBody d) d home (entered (code_of d) f args (Some n) (Some via))
entered_over d home far f n args via hop b at is found home_of =
    let there : home_of_via d home (Some via) ≡ far = ap (λ o. unwrap_or (option_map (far_home via.forward) o) home) at ∙ is in
    subst (λ o. IsOrdinary (OfBody d) d home (entered_in (code_of d) f args (Some n) (Some via) o)) (sym found)
    ((hop, at), subst (λ k. IsOrdinary (OfBody d) d k (block (code_of d) b.block)) (sym there) (statements-ordinary (OfBody d) d far (block_at (code_of d) b.block) (body-block d far f b found home_of)))

handler_new : (d : Design) (home far n f : ℕ) (args : List Value) (via : Via) (hop : Hop) (parameters : List _) (answer : Option _) (o : Option ℕ) → slice_get d.hops via.hop ≡ Some hop → far_home via.forward hop ≡ far → HandlerFits d far parameters answer o → o ≡ Some f
    → IsOrdinary (OfBody d) d home (entered (code_of d) f args (Some n) (Some via))
handler_new d home far n f args via hop parameters answer None at is fits e = absurd (none-some f e)
handler_new d home far n f args via hop parameters answer (Some g) at is fits e =
    let same = same_Some g f e in
    entered_over d home far f n args via hop fits.body at is (ap (body_at (code_of d)) (sym same) ∙ fits.found) fits.home_of

pub blocking-new : (d : Design) → SoundDesign d → (home n f hop : ℕ) (args : List Value) (t : ℕ) → blocking_handler (slice_get d.hops hop) ≡ Some f
    → IsOrdinary (OfBody d) d home (entered (code_of d) f args (Some n) (Some (record { hop = hop; forward = true; blocking = true; payload = t })))
blocking-new d sound home n f hop args t is = by (slice_get d.hops hop) refl is
  where
    by : (o : Option Hop) → slice_get d.hops hop ≡ o → blocking_handler o ≡ Some f → IsOrdinary (OfBody d) d home (entered (code_of d) f args (Some n) (Some (record { hop = hop; forward = true; blocking = true; payload = t })))
    by None at e = absurd (none-some f e)
    by (Some h) at e = handler_new d home h.target_home n f args (record { hop = hop; forward = true; blocking = true; payload = t }) h _ _ h.blocking at refl (sound.hops hop h at).blocking e

pub nonblocking-new : (d : Design) → SoundDesign d → (home n f hop : ℕ) (forward : Bool) (args : List Value) (t : ℕ) → nonblocking_handler forward (slice_get d.hops hop) ≡ Some f
    → IsOrdinary (OfBody d) d home (entered (code_of d) f args (Some n) (Some (record { hop = hop; forward = forward; blocking = false; payload = t })))
nonblocking-new d sound home n f hop forward args t is = by forward (slice_get d.hops hop) refl is
  where
    by : (b : Bool) (o : Option Hop) → slice_get d.hops hop ≡ o → nonblocking_handler b o ≡ Some f → IsOrdinary (OfBody d) d home (entered (code_of d) f args (Some n) (Some (record { hop = hop; forward = b; blocking = false; payload = t })))
    by b None at e = absurd (none-some f e)
    by true (Some h) at e = handler_new d home h.target_home n f args (record { hop = hop; forward = true; blocking = false; payload = t }) h _ _ h.forward at refl (sound.hops hop h at).forward e
    by false (Some h) at e = handler_new d home h.initiator_home n f args (record { hop = hop; forward = false; blocking = false; payload = t }) h _ _ h.backward at refl (sound.hops hop h at).backward e

-- ---- what is written without waiting is no fifo

no_fifo : (c : ChannelId) (n events : ℕ) → c ≡ channel.Fifo n events → ChannelTakes c → ⊥
no_fifo (channel.Signal m e) n events is takes = cc
no_fifo (channel.Resolved m e) n events is takes = cc
no_fifo (channel.Fifo m e) n events is takes = takes
no_fifo (channel.Mutex m e) n events is takes = cc
no_fifo (channel.Semaphore m e) n events is takes = cc

no_fifo_port : (d : Design) (n events : ℕ) (kind : LeadsTo) → ChannelOffers d (channel.Fifo n events) kind → PortTakes kind → ⊥
no_fifo_port d n events (leads.In t) offers takes = offers
no_fifo_port d n events (leads.Out t) offers takes = offers
no_fifo_port d n events (leads.FifoIn t) offers takes = takes
no_fifo_port d n events (leads.FifoOut t) offers takes = takes
no_fifo_port d n events leads.Mutex offers takes = offers
no_fifo_port d n events leads.Semaphore offers takes = offers

each_at : {A : Type 0} (P : A → Type 0) (xs : List A) (k : ℕ) (x : A) → EachOf P xs → slice_get xs k ≡ Some x → P x
each_at P [] k x each at = absurd (none-some x at)
each_at P (y ∷ ys) zero x each at = subst P (same_Some y x at) each.0
each_at P (y ∷ ys) (suc k) x each at = each_at P ys k x each.1 at

channel_is : (cs : List ChannelId) (k : ℕ) (o : Option ChannelId) (c : ChannelId) → channel_or cs k o ≡ Ok c → o ≡ Some c
channel_is cs k None c is = cc
channel_is cs k (Some x) c is = cc

port_takes : (d : Design) → SoundDesign d → (m k n events : ℕ) (o : Option PortPart) → slice_get d.ports m ≡ o → ((p : PortPart) → slice_get d.ports m ≡ Some p → PortTakes p.leads_to) → port_channel o k ≡ Ok (channel.Fifo n events) → ⊥
port_takes d sound m k n events None at takes is = cc
port_takes d sound m k n events (Some p) at takes is =
    no_fifo_port d n events p.leads_to (each_at (λ c. ChannelFits d c × ChannelOffers d c p.leads_to) p.channels k (channel.Fifo n events) (sound.ports m p at) (channel_is p.channels k (slice_get p.channels k) (channel.Fifo n events) is)).1 (takes p at)

same_channel : (x y : ChannelId) → ◌≡◌ {A = Result ChannelId RunFault} (Ok x) (Ok y) → x ≡ y
same_channel x y e = cc

pub takes-no_fifo : (d : Design) → SoundDesign d → (x : Denoted) (k : Option ℕ) (n events : ℕ) → Takes d x → channel_of d x k ≡ Ok (channel.Fifo n events) → ⊥
takes-no_fifo d sound denoted.Nothing k n events takes is = cc
takes-no_fifo d sound (denoted.Channel c) k n events takes is = no_fifo c n events (same_channel c (channel.Fifo n events) is) takes
takes-no_fifo d sound (denoted.Event e) k n events takes is = cc
takes-no_fifo d sound (denoted.Keeper m) k n events takes is = cc
takes-no_fifo d sound (denoted.Memory m) k n events takes is = cc
takes-no_fifo d sound (denoted.Variable v) k n events takes is = cc
takes-no_fifo d sound (denoted.Port m) k n events takes is = port_takes d sound m (unwrap_or k 0) n events (slice_get d.ports m) refl takes is
takes-no_fifo d sound (denoted.Process p) k n events takes is = cc
takes-no_fifo d sound (denoted.Socket hop forward) k n events takes is = cc
