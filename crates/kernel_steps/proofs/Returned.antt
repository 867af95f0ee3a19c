-- The end of a call keeps the design and the script's rest, and tells nothing.
use Rattle.std.proofs.Common.{ℕ, suc, false, List, [], ◌∷◌, Option, Some, None, Result, Ok, refl}
use Rattle.exec_channels.specs.LogicValues.declared.kinds.Value.TheVariants as value
use Rattle.exec_channels.specs.TransportPhases.History.{Entry, BReturn, Return, broken}
use Rattle.exec_channels.specs.TransportPhases.declared.phases.Rule.{Rule}
use Rattle.flat_design.specs.Code as code
use Rattle.flat_design.specs.Code.{Statement, ArgumentTerm}
use Rattle.flat_design.specs.declared.code.Store.{Store as Target}
use Rattle.flat_design.specs.declared.names.NameUse.{NameUse}
use Rattle.flat_design.specs.declared.faults.RunFault.{RunFault}
use Rattle.exec_channels.specs.SimModel.Values.{on_ok}
use Rattle.exec_channels.specs.SimModel.Residual.{Residual, Frame, put, skip}
use Rattle.exec_channels.specs.SimModel.Configuration.{Config, Instance, arena}
use Rattle.exec_channels.specs.SimModel.Reading.{Here, here}
use Rattle.exec_channels.specs.SimModel.Storing.{passes, set_name, stored_if}
use Rattle.exec_channels.specs.SimModel.Calls.{final_value, given_back, answer_of, with_entry}
use Rattle.exec_channels.specs.SimModel.Transport.{history, int_of, judged_by, for_freed, judged_return, complete_now, b_transport_ends, nb_transport_ends}
use Rattle.exec_channels.specs.SimModel.Statements.{via_ends, hands_back, handed_back, calling_statement, leaves_call}
use Rattle.exec_channels.specs.SimModel.declared.plain.Via.{Via}
use Rattle.kernel_steps.specs.FrameConditions.{Quiet, QuietIfOk}
use Rattle.kernel_steps.proofs.Silent.{name_quiet, stored_if_quiet}

module _ (c : Config) where
  given_back_quiet : (d : Config) (p : ℕ) (h : Here) (x : Frame) (i : ℕ) (arguments : List ArgumentTerm) → Quiet c d → Quiet c (given_back d p h x i arguments)
  given_back_quiet d p h x i [] k = k
  given_back_quiet d p h x i (code.by_value e ∷ more) k = given_back_quiet d p h x (suc i) more k
  given_back_quiet d p h x i (code.inout n ∷ more) k =
      given_back_quiet (set_name d p h n (final_value x i (value.Bool false))) p h x (suc i) more (name_quiet c d p h n (final_value x i (value.Bool false)) k)

  returned_quiet : (d : Config) (hop : ℕ) (e : Entry) (t : ℕ) (f : Config → Result Config RunFault) → Quiet c d → ((y : Config) → Quiet c y → QuietIfOk c (f y)) → QuietIfOk c (on_ok (judged_return d hop e t) f)
  returned_quiet d hop e t f k each = by (broken (history d hop) e)
    where
      by : (o : Option Rule) → QuietIfOk c (on_ok (for_freed d t (judged_by d hop e t o)) f)
      by None = each (with_entry d hop e) k
      by (Some rule) = tt

  b_ends_quiet : (d : Config) (p : ℕ) (h : Here) (x : Frame) (via : Via) (t : NameUse) → Quiet c d → QuietIfOk c (b_transport_ends d p h x via t)
  b_ends_quiet d p h x via t k =
      returned_quiet d via.hop (BReturn via.payload (complete_now d via.payload)) via.payload (λ y. Ok (set_name y p h t (final_value x 1 (value.Moment 0)))) k
      (λ y q. name_quiet c y p h t (final_value x 1 (value.Moment 0)) q)

  nb_ends_quiet : (d : Config) (p : ℕ) (h : Here) (x : Frame) (via : Via) (target : Option Target) (phase t : NameUse) → Quiet c d → QuietIfOk c (nb_transport_ends d p h x via target phase t)
  nb_ends_quiet d p h x via target phase t k =
      let told = final_value x 1 (value.Int 32 0) in
      let time = final_value x 2 (value.Moment 0) in
      returned_quiet d via.hop (Return via.payload (int_of (answer_of (arena d) x)) (int_of told) (complete_now d via.payload)) via.payload
      (λ y. Ok (stored_if (set_name (set_name y p h phase told) p h t time) p h target (answer_of (arena d) x))) k
      (λ y q. stored_if_quiet c (set_name (set_name y p h phase told) p h t time) p h target (answer_of (arena d) x)
      (name_quiet c (set_name y p h phase told) p h t time (name_quiet c y p h phase told q)))

  via_ends_quiet : (d : Config) (o : Option Via) (f : Via → Result Config RunFault) → Quiet c d → ((via : Via) → QuietIfOk c (f via)) → QuietIfOk c (via_ends d o f)
  via_ends_quiet d None f k each = k
  via_ends_quiet d (Some via) f k each = each via

  hands_back_quiet : (d : Config) (p : ℕ) (h : Here) (x : Frame) (s : Statement) → Quiet c d → QuietIfOk c (hands_back d p h x s)
  hands_back_quiet d p h x (code.call target f arguments) k = stored_if_quiet c (given_back d p h x 0 arguments) p h target (answer_of (arena d) x) (given_back_quiet d p h x 0 arguments k)
  hands_back_quiet d p h x (code.nb_transport target socket n phase t) k = via_ends_quiet d x.via (λ via. nb_transport_ends d p h x via target phase t) k (λ via. nb_ends_quiet d p h x via target phase t k)
  hands_back_quiet d p h x (code.b_transport socket n t) k = via_ends_quiet d x.via (λ via. b_transport_ends d p h x via t) k (λ via. b_ends_quiet d p h x via t k)
  hands_back_quiet d p h x other k = k

  handed_back_quiet : (d : Config) (p : ℕ) (h : Here) (x : Frame) (s : Option Statement) → Quiet c d → QuietIfOk c (handed_back d p h x s)
  handed_back_quiet d p h x None k = k
  handed_back_quiet d p h x (Some s) k = hands_back_quiet d p h x s k

  pub leaves_quiet : (p : ℕ) (i : Instance) (r : Residual) (x : Frame) → QuietIfOk c (leaves_call c p i r x)
  leaves_quiet p i r x = handed_back_quiet (passes c p r) p (here (passes c p r) p i (put r skip)) x (calling_statement c x.call) refl
