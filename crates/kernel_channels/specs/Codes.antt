-- What contracts see of the parts of a board, and the codes of these values.
use Rattle.std.specs.Prelude.{ℕ, Bool, List, Option, refl}
use Rattle.std.specs.Coded.{Coded, code_by, coded×, coded_list, coded_bool, coded_ℕ, coded_option}
use Rattle.kernel_events.specs.SignalChannel.Drivers.{Driven, driven_code}
use Rattle.kernel_events.specs.SignalChannel.declared.signal.Signal.{Signal}
use Rattle.kernel_events.specs.SignalChannel.contracts.signal.Signal as signal
use Rattle.kernel_events.specs.FifoSync.Fifos.{Queued, queued_code}
use Rattle.kernel_events.specs.SimModel.Configuration.{Channels}

-- signals and buffers, and which of them the last update changed
pub record Values : Type 0 where
  pub signals : List Signal
  pub changed : List Bool

-- resolved signals, which of them asked for an update, and which the last update changed
pub record Wires : Type 0 where
  pub resolved : List Driven
  pub asked : List Bool
  pub changed : List Bool

abbrev pub values_code : Coded Values
values_code =
    code_by
    (List Signal × List Bool)
    (coded× (coded_list signal.the_row.coded) (coded_list coded_bool))
    (λ v. (v.signals, v.changed))
    (λ p. record { signals = p.0; changed = p.1 })
    (λ _. refl)

abbrev pub wires_code : Coded Wires
wires_code =
    code_by
    (List Driven × (List Bool × List Bool))
    (coded× (coded_list driven_code) (coded× (coded_list coded_bool) (coded_list coded_bool)))
    (λ w. (w.resolved, (w.asked, w.changed)))
    (λ p. record { resolved = p.0; asked = p.1.0; changed = p.1.1 })
    (λ _. refl)

abbrev pub channels_code : Coded Channels
channels_code =
    code_by
    (Values × (Wires × (List Queued × (List (Option ℕ) × List ℕ))))
    (coded× values_code (coded× wires_code (coded× (coded_list queued_code) (coded× (coded_list (coded_option coded_ℕ)) (coded_list coded_ℕ)))))
    (λ x. (record { signals = x.signals; changed = x.changed }, (record { resolved = x.resolved; asked = x.resolved_asked; changed = x.resolved_changed }, (x.fifos, (x.mutexes, x.semaphores)))))
    (λ p. record {
      signals = p.0.signals;
      changed = p.0.changed;
      resolved = p.1.0.resolved;
      resolved_asked = p.1.0.asked;
      resolved_changed = p.1.0.changed;
      fifos = p.1.1.0;
      mutexes = p.1.1.1.0;
      semaphores = p.1.1.1.1;
    })
    (λ _. refl)
