pub use Rattle.transport_phases.specs.History as History
pub use Rattle.transport_phases.specs.Lawful as Lawful
pub use Rattle.transport_phases.specs.Order as Order
pub use Rattle.transport_phases.specs.Phases as Phases
pub use Rattle.transport_phases.specs.Rows as Rows
pub use Rattle.transport_phases.specs.Words as Words
pub use Rattle.transport_phases.specs.declared as declared
