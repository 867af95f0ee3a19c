pub use Rattle.parse_actions.specs.SimTime.declared as declared
