pub use Rattle.timed_queue.specs.SimTime.declared as declared
