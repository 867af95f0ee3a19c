pub use Rattle.kernel_state.specs.ReadySet.Ready as Ready
