pub mod OneProof
pub mod Clean
pub mod Made
pub mod InstanceTable
pub mod KernelBodies
pub mod KernelState
