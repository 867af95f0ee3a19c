pub mod Sizes
pub mod Declared
pub mod Named
pub mod Sockets
pub mod Fields
pub mod Accepted
pub mod LawsCode
