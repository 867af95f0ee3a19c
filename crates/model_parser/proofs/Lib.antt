pub mod ValueLaws
pub mod PlainItemLaws
pub mod PortLaws
pub mod SocketLaws
pub mod BodyLaws
pub mod ItemLaws
pub mod ModelLaws
pub mod Stops
