pub mod PrintLaws
pub mod AskedText
pub mod FedLaws
