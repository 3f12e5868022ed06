pub mod FaultText
pub mod Grammar
pub mod Numbers
pub mod Words
