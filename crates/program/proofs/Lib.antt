pub mod PrinterAnswer
pub mod Front
pub mod FaultText
pub mod ReaderAnswer
pub mod Calls
