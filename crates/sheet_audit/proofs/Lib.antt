pub mod ReadBack
pub mod ReportedNumbers
pub mod Answering
pub mod WrongAudits
