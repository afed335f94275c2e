pub mod Reporting
pub mod Responses
pub mod AnswerLines
pub mod Ready
