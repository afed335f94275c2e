pub mod Responses
pub mod AnswerLines
