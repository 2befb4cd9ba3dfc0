pub mod StackLaws
pub mod ProblemLaws
pub mod AnswerLaws
mod ExampleLaws
