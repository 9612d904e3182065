mod Over
mod Answers
