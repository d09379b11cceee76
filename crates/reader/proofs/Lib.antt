pub mod Turns
pub mod PageReading
pub mod PageLaws
pub mod FootLaws
pub mod WholePages
pub mod PageAnswers
pub mod PageRuns
pub mod Accounting
