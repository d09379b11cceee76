pub mod PageFiles
pub mod PageRuns
