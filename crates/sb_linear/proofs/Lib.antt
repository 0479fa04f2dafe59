pub mod Answering
pub mod Powers
mod Results
mod Forms
mod Evaluation
mod Examples
