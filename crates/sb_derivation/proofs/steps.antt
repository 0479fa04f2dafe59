pub mod Parameters
