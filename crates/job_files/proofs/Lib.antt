pub mod KindSteps
