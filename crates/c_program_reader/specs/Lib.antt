pub mod StateCopies
