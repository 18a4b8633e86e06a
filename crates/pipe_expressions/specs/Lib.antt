pub mod MachineCopies
