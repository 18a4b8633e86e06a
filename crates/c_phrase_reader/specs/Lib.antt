pub mod PhraseCopies
