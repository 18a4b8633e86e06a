pub mod LastReturns
