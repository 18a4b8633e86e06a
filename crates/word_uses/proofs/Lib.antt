pub mod WordUses
