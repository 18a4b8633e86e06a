pub mod Runs
pub mod Comments
pub mod SymbolTexts
pub mod Numbers
pub mod OnePiece
pub mod OneCutting
pub mod SymbolPlaces
pub mod WorkedTexts
