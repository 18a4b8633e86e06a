pub mod FaultStatuses
pub mod FaultTexts
pub mod StatusLines
