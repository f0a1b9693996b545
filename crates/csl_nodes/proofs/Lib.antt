pub mod MadeNothing
pub mod Dressings
pub mod SpelledNumbers
pub mod Readings
pub mod Outcomes
mod PaddedNumbers
mod DigitOrder
mod KeyOrder
mod AnswerInfos
pub mod JoinedParts
pub mod Theorems
