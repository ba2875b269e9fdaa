pub mod DigitLemmas
pub mod BlockLaws
pub mod KeptLemmas
pub mod ContentLaws
pub mod ContentLemmas
pub mod ContentSignals
pub mod AccountLemmas
pub mod GoodVerdicts
