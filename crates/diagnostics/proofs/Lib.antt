pub mod LimitTexts
