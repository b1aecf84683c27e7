mod ItemForms
mod Taking
mod UnitTurns
mod Whole
