mod BracketArms
mod Conditions
mod ForForms
mod StatementArms
