mod Rows
mod Refusals
mod Parts
mod Pointing
