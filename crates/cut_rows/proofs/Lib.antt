mod Cuts
mod Rows
