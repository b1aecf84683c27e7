mod Grows
mod Puts
