mod Sent
mod Shared
