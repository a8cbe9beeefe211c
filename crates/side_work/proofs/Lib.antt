mod Opening
mod Sent
