mod Turning
mod Threefold
