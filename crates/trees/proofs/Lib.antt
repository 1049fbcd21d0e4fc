mod Sizes
mod Blocks
mod Placed
