mod Added
mod Adding
mod Backs
mod Bytes
mod Cuts
mod Reading
mod Whole
