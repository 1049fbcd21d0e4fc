mod Fronts
mod Gaps
mod Ledgers
mod Places
mod Relends
mod Steps
mod Walks
