mod Distinct
mod Owners
mod Meanings
mod Bodies
mod Texts
