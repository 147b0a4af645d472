mod Standings
mod Awaited
