mod WaysMade
mod BlockPassed
mod BlocksNumbered
