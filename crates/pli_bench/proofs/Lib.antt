pub mod CommandsObeyed
mod DevicesServed
pub mod DumpsObeyed
mod Steps
