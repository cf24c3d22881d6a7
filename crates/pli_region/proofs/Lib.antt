mod Bytes
mod Copied
mod Leases
mod Opens
mod Sharing
