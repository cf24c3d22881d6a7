mod FaultsTold
mod TypedCompiled
