mod FirstTurns
mod Looking
mod Posting
mod Starting
