mod Waiting
mod Kept
mod Keys
mod Sessions
mod Passing
mod Mirrors
mod ReadBack
