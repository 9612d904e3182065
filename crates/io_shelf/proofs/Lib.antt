mod Lives
mod Moments
mod Kept
