mod Lines
mod Merging
mod Printing
mod Putting
mod Spelling
