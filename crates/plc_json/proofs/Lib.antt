mod Pairs
mod Each
mod Once
mod Whole
mod Nesting
mod Texts
mod Changes
mod NameLists
