mod Asking
mod Values
mod Changes
mod Whole
mod Checks
