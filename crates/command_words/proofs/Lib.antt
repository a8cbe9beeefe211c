mod Digits
mod OptionValues
mod Readers
mod FirstBad
mod Names
