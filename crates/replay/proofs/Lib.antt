mod Texts
mod Words
mod Names
mod Readings
