mod Below
mod Entries
