mod Flushed
mod Compared
mod Differing
mod Found
mod AlikeDiagrams
