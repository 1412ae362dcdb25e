mod Places
mod Wholes
