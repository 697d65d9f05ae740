mod Agree
mod Digits
