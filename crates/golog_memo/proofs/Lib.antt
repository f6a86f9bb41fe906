mod Numbers
mod Placing
