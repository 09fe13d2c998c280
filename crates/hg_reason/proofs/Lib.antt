-- What is printed ASCII is UTF-8.
mod Printable
