mod Directions
mod KeptLines
mod Pages
