-- What a reader must believe of the history, top to bottom: its words, maps, what happened, what may happen, and what is safe.
pub mod Words
pub mod Maps
pub mod History
pub mod Events
pub mod Edges
pub mod Safety
