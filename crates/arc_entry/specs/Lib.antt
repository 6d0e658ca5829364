pub mod ArcEntry
