pub mod Puts
pub mod InPieces
pub mod Fixed
pub mod Pages
