pub mod Playing
