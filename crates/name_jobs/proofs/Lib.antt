mod Asked
mod GroupOffers
mod Items
pub mod Made
mod NameOffers
mod Numbers
mod Races
mod Winning
