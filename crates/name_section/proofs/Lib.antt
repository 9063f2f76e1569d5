mod Customs
mod Maps
mod Sizes
