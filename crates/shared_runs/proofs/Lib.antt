mod Placeless
mod Standing
mod Holding
mod Exported
mod Links
