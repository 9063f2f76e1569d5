mod Bodies
mod Named
