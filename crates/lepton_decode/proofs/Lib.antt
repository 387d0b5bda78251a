mod PortionsWritten
mod PortionsMade
mod EndsMet
mod RingSizes
mod PadsLooked
