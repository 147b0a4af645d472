pub mod StampsRise
