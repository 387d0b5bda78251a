mod BackAgain
mod Copied
mod Made
mod RangesAgain
mod Told
mod Written
