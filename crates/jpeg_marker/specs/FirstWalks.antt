-- Statement: the walks over the first headers of files (ITU-T T.81, B.2.1).
use Rattle.jpeg_marker.specs.Walks.{Walk, first_walk}
use Rattle.jpeg_marker.specs.declared.scans.Scans.TheVariants.{One, Several}

-- of a file of one scan
abbrev pub only_walk : Walk
only_walk = first_walk One

-- of a file that may have its components in several scans
abbrev pub opening_walk : Walk
opening_walk = first_walk Several
