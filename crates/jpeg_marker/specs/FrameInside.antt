-- View: a frame by its fields, and what holds of them (own).
use Rattle.std.specs.Prelude.{◌-◌, ◌≡◌, ◌++◌, length, take, replicate}
use Rattle.jpeg_marker.specs.Frames.{FrameFields, IsFrame, no_part}
use Rattle.jpeg_marker.specs.declared.frame.Frame.TheInside.{Inside}

-- a frame of the parts that there are
abbrev pub frame_fields : Inside → FrameFields
frame_fields f = record { height = f.height; width = f.width; parts = take f.count f.parts }

-- the array is blank after the last part, so that the parts determine it
pub record IsFrameInside (f : Inside) : Type 0 where
  pub room : length (take f.count f.parts) ≡ f.count
  pub frame : IsFrame (frame_fields f)
  pub blank : f.parts ≡ take f.count f.parts ++ replicate (4 - f.count) no_part

-- what is kept of it
abbrev pub frame_inside : FrameFields → Inside
frame_inside f = record {
  height = f.height;
  width = f.width;
  parts = f.parts ++ replicate (4 - length f.parts) no_part;
  count = length f.parts;
}
