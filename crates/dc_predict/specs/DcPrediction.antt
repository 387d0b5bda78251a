-- Statement: the predicted DC of a block, and how far the DCs above and left differ (docs/FORMAT.md, The events of a
-- block). The predictor of ITU-T T.81, F.1.1.5.1, is another thing: the last DC in coding order.
use Rattle.std.specs.Prelude.{ℕ, if◌then◌else◌, ℤ, pos, ◌+ℤ◌, ◌-ℤ◌, int_le, unsigned_abs, Option, Some, None}
use Rattle.coef_block.specs.Categories.{category}

-- the lesser of two numbers
abbrev pub least : ℤ → ℤ → ℤ
least a b = if int_le a b then a else b

-- the greater of two numbers
abbrev pub greatest : ℤ → ℤ → ℤ
greatest a b = if int_le a b then b else a

-- from the DCs above, left and diagonal (above and left): if the diagonal one isn't between the two, an edge of the
-- picture is there, and it is the one farther from the diagonal; otherwise the plane through the three
abbrev pub gradient : ℤ → ℤ → ℤ → ℤ
gradient above left diagonal =
    if int_le (greatest above left) diagonal then least above left
    else if int_le diagonal (least above left) then greatest above left
    else above +ℤ left -ℤ diagonal

-- the predicted DC, from the DCs that are there; the diagonal one is there if both others are
abbrev pub predicted : Option ℤ → Option ℤ → Option ℤ → ℤ
predicted (Some above) (Some left) (Some diagonal) = gradient above left diagonal
predicted (Some above) (Some left) None = pos 0
predicted (Some above) None diagonal = above
predicted None (Some left) diagonal = left
predicted None None diagonal = pos 0

-- the category of the difference of the DCs above and left, 0 if one isn't there
abbrev pub spread_of : Option ℤ → Option ℤ → ℕ
spread_of (Some above) (Some left) = category (unsigned_abs (above -ℤ left))
spread_of (Some above) None = 0
spread_of None left = 0
