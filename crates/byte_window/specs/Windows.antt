-- Statement: what of a list goes through a window, and the window on what comes after the first n (own).
use Rattle.std.specs.Prelude.{ℕ, ◌-◌, List, take, drop, min, Option, Some, None}
use Rattle.byte_window.specs.declared.window.Window.{Window}

-- through which all go
abbrev pub everything : Window
everything = record { skip = 0; most = None }

-- at most N items
abbrev pub at_most : Option ℕ → List ℕ → List ℕ
at_most None xs = xs
at_most (Some n) xs = take n xs

-- what goes through
abbrev pub window : Window → List ℕ → List ℕ
window w xs = at_most w.most (drop w.skip xs)

-- N fewer
abbrev pub fewer : Option ℕ → ℕ → Option ℕ
fewer None n = None
fewer (Some most) n = Some (most - n)

-- the window on what comes after n items
abbrev pub after : Window → ℕ → Window
after w n = record { skip = w.skip - n; most = fewer w.most (n - w.skip) }

-- the lesser of two numbers, if there are two
abbrev pub at_most_of : Option ℕ → ℕ → ℕ
at_most_of None n = n
at_most_of (Some most) n = min most n

-- how many of n items go through
abbrev pub through : Window → ℕ → ℕ
through w n = at_most_of w.most (n - w.skip)
