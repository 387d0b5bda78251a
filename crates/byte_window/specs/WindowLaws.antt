-- Law: what holds of all windows (own).
use Rattle.std.specs.Prelude.{ℕ, ◌≡◌, ◌+◌, ◌≤◌, List, ◌++◌, length}
use Rattle.byte_window.specs.declared.window.Window.{Window}
use Rattle.byte_window.specs.Windows.{everything, window, after, through}

-- all goes through the window without bounds
abbrev pub AllPasses : Type 0
AllPasses = (xs : List ℕ) → window everything xs ≡ xs

-- what goes through of two lists joined is what goes through of the first, and of the second after it
abbrev pub ComesInPieces : Type 0
ComesInPieces =
    (w : Window) (xs ys : List ℕ)
    → window w (xs ++ ys) ≡ window w xs ++ window (after w (length xs)) ys

-- so what went through of a first part stays
abbrev pub IsPrefix : Type 0
IsPrefix =
    (w : Window) (xs ys : List ℕ)
    → (more : List ℕ) × (window w (xs ++ ys) ≡ window w xs ++ more)

-- items and then others are all of them
abbrev pub StepsAdd : Type 0
StepsAdd = (w : Window) (m n : ℕ) → after (after w m) n ≡ after w (m + n)

-- after none it is the same
abbrev pub StepOfNothing : Type 0
StepOfNothing = (w : Window) → after w 0 ≡ w

-- how many go through; never more than come
abbrev pub IsCounted : Type 0
IsCounted =
    (w : Window) (xs : List ℕ)
    → (length (window w xs) ≡ through w (length xs)) × (length (window w xs) ≤ length xs)
