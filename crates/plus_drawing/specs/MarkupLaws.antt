-- What a reader of markup may rely on.
use Rattle.std.specs.Prelude.{◌≡◌, ℕ, ◌==◌, ◌&&◌, not, Bool, true, List}
use Rattle.std.specs.List.{list_all}
use Rattle.plus_drawing.specs.Markup.{escaped}

-- a byte begins no tag and ends none
abbrev pub is_plain : ℕ → Bool
is_plain b = not (b == 60) && not (b == 62)

abbrev pub IsNoMarkup : List ℕ → Type 0
IsNoMarkup bytes = list_all is_plain bytes ≡ true

-- a text as it is written is no markup, whatever it says
abbrev pub TextsAreNoMarkup : Type 0
TextsAreNoMarkup = (text : List ℕ) → IsNoMarkup (escaped text)
