-- Markup: elements one in another, and texts between their tags.
use Rattle.std.specs.Prelude.{ℕ, List, [], ◌∷◌, ◌++◌, ◌==◌, if◌then◌else◌, codes}
use Rattle.std.specs.List.{flat_map}
use Rattle.plus_drawing.specs.declared.markup.Tag.{Tag}
use Rattle.plus_drawing.specs.declared.markup.Tag.TheVariants.{Svg, Style, Definitions, Clip, Group, Title, Rectangle, Line, Path, Circle, Text}

abbrev pub name_of : Tag → List ℕ
name_of Svg = codes "svg"
name_of Style = codes "style"
name_of Definitions = codes "defs"
name_of Clip = codes "clipPath"
name_of Group = codes "g"
name_of Title = codes "title"
name_of Rectangle = codes "rect"
name_of Line = codes "line"
name_of Path = codes "path"
name_of Circle = codes "circle"
name_of Text = codes "text"

-- what stands for a byte: no text has a byte that begins or ends a tag, or a reference
abbrev pub entity : ℕ → List ℕ
entity b = if b == 60 then codes "&lt;" else if b == 62 then codes "&gt;" else if b == 38 then codes "&amp;" else b ∷ []

abbrev pub escaped : List ℕ → List ℕ
escaped text = flat_map entity text

-- the tag that begins an element, with its attributes, up to its last bytes
unfoldable pub opening : Tag → List ℕ → List ℕ → List ℕ
opening tag head last = codes "<" ++ name_of tag ++ escaped head ++ last

-- the tag that ends it
unfoldable pub closing : Tag → List ℕ
closing tag = codes "</" ++ name_of tag ++ codes ">"

-- These bytes are markup in which these elements are open, the last one innermost: an element is closed that was opened last and is
-- open. So markup in which none is open is balanced.
pub data Written : List Tag → List ℕ → Type 0 where
  nothing : Written [] []
  with_text : (opened : List Tag) (bytes text : List ℕ) → Written opened bytes → Written opened (bytes ++ escaped text)
  with_lone : (opened : List Tag) (bytes : List ℕ) (tag : Tag) (head : List ℕ) → Written opened bytes → Written opened (bytes ++ opening tag head (codes "/>"))
  with_opening : (opened : List Tag) (bytes : List ℕ) (tag : Tag) (head : List ℕ) → Written opened bytes → Written (opened ++ tag ∷ []) (bytes ++ opening tag head (codes ">"))
  with_closing : (opened : List Tag) (bytes : List ℕ) (tag : Tag) → Written (opened ++ tag ∷ []) bytes → Written opened (bytes ++ closing tag)
