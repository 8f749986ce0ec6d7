-- A line as it is shown to a person, with a mark under a place in it.
use Rattle.std.specs.Prelude.{ℕ, ◌+◌, ◌-◌, ◌||◌, Bool, true, false, nat_le, nat_lt, min, max, if◌then◌else◌, List, [], ◌∷◌, ◌++◌, length, map, replicate, slice_range, codes}

-- where what is shown begins: a line is shown from its first byte where it is short or the place stands near
abbrev pub shown_from : ℕ → ℕ → ℕ
shown_from size at = if nat_le size 100 || nat_lt at 60 then 0 else at - 40

-- and where it ends, after 100 bytes at most
abbrev pub shown_to : ℕ → ℕ → ℕ
shown_to size at = min size (shown_from size at + 100)

-- a byte takes one column: a tab is a blank, and what is no printable ASCII is `?`
abbrev pub shown_byte : ℕ → ℕ
shown_byte byte = if nat_le 32 byte then (if nat_le byte 126 then byte else 63) else (if nat_le byte 9 then (if nat_le 9 byte then 32 else 63) else 63)

abbrev pub dots : Bool → List ℕ
dots true = codes "..."
dots false = []

-- how many columns are marked: those of the bytes that are shown, and one at least
abbrev pub mark_width : ℕ → ℕ → ℕ → ℕ
mark_width at last to = max (min last to - at) 1

-- how many columns stand before the mark
abbrev pub columns_before : ℕ → ℕ → ℕ
columns_before from at = if nat_lt 0 from then 3 + (at - from) else at

-- what is shown of the line
abbrev pub line_text : List ℕ → ℕ → ℕ → List ℕ
line_text line from to =
    dots (nat_lt 0 from) ++ (map shown_byte (slice_range line from to) ++ (dots (nat_lt to (length line)) ++ 10 ∷ []))

-- blanks up to the place, and the mark
abbrev pub mark_text : ℕ → ℕ → List ℕ
mark_text before width = replicate before 32 ++ (replicate width 94 ++ 10 ∷ [])

abbrev pub marked_text : List ℕ → ℕ → ℕ → List ℕ
marked_text line at last =
    let from = shown_from (length line) at in
    let to = shown_to (length line) at in
    line_text line from to ++ mark_text (columns_before from at) (mark_width at last to)
