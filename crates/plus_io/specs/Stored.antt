-- Files in memory, of which one may be picked and read.
use Rattle.std.specs.Prelude.{ℕ, ◌-◌, ◌^◌, List, [], ◌∷◌, ◌++◌, Option, Some, None, slice_set, slice_get, unwrap_or, drop}
use Rattle.std.specs.List.{position}
use Rattle.std.specs.Str.{bytes_eq}

-- what files in memory stand for
pub record Texts : Type 0 where
  -- the names, each once, and the bytes under each, in the same order
  pub names : List (List ℕ)
  pub texts : List (List ℕ)
  -- how many bytes one read gives at most
  pub most : ℕ
  -- the place of the file that is picked, and what of it is unread
  pub picked : Option ℕ
  pub rest : List ℕ

-- no files yet, and reads as long as they are asked for
abbrev pub no_files : Texts
no_files = record { names = []; texts = []; most = 2 ^ 64 - 1; picked = None; rest = [] }

-- the place of a name in the list, if it is there
abbrev pub place_of : List (List ℕ) → List ℕ → Option ℕ
place_of names name = position (λ n. bytes_eq n name) names

-- the name at a place
abbrev pub name_at : List (List ℕ) → Option ℕ → Option (List ℕ)
name_at names None = None
name_at names (Some place) = slice_get names place

-- the name that is picked, if any
abbrev pub picked_name : Texts → Option (List ℕ)
picked_name t = name_at t.names t.picked

-- the bytes at a place
abbrev pub text_at : List (List ℕ) → Option ℕ → List ℕ
text_at texts None = []
text_at texts (Some place) = unwrap_or (slice_get texts place) []

-- the bytes under a name, and none under one that is not there
abbrev pub text_under : Texts → List ℕ → List ℕ
text_under t name = text_at t.texts (place_of t.names name)

-- the names with one more, where it is not there
abbrev pub with_name : Option ℕ → List (List ℕ) → List ℕ → List (List ℕ)
with_name None names name = names ++ name ∷ []
with_name (Some place) names name = names

-- the texts with one put at a place, or behind the others
abbrev pub with_text : Option ℕ → List (List ℕ) → List ℕ → List (List ℕ)
with_text None texts text = texts ++ text ∷ []
with_text (Some place) texts text = slice_set texts place text

-- a file is put: it stands under its name in the place of any other, and nothing is picked
abbrev pub with_file : Texts → List ℕ → List ℕ → Texts
with_file t name text = record t {
  names = with_name (place_of t.names name) t.names name;
  texts = with_text (place_of t.names name) t.texts text;
  picked = None;
  rest = [];
}

-- the files with an empty one under a name, where none is there
abbrev pub with_named : Option ℕ → Texts → List ℕ → Texts
with_named None t name = record t { names = t.names ++ name ∷ []; texts = t.texts ++ [] ∷ [] }
with_named (Some place) t name = t

-- the file at a place is picked, or none
abbrev pub picking : Texts → Option ℕ → Texts
picking t place = record t { picked = place; rest = text_at t.texts place }

-- so many bytes are read
abbrev pub reading : Texts → ℕ → Texts
reading t count = record t { rest = drop count t.rest }
