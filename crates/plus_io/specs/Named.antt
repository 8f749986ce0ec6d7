-- The names and the texts of a list of files.
use Rattle.std.specs.Prelude.{ℕ, List, map}
use Rattle.plus_io.specs.declared.stored.File.{File}

abbrev pub names_of : List File → List (List ℕ)
names_of files = map (λ file. file.name.items) files

abbrev pub texts_of : List File → List (List ℕ)
texts_of files = map (λ file. file.bytes.items) files
