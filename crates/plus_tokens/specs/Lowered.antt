-- Names tell no case apart (PDDL): they are compared in small letters.
use Rattle.std.specs.Prelude.{ℕ, List, map}
use Rattle.std.specs.Char.{to_ascii_lowercase}

abbrev pub lowered : List ℕ → List ℕ
lowered bs = map to_ascii_lowercase bs
