-- What is written where no plan is found (this project's profile).
use Rattle.std.specs.Prelude.{ℕ, List, ◌++◌, codes, decimal}

-- a number between two texts
abbrev pub numbered : List ℕ → ℕ → List ℕ → List ℕ
numbered front n back = front ++ (decimal n ++ back)

abbrev pub none_text : ℕ → ℕ → List ℕ
none_text decisions beyond = numbered (codes "none: ") decisions (codes " decisions") ++ numbered (codes ", ") beyond (codes " beyond\n")

abbrev pub spent_text : ℕ → List ℕ
spent_text tried = numbered (codes "spent: ") tried (codes " tried\n")
