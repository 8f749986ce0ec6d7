-- What the words behind the program's name mean. Each word is compared byte for byte.
use Rattle.std.specs.Prelude.{ℕ, Bool, true, false, List, [], ◌∷◌, Option, Some, None, codes, option_map, option_and_then, if◌then◌else◌}
use Rattle.std.specs.Str.{bytes_eq}
use Rattle.plus_fraction.specs.Fraction.{Fraction}
use Rattle.plus_types.specs.declared.faults.File.{File}
use Rattle.plus_types.specs.declared.faults.File.TheVariants as files
use Rattle.plus_words.specs.Interval.{interval_of}
use Rattle.plus_words.specs.Numbers.{decisions_of, default_happenings, happenings_of, tanks_of}

-- `check D P L`: the files of the domain, the problem and the plan, and how many moments the plan may enter;
-- `show domain D` and `show problem P`: the file; `numeric D P L`: the files of the domain, the problem and the plan;
-- `trial N`: how many tanks; `translate domain Q D P` and `translate problem Q D P`: which half, the length of a step, and the
-- files of the domain and the problem; `lift Q D P L`: the length of a step, and the files of the domain, the problem and the
-- untimed plan; `plan Q K N D P` and `plan Q K N D P --cut`: the interval, how many decisions, how many tries, whether with the cut,
-- and the files of the domain and the problem; `trim D P L`: the files of the domain, the problem and the plan
pub data Command : Type 0 where
  Check : List ℕ → List ℕ → List ℕ → ℕ → Command
  ShowDomain ShowProblem : List ℕ → Command
  Numeric : List ℕ → List ℕ → List ℕ → Command
  Trial : ℕ → Command
  Translate : File → Fraction → List ℕ → List ℕ → Command
  Lift : Fraction → List ℕ → List ℕ → List ℕ → Command
  Plan : Fraction → ℕ → ℕ → Bool → List ℕ → List ℕ → Command
  Trim : List ℕ → List ℕ → List ℕ → Command

-- which of the two texts is shown, by its word
abbrev pub show_of : List ℕ → List ℕ → Option Command
show_of what file =
    if bytes_eq what (codes "domain") then Some (ShowDomain file)
    else (if bytes_eq what (codes "problem") then Some (ShowProblem file) else None)

-- a trial of so many tanks
abbrev pub trial_of : List ℕ → List ℕ → Option Command
trial_of c number = if bytes_eq c (codes "trial") then option_map Trial (tanks_of number) else None

-- a check of these three files, by the two words behind them
abbrev pub check_of : List ℕ → List ℕ → List ℕ → List ℕ → List ℕ → Option Command
check_of d p l option number =
    if bytes_eq option (codes "--happenings") then option_map (Check d p l) (happenings_of number) else None

-- the command with this name, of these three files
abbrev pub with_files : List ℕ → List ℕ → List ℕ → List ℕ → Option Command
with_files c d p l =
    if bytes_eq c (codes "check") then Some (Check d p l default_happenings)
    else (if bytes_eq c (codes "numeric") then Some (Numeric d p l) else (if bytes_eq c (codes "trim") then Some (Trim d p l) else None))

-- one of the two texts, by its word
abbrev pub file_named : List ℕ → Option File
file_named what =
    if bytes_eq what (codes "domain") then Some files.Domain
    else (if bytes_eq what (codes "problem") then Some files.Problem else None)

-- a translation of these two files in steps of this length
abbrev pub translate_of : List ℕ → List ℕ → List ℕ → List ℕ → Option Command
translate_of what q d p = option_and_then (λ file. option_map (λ x. Translate file x d p) (interval_of q)) (file_named what)

-- a plan of the translation of these files in steps of this length, which is lifted
abbrev pub lift_of : List ℕ → List ℕ → List ℕ → List ℕ → Option Command
lift_of q d p l = option_map (λ x. Lift x d p l) (interval_of q)

-- the command with this name, of these four words
abbrev pub with_four : List ℕ → List ℕ → List ℕ → List ℕ → List ℕ → Option Command
with_four c w x y z =
    if bytes_eq c (codes "translate") then translate_of w x y z
    else (if bytes_eq c (codes "lift") then lift_of w x y z else None)

-- a search on the grid of this interval, with so many decisions and tries, with the cut or without, over these two files
abbrev pub plan_of : List ℕ → List ℕ → List ℕ → Bool → List ℕ → List ℕ → Option Command
plan_of q k n cut d p =
    option_and_then (λ x. option_and_then (λ y. option_map (λ z. Plan x y z cut d p) (happenings_of n)) (decisions_of k)) (interval_of q)

-- the command with this name, of these five words
abbrev pub with_five : List ℕ → List ℕ → List ℕ → List ℕ → List ℕ → List ℕ → Option Command
with_five c v w x y z =
    if bytes_eq c (codes "check") then check_of v w x y z
    else (if bytes_eq c (codes "plan") then plan_of v w x false y z else None)

-- the same search with the cut, by the word behind these
abbrev pub cut_plan_of : List ℕ → List ℕ → List ℕ → List ℕ → List ℕ → List ℕ → Option Command
cut_plan_of q k n d p option = if bytes_eq option (codes "--cut") then plan_of q k n true d p else None

-- the command with this name, of these six words
abbrev pub with_six : List ℕ → List ℕ → List ℕ → List ℕ → List ℕ → List ℕ → List ℕ → Option Command
with_six c u v w x y z = if bytes_eq c (codes "plan") then cut_plan_of u v w x y z else None

abbrev pub command_of : List (List ℕ) → Option Command
command_of (c ∷ number ∷ []) = trial_of c number
command_of (c ∷ what ∷ file ∷ []) = if bytes_eq c (codes "show") then show_of what file else None
command_of (c ∷ d ∷ p ∷ l ∷ []) = with_files c d p l
command_of (c ∷ w ∷ x ∷ y ∷ z ∷ []) = with_four c w x y z
command_of (c ∷ v ∷ w ∷ x ∷ y ∷ z ∷ []) = with_five c v w x y z
command_of (c ∷ u ∷ v ∷ w ∷ x ∷ y ∷ z ∷ []) = with_six c u v w x y z
command_of _ = None

-- the names of the files of a command, in the order of the words
abbrev pub files_of : Option Command → List (List ℕ)
files_of None = []
files_of (Some (Check d p l n)) = d ∷ p ∷ l ∷ []
files_of (Some (ShowDomain file)) = file ∷ []
files_of (Some (ShowProblem file)) = file ∷ []
files_of (Some (Numeric d p l)) = d ∷ p ∷ l ∷ []
files_of (Some (Trial n)) = []
files_of (Some (Translate file q d p)) = d ∷ p ∷ []
files_of (Some (Lift q d p l)) = d ∷ p ∷ l ∷ []
files_of (Some (Plan q k n cut d p)) = d ∷ p ∷ []
files_of (Some (Trim d p l)) = d ∷ p ∷ l ∷ []
