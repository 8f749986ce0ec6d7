-- The line that sums a trial up.
use Rattle.std.specs.Prelude.{ℕ, List, ◌++◌, codes}
use Rattle.plus_trial.specs.declared.summary.Word.{Word}
use Rattle.plus_trial.specs.declared.summary.Word.TheVariants.{Valid, Invalid, Beyond, Bad}
use Rattle.plus_trial.specs.declared.summary.Summary.{Summary}
use Rattle.plus_trial.specs.Farm.{numbered}

-- the first word of a verdict
abbrev pub word_text : Word → List ℕ
word_text Valid = codes "valid"
word_text Invalid = codes "invalid"
word_text Beyond = codes "beyond"
word_text Bad = codes "bad"

-- how many tanks there are, the first word of the verdict, how many moments are entered, and how many events fire
abbrev pub summary_text : Summary → List ℕ
summary_text s =
    numbered (codes "trial ") s.tanks (codes ": ")
    ++ (word_text s.word ++ (numbered (codes ", ") s.entries (codes " happenings") ++ numbered (codes ", ") s.firings (codes " events\n")))
