-- What a keyword begins. Words tell no case apart; here they are in small letters.
use Rattle.std.specs.Prelude.{ℕ, List, [], ◌∷◌, if◌then◌else◌, codes}
use Rattle.std.specs.Str.{bytes_eq}
use Rattle.plus_parser.specs.declared.keywords.KeyWord.{KeyWord}
use Rattle.plus_parser.specs.declared.keywords.KeyWord.TheVariants as keys
use Rattle.plus_parser.specs.declared.keywords.DomainWord.{DomainWord}
use Rattle.plus_parser.specs.declared.keywords.DomainWord.TheVariants as domains
use Rattle.plus_parser.specs.declared.keywords.ProblemWord.{ProblemWord}
use Rattle.plus_parser.specs.declared.keywords.ProblemWord.TheVariants as problems
use Rattle.plus_tokens.specs.Items.{Piece}
use Rattle.plus_parser.specs.Phrases.Words.{look, is_keyword}

-- what a keyword's word says; another token says nothing
abbrev pub by_keyword : {A : Type 0} → A → (List ℕ → A) → Piece → A
by_keyword other says p = if is_keyword p.kind then says p.word else other

abbrev pub key_of : Piece → KeyWord
key_of = by_keyword keys.Other (λ w.
    if bytes_eq w (codes ":parameters") then keys.Parameters
    else (if bytes_eq w (codes ":precondition") then keys.Precondition
    else (if bytes_eq w (codes ":effect") then keys.Effect
    else keys.Other)))

-- the words that begin a section of a domain
abbrev pub domain_words : List (List ℕ × DomainWord)
domain_words =
    (codes ":requirements", domains.Requirements) ∷ (codes ":types", domains.Types) ∷ (codes ":constants", domains.Constants)
    ∷ (codes ":predicates", domains.Predicates) ∷ (codes ":functions", domains.Functions) ∷ (codes ":action", domains.Action)
    ∷ (codes ":process", domains.Process) ∷ (codes ":event", domains.Event) ∷ []

abbrev pub domain_part_of : Piece → DomainWord
domain_part_of = by_keyword domains.Other (λ w. look w domain_words domains.Other)

-- the words that begin a section of a problem
abbrev pub problem_words : List (List ℕ × ProblemWord)
problem_words =
    (codes ":domain", problems.Domain) ∷ (codes ":requirements", problems.Requirements) ∷ (codes ":objects", problems.Objects)
    ∷ (codes ":init", problems.Init) ∷ (codes ":goal", problems.Goal) ∷ (codes ":metric", problems.Metric) ∷ []

abbrev pub problem_part_of : Piece → ProblemWord
problem_part_of = by_keyword problems.Other (λ w. look w problem_words problems.Other)
