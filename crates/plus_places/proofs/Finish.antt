-- Tokens that bring each symbol to its end.
use Rattle.std.proofs.Common.{◌≡◌, ℕ, Bool, true, false, cond, List, [], ◌∷◌, ◌++◌, Some, refl, ap, ◌∙◌}
use Rattle.std.specs.Prelude.{◌&&◌, codes}
use Rattle.plus_tokens.specs.declared.token.Kind.TheVariants as kinds
use Rattle.plus_tokens.specs.Items.{Piece}
use Rattle.plus_tokens.specs.Numeral.{numeral_of}
use Rattle.plus_parser.specs.Phrases.Literals.{kind_literal}
use Rattle.plus_parser.specs.Phrases.Grammar.{nowhere}
use Rattle.plus_places.specs.declared.symbols.Met.{Met}
use Rattle.plus_places.specs.declared.symbols.Symbol.{Symbol}
use Rattle.plus_places.specs.declared.symbols.Symbol.TheVariants as sy
use Rattle.plus_parser.specs.Keywords.{problem_part_of}
use Rattle.plus_places.specs.Table.{run, run_with, once, all_met, section_of}

abbrev pub opening : Piece
opening = record { kind = kinds.Open; word = codes "("; span = nowhere }

abbrev pub closing : Piece
closing = record { kind = kinds.Close; word = codes ")"; span = nowhere }

abbrev pub name : List ℕ → Piece
name w = record { kind = kinds.Name; word = w; span = nowhere }

abbrev pub keyword : List ℕ → Piece
keyword w = record { kind = kinds.Keyword; word = w; span = nowhere }

abbrev pub clock : Piece
clock = record { kind = kinds.Clock; word = codes "#t"; span = nowhere }

abbrev pub one : Piece
one = record { kind = kinds.Number; word = codes "1"; span = nowhere }

abbrev pub domain_part : List Piece
domain_part = opening ∷ keyword (codes ":domain") ∷ name (codes "a") ∷ closing ∷ []

abbrev pub init_part : List Piece
init_part = opening ∷ keyword (codes ":init") ∷ closing ∷ []

abbrev pub goal_part : List Piece
goal_part = opening ∷ keyword (codes ":goal") ∷ opening ∷ closing ∷ closing ∷ []

-- what is missing of a section
abbrev pub missing : Bool → List Piece → List Piece → List Piece
missing true part more = more
missing false part more = part ++ more

abbrev pub sections_end : Met → List Piece
sections_end m = missing m.domain domain_part (missing m.init init_part (missing m.goal goal_part (closing ∷ [])))

-- behind the parenthesis of a section: one that is not there yet, and the others that must stand
abbrev pub section_end : Bool → Bool → Bool → Bool → Bool → Bool → Met → List Piece
section_end false r o d i g m = keyword (codes ":metric") ∷ closing ∷ sections_end (record m { metric = true })
section_end true false o d i g m = keyword (codes ":requirements") ∷ closing ∷ sections_end (record m { requirements = true })
section_end true true false d i g m = keyword (codes ":objects") ∷ closing ∷ sections_end (record m { objects = true })
section_end true true true false i g m = keyword (codes ":domain") ∷ name (codes "a") ∷ closing ∷ sections_end (record m { domain = true })
section_end true true true true false g m = keyword (codes ":init") ∷ closing ∷ sections_end (record m { init = true })
section_end true true true true true false m = keyword (codes ":goal") ∷ opening ∷ closing ∷ closing ∷ sections_end (record m { goal = true })
section_end true true true true true true m = closing ∷ sections_end m

abbrev pub finish : Symbol → List Piece
finish sy.Open = opening ∷ []
finish sy.Close = closing ∷ []
finish sy.Name = name (codes "a") ∷ []
finish sy.Plain = name (codes "a") ∷ []
finish sy.Number = one ∷ []
finish sy.Term = name (codes "a") ∷ []
finish sy.Define = name (codes "define") ∷ []
finish sy.ProblemWord = name (codes "problem") ∷ []
finish sy.Requirements = closing ∷ []
finish (sy.Arguments a) = closing ∷ []
finish (sy.Use a) = opening ∷ name (codes "a") ∷ closing ∷ []
finish (sy.Listed a waiting) = closing ∷ []
finish sy.Variables = opening ∷ closing ∷ []
finish sy.Expr = clock ∷ []
finish sy.ExprInside = name (codes "a") ∷ closing ∷ []
finish sy.Exprs = closing ∷ []
finish sy.MinusEnd = closing ∷ []
finish sy.Cond = opening ∷ closing ∷ []
finish sy.CondInside = closing ∷ []
finish sy.Conds = closing ∷ []
finish (sy.Compared same) = clock ∷ clock ∷ closing ∷ []
finish sy.Inits = closing ∷ []
finish sy.InitInside = name (codes "a") ∷ closing ∷ []
finish sy.AtEnd = closing ∷ []
finish sy.Timed = opening ∷ name (codes "a") ∷ closing ∷ []
finish sy.TimedInside = name (codes "a") ∷ closing ∷ []
finish sy.Balanced = closing ∷ []
finish (sy.Sections m) = sections_end m
finish (sy.Section m) = section_end m.metric m.requirements m.objects m.domain m.init m.goal m
finish sy.DomainWord = name (codes "domain") ∷ []
finish sy.Effect = opening ∷ closing ∷ []
finish sy.EffectInside = closing ∷ []
finish sy.Effects = closing ∷ []
finish sy.Simple = opening ∷ closing ∷ []
finish sy.SimpleInside = closing ∷ []
finish sy.LeafInside = name (codes "a") ∷ closing ∷ []
finish sy.Leaves = closing ∷ []
finish sy.HeadInside = name (codes "a") ∷ closing ∷ []
finish sy.Heads = closing ∷ []
finish sy.NumberWord = name (codes "number") ∷ []
finish (sy.Functions untyped) = closing ∷ []
finish (sy.Keys m) = closing ∷ []
finish (sy.DomainSections m) = closing ∷ []
finish (sy.DomainSection m) = keyword (codes ":action") ∷ name (codes "a") ∷ closing ∷ closing ∷ []
finish sy.Time = one ∷ []
finish sy.Constraints = opening ∷ name (codes "and") ∷ closing ∷ []
finish sy.ConstraintsInside = name (codes "and") ∷ closing ∷ []
finish sy.ConstraintList = closing ∷ []
finish sy.ConstraintInside = name (codes "always") ∷ opening ∷ closing ∷ closing ∷ []

-- ---- they do

abbrev met : Bool → Bool → Bool → Bool → Bool → Bool → Met
met d r o i g m = record { domain = d; requirements = r; objects = o; init = i; goal = g; metric = m }

pub late : (a b c : Bool) → (a && (b && (c && false))) ≡ false
late false b c = refl
late true false c = refl
late true true false = refl
late true true true = refl

-- one more section
part : (m : Met) (k : Piece) (more : List Piece) → all_met m ≡ false → run (sy.Sections m ∷ []) (opening ∷ k ∷ more) ≡ run_with (section_of m (problem_part_of k)) (λ ks. run (ks ++ []) more)
unfolding run
part m k more e =
    ap (λ b. run_with (once b (sy.Section m ∷ [])) (λ ks. run (ks ++ []) (k ∷ more))) e
    ∙ ap (λ b. run_with (cond b (Some (sy.Sections m ∷ [])) (section_of m (problem_part_of k))) (λ ks. run (ks ++ []) more)) e

add_domain : (d r o i g m : Bool) (more : List Piece) → run (sy.Sections (met d r o i g m) ∷ []) (missing d domain_part more) ≡ run (sy.Sections (met true r o i g m) ∷ []) more
unfolding run
add_domain true r o i g m more = refl
add_domain false r o i g m more = part (met false r o i g m) (keyword (codes ":domain")) (name (codes "a") ∷ closing ∷ more) (late m r o)

add_init : (r o i g m : Bool) (more : List Piece) → run (sy.Sections (met true r o i g m) ∷ []) (missing i init_part more) ≡ run (sy.Sections (met true r o true g m) ∷ []) more
unfolding run
add_init r o true g m more = refl
add_init r o false g m more = part (met true r o false g m) (keyword (codes ":init")) (closing ∷ more) (late m r o)

add_goal : (r o g m : Bool) (more : List Piece) → run (sy.Sections (met true r o true g m) ∷ []) (missing g goal_part more) ≡ run (sy.Sections (met true r o true true m) ∷ []) more
unfolding run
add_goal r o true m more = refl
add_goal r o false m more = part (met true r o true false m) (keyword (codes ":goal")) (opening ∷ closing ∷ closing ∷ more) (late m r o)

sections_ends : (m : Met) → run (sy.Sections m ∷ []) (sections_end m) ≡ Some []
unfolding run
sections_ends m =
    add_domain m.domain m.requirements m.objects m.init m.goal m.metric (missing m.init init_part (missing m.goal goal_part (closing ∷ [])))
    ∙ add_init m.requirements m.objects m.init m.goal m.metric (missing m.goal goal_part (closing ∷ []))
    ∙ add_goal m.requirements m.objects m.goal m.metric (closing ∷ [])

section_ends : (b r o d i g : Bool) → run (sy.Section (met d r o i g b) ∷ []) (section_end b r o d i g (met d r o i g b)) ≡ Some []
unfolding run
section_ends false r o d i g = sections_ends (met d r o i g true)
section_ends true false o d i g = sections_ends (met d true o i g true)
section_ends true true false d i g = sections_ends (met d true true i g true)
section_ends true true true false i g = sections_ends (met true true true i g true)
section_ends true true true true false g = sections_ends (met true true true true g true)
section_ends true true true true true false = sections_ends (met true true true true true true)
section_ends true true true true true true = refl

pub ends : (s : Symbol) → run (s ∷ []) (finish s) ≡ Some []
unfolding run kind_literal numeral_of
ends (sy.Sections m) = sections_ends m
ends (sy.Section m) = section_ends m.metric m.requirements m.objects m.domain m.init m.goal
ends (sy.Compared true) = refl
ends (sy.Compared false) = refl
ends _ = refl
