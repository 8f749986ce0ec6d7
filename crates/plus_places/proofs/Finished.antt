-- The tokens that bring symbols to their end are spelled by their words.
use Rattle.std.proofs.Common.{◌≡◌, ℕ, ◌≤◌, Bool, true, false, List, [], ◌∷◌, ◌++◌, length, refl, lit≤}
use Rattle.std.specs.Prelude.{◌&&◌, codes}
use Rattle.std.specs.List.{list_all}
use Rattle.std.proofs.lemmas.Bool.{and_parts}
use Rattle.plus_tokens.specs.Bytes.{is_letter, is_name_byte}
use Rattle.plus_tokens.specs.Spelling.{IsName}
use Rattle.plus_tokens.specs.Items.{Piece}
use Rattle.plus_places.specs.declared.symbols.Met.{Met}
use Rattle.plus_places.specs.declared.symbols.Symbol.{Symbol}
use Rattle.plus_places.specs.declared.symbols.Symbol.TheVariants as sy
use Rattle.plus_places.proofs.Texts.{IsGenuine, AreGenuine}
use Rattle.plus_places.proofs.Finish.{opening, closing, name, keyword, clock, one, missing, domain_part, init_part, goal_part, sections_end, section_end, finish, ends}
use Rattle.plus_places.proofs.Runs.{finish_all}

-- ---- the words

abbrev is_good : List ℕ → Bool
is_good [] = false
is_good (b ∷ bs) = is_letter b && list_all is_name_byte bs

good_name : (w : List ℕ) → is_good w ≡ true → length w ≤ 64 → IsName w
good_name [] e le = absurd cc
good_name (b ∷ bs) e le =
    let h = and_parts (is_letter b) (list_all is_name_byte bs) e in
    record { first = b; others = bs; letter = h.0; name_bytes = h.1; spelled = refl; within = le }

is_opening : IsGenuine opening
is_opening = record { spelled = refl; small = refl }

is_closing : IsGenuine closing
is_closing = record { spelled = refl; small = refl }

is_clock : IsGenuine clock
is_clock = record { spelled = (116, refl, refl); small = refl }

is_one : IsGenuine one
is_one = record {
  spelled = (
    false,
    1,
    0,
    record {
      first = 49;
      others = [];
      fraction = [];
      whole_digits = refl;
      fraction_digits = refl;
      spelled = refl;
      value = refl;
      few_places = refl;
      whole_within = lit≤ tt;
      places_within = lit≤ tt;
    },
  );
  small = refl;
}

is_a : IsGenuine (name (codes "a"))
is_a = record { spelled = good_name (codes "a") refl (lit≤ tt); small = refl }

is_define : IsGenuine (name (codes "define"))
is_define = record { spelled = good_name (codes "define") refl (lit≤ tt); small = refl }

is_problem : IsGenuine (name (codes "problem"))
is_problem = record { spelled = good_name (codes "problem") refl (lit≤ tt); small = refl }

is_domain : IsGenuine (name (codes "domain"))
is_domain = record { spelled = good_name (codes "domain") refl (lit≤ tt); small = refl }

is_number : IsGenuine (name (codes "number"))
is_number = record { spelled = good_name (codes "number") refl (lit≤ tt); small = refl }

is_and : IsGenuine (name (codes "and"))
is_and = record { spelled = good_name (codes "and") refl (lit≤ tt); small = refl }

is_always : IsGenuine (name (codes "always"))
is_always = record { spelled = good_name (codes "always") refl (lit≤ tt); small = refl }

is_requirements_key : IsGenuine (keyword (codes ":requirements"))
is_requirements_key = record { spelled = (codes "requirements", good_name (codes "requirements") refl (lit≤ tt), refl); small = refl }

is_domain_key : IsGenuine (keyword (codes ":domain"))
is_domain_key = record { spelled = (codes "domain", good_name (codes "domain") refl (lit≤ tt), refl); small = refl }

is_init_key : IsGenuine (keyword (codes ":init"))
is_init_key = record { spelled = (codes "init", good_name (codes "init") refl (lit≤ tt), refl); small = refl }

is_goal_key : IsGenuine (keyword (codes ":goal"))
is_goal_key = record { spelled = (codes "goal", good_name (codes "goal") refl (lit≤ tt), refl); small = refl }

is_metric_key : IsGenuine (keyword (codes ":metric"))
is_metric_key = record { spelled = (codes "metric", good_name (codes "metric") refl (lit≤ tt), refl); small = refl }

is_objects_key : IsGenuine (keyword (codes ":objects"))
is_objects_key = record { spelled = (codes "objects", good_name (codes "objects") refl (lit≤ tt), refl); small = refl }

is_action_key : IsGenuine (keyword (codes ":action"))
is_action_key = record { spelled = (codes "action", good_name (codes "action") refl (lit≤ tt), refl); small = refl }

-- ---- the tokens

append : (ps more : List Piece) → AreGenuine ps → AreGenuine more → AreGenuine (ps ++ more)
append [] more h k = k
append (p ∷ ps) more h k = (h.0, append ps more h.1 k)

and_part : (b : Bool) (part more : List Piece) → AreGenuine part → AreGenuine more → AreGenuine (missing b part more)
and_part true part more h k = k
and_part false part more h k = append part more h k

sections_tokens : (m : Met) → AreGenuine (sections_end m)
sections_tokens m =
    and_part m.domain domain_part (missing m.init init_part (missing m.goal goal_part (closing ∷ []))) (is_opening, (is_domain_key, (is_a, (is_closing, tt))))
    (and_part m.init init_part (missing m.goal goal_part (closing ∷ [])) (is_opening, (is_init_key, (is_closing, tt)))
    (and_part m.goal goal_part (closing ∷ []) (is_opening, (is_goal_key, (is_opening, (is_closing, (is_closing, tt))))) (is_closing, tt)))

section_tokens : (b r o d i g : Bool) (m : Met) → AreGenuine (section_end b r o d i g m)
section_tokens false r o d i g m = (is_metric_key, (is_closing, sections_tokens (record m { metric = true })))
section_tokens true false o d i g m = (is_requirements_key, (is_closing, sections_tokens (record m { requirements = true })))
section_tokens true true false d i g m = (is_objects_key, (is_closing, sections_tokens (record m { objects = true })))
section_tokens true true true false i g m = (is_domain_key, (is_a, (is_closing, sections_tokens (record m { domain = true }))))
section_tokens true true true true false g m = (is_init_key, (is_closing, sections_tokens (record m { init = true })))
section_tokens true true true true true false m = (is_goal_key, (is_opening, (is_closing, (is_closing, sections_tokens (record m { goal = true })))))
section_tokens true true true true true true m = (is_closing, sections_tokens m)

pub finish_tokens : (s : Symbol) → AreGenuine (finish s)
finish_tokens sy.Open = (is_opening, tt)
finish_tokens sy.Close = (is_closing, tt)
finish_tokens sy.Name = (is_a, tt)
finish_tokens sy.Plain = (is_a, tt)
finish_tokens sy.Number = (is_one, tt)
finish_tokens sy.Term = (is_a, tt)
finish_tokens sy.Define = (is_define, tt)
finish_tokens sy.ProblemWord = (is_problem, tt)
finish_tokens sy.Requirements = (is_closing, tt)
finish_tokens (sy.Arguments a) = (is_closing, tt)
finish_tokens (sy.Use a) = (is_opening, (is_a, (is_closing, tt)))
finish_tokens (sy.Listed a waiting) = (is_closing, tt)
finish_tokens sy.Variables = (is_opening, (is_closing, tt))
finish_tokens sy.Expr = (is_clock, tt)
finish_tokens sy.ExprInside = (is_a, (is_closing, tt))
finish_tokens sy.Exprs = (is_closing, tt)
finish_tokens sy.MinusEnd = (is_closing, tt)
finish_tokens sy.Cond = (is_opening, (is_closing, tt))
finish_tokens sy.CondInside = (is_closing, tt)
finish_tokens sy.Conds = (is_closing, tt)
finish_tokens (sy.Compared same) = (is_clock, (is_clock, (is_closing, tt)))
finish_tokens sy.Inits = (is_closing, tt)
finish_tokens sy.InitInside = (is_a, (is_closing, tt))
finish_tokens sy.AtEnd = (is_closing, tt)
finish_tokens sy.Timed = (is_opening, (is_a, (is_closing, tt)))
finish_tokens sy.TimedInside = (is_a, (is_closing, tt))
finish_tokens sy.Balanced = (is_closing, tt)
finish_tokens sy.DomainWord = (is_domain, tt)
finish_tokens sy.Effect = (is_opening, (is_closing, tt))
finish_tokens sy.EffectInside = (is_closing, tt)
finish_tokens sy.Effects = (is_closing, tt)
finish_tokens sy.Simple = (is_opening, (is_closing, tt))
finish_tokens sy.SimpleInside = (is_closing, tt)
finish_tokens sy.LeafInside = (is_a, (is_closing, tt))
finish_tokens sy.Leaves = (is_closing, tt)
finish_tokens sy.HeadInside = (is_a, (is_closing, tt))
finish_tokens sy.Heads = (is_closing, tt)
finish_tokens sy.NumberWord = (is_number, tt)
finish_tokens (sy.Functions untyped) = (is_closing, tt)
finish_tokens (sy.Keys m) = (is_closing, tt)
finish_tokens (sy.DomainSections m) = (is_closing, tt)
finish_tokens (sy.DomainSection m) = (is_action_key, (is_a, (is_closing, (is_closing, tt))))
finish_tokens sy.Time = (is_one, tt)
finish_tokens sy.Constraints = (is_opening, (is_and, (is_closing, tt)))
finish_tokens sy.ConstraintsInside = (is_and, (is_closing, tt))
finish_tokens sy.ConstraintList = (is_closing, tt)
finish_tokens sy.ConstraintInside = (is_always, (is_opening, (is_closing, (is_closing, tt))))
finish_tokens (sy.Sections m) = sections_tokens m
finish_tokens (sy.Section m) = section_tokens m.metric m.requirements m.objects m.domain m.init m.goal m

pub finishing_tokens : (st : List Symbol) → AreGenuine (finish_all finish ends st)
unfolding finish_all
finishing_tokens [] = tt
finishing_tokens (s ∷ st) = append (finish s) (finish_all finish ends st) (finish_tokens s) (finishing_tokens st)
