-- The names of a domain and a problem that texts spell are plain.
use Rattle.std.proofs.Common.{ℕ, suc, ◌+◌, ◌-◌, List, [], ◌∷◌, length, map, All}
use Rattle.std.proofs.lemmas.List.Elements.{All-nil, All-cons}
use Rattle.plus_tree.specs.declared.terms.TypedName.{TypedName}
use Rattle.plus_tree.specs.declared.trees.Schema.{Schema}
use Rattle.plus_tree.specs.declared.trees.Domain.{Domain}
use Rattle.plus_tree.specs.declared.trees.Problem.{Problem}
use Rattle.plus_types.specs.Types.{names_of, objects_of}
use Rattle.plus_parser.specs.SpellsDomain.{SpellsWithin}
use Rattle.plus_parser.specs.SpellsProblem.{SpellsProblemWithin}
use Rattle.plus_grammar.specs.Texts.{IsDomainText, IsProblemText}
use Rattle.plus_grammar.proofs.Texts.{domain_texts, problem_texts}
use Rattle.plus_canonical.proofs.Smalls.{IsSmall, lexical, even_more}
use Rattle.plus_canonical.proofs.Forms.{AllOf}
use Rattle.plus_canonical.proofs.Lists.{SmallTyped, all_append}
use Rattle.plus_canonical.proofs.Schemas.{GoodSchema}
use Rattle.plus_canonical.proofs.GoodDomains.{GoodDomain, domain_good}
use Rattle.plus_canonical.proofs.GoodProblems.{GoodProblem, problem_good}
use Rattle.laws_found.specs.Text.Written.{IsPlainName}
use Rattle.laws_found.specs.Calls.Calls.{HasPlainNames}

plain : (w : List ℕ) → IsSmall w → IsPlainName w
plain w s = record { name = s.name; small = s.same }

plain_schemas : (k : ℕ) (xs : List Schema) → AllOf (GoodSchema k) xs → All IsPlainName (map (λ (a : Schema). a.name.name) xs)
plain_schemas k [] h = All-nil IsPlainName
plain_schemas k (x ∷ xs) h = All-cons IsPlainName x.name.name (map (λ (a : Schema). a.name.name) xs) (plain x.name.name h.0.name) (plain_schemas k xs h.1)

plain_typed : (xs : List TypedName) → AllOf SmallTyped xs → All IsPlainName (names_of xs)
plain_typed [] h = All-nil IsPlainName
plain_typed (x ∷ xs) h = All-cons IsPlainName x.name.name (names_of xs) (plain x.name.name h.0.name) (plain_typed xs h.1)

-- three parentheses more are room enough for any domain, and two for any problem
good_domain : (depth : ℕ) (text : List ℕ) (d : Domain) → SpellsWithin depth text d → GoodDomain depth d
good_domain depth text d (ts, items, tokens, fits) =
    domain_good depth d ts
    (record {
      words = lexical (length text + 1 - 0) text 0 ts items;
      even = even_more (suc (suc depth)) ts (even_more (suc depth) ts (even_more depth ts fits));
    })
    tokens

good_problem : (depth : ℕ) (text : List ℕ) (p : Problem) → SpellsProblemWithin depth text p → GoodProblem depth p
good_problem depth text p (ts, items, tokens, fits) =
    problem_good depth p ts
    (record { words = lexical (length text + 1 - 0) text 0 ts items; even = even_more (suc depth) ts (even_more depth ts fits) })
    tokens

pub texts_have_plain_names : (depth : ℕ) (domain problem : List ℕ) (d : Domain) (p : Problem) → IsDomainText depth domain d → IsProblemText depth problem p → HasPlainNames d p
texts_have_plain_names depth domain problem d p a b =
    let g = good_domain depth domain d ((domain_texts depth domain d).1 a) in
    let h = good_problem depth problem p ((problem_texts depth problem p).1 b) in
    record {
      actions = plain_schemas depth d.actions g.actions;
      objects = plain_typed (objects_of d p) (all_append TypedName SmallTyped d.constants p.objects g.constants h.objects);
    }
