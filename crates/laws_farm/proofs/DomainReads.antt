-- The text of the domain spells its tree, but for spans: by computation.
use Rattle.std.specs.Prelude.{◌≡◌, ◌≤◌, length, Option, Some, None, Result, Ok, Err}
use Rattle.std.proofs.Common.{refl, sym}
use Rattle.std.proofs.lemmas.Bool.{leb-true}
use Rattle.plus_tokens.specs.First.{word_at, number_at, token_at, first_token}
use Rattle.plus_tokens.specs.Items.{items_from, items_of}
use Rattle.plus_tokens.specs.Numeral.{numeral_of}
use Rattle.plus_tree.specs.declared.trees.Domain.{Domain}
use Rattle.plus_tree.specs.declared.faults.TextFault.{TextFault}
use Rattle.plus_parser.specs.Phrases.Grammar.{token_of, until_close, form_step, argument_step, list_step, list_of, variables_of, use_end, use_form, expr_from, expr_next, two_of, pair_of, many_of, minus_of, expr_body, expr_at}
use Rattle.plus_parser.specs.Phrases.Literals.{kind_literal}
use Rattle.plus_parser.specs.ReadingDomain.{requirement_step, predicate_at, function_step, key_step, schema_of, section_step, domain_part, end_of, front_of, domain_in, domain_of}
use Rattle.plus_parser.specs.Forms.ReadingForms.{form_next, both_of, term_next, compared_of, cond_body, cond_at, leaf_behind, leaf_at, simple_at, effect_body, effect_at}
use Rattle.plus_parser.specs.SpellsDomain.{SpellsWithin}
use Rattle.plus_parser.proofs.Wholes.{domain_found}
use Rattle.plus_io.specs.Limits.{text_limit}
use Rattle.plus_trial.specs.Trial.{farm_domain}
use Rattle.plus_canonical.specs.Same.{bare_domain, SameDomain}
use Rattle.laws_farm.proofs.Trees.{domain_tree}

-- what is read, but for spans
abbrev read_bare : Result Domain TextFault → Option Domain
read_bare (Ok d) = Some (bare_domain d)
read_bare (Err e) = None

domain_is_read : read_bare (domain_of 64 (items_of farm_domain)) ≡ Some domain_tree
unfolding farm_domain token_of until_close form_step argument_step list_step list_of variables_of use_end use_form expr_from expr_next two_of pair_of many_of minus_of expr_body expr_at kind_literal requirement_step predicate_at function_step key_step schema_of section_step domain_part end_of front_of domain_in form_next both_of term_next compared_of cond_body cond_at leaf_behind leaf_at simple_at effect_body effect_at word_at number_at token_at first_token items_from numeral_of
domain_is_read = refl

pub record DomainSpelled : Type 0 where
  pub d : Domain
  pub spelled : SpellsWithin 64 farm_domain d
  pub same : SameDomain domain_tree d

found : (r : Result Domain TextFault) → domain_of 64 (items_of farm_domain) ≡ r → read_bare r ≡ Some domain_tree → DomainSpelled
found (Ok d) is e = record { d = d; spelled = domain_found farm_domain (Ok d) is; same = sym (some_is (bare_domain d) domain_tree e) }
  where
    some_is : (a b : Domain) → ◌≡◌ {A = Option Domain} (Some a) (Some b) → a ≡ b
    some_is a b e = cc
found (Err f) is e = absurd cc

pub domain_spelled : DomainSpelled
domain_spelled = found (domain_of 64 (items_of farm_domain)) refl domain_is_read

pub domain_short : length farm_domain ≤ text_limit
unfolding farm_domain
domain_short = leb-true (length farm_domain) text_limit refl
