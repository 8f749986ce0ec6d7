-- The two texts spell the pair, and no rule of types is broken.
use Rattle.std.proofs.Common.{◌≡◌, [], Ok, refl, arith, length, ◌≤◌}
use Rattle.std.specs.Fmt.{digits}
use Rattle.plus_io.specs.Limits.{text_limit}
use Rattle.plus_tokens.specs.First.{word_at, number_at, token_at, first_token}
use Rattle.plus_tokens.specs.Items.{items_of, items_from}
use Rattle.plus_tokens.specs.Numeral.{numeral_of}
use Rattle.plus_types.specs.Types.{is_above_within, is_above, is_under}
use Rattle.plus_types.specs.Faults.{type_faults, listed_faults, member_faults, head_faults, leaf_faults, schema_faults, declaration_faults, rule_faults, state_faults, problem_faults}
use Rattle.plus_typing.proofs.Typed.{well_typed_by_statements}
use Rattle.plus_parser.specs.Balanced.{skip}
use Rattle.plus_parser.specs.Phrases.Grammar.{token_of, until_close, form_step, argument_step, list_step, list_of, variables_of, use_end, use_form, expr_from, expr_next, two_of, pair_of, many_of, minus_of, expr_body, expr_at}
use Rattle.plus_parser.specs.Phrases.Literals.{kind_literal}
use Rattle.plus_parser.specs.ReadingDomain.{requirement_step, predicate_at, function_step, key_step, schema_of, section_step, domain_part, end_of, front_of, domain_in, domain_of}
use Rattle.plus_parser.specs.Forms.ReadingForms.{form_next, both_of, term_next, compared_of, cond_body, cond_at, leaf_behind, leaf_at, simple_at, effect_body, effect_at}
use Rattle.plus_parser.specs.ReadingProblem.{literal_next, timed_of, init_at, problem_part, problem_in, problem_of}
use Rattle.plus_parser.proofs.Wholes.{domain_found, problem_found}
use Rattle.plus_grammar.proofs.Texts.{domain_texts, problem_texts}
use Rattle.plus_reply.specs.Pair.Pair.{depth_limit}
use Rattle.rows.specs.Accepted.Worked.{domain_bytes, switch, problem_bytes, task, PairRow}

domain_read : domain_of 64 (items_of domain_bytes) ≡ Ok switch
unfolding skip token_of until_close form_step argument_step list_step list_of variables_of use_end use_form expr_from expr_next two_of pair_of many_of minus_of expr_body expr_at kind_literal requirement_step predicate_at function_step key_step schema_of section_step domain_part end_of front_of domain_in form_next both_of term_next compared_of cond_body cond_at leaf_behind leaf_at simple_at effect_body effect_at digits word_at number_at token_at first_token items_from numeral_of
domain_read = refl

problem_read : problem_of 64 (items_of problem_bytes) ≡ Ok task
unfolding skip token_of until_close form_step argument_step list_step list_of variables_of use_end use_form expr_from expr_next two_of pair_of many_of minus_of expr_body expr_at kind_literal requirement_step predicate_at function_step key_step schema_of section_step domain_part end_of front_of domain_in form_next both_of term_next compared_of cond_body cond_at leaf_behind leaf_at simple_at effect_body effect_at literal_next timed_of init_at problem_part problem_in digits word_at number_at token_at first_token items_from numeral_of
problem_read = refl

no_faults : type_faults switch task ≡ []
unfolding is_above_within is_above is_under listed_faults member_faults head_faults leaf_faults schema_faults declaration_faults rule_faults state_faults problem_faults
no_faults = refl

domain_short : length domain_bytes ≤ text_limit
domain_short = omega arith

problem_short : length problem_bytes ≤ text_limit
problem_short = omega arith

pub pair_row : PairRow
pair_row = record {
  spelled = record {
    domain_within = domain_short;
    problem_within = problem_short;
    domain_spelled = (domain_texts depth_limit domain_bytes switch).0 (domain_found domain_bytes (Ok switch) domain_read);
    problem_spelled = (problem_texts depth_limit problem_bytes task).0 (problem_found problem_bytes (Ok task) problem_read);
  };
  well_typed = (well_typed_by_statements switch task).0 no_faults;
}
