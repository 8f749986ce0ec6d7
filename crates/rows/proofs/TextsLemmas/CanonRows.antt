-- The rows, by computation.
use Rattle.std.proofs.Common.{refl}
use Rattle.std.specs.Fmt.{digits}
use Rattle.plus_printer.specs.Words.{word, domain_opening, problem_opening, requirements_opening, predicates_opening, functions_opening, precondition_key, term_text, use_text, typed_text, variable_text, variables_text, padded, pointed, number_text, literal_text}
use Rattle.plus_printer.specs.Canon.{write_text, leaf_text, leaves_text, section, keyword_text, requirements_text, head_text, keys_text, schema_text, heads_text, declared_text, happening_text, domain_text, for_text, titled_text, stated_text, problem_text}
use Rattle.rows.specs.Texts.Canon.{DomainRow, BareRow, ProblemRow, ShortRow}

pub domain_row_holds : DomainRow
unfolding digits word domain_opening problem_opening requirements_opening predicates_opening functions_opening precondition_key term_text use_text typed_text variable_text variables_text padded pointed number_text literal_text write_text leaf_text leaves_text section keyword_text requirements_text head_text keys_text schema_text heads_text declared_text happening_text domain_text for_text titled_text stated_text problem_text
domain_row_holds = refl

pub bare_row_holds : BareRow
unfolding digits word domain_opening problem_opening requirements_opening predicates_opening functions_opening precondition_key term_text use_text typed_text variable_text variables_text padded pointed number_text literal_text write_text leaf_text leaves_text section keyword_text requirements_text head_text keys_text schema_text heads_text declared_text happening_text domain_text for_text titled_text stated_text problem_text
bare_row_holds = refl

pub problem_row_holds : ProblemRow
unfolding digits word domain_opening problem_opening requirements_opening predicates_opening functions_opening precondition_key term_text use_text typed_text variable_text variables_text padded pointed number_text literal_text write_text leaf_text leaves_text section keyword_text requirements_text head_text keys_text schema_text heads_text declared_text happening_text domain_text for_text titled_text stated_text problem_text
problem_row_holds = refl

pub short_row_holds : ShortRow
unfolding digits word domain_opening problem_opening requirements_opening predicates_opening functions_opening precondition_key term_text use_text typed_text variable_text variables_text padded pointed number_text literal_text write_text leaf_text leaves_text section keyword_text requirements_text head_text keys_text schema_text heads_text declared_text happening_text domain_text for_text titled_text stated_text problem_text
short_row_holds = refl
