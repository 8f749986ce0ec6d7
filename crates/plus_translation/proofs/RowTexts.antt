-- The texts of the rows, by computation.
use Rattle.std.proofs.Common.{refl}
use Rattle.std.specs.Fmt.{digits}
use Rattle.plus_fraction.specs.Gcd.{gcd, gcd_within}
use Rattle.plus_fraction.specs.Fraction.{◌/ℚ◌, over as fraction_over}
use Rattle.plus_printer.specs.Canon.{domain_text, problem_text, titled_text, for_text, requirements_text, section, stated_text, write_text, leaf_text, leaves_text, keyword_text, head_text, keys_text, schema_text, heads_text, declared_text, happening_text}
use Rattle.plus_printer.specs.Words.{word, domain_opening, problem_opening, requirements_opening, predicates_opening, functions_opening, precondition_key, term_text, use_text, variables_text, padded, pointed, number_text, literal_text}
use Rattle.plus_translation.specs.Rows.{HalfTexts, LiteralTexts, EarlyTexts}

pub half_texts : HalfTexts
unfolding domain_text problem_text fraction_over ◌/ℚ◌ gcd gcd_within digits titled_text for_text requirements_text section stated_text write_text leaf_text leaves_text keyword_text head_text keys_text schema_text heads_text declared_text happening_text word domain_opening problem_opening requirements_opening predicates_opening functions_opening precondition_key term_text use_text variables_text padded pointed number_text literal_text
half_texts = (refl, refl)

pub literal_texts : LiteralTexts
unfolding domain_text problem_text fraction_over ◌/ℚ◌ gcd gcd_within digits titled_text for_text requirements_text section stated_text write_text leaf_text leaves_text keyword_text head_text keys_text schema_text heads_text declared_text happening_text word domain_opening problem_opening requirements_opening predicates_opening functions_opening precondition_key term_text use_text variables_text padded pointed number_text literal_text
literal_texts = (refl, refl)

pub early_texts : EarlyTexts
unfolding domain_text problem_text fraction_over ◌/ℚ◌ gcd gcd_within digits titled_text for_text requirements_text section stated_text write_text leaf_text leaves_text keyword_text head_text keys_text schema_text heads_text declared_text happening_text word domain_opening problem_opening requirements_opening predicates_opening functions_opening precondition_key term_text use_text variables_text padded pointed number_text literal_text
early_texts = refl
