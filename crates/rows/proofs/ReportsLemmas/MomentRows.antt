-- The rows, by computation.
use Rattle.std.proofs.Common.{refl}
use Rattle.std.specs.Fmt.{digits}
use Rattle.plus_fraction.specs.Gcd.{gcd, gcd_within}
use Rattle.plus_fraction.specs.Fraction.{over, compared}
use Rattle.plus_report.specs.Text.{bottom_text, fraction_text, lines_below, mark_line, value_line, new_value_line, fluents_text, lost_text, changes_text, labels_text, entry_text, literals_text, round_text, act_text, run_text}
use Rattle.plus_report.specs.Report.{literals_part, report_from, report_of}
use Rattle.rows.specs.Reports.Moments.{ZeroRow, ChangesRow}

pub zero_row : ZeroRow
unfolding digits gcd gcd_within over compared bottom_text fraction_text lines_below mark_line value_line new_value_line fluents_text lost_text changes_text labels_text entry_text literals_text round_text act_text run_text literals_part report_from report_of
zero_row = refl

pub changes_row : ChangesRow
unfolding digits gcd gcd_within over compared bottom_text fraction_text lines_below mark_line value_line new_value_line fluents_text lost_text changes_text labels_text entry_text literals_text round_text act_text run_text literals_part report_from report_of
changes_row = refl
