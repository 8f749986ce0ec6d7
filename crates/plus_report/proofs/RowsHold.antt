-- The worked rows, by computation.
use Rattle.std.proofs.Common.{refl}
use Rattle.std.specs.Fmt.{digits}
use Rattle.plus_fraction.specs.Gcd.{gcd, gcd_within}
use Rattle.plus_fraction.specs.Fraction.{over, compared}
use Rattle.plus_report.specs.Text.{bottom_text, fraction_text, lines_below, mark_line, value_line, new_value_line, fluents_text, lost_text, changes_text, labels_text, entry_text, literals_text, round_text, act_text, run_text}
use Rattle.plus_report.specs.Report.{literals_part, report_from, report_of}
use Rattle.plus_report.specs.Rows.{DoorRow, TankRow, MixRow, TimedRow}

pub door_holds : DoorRow
unfolding digits gcd gcd_within over compared bottom_text fraction_text lines_below mark_line value_line new_value_line fluents_text lost_text changes_text labels_text entry_text literals_text round_text act_text run_text literals_part report_from report_of
door_holds = refl

pub tank_holds : TankRow
unfolding digits gcd gcd_within over compared bottom_text fraction_text lines_below mark_line value_line new_value_line fluents_text lost_text changes_text labels_text entry_text literals_text round_text act_text run_text literals_part report_from report_of
tank_holds = refl

pub mix_holds : MixRow
unfolding digits gcd gcd_within over compared bottom_text fraction_text lines_below mark_line value_line new_value_line fluents_text lost_text changes_text labels_text entry_text literals_text round_text act_text run_text literals_part report_from report_of
mix_holds = refl

pub timed_holds : TimedRow
unfolding digits gcd gcd_within over compared bottom_text fraction_text lines_below mark_line value_line new_value_line fluents_text lost_text changes_text labels_text entry_text literals_text round_text act_text run_text literals_part report_from report_of
timed_holds = refl
