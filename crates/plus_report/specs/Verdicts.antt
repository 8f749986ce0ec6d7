-- The line of a verdict on a plan (this project's profile).
use Rattle.std.specs.Prelude.{ℕ, ◌<◌, List, [], ◌++◌, codes, decimal, length}
use Rattle.plus_fraction.specs.Fraction.{Fraction}
use Rattle.plus_model.specs.Terms.{Problem}
use Rattle.plus_state.specs.View.{Labels}
use Rattle.plus_state.specs.declared.term.Sign.{Sign}
use Rattle.plus_state.specs.declared.term.Sign.TheVariants.{Plus, Minus, Times, Divide}
use Rattle.plus_state.specs.declared.term.Overflow.{Overflow}
use Rattle.plus_state.specs.declared.outcome.Owner.{Owner}
use Rattle.plus_state.specs.declared.outcome.Owner.TheVariants.{Event, Process}
use Rattle.plus_state.specs.declared.outcome.Breach.{Breach}
use Rattle.plus_state.specs.declared.outcome.Breach.TheVariants.{UnknownAction, WrongArguments, Precondition, TimeGoesBack, AfterEnd, Conflict, NoValue, Repeats, Unsettled, Coupled, NoFirstMoment, Goal}
use Rattle.plus_state.specs.declared.outcome.Limit.{Limit}
use Rattle.plus_state.specs.declared.outcome.Limit.TheVariants.{Happenings, Number, Nonlinear}
use Rattle.plus_report.specs.declared.verdicts.Verdict.{Verdict}
use Rattle.plus_report.specs.declared.verdicts.Verdict.TheVariants.{Valid, Invalid, Beyond, Other}
use Rattle.plus_report.specs.Labels.{label_at, event_label, process_label}
use Rattle.plus_report.specs.Text.{newline, fraction_text}
use Rattle.plus_report.specs.Refusals.{early_text}

abbrev pub sign_text : Sign → List ℕ
sign_text Plus = codes " + "
sign_text Minus = codes " - "
sign_text Times = codes " * "
sign_text Divide = codes " / "

-- `A + B`
unfoldable pub operation_text : {Q : Type 0} → (Q → Fraction) → Overflow Q → List ℕ
operation_text v o =
    fraction_text (v o.left) ++ sign_text o.sign ++ (fraction_text (v o.right) ++ newline)

-- what a line of the plan breaks, and whose name or label shows it
unfoldable pub line_text : ℕ → List ℕ → List ℕ → List ℕ
line_text line what whose = (codes "invalid: line " ++ decimal line ++ what) ++ (whose ++ newline)

unfoldable pub breach_text : {Q : Type 0} → (Q → Fraction) → Labels → Problem → Breach Q → List ℕ
breach_text v N P (UnknownAction line name) = line_text line (codes ": unknown action ") name
breach_text v N P (WrongArguments line name) = line_text line (codes ": wrong arguments of ") name
breach_text v N P (Precondition line label) = line_text line (codes ": precondition of ") label
breach_text v N P (TimeGoesBack line) = line_text line (codes ": time goes back") []
breach_text v N P (AfterEnd line) = line_text line (codes ": after the end") []
breach_text v N P (Conflict f) = codes "invalid: conflict on " ++ label_at N.fluents f.0 ++ newline
breach_text v N P (NoValue f) = codes "invalid: no value for " ++ label_at N.fluents f.0 ++ newline
breach_text v N P (Repeats e) = codes "invalid: " ++ event_label P e.0 ++ codes " repeats\n"
breach_text v N P (Unsettled p) =
    codes "invalid: " ++ process_label P p.0 ++ codes " is unsettled\n"
breach_text v N P (Coupled p f) =
    (codes "invalid: " ++ process_label P p.0 ++ codes " reads moving ")
    ++ (label_at N.fluents f.0 ++ newline)
breach_text v N P (NoFirstMoment e t) =
    (codes "invalid: " ++ event_label P e.0 ++ codes " has no first moment at ")
    ++ (fraction_text (v t) ++ newline)
breach_text v N P Goal = codes "invalid: goal\n"

abbrev pub owner_label : Problem → Owner → List ℕ
owner_label P (Event e) = event_label P e.0
owner_label P (Process p) = process_label P p.0

unfoldable pub limit_text : {Q : Type 0} → (Q → Fraction) → Problem → Limit Q → List ℕ
limit_text v P (Happenings n) = codes "beyond: happenings " ++ decimal n ++ newline
limit_text v P (Number o) = codes "beyond: number " ++ operation_text v o
limit_text v P (Nonlinear owner k) =
    (codes "beyond: nonlinear in " ++ owner_label P owner ++ codes ", comparison ")
    ++ (decimal k ++ newline)

abbrev pub verdict_text : {Q : Type 0} → (Q → Fraction) → Labels → Problem → Verdict Q → List ℕ
verdict_text v N P Valid = codes "valid\n"
verdict_text v N P (Invalid breach) = breach_text v N P breach
verdict_text v N P (Beyond limit) = limit_text v P limit
verdict_text v N P (Other early) = early_text early

-- the ids that a verdict names are places in the problem's lists
abbrev pub OwnerFits : Problem → Owner → Type 0
OwnerFits P (Event e) = e.0 < length P.events
OwnerFits P (Process p) = p.0 < length P.processes

abbrev pub BreachFits : {Q : Type 0} → Problem → Breach Q → Type 0
BreachFits P (UnknownAction line name) = Unit {0}
BreachFits P (WrongArguments line name) = Unit {0}
BreachFits P (Precondition line label) = Unit {0}
BreachFits P (TimeGoesBack line) = Unit {0}
BreachFits P (AfterEnd line) = Unit {0}
BreachFits P (Conflict f) = f.0 < P.fluents
BreachFits P (NoValue f) = f.0 < P.fluents
BreachFits P (Repeats e) = e.0 < length P.events
BreachFits P (Unsettled p) = p.0 < length P.processes
BreachFits P (Coupled p f) = (p.0 < length P.processes) × (f.0 < P.fluents)
BreachFits P (NoFirstMoment e t) = e.0 < length P.events
BreachFits P Goal = Unit {0}

abbrev pub LimitFits : {Q : Type 0} → Problem → Limit Q → Type 0
LimitFits P (Happenings n) = Unit {0}
LimitFits P (Number o) = Unit {0}
LimitFits P (Nonlinear owner k) = OwnerFits P owner

abbrev pub VerdictFits : {Q : Type 0} → Problem → Verdict Q → Type 0
VerdictFits P Valid = Unit {0}
VerdictFits P (Invalid breach) = BreachFits P breach
VerdictFits P (Beyond limit) = LimitFits P limit
VerdictFits P (Other early) = Unit {0}
