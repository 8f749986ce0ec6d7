-- Worked rows of the lines of verdicts and of refusals: each once, byte by byte.
use Rattle.std.specs.Prelude.{◌≡◌, ℕ, [], ◌∷◌, codes, pos, negsuc}
use Prim.Native.String.{String}
use Rattle.plus_fraction.specs.Fraction.{Fraction, over, whole}
use Rattle.plus_model.specs.Terms.{Problem}
use Rattle.plus_state.specs.View.{Labels}
use Rattle.plus_state.specs.declared.term.Sign.TheVariants.{Plus, Minus, Times, Divide}
use Rattle.plus_state.specs.declared.outcome.Owner.TheVariants.{Event, Process}
use Rattle.plus_state.specs.declared.outcome.Breach.{Breach}
use Rattle.plus_state.specs.declared.outcome.Breach.TheVariants.{UnknownAction, WrongArguments, Precondition, TimeGoesBack, AfterEnd, Conflict, NoValue, Repeats, Unsettled, Coupled, NoFirstMoment, Goal}
use Rattle.plus_state.specs.declared.outcome.Limit.TheVariants.{Happenings, Number, Nonlinear}
use Rattle.plus_report.specs.declared.verdicts.Verdict.{Verdict}
use Rattle.plus_report.specs.declared.verdicts.Verdict.TheVariants as v
use Rattle.plus_report.specs.declared.refusals.Early.{Early}
use Rattle.plus_report.specs.declared.refusals.Early.TheVariants.{BadText, BadLine, TooLong, Depth, DepthOut, LineTooLong, Literal, TooMany}
use Rattle.plus_report.specs.declared.refusals.Text.TheVariants as texts
use Rattle.plus_report.specs.declared.refusals.Word.{Word}
use Rattle.plus_report.specs.declared.refusals.Word.TheVariants as words
use Rattle.plus_report.specs.declared.refusals.Kinds.{Kinds}
use Rattle.plus_report.specs.declared.refusals.Kinds.TheVariants as kinds
use Rattle.plus_report.specs.Refusals.{early_text}
use Rattle.plus_report.specs.Verdicts.{verdict_text}
use Rattle.plus_report.specs.Rows.{problem_with, state_with}

-- the fluents (x) and (y), the processes (p0) and (p1), the events (e0) and (e1)
abbrev pub labels : Labels
labels = record { atoms = []; fluents = codes "(x)" ∷ codes "(y)" ∷ [] }

abbrev pub shown : Problem
shown = problem_with (codes "(p0)" ∷ codes "(p1)" ∷ []) (codes "(e0)" ∷ codes "(e1)" ∷ []) [] (state_with [] [])

-- the line of the verdict; numbers are the fractions themselves
abbrev pub Says : Verdict Fraction → String → Type 0
Says verdict line = verdict_text (λ x. x) labels shown verdict ≡ codes line

-- that is so of the verdict on this breach
abbrev pub Breaks : Breach Fraction → String → Type 0
Breaks b line = Says (v.Invalid b) line

-- each verdict
pub record VerdictRows : Type 0 where
  pub valid : Says v.Valid "valid\n"
  pub unknown_action : Breaks (UnknownAction 3 (codes "shut")) "invalid: line 3: unknown action shut\n"
  pub wrong_arguments : Breaks (WrongArguments 3 (codes "shut")) "invalid: line 3: wrong arguments of shut\n"
  pub precondition : Breaks (Precondition 3 (codes "(a b)")) "invalid: line 3: precondition of (a b)\n"
  pub time_goes_back : Breaks (TimeGoesBack 12) "invalid: line 12: time goes back\n"
  pub after_end : Breaks (AfterEnd 12) "invalid: line 12: after the end\n"
  pub conflict : Breaks (Conflict (record { 0 = 1 })) "invalid: conflict on (y)\n"
  pub no_value : Breaks (NoValue (record { 0 = 0 })) "invalid: no value for (x)\n"
  pub repeats : Breaks (Repeats (record { 0 = 1 })) "invalid: (e1) repeats\n"
  pub unsettled : Breaks (Unsettled (record { 0 = 1 })) "invalid: (p1) is unsettled\n"
  pub coupled : Breaks (Coupled (record { 0 = 0 }) (record { 0 = 1 })) "invalid: (p0) reads moving (y)\n"
  pub no_first_moment : Breaks (NoFirstMoment (record { 0 = 0 }) (over (pos 5) 2)) "invalid: (e0) has no first moment at 5/2\n"
  pub goal : Breaks Goal "invalid: goal\n"
  pub happenings : Says (v.Beyond (Happenings 10000)) "beyond: happenings 10000\n"
  pub plus : Says (v.Beyond (Number (record { sign = Plus; left = whole (pos 7); right = whole (negsuc 0) }))) "beyond: number 7 + -1\n"
  pub minus : Says (v.Beyond (Number (record { sign = Minus; left = over (negsuc 1) 3; right = over (pos 1) 9 }))) "beyond: number -2/3 - 1/9\n"
  pub times : Says (v.Beyond (Number (record { sign = Times; left = whole (pos 0); right = whole (pos 2) }))) "beyond: number 0 * 2\n"
  pub divide : Says (v.Beyond (Number (record { sign = Divide; left = whole (pos 1); right = whole (pos 2) }))) "beyond: number 1 / 2\n"
  pub nonlinear : Says (v.Beyond (Nonlinear (Event (record { 0 = 1 })) 2)) "beyond: nonlinear in (e1), comparison 2\n"
  pub nonlinear_process : Says (v.Beyond (Nonlinear (Process (record { 0 = 0 })) 1)) "beyond: nonlinear in (p0), comparison 1\n"
  pub other : Says (v.Other (LineTooLong 4)) "beyond: line 4 over 4096 bytes\n"

-- the line of the refusal
abbrev pub Refuses : Early → String → Type 0
Refuses e line = early_text e ≡ codes line

-- that of a domain at the bytes 0 to 18, by this word
abbrev pub Worded : Word → String → Type 0
Worded w line = Refuses (BadText texts.Domain 0 18 w) line

-- that of a count that passes its limit
abbrev pub Over : Kinds → ℕ → String → Type 0
Over kind most line = Refuses (TooMany kind most) line

-- each refusal, each text, each word and each kind
pub record EarlyRows : Type 0 where
  pub bad_line : Refuses (BadLine 1 14 14) "bad text: plan line 1, bytes 14-14\n"
  pub long_domain : Refuses (TooLong texts.Domain) "beyond: domain text over 1048576 bytes\n"
  pub long_problem : Refuses (TooLong texts.Problem) "beyond: problem text over 1048576 bytes\n"
  pub long_plan : Refuses (TooLong texts.Plan) "beyond: plan text over 1048576 bytes\n"
  pub depth : Refuses (Depth texts.Problem 99) "beyond: depth 64 in problem at 99\n"
  pub depth_out : Refuses DepthOut "beyond: depth 64 in translation\n"
  pub literal : Refuses (Literal texts.Problem 46 65) "beyond: literal in problem 46-65\n"
  pub literal_of_line : Refuses (Literal texts.Plan 0 19) "beyond: literal in plan 0-19\n"
  pub translated : Refuses (BadText texts.TranslatedProblem 1 2 words.Form) "bad text: translated problem 1-2: form\n"
  pub translated_domain : Refuses (TooLong texts.TranslatedDomain) "beyond: translated domain text over 1048576 bytes\n"
  pub objects : Over kinds.Objects 10000 "beyond: more than 10000 objects\n"
  pub atoms : Over kinds.Atoms 200000 "beyond: more than 200000 atoms\n"
  pub fluents : Over kinds.Fluents 50000 "beyond: more than 50000 fluents\n"
  pub processes : Over kinds.Processes 10000 "beyond: more than 10000 processes\n"
  pub events : Over kinds.Events 10000 "beyond: more than 10000 events\n"
  pub actions : Over kinds.Actions 10000 "beyond: more than 10000 actions\n"
  pub nodes : Over kinds.Nodes 1000000 "beyond: more than 1000000 nodes\n"
  pub byte : Worded words.Byte "bad text: domain 0-18: byte\n"
  pub long : Worded words.Long "bad text: domain 0-18: long\n"
  pub unclosed : Worded words.Unclosed "bad text: domain 0-18: unclosed\n"
  pub form : Worded words.Form "bad text: domain 0-18: form\n"
  pub unknown_type : Worded words.UnknownType "bad text: domain 0-18: unknown type\n"
  pub unknown_name : Worded words.UnknownName "bad text: domain 0-18: unknown name\n"
  pub arity : Worded words.Arity "bad text: domain 0-18: arity\n"
  pub wrong_type : Worded words.WrongType "bad text: domain 0-18: wrong type\n"
  pub twice : Worded words.Twice "bad text: domain 0-18: twice\n"
  pub unbound : Worded words.UnboundVariable "bad text: domain 0-18: unbound variable\n"
  pub shadowed : Worded words.ShadowedVariable "bad text: domain 0-18: shadowed variable\n"
  pub type_loop : Worded words.TypeLoop "bad text: domain 0-18: type loop\n"
  pub rate_form : Worded words.RateForm "bad text: domain 0-18: rate form\n"
  pub domain_name : Worded words.DomainName "bad text: domain 0-18: domain name\n"
  pub name_taken : Worded words.NameTaken "bad text: domain 0-18: name taken\n"
  pub not_level_two : Worded words.NotLevelTwo "bad text: domain 0-18: not level two\n"
  pub off_grid : Worded words.OffGrid "bad text: domain 0-18: off grid\n"
