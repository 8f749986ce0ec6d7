-- There is an answer, and one alone.
use Rattle.std.proofs.Common.{◌≡◌, ℕ, Bool, true, false, List, [], ◌∷◌, Option, Some, None, refl, ap, subst, inl, inr, slice_get}
use Rattle.std.specs.Prelude.{IfSome, IsSome}
use Rattle.std.specs.Io.KnownBytes.{append_known}
use Rattle.plus_fraction.specs.Fraction.{Fraction}
use Rattle.plus_tokens.specs.declared.span.Span.{Span}
use Rattle.plus_tree.specs.declared.trees.Domain.{Domain}
use Rattle.plus_tree.specs.declared.trees.Problem.{Problem}
use Rattle.plus_types.specs.declared.faults.File.{File}
use Rattle.plus_grammar.specs.Texts.{IsDomainText, IsProblemText}
use Rattle.plus_printer.specs.Canon.{domain_text, problem_text}
use Rattle.plus_translation.specs.Depth.{pair_within}
use Rattle.plus_translation.specs.Names.{names_taken}
use Rattle.plus_translation.specs.Translated.{times_of, translated_domain, translated_problem}
use Rattle.plus_translate.specs.declared.fault.TransFault.TheVariants.{NameTaken, OffGrid, TooDeep}
use Rattle.plus_translate.specs.Translates.{HasTranslation}
use Rattle.plus_report.specs.declared.refusals.Early.{Early}
use Rattle.plus_report.specs.declared.refusals.Early.TheVariants as es
use Rattle.plus_report.specs.declared.refusals.Text.TheVariants as texts
use Rattle.plus_report.specs.declared.refusals.Word.TheVariants as words
use Rattle.plus_report.specs.Refusals.{early_text}
use Rattle.plus_report.specs.declared.status.Status.{Status}
use Rattle.plus_report.specs.declared.status.Status.TheVariants as s
use Rattle.plus_numeric.specs.declared.source.Source.TheVariants.{Given}
use Rattle.plus_numeric.specs.Asked.{numeric_tests}
use Rattle.plus_numeric.specs.Verdicts.{verdict_of, line_of, kind_of, kind_status}
use Rattle.plus_numeric.proofs.Excluding.{breach_is_none, passing_is_plan}
use Rattle.plus_reply.specs.Pair.Pair.{depth_limit, text_named, DomainRefused, ProblemRefused}
use Rattle.plus_reply.specs.Reply.{IsPlain}
use Rattle.plus_reply.specs.Statuses.{early_status}
use Rattle.plus_reply.proofs.ReplyLemmas.{early_plain}
use Rattle.plus_translate_command.specs.Printer.Printed.{half_text}
use Rattle.plus_translate_command.specs.Translate.{TranslatesPair, half, no_translation, Translates, no_pair, of_pair}
use Rattle.plus_run.specs.Command.{Command, Check, ShowDomain, ShowProblem, Numeric, Trial, Translate, Lift, Plan, Trim, files_of}
use Rattle.plus_run.specs.Headline.{Answers, usage_line, IsAnswer}
use Rattle.plus_run.specs.Laws.{IsSettled, AreTold, IsSaidWhole}
use Rattle.plus_run.specs.Numeric as numeric
use Rattle.plus_run.specs.Numeric.{valid_line, PlaysUntimed}
use Rattle.plus_run.specs.Shown.{Shows, a_tree, no_tree}
use Rattle.plus_run.proofs.AnswerLemmas.{by_text, usage_answer}
use Rattle.plus_lift.proofs.CommandLemmas.LiftLemmas.{kind_plain}
use Rattle.plus_run.proofs.OneCommand.{one_answer}
use Rattle.laws_answers.specs.Existing.{IsUntimed, OneAnswerExists}
use Rattle.laws_answers.proofs.PairOrRefused.{domain_or_refused, problem_or_refused, pair_or_refused}
use Rattle.laws_answers.proofs.Tested.{tests_or, times_or}

-- ---- an answer

record HasAnswer (command : Option Command) (bytes : List ℕ → Option (List ℕ)) (old : Option (List ℕ)) : Type 0 where
  status : Status
  new : Option (List ℕ)
  settled : IsSettled status
  answers : IsAnswer command bytes old new 0 0 0 0 status

-- a status of a reply tells of no fault
plain_settled : (x : Status) → IsPlain x → IsSettled x
plain_settled s.Valid l = tt
plain_settled s.Invalid l = tt
plain_settled s.Beyond l = tt
plain_settled s.BadText l = tt
plain_settled s.Usage l = absurd l
plain_settled s.ReadFault l = absurd l
plain_settled s.WriteFault l = absurd l
plain_settled s.NoMemory l = absurd l

-- what a command answers can be written
answer_with :
    (command : Command) (bytes : List ℕ → Option (List ℕ)) (old : Option (List ℕ)) (x : Status) (text : List ℕ) → IsPlain x
    → Answers (Some command) bytes x text → HasAnswer (Some command) bytes old
answer_with command bytes old x text p h = record {
  status = x;
  new = append_known old text;
  settled = plain_settled x p;
  answers = by_text command bytes old (append_known old text) 0 0 0 0 x x refl p text h refl;
}

usage : (bytes : List ℕ → Option (List ℕ)) (old : Option (List ℕ)) → HasAnswer None bytes old
usage bytes old = record {
  status = s.Usage;
  new = append_known old usage_line;
  settled = tt;
  answers = usage_answer bytes old (append_known old usage_line) 0 0 0 0 s.Usage (inl (refl, refl));
}

-- ---- told files

pub put : (o : Option (List ℕ)) (x : List ℕ) (Q : List ℕ → Type 0) → o ≡ Some x → Q x → IfSome o Q
put None x Q e h = tt
put (Some y) x Q e h = subst Q (let i : x ≡ y = cc e in i) h

text_told : (o : Option (List ℕ)) → IsSome o → (x : List ℕ) × (o ≡ Some x)
text_told None i = cc i
text_told (Some x) i = (x, refl)

-- ---- `show`

show_domain : (file : List ℕ) (bytes : List ℕ → Option (List ℕ)) (old : Option (List ℕ)) → IsSome (bytes file) → HasAnswer (Some (ShowDomain file)) bytes old
show_domain file bytes old i =
    let t = text_told (bytes file) i in
    elim (domain_or_refused t.0) [
      | inl d ↦ answer_with (ShowDomain file) bytes old s.Valid (domain_text d.0) tt
          (put (bytes file) t.0 (λ x. Shows (IsDomainText depth_limit) domain_text DomainRefused x s.Valid (domain_text d.0)) t.1 (a_tree d.0 (d.2, d.1) refl refl))
      | inr e ↦ answer_with (ShowDomain file) bytes old (early_status e.0) (early_text e.0) (early_plain e.0)
          (put (bytes file) t.0 (λ x. Shows (IsDomainText depth_limit) domain_text DomainRefused x (early_status e.0) (early_text e.0)) t.1 (no_tree e.0 e.1 refl refl))
    ]

show_problem : (file : List ℕ) (bytes : List ℕ → Option (List ℕ)) (old : Option (List ℕ)) → IsSome (bytes file) → HasAnswer (Some (ShowProblem file)) bytes old
show_problem file bytes old i =
    let t = text_told (bytes file) i in
    elim (problem_or_refused t.0) [
      | inl p ↦ answer_with (ShowProblem file) bytes old s.Valid (problem_text p.0) tt
          (put (bytes file) t.0 (λ x. Shows (IsProblemText depth_limit) problem_text ProblemRefused x s.Valid (problem_text p.0)) t.1 (a_tree p.0 (p.2, p.1) refl refl))
      | inr e ↦ answer_with (ShowProblem file) bytes old (early_status e.0) (early_text e.0) (early_plain e.0)
          (put (bytes file) t.0 (λ x. Shows (IsProblemText depth_limit) problem_text ProblemRefused x (early_status e.0) (early_text e.0)) t.1 (no_tree e.0 e.1 refl refl))
    ]

-- ---- a reply to texts

-- there is one
abbrev HasReply : (Status → List ℕ → Type 0) → Type 0
HasReply Q = (x : Status) × (w : List ℕ) × IsPlain x × Q x w

-- on two files that are told, and on three
two_told : (Q : List ℕ → List ℕ → Status → List ℕ → Type 0) (d p : Option (List ℕ)) → IsSome d → IsSome p → ((ds ps : List ℕ) → HasReply (Q ds ps)) → HasReply (λ x w. IfSome d (λ ds. IfSome p (λ ps. Q ds ps x w)))
two_told Q None p i j f = cc i
two_told Q (Some ds) None i j f = cc j
two_told Q (Some ds) (Some ps) i j f = f ds ps

three_told :
    (Q : List ℕ → List ℕ → List ℕ → Status → List ℕ → Type 0) (d p l : Option (List ℕ)) → IsSome d → IsSome p → IsSome l
    → ((ds ps ls : List ℕ) → HasReply (Q ds ps ls)) → HasReply (λ x w. IfSome d (λ ds. IfSome p (λ ps. IfSome l (λ ls. Q ds ps ls x w))))
three_told Q None p l i j k f = cc i
three_told Q (Some ds) None l i j k f = cc j
three_told Q (Some ds) (Some ps) None i j k f = cc k
three_told Q (Some ds) (Some ps) (Some ls) i j k f = f ds ps ls

-- ---- `numeric`

-- the pair and the plan are accepted, or refused
numeric_or : (ds ps ls : List ℕ) → HasReply (PlaysUntimed ds ps ls)
numeric_or ds ps ls = elim (pair_or_refused ds ps) [
  | inr e ↦ (early_status e.0, early_text e.0, early_plain e.0, numeric.no_pair e.0 e.1 refl refl)
  | inl t ↦ elim (tests_or (numeric_tests t.0 t.1 ls)) [
    | inl a ↦ (s.Valid, valid_line, tt, numeric.accepted t.0 t.1 t.2 (record { has = passing_is_plan t.0 t.1 ls a; passed = a; calls_are = refl }) refl refl)
    | inr f ↦ (
      kind_status (kind_of (verdict_of Given f.0)),
      line_of t.0 t.1 (verdict_of Given f.0),
      kind_plain (kind_of (verdict_of Given f.0)),
      numeric.refused t.0 t.1 (kind_of (verdict_of Given f.0)) t.2
          (record { test = f.0; first = f.1; kind_is = refl; says = refl; final = breach_is_none t.0 t.1 ls f.0 f.1 }) refl,
    )
  ]
]

numeric_answer : (dn pn ln : List ℕ) (bytes : List ℕ → Option (List ℕ)) (old : Option (List ℕ)) → IsSome (bytes dn) → IsSome (bytes pn) → IsSome (bytes ln) → HasAnswer (Some (Numeric dn pn ln)) bytes old
numeric_answer dn pn ln bytes old i j k =
    let r = three_told PlaysUntimed (bytes dn) (bytes pn) (bytes ln) i j k numeric_or in
    answer_with (Numeric dn pn ln) bytes old r.0 r.1 r.2 r.3

-- ---- `translate`

module _ (file : File) (q : Fraction) (d : Domain) (p : Problem) where
  abbrev Reply : Type 0
  Reply = HasReply (TranslatesPair file q d p)

  by_depth : HasTranslation q d p → (b : Bool) → pair_within (translated_domain q d p) (translated_problem q d p) ≡ b → Reply
  by_depth h true e = (
    s.Valid,
    half_text file (translated_domain q d p) (translated_problem q d p),
    tt,
    half (translated_domain q d p) (translated_problem q d p) (record { has = h; domain_is = refl; problem_is = refl; within = e }) refl refl,
  )
  by_depth h false e = (
    early_status es.DepthOut,
    early_text es.DepthOut,
    tt,
    no_translation es.DepthOut (record { fault = TooDeep; cause = (h, e); refusal_is = refl }) refl refl,
  )

  by_grid : names_taken d p ≡ [] → Reply
  by_grid n = elim (times_or q (times_of p)) [
    | inl a ↦ by_depth (record { names = n; grid = a }) (pair_within (translated_domain q d p) (translated_problem q d p)) refl
    | inr f ↦ (let e : Early = es.BadText texts.Problem f.0.start f.0.«end» words.OffGrid in
        (early_status e, early_text e, early_plain e, no_translation e (record { fault = OffGrid f.0; cause = (n, f.1); refusal_is = refl }) refl refl))
  ]

  by_names : (xs : List (File × Span)) → names_taken d p ≡ xs → Reply
  by_names [] e = by_grid e
  by_names (x ∷ xs) e =
      let line : Early = es.BadText (text_named x.0) x.1.start x.1.«end» words.NameTaken in (
        early_status line,
        early_text line,
        early_plain line,
        no_translation line (record { fault = NameTaken x.0 x.1; cause = ap (λ ys. slice_get ys 0) e; refusal_is = refl }) refl refl,
      )

translate_or : (file : File) (q : Fraction) (ds ps : List ℕ) → HasReply (Translates file q ds ps)
translate_or file q ds ps = elim (pair_or_refused ds ps) [
  | inr e ↦ (early_status e.0, early_text e.0, early_plain e.0, no_pair e.0 e.1 refl refl)
  | inl t ↦ (let r = by_names file q t.0 t.1 (names_taken t.0 t.1) refl in (r.0, r.1, r.2, of_pair t.0 t.1 t.2 r.3))
]

translate_answer : (file : File) (q : Fraction) (dn pn : List ℕ) (bytes : List ℕ → Option (List ℕ)) (old : Option (List ℕ)) → IsSome (bytes dn) → IsSome (bytes pn) → HasAnswer (Some (Translate file q dn pn)) bytes old
translate_answer file q dn pn bytes old i j =
    let r = two_told (Translates file q) (bytes dn) (bytes pn) i j (translate_or file q) in
    answer_with (Translate file q dn pn) bytes old r.0 r.1 r.2 r.3

-- ---- and no other

untimed_whole : (command : Option Command) → IsUntimed command → IsSaidWhole command
untimed_whole None u = tt
untimed_whole (Some (ShowDomain file)) u = tt
untimed_whole (Some (ShowProblem file)) u = tt
untimed_whole (Some (Numeric d p l)) u = tt
untimed_whole (Some (Translate file q d p)) u = tt
untimed_whole (Some (Check d p l n)) u = absurd u
untimed_whole (Some (Trial n)) u = absurd u
untimed_whole (Some (Lift q d p l)) u = absurd u
untimed_whole (Some (Plan q k n cut d p)) u = absurd u
untimed_whole (Some (Trim d p l)) u = absurd u

exists : (command : Option Command) (bytes : List ℕ → Option (List ℕ)) (old : Option (List ℕ)) → AreTold bytes (files_of command) → IsUntimed command → HasAnswer command bytes old
exists None bytes old t u = usage bytes old
exists (Some (ShowDomain file)) bytes old t u = show_domain file bytes old t.0
exists (Some (ShowProblem file)) bytes old t u = show_problem file bytes old t.0
exists (Some (Numeric d p l)) bytes old t u = numeric_answer d p l bytes old t.0 t.1.0 t.1.1.0
exists (Some (Translate file q d p)) bytes old t u = translate_answer file q d p bytes old t.0 t.1.0
exists (Some (Check d p l n)) bytes old t u = absurd u
exists (Some (Trial n)) bytes old t u = absurd u
exists (Some (Lift q d p l)) bytes old t u = absurd u
exists (Some (Plan q k n cut d p)) bytes old t u = absurd u
exists (Some (Trim d p l)) bytes old t u = absurd u

pub one_answer_exists : OneAnswerExists
one_answer_exists command bytes old t u =
    let e = exists command bytes old t u in
    record {
      status = e.status;
      new = e.new;
      settled = e.settled;
      answers = e.answers;
      only = λ other taken a b c d h g.
          one_answer command bytes old taken e.new a b c d 0 0 0 0 other e.status t h e.answers g e.settled (untimed_whole command u);
    }
