-- A command over the same files has one answer.
use Rattle.std.proofs.Common.{ℕ, List, Option, Some, None, sym, ◌∙◌}
use Rattle.plus_grammar.specs.Texts.{IsDomainText, IsProblemText}
use Rattle.plus_printer.specs.Canon.{domain_text, problem_text}
use Rattle.plus_trial.proofs.CommandLemmas.OneReply as trials
use Rattle.plus_translate_command.specs.Translate.{Translates}
use Rattle.plus_translate_command.proofs.OneReply as translations
use Rattle.plus_lift.specs.Command.Lift.{Lifts}
use Rattle.plus_lift.proofs.CommandLemmas.OneReply as lifts
use Rattle.plus_reply.specs.Pair.Pair.{depth_limit, DomainRefused, ProblemRefused}
use Rattle.plus_reply.specs.Reply.{HasOneReply}
use Rattle.plus_reply.proofs.PairLemmas.OnePair.{domain_spelled_once, problem_spelled_once, domain_refused_once, problem_refused_once, domain_or_not, problem_or_not}
use Rattle.plus_run.specs.Command.{Command, Check, ShowDomain, ShowProblem, Numeric, Trial, Translate, Lift, Plan, Trim, files_of}
use Rattle.plus_run.specs.Headline.{Answers}
use Rattle.plus_run.specs.Numeric.{PlaysUntimed}
use Rattle.plus_run.specs.Shown.{Shows}
use Rattle.plus_run.specs.Laws.{AreTold, IsSaidWhole, OneAnswer}
use Rattle.plus_run.proofs.OneAnswer.{on_one, on_two, on_three, checks_once, shown_once, settled_reply, replied_once}
use Rattle.plus_run.proofs.OneNumeric.{plays_once}

-- what it answers is one
pub answers_once : (command : Option Command) (bytes : List ℕ → Option (List ℕ)) → AreTold bytes (files_of command) → IsSaidWhole command → HasOneReply (Answers command bytes)
answers_once None bytes t whole = λ x y w v a b. (a.0 ∙ sym b.0, a.1 ∙ sym b.1)
answers_once (Some (Check d p l n)) bytes t whole = checks_once n (bytes d) (bytes p) (bytes l) t.0 t.1.0 t.1.1.0
answers_once (Some (ShowDomain f)) bytes t whole =
    on_one (Shows (IsDomainText depth_limit) domain_text DomainRefused) (bytes f) t.0 (λ text.
    shown_once (IsDomainText depth_limit) domain_text DomainRefused text (domain_spelled_once text) (domain_refused_once text) (domain_or_not text))
answers_once (Some (ShowProblem f)) bytes t whole =
    on_one (Shows (IsProblemText depth_limit) problem_text ProblemRefused) (bytes f) t.0 (λ text.
    shown_once (IsProblemText depth_limit) problem_text ProblemRefused text (problem_spelled_once text) (problem_refused_once text) (problem_or_not text))
answers_once (Some (Numeric d p l)) bytes t whole = on_three PlaysUntimed (bytes d) (bytes p) (bytes l) t.0 t.1.0 t.1.1.0 plays_once
answers_once (Some (Trial n)) bytes t whole = trials.one_reply n
answers_once (Some (Translate file q d p)) bytes t whole = on_two (Translates file q) (bytes d) (bytes p) t.0 t.1.0 (translations.one_reply file q)
answers_once (Some (Lift q d p l)) bytes t whole = on_three (Lifts q) (bytes d) (bytes p) (bytes l) t.0 t.1.0 t.1.1.0 (lifts.one_reply q)
answers_once (Some (Plan q k n cut d p)) bytes t whole = absurd whole
answers_once (Some (Trim d p l)) bytes t whole = absurd whole

pub one_answer : OneAnswer
one_answer command bytes old new new' a b c d a' b' c' d' x y t h k g i whole =
    replied_once (Answers command bytes) old new new' x y (answers_once command bytes t whole)
    (settled_reply command bytes old new a b c d x t h g) (settled_reply command bytes old new' a' b' c' d' y t k i)
