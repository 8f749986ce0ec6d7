-- Where no cause of a refusal stands, a command is answered as valid.
use Rattle.std.proofs.Common.{true, ◌≡◌, ◌⊎◌, ℕ, ◌≤◌, Bool, List, ◌++◌, Option, Some, None, refl, ap, sym, subst, ◌∙◌, inl, inr, length, All, arith}
use Rattle.std.specs.Prelude.{IfSome, IsSomeAnd}
use Rattle.plus_fraction.specs.Fraction.{Fraction}
use Rattle.plus_io.specs.Limits.{text_limit}
use Rattle.plus_number.specs.declared.frac.Frac64.{Frac64}
use Rattle.plus_number.specs.Frac.{IsFrac64}
use Rattle.plus_state.proofs.Testing.{one_test}
use Rattle.plus_tree.specs.declared.trees.Domain.{Domain}
use Rattle.plus_tree.specs.declared.trees.Problem.{Problem}
use Rattle.plus_tree.specs.declared.trees.Call.{Call}
use Rattle.plus_types.specs.declared.faults.File.{File}
use Rattle.plus_literal.specs.Value.{LiteralFits}
use Rattle.plus_grammar.specs.Texts.{IsDomainText, IsProblemText}
use Rattle.plus_printer.specs.Canon.{domain_text, problem_text}
use Rattle.plus_steps.specs.Stepped.{time_of_step}
use Rattle.plus_translation.specs.Translated.{translated_domain, translated_problem}
use Rattle.plus_translate.specs.Translates.{IsTranslation}
use Rattle.plus_numbering.specs.declared.faults.GroundFault.{GroundFault}
use Rattle.plus_numbering.specs.declared.faults.GroundFault.TheVariants as faults
use Rattle.plus_report.specs.declared.refusals.Early.{Early}
use Rattle.plus_report.specs.declared.refusals.Early.TheVariants as es
use Rattle.plus_report.specs.Refusals.{early_text}
use Rattle.plus_report.specs.declared.status.Status.{Status}
use Rattle.plus_report.specs.declared.status.Status.TheVariants as s
use Rattle.plus_numeric.specs.declared.source.Source.{Source}
use Rattle.plus_numeric.specs.declared.source.Source.TheVariants.{Given, Translated}
use Rattle.plus_numeric.specs.declared.answer.Kind.{Kind}
use Rattle.plus_numeric.specs.Answers.{IsAccepted, IsRefused}
use Rattle.plus_numeric.specs.Asked.{numeric_tests}
use Rattle.plus_numeric.specs.Tests.{AllPass, Passes}
use Rattle.plus_planner.specs.declared.searching.Answer.{Answer}
use Rattle.plus_planner.specs.declared.searching.Answer.TheVariants as answers
use Rattle.plus_plan_command.specs.Planning.Planned.{IsPlanned, IsUnplanned}
use Rattle.plus_plan_command.specs.Plan.{search_refusal, answer_status, PlansPair, answered, no_search, Plans}
use Rattle.plus_plan_command.specs.Plan as planned
use Rattle.plus_trim_command.specs.Trim as trimmed
use Rattle.plus_trim_command.specs.Trim.{Trims}
use Rattle.plus_validator.specs.declared.judge.Judged.{Judged}
use Rattle.plus_validator.specs.declared.judge.Outcome.TheVariants as outcomes
use Rattle.plus_validator.specs.Laws as judged
use Rattle.plus_validator.specs.Outcomes.{outcome_of, status_of}
use Rattle.plus_validator.specs.Validates.{kind_meant, file_meant}
use Rattle.plus_validator.specs.Verdicts.{JudgesText, for_pair, for_plan}
use Rattle.plus_validator.proofs.Deciding as deciding
use Rattle.plus_validator.proofs.Excluding.{not_groundable}
use Rattle.plus_validator.proofs.Inside.{one_of}
use Rattle.plus_validator.proofs.OneJudgement.{judged_as_checked}
use Rattle.plus_reply.specs.declared.pair.pair.Refusal.TheVariants as refusals
use Rattle.plus_reply.specs.Pair.Pair.{depth_limit, DomainRefused, ProblemRefused, PairRefused, SpellsWellTyped}
use Rattle.plus_reply.specs.Reply.{Replied}
use Rattle.plus_reply.proofs.PairLemmas.OnePair.{pair_or_not, domain_or_not, problem_or_not}
use Rattle.plus_translate_command.specs.Translate.{Translates, TranslatesPair, half, no_translation}
use Rattle.plus_translate_command.specs.Translate as translated
use Rattle.plus_translate_command.proofs.OneReply.{translated_once, translation_or_not, same_pair}
use Rattle.plus_lift.specs.Command.Again.{SpellsAgain, NotAgain, untranslated, unread}
use Rattle.plus_lift.specs.Command.Lift.{lifted_text, Lifts, LiftsPair, no_texts, of_texts, LiftsPlan, no_plan, lifts, LiftsCalls, late}
use Rattle.plus_lift.specs.Command.Lift as lifted
use Rattle.plus_trial.specs.Trial.{farm_domain, farm_problem, farm_plan, IsTrial}
use Rattle.plus_trial.specs.Trial as trials
use Rattle.plus_words.specs.Numbers.{default_happenings}
use Rattle.plus_run.specs.Command.{Check, ShowDomain, ShowProblem, Numeric, Trial, Translate, Lift, Plan, Trim}
use Rattle.plus_run.specs.Headline.{Answers, IsAnswer}
use Rattle.plus_run.specs.Laws.{IsSettled, is_valid, is_invalid}
use Rattle.plus_run.specs.Numeric.{PlaysUntimed}
use Rattle.plus_run.specs.Numeric as numeric
use Rattle.plus_run.specs.Shown.{Shows, a_tree, no_tree}
use Rattle.plus_run.proofs.Deciding as runs
use Rattle.laws_answers.specs.Complete.{SpellsPairWith, IsGood, IsLiftable, IsTrimmable, IsFindable, SpellsTree, Complete}

-- ---- a plan text

-- a judgement on a plan that stays inside the limits and has a trajectory
judged_valid : (d : Domain) (p : Problem) (most : ℕ) (text : List ℕ) (j : Judged) → IsGood d p most text → JudgesText d p most text j → outcome_of j.verdict ≡ outcomes.Valid
judged_valid d p most text j k h =
    let a = judged_as_checked d p most text j h in
    elim a.1 [
      | for_pair e u ↦ absurd (not_groundable d p (a.0 ++ j.line.items) u.fault u.refused u.tells k.tame.groundable)
      | for_plan w ↦ elim (deciding.decides d p most text (outcome_of j.verdict) (a.0 ++ j.line.items) k.tame w) [
        | judged.is_valid e t ↦ e
        | judged.is_invalid e none ↦ absurd (none k.has)
      ]
    ]

judged_status : (d : Domain) (p : Problem) (most : ℕ) (text : List ℕ) (j : Judged) (y : Status) → IsGood d p most text → JudgesText d p most text j → y ≡ status_of (outcome_of j.verdict) → y ≡ s.Valid
judged_status d p most text j y k h i = i ∙ ap status_of (judged_valid d p most text j k h)

-- tests that pass refuse nothing
not_refused : (source : Source) (d : Domain) (p : Problem) (text : List ℕ) (kind : Kind) (line : List ℕ) → AllPass (numeric_tests d p text) → IsRefused source d p text kind line → ⊥
not_refused source d p text kind line a r = (one_test Passes).none (numeric_tests d p text) r.test a r.first

-- ---- `show`

module _ {T : Type 0} (Spells : List ℕ → T → Type 0) (canon : T → List ℕ) (Refused : List ℕ → Early → Type 0) (apart : (text : List ℕ) (e : Early) (a : T) → Refused text e → length text ≤ text_limit → Spells text a → ⊥) where
  shown : (text : List ℕ) (x : Status) (w : List ℕ) → Shows Spells canon Refused text x w → SpellsTree Spells text → x ≡ s.Valid
  shown text x w (a_tree a h i k) t = i
  shown text x w (no_tree e h i k) t = absurd (apart text e t.0 h t.1.1 t.1.0)

  shows : (o : Option (List ℕ)) (x : Status) (w : List ℕ) → IfSome o (λ text. Shows Spells canon Refused text x w) → IsSomeAnd o (SpellsTree Spells) → x ≡ s.Valid
  shows None x w h t = absurd t
  shows (Some text) x w h t = shown text x w h t

-- ---- `check` and `numeric`

module _ (dn pn ln : List ℕ) (n : ℕ) (bytes : List ℕ → Option (List ℕ)) (old new : Option (List ℕ)) (a b c e : ℕ) (x : Status) (h : IsAnswer (Some (Check dn pn ln n)) bytes old new a b c e x) (g : IsSettled x) where
  checks : (d p l : Option (List ℕ)) → bytes dn ≡ d → bytes pn ≡ p → bytes ln ≡ l → IsSomeAnd d (λ ds. IsSomeAnd p (λ ps. IsSomeAnd l (λ ls. SpellsPairWith ds ps (λ x y. IsGood x y n ls)))) → x ≡ s.Valid
  checks None p l i j k t = absurd t
  checks (Some ds) None l i j k t = absurd t
  checks (Some ds) (Some ps) None i j k t = absurd t
  checks (Some ds) (Some ps) (Some ls) i j k t =
      elim (runs.decides dn pn ln n bytes old new a b c e x ds ps ls t.d t.p i j k (record { pair = t.pair; tame = t.holds.tame }) h g) [
        | is_valid v has ↦ v
        | is_invalid v none ↦ absurd (none t.holds.has)
      ]

numeric_valid : (ds ps ls : List ℕ) (y : Status) (w : List ℕ) → PlaysUntimed ds ps ls y w → SpellsPairWith ds ps (λ x z. AllPass (numeric_tests x z ls)) → y ≡ s.Valid
numeric_valid ds ps ls y w (numeric.no_pair e h i k) t = absurd (pair_or_not ds ps e t.d t.p h t.pair)
numeric_valid ds ps ls y w (numeric.accepted d p u a i k) t = i
numeric_valid ds ps ls y w (numeric.refused d p kind u h i) t =
    absurd (not_refused Given t.d t.p ls kind w t.holds (same_pair ds ps (λ x z. IsRefused Given x z ls kind w) d t.d p t.p u t.pair h))

-- ---- where the shelf tells the files

on_two :
    (Q : List ℕ → List ℕ → Status → List ℕ → Type 0) (Holds : List ℕ → List ℕ → Type 0)
    → ((ds ps : List ℕ) (y : Status) (w : List ℕ) → Q ds ps y w → Holds ds ps → y ≡ s.Valid)
    → (d p : Option (List ℕ)) (x : Status) (w : List ℕ) → IfSome d (λ ds. IfSome p (λ ps. Q ds ps x w))
    → IsSomeAnd d (λ ds. IsSomeAnd p (λ ps. Holds ds ps)) → x ≡ s.Valid
on_two Q Holds n None p x w h t = absurd t
on_two Q Holds n (Some ds) None x w h t = absurd t
on_two Q Holds n (Some ds) (Some ps) x w h t = n ds ps x w h t

on_three :
    (Q : List ℕ → List ℕ → List ℕ → Status → List ℕ → Type 0) (Holds : List ℕ → List ℕ → List ℕ → Type 0)
    → ((ds ps ls : List ℕ) (y : Status) (w : List ℕ) → Q ds ps ls y w → Holds ds ps ls → y ≡ s.Valid)
    → (d p l : Option (List ℕ)) (x : Status) (w : List ℕ) → IfSome d (λ ds. IfSome p (λ ps. IfSome l (λ ls. Q ds ps ls x w)))
    → IsSomeAnd d (λ ds. IsSomeAnd p (λ ps. IsSomeAnd l (λ ls. Holds ds ps ls))) → x ≡ s.Valid
on_three Q Holds n None p l x w h t = absurd t
on_three Q Holds n (Some ds) None l x w h t = absurd t
on_three Q Holds n (Some ds) (Some ps) None x w h t = absurd t
on_three Q Holds n (Some ds) (Some ps) (Some ls) x w h t = n ds ps ls x w h t

-- ---- the commands with one reply

-- `trial`
trial_valid : (n : ℕ) (y : Status) (w : List ℕ) → IsTrial n y w → SpellsPairWith farm_domain (farm_problem n) (λ x z. IsGood x z default_happenings (farm_plan n)) → y ≡ s.Valid
trial_valid n y w (trials.is_judged d p j u h i k) t =
    let good = same_pair farm_domain (farm_problem n) (λ x z. IsGood x z default_happenings (farm_plan n)) t.d d t.p p t.pair u t.holds in
    judged_status d p default_happenings (farm_plan n) j y good h i
trial_valid n y w (trials.no_pair e h i k) t = absurd (pair_or_not farm_domain (farm_problem n) e t.d t.p h t.pair)

-- `translate`
abbrev HasNoFault : Fraction → Domain → Problem → Type 0
HasNoFault q d p = IsTranslation q d p (translated_domain q d p) (translated_problem q d p)

translate_valid : (file : File) (q : Fraction) (ds ps : List ℕ) (y : Status) (w : List ℕ) → Translates file q ds ps y w → SpellsPairWith ds ps (HasNoFault q) → y ≡ s.Valid
translate_valid file q ds ps y w (translated.no_pair e h i k) t = absurd (pair_or_not ds ps e t.d t.p h t.pair)
translate_valid file q ds ps y w (translated.of_pair d p u (half d' p' tr i k)) t = i
translate_valid file q ds ps y w (translated.of_pair d p u (no_translation e h i k)) t =
    absurd (translation_or_not q d p (translated_domain q d p) (translated_problem q d p) e (same_pair ds ps (HasNoFault q) t.d d t.p p t.pair u t.holds) h)

-- `lift`
module _ (q : Fraction) (d : Domain) (p : Problem) (ls : List ℕ) (t : IsLiftable q d p ls) where
  texts_again : (e : Early) → NotAgain q d p e → ⊥
  texts_again e (untranslated h) = translation_or_not q d p t.again.d' t.again.p' e t.again.translation h
  texts_again e (unread a b f tr h i) =
      let one = translated_once q d p a t.again.d' b t.again.p' tr t.again.translation in
      pair_or_not (domain_text t.again.d') (problem_text t.again.p') f t.d' t.p'
      (subst (λ x. PairRefused (domain_text t.again.d') (problem_text x) f) one.1 (subst (λ x. PairRefused (domain_text x) (problem_text b) f) one.0 h)) t.again.again

  -- what is said of the pair that is read again
  read_again : (a : Domain) (b : Problem) (P : Domain → Problem → Type 0) → SpellsAgain q d p a b → P a b → P t.d' t.p'
  read_again a b P x h =
      let one = translated_once q d p x.d' t.again.d' x.p' t.again.p' x.translation t.again.translation in
      let again : SpellsWellTyped (domain_text t.again.d') (problem_text t.again.p') a b =
      subst (λ z. SpellsWellTyped (domain_text t.again.d') (problem_text z) a b) one.1 (subst (λ z. SpellsWellTyped (domain_text z) (problem_text x.p') a b) one.0 x.again) in
      same_pair (domain_text t.again.d') (problem_text t.again.p') P a t.d' b t.p' again t.again.again h

  calls_valid : (calls : List Call) (y : Status) (w : List ℕ) → IsAccepted t.d' t.p' ls true calls → LiftsCalls q d p calls y w → y ≡ s.Valid
  calls_valid calls y w a (late n h i k) =
      absurd (h.late (one_of (λ c. IsFrac64 (time_of_step q c)) h.before h.after n (subst (All (λ c. IsFrac64 (time_of_step q c))) h.split (t.times calls a))))
  calls_valid calls y w a (lifted.judged plan j x h i k) = judged_status d p default_happenings (lifted_text q calls) j y (t.good calls a) h i

  pair_valid : (y : Status) (w : List ℕ) → LiftsPair q d p ls y w → y ≡ s.Valid
  pair_valid y w (no_texts e h i k) = absurd (texts_again e h)
  pair_valid y w (of_texts a b x (no_plan kind h i)) =
      absurd (not_refused Translated t.d' t.p' ls kind w t.passed (read_again a b (λ z v. IsRefused Translated z v ls kind w) x h))
  pair_valid y w (of_texts a b x (lifts calls h k)) = calls_valid calls y w (read_again a b (λ z v. IsAccepted z v ls true calls) x h) k

lift_valid : (q : Fraction) (ds ps ls : List ℕ) (y : Status) (w : List ℕ) → Lifts q ds ps ls y w → SpellsPairWith ds ps (λ x z. IsLiftable q x z ls) → y ≡ s.Valid
lift_valid q ds ps ls y w (lifted.no_pair e h i k) t = absurd (pair_or_not ds ps e t.d t.p h t.pair)
lift_valid q ds ps ls y w (lifted.of_pair d p u h) t =
    pair_valid q d p ls (same_pair ds ps (λ x z. IsLiftable q x z ls) t.d d t.p p t.pair u t.holds) y w h

-- `trim`
trim_valid : (ds ps ls : List ℕ) (y : Status) (w : List ℕ) → Trims ds ps ls y w → SpellsPairWith ds ps (λ x z. IsTrimmable x z ls) → y ≡ s.Valid
trim_valid ds ps ls y w (trimmed.no_pair e h i k) t = absurd (pair_or_not ds ps e t.d t.p h t.pair)
trim_valid ds ps ls y w (trimmed.of_pair d p u (trimmed.refused j h n i k)) t =
    judged_status d p default_happenings ls j y (same_pair ds ps (λ x z. IsTrimmable x z ls) t.d d t.p p t.pair u t.holds).good h i
trim_valid ds ps ls y w (trimmed.of_pair d p u (trimmed.accepted b a (trimmed.many h i k))) t =
    let few = (same_pair ds ps (λ x z. IsTrimmable x z ls) t.d d t.p p t.pair u t.holds).few a.lines a.read in
    absurd (omega arith)
trim_valid ds ps ls y w (trimmed.of_pair d p u (trimmed.accepted b a (trimmed.kept places beyond f k i x))) t = i

-- `plan`
module _ (q : Fraction) (k tries : ℕ) (cut : Bool) (d : Domain) (p : Problem) (t : IsFindable q k tries d p) where
  not_unsearched : (e : Early) (fault : GroundFault) → refusals.Early e ≡ search_refusal fault → IsUnplanned d p fault → ⊥
  not_unsearched e (faults.TooMany kind most) i (inl r) =
      not_groundable d p (early_text (es.TooMany (kind_meant kind) most)) (faults.TooMany kind most) r refl t.inside.pair
  not_unsearched e (faults.TooMany kind most) i (inr r) = let f : None ≡ Some _ = sym t.inside.actions.counts ∙ r.1.1 in cc f
  not_unsearched e (faults.Literal file place) i (inl r) =
      not_groundable d p (early_text (es.Literal (file_meant file) place.start place.«end»)) (faults.Literal file place) r refl t.inside.pair
  not_unsearched e (faults.Literal file place) i (inr r) =
      let u = r.1.2 in
      u.first.fails (one_of (LiteralFits IsFrac64) u.first.front u.first.back u.literal (subst (All (LiteralFits IsFrac64)) u.first.split t.inside.actions.literals))
  not_unsearched e faults.Memory i r = cc i

  answer_valid : (answer : Answer Frac64) (y : Status) → IsPlanned d p q k tries cut answer → y ≡ answer_status answer → y ≡ s.Valid
  answer_valid (answers.Plan plan) y h i = i
  answer_valid (answers.NoPlan beyond) y h i = absurd (h.answers.none t.decisions t.is)
  answer_valid (answers.Spent tried) y h i = absurd (h.enough t.enough)

  search_valid : (y : Status) (w : List ℕ) → PlansPair q k tries cut d p y w → y ≡ s.Valid
  search_valid y w (answered answer h i x) = answer_valid answer y h i
  search_valid y w (no_search e h i x) = absurd (not_unsearched e h.fault h.refusal_is h.cause)

plan_valid : (q : Fraction) (k tries : ℕ) (cut : Bool) (ds ps : List ℕ) (y : Status) (w : List ℕ) → Plans q k tries cut ds ps y w → SpellsPairWith ds ps (λ x z. IsFindable q k tries x z) → y ≡ s.Valid
plan_valid q k tries cut ds ps y w (planned.no_pair e h i x) t = absurd (pair_or_not ds ps e t.d t.p h t.pair)
plan_valid q k tries cut ds ps y w (planned.of_pair d p u h) t =
    search_valid q k tries cut d p (same_pair ds ps (λ x z. IsFindable q k tries x z) t.d d t.p p t.pair u t.holds) y w h

-- ---- all commands

-- what is said of a check whose plan is not told is said of no other command
reply_of : (Q : Status → List ℕ → Type 0) (old new : Option (List ℕ)) (x : Status) → Replied Q old new x ⊎ ⊥ → Replied Q old new x
reply_of Q old new x (inl r) = r
reply_of Q old new x (inr u) = absurd u

pub complete : Complete
complete None bytes old new a b c d x h g t = absurd t
complete (Some (Check dn pn ln n)) bytes old new a b c d x h g t =
    checks dn pn ln n bytes old new a b c d x h g (bytes dn) (bytes pn) (bytes ln) refl refl refl t
complete (Some (ShowDomain f)) bytes old new a b c d x h g t =
    let r = reply_of (Answers (Some (ShowDomain f)) bytes) old new x (h.replied g) in
    shows (IsDomainText depth_limit) domain_text DomainRefused domain_or_not (bytes f) x r.written r.reply t
complete (Some (ShowProblem f)) bytes old new a b c d x h g t =
    let r = reply_of (Answers (Some (ShowProblem f)) bytes) old new x (h.replied g) in
    shows (IsProblemText depth_limit) problem_text ProblemRefused problem_or_not (bytes f) x r.written r.reply t
complete (Some (Numeric dn pn ln)) bytes old new a b c d x h g t =
    let r = reply_of (Answers (Some (Numeric dn pn ln)) bytes) old new x (h.replied g) in
    on_three PlaysUntimed (λ ds ps ls. SpellsPairWith ds ps (λ y z. AllPass (numeric_tests y z ls))) numeric_valid (bytes dn) (bytes pn) (bytes ln) x r.written r.reply t
complete (Some (Trial n)) bytes old new a b c d x h g t =
    let r = reply_of (IsTrial n) old new x (h.replied g) in
    trial_valid n x r.written r.reply t
complete (Some (Translate file q dn pn)) bytes old new a b c d x h g t =
    let r = reply_of (Answers (Some (Translate file q dn pn)) bytes) old new x (h.replied g) in
    on_two (Translates file q) (λ ds ps. SpellsPairWith ds ps (HasNoFault q)) (translate_valid file q) (bytes dn) (bytes pn) x r.written r.reply t
complete (Some (Lift q dn pn ln)) bytes old new a b c d x h g t =
    let r = reply_of (Answers (Some (Lift q dn pn ln)) bytes) old new x (h.replied g) in
    on_three (Lifts q) (λ ds ps ls. SpellsPairWith ds ps (λ y z. IsLiftable q y z ls)) (lift_valid q) (bytes dn) (bytes pn) (bytes ln) x r.written r.reply t
complete (Some (Plan q k tries cut dn pn)) bytes old new a b c d x h g t =
    let r = reply_of (Answers (Some (Plan q k tries cut dn pn)) bytes) old new x (h.replied g) in
    on_two (Plans q k tries cut) (λ ds ps. SpellsPairWith ds ps (λ y z. IsFindable q k tries y z)) (plan_valid q k tries cut) (bytes dn) (bytes pn) x r.written r.reply t
complete (Some (Trim dn pn ln)) bytes old new a b c d x h g t =
    let r = reply_of (Answers (Some (Trim dn pn ln)) bytes) old new x (h.replied g) in
    on_three Trims (λ ds ps ls. SpellsPairWith ds ps (λ y z. IsTrimmable y z ls)) trim_valid (bytes dn) (bytes pn) (bytes ln) x r.written r.reply t
