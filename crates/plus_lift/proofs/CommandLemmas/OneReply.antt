-- The same three texts have one reply of `lift`.
use Rattle.std.proofs.Common.{◌≡◌, ℕ, true, List, [], ◌∷◌, ◌++◌, subst, sym, ◌∙◌, ap, refl, map, codes}
use Rattle.std.specs.Prelude.{Result, Ok}
use Rattle.plus_fraction.specs.Fraction.{Fraction}
use Rattle.plus_tree.specs.declared.trees.Domain.{Domain}
use Rattle.plus_tree.specs.declared.trees.Problem.{Problem}
use Rattle.plus_tree.specs.declared.trees.Call.{Call}
use Rattle.plus_plan.specs.declared.forms.Line.{Line}
use Rattle.plus_plan.specs.declared.faults.PlanFault.{PlanFault}
use Rattle.plus_report.specs.declared.refusals.Early.{Early}
use Rattle.plus_report.specs.Refusals.{early_text}
use Rattle.plus_printer.specs.Canon.{domain_text, problem_text}
use Rattle.plus_translation.specs.Laws.{stripped}
use Rattle.plus_translate.specs.Translates.{IsTranslation}
use Rattle.plus_numeric.specs.declared.source.Source.TheVariants.{Translated}
use Rattle.plus_numeric.specs.Calls.{calls_of}
use Rattle.plus_numeric.specs.Answers.{IsAccepted}
use Rattle.plus_numeric.proofs.Excluding.{one_refusal, not_both}
use Rattle.plus_lift.specs.Lifts.{names_of, counts}
use Rattle.plus_lift.proofs.OneLift.{late_once, lifted_or_late}
use Rattle.plus_validator.proofs.OneJudgement.{one_judgement}
use Rattle.plus_words.specs.Numbers.{default_happenings}
use Rattle.plus_reply.specs.Pair.Pair.{PairRefused, SpellsWellTyped}
use Rattle.plus_reply.proofs.PairLemmas.OnePair.{pair_once, pair_or_not, pair_refused_once}
use Rattle.plus_reply.specs.Statuses.{early_status}
use Rattle.plus_numeric.specs.Verdicts.{kind_status}
use Rattle.plus_validator.specs.Outcomes.{status_of}
use Rattle.plus_reply.specs.Reply.{HasOneReply}
use Rattle.plus_translate_command.proofs.OneReply.{untranslated_once, translated_once, translation_or_not, same_pair}
use Rattle.plus_lift.specs.Command.Again.{line_printed, SpellsAgain, NotAgain, untranslated, unread}
use Rattle.plus_lift.specs.Command.Lift.{late_line, lifted_text, LiftsCalls, late, judged, LiftsPlan, no_plan, lifts, LiftsPair, no_texts, of_texts, Lifts, no_pair, of_pair}

-- ---- the calls of a text

abbrev read_line : Line → Result Line PlanFault
read_line line = Ok line

lines_once : (xs ys : List Line) → map read_line xs ≡ map read_line ys → xs ≡ ys
lines_once [] [] e = refl
lines_once [] (y ∷ ys) e = absurd (cc e)
lines_once (x ∷ xs) [] e = absurd (cc e)
lines_once (x ∷ xs) (y ∷ ys) e =
    let head : x ≡ y = cc e in
    let tail : map read_line xs ≡ map read_line ys = cc e in
    ap (λ z. z ∷ xs) head ∙ ap (λ zs. y ∷ zs) (lines_once xs ys tail)

accepted_once : (d : Domain) (p : Problem) (text : List ℕ) (calls calls' : List Call) → IsAccepted d p text true calls → IsAccepted d p text true calls' → calls ≡ calls'
accepted_once d p text calls calls' a b =
    a.calls_are ∙ ap calls_of (lines_once a.has.lines b.has.lines (sym a.has.reads.read ∙ b.has.reads.read)) ∙ sym b.calls_are

-- ---- the printed translation of one pair

module _ (q : Fraction) (d : Domain) (p : Problem) where
  -- what is said of the texts of one of two translations is said of the other's
  same_texts : (P : List ℕ → List ℕ → Type 0) (a a' : Domain) (b b' : Problem) → IsTranslation q d p a b → IsTranslation q d p a' b'
      → P (domain_text a) (problem_text b) → P (domain_text a') (problem_text b')
  same_texts P a a' b b' t t' h =
      let one = translated_once q d p a a' b b' t t' in
      subst (λ x. P (domain_text a') (problem_text x)) one.1 (subst (λ x. P (domain_text x) (problem_text b)) one.0 h)

  again_once : (a a' : Domain) (b b' : Problem) → SpellsAgain q d p a b → SpellsAgain q d p a' b' → (a ≡ a') × (b ≡ b')
  again_once a a' b b' x y =
      let h = same_texts (λ ds ps. SpellsWellTyped ds ps a b) x.d' y.d' x.p' y.p' x.translation y.translation x.again in
      pair_once (domain_text y.d') (problem_text y.p') a a' b b' h.spelled y.again.spelled

  not_again_once : (e f : Early) → NotAgain q d p e → NotAgain q d p f → e ≡ f
  not_again_once e f (untranslated a) (untranslated b) = untranslated_once q d p e f a b
  not_again_once e f (untranslated a) (unread d' p' g t h i) = absurd (translation_or_not q d p d' p' e t a)
  not_again_once e f (unread d' p' g t h i) (untranslated a) = absurd (translation_or_not q d p d' p' f t a)
  not_again_once e f (unread d' p' g t h i) (unread d'' p'' g' t' h' i') =
      let k = same_texts (λ ds ps. PairRefused ds ps g) d' d'' p' p'' t t' h in
      i ∙ ap line_printed (pair_refused_once (domain_text d'') (problem_text p'') g g' k h') ∙ sym i'

  again_or_not : (a : Domain) (b : Problem) (e : Early) → SpellsAgain q d p a b → NotAgain q d p e → ⊥
  again_or_not a b e x (untranslated h) = translation_or_not q d p x.d' x.p' e x.translation h
  again_or_not a b e x (unread d' p' g t h i) =
      let k = same_texts (λ ds ps. PairRefused ds ps g) d' x.d' p' x.p' t x.translation h in
      pair_or_not (domain_text x.d') (problem_text x.p') g a b k x.again

  -- ---- the calls of one plan
  calls_once : (calls : List Call) → HasOneReply (LiftsCalls q d p calls)
  calls_once calls x y w v (late n h i k) (late m g j l) =
      (i ∙ sym j, k ∙ ap (late_line q) (late_once q (counts 0 (stripped (names_of calls))) n m h g) ∙ sym l)
  calls_once calls x y w v (late n h i k) (judged plan b t g j l) = absurd (lifted_or_late q calls plan n t h)
  calls_once calls x y w v (judged plan b t g j l) (late n h i k) = absurd (lifted_or_late q calls plan n t h)
  calls_once calls x y w v (judged plan a t h i k) (judged plan' b t' g j l) =
      let one = one_judgement d p default_happenings (lifted_text q calls) a b h g in
      (i ∙ ap status_of one.outcome ∙ sym j, k ∙ ap (λ z. lifted_text q calls ++ (codes "; " ++ z)) one.line ∙ sym l)

  -- ---- one plan
  plan_once : (d' : Domain) (p' : Problem) (ls : List ℕ) → HasOneReply (LiftsPlan q d p d' p' ls)
  plan_once d' p' ls x y w v (no_plan kind h i) (no_plan kind' g j) =
      let one = one_refusal Translated d' p' ls kind kind' w v h g in
      (i ∙ ap kind_status one.0 ∙ sym j, one.1)
  plan_once d' p' ls x y w v (no_plan kind h i) (lifts calls g l) = absurd (not_both Translated d' p' ls true calls kind w g h)
  plan_once d' p' ls x y w v (lifts calls g l) (no_plan kind h i) = absurd (not_both Translated d' p' ls true calls kind v g h)
  plan_once d' p' ls x y w v (lifts calls h k) (lifts calls' g l) =
      let one = accepted_once d' p' ls calls calls' h g in
      calls_once calls' x y w v (subst (λ c. LiftsCalls q d p c x w) one k) l

  -- the same of two pairs that are read again
  same_again : (P : Domain → Problem → Type 0) (a a' : Domain) (b b' : Problem) → SpellsAgain q d p a b → SpellsAgain q d p a' b' → P a b → P a' b'
  same_again P a a' b b' x y h =
      let one = again_once a a' b b' x y in
      subst (P a') one.1 (subst (λ e. P e b) one.0 h)

  -- ---- one pair
  pair_lifts_once : (ls : List ℕ) → HasOneReply (LiftsPair q d p ls)
  pair_lifts_once ls x y w v (no_texts e h i k) (no_texts f g j l) =
      let one = not_again_once e f h g in
      (i ∙ ap early_status one ∙ sym j, k ∙ ap early_text one ∙ sym l)
  pair_lifts_once ls x y w v (no_texts e h i k) (of_texts a b s g) = absurd (again_or_not a b e s h)
  pair_lifts_once ls x y w v (of_texts a b s g) (no_texts e h i k) = absurd (again_or_not a b e s h)
  pair_lifts_once ls x y w v (of_texts a b s h) (of_texts a' b' s' g) =
      plan_once a' b' ls x y w v (same_again (λ e r. LiftsPlan q d p e r ls x w) a a' b b' s s' h) g

-- ---- three texts

pub one_reply : (q : Fraction) (ds ps ls : List ℕ) → HasOneReply (Lifts q ds ps ls)
one_reply q ds ps ls x y w v (no_pair e h i k) (no_pair f g j l) =
    let one = pair_refused_once ds ps e f h g in
    (i ∙ ap early_status one ∙ sym j, k ∙ ap early_text one ∙ sym l)
one_reply q ds ps ls x y w v (no_pair e h i k) (of_pair d p t g) = absurd (pair_or_not ds ps e d p h t)
one_reply q ds ps ls x y w v (of_pair d p t h) (no_pair e g j l) = absurd (pair_or_not ds ps e d p g t)
one_reply q ds ps ls x y w v (of_pair d p t h) (of_pair d' p' t' g) =
    pair_lifts_once q d' p' ls x y w v (same_pair ds ps (λ a b. LiftsPair q a b ls x w) d d' p p' t t' h) g
