-- A command over the same files has one answer: what it replies is one.
use Rattle.std.proofs.Common.{◌≡◌, ℕ, ◌≤◌, List, length, Option, Some, None, subst, sym, ◌∙◌, ap, inl, inr}
use Rattle.std.specs.Prelude.{IfSome, IsSome}
use Rattle.std.specs.Io.KnownBytes.{append_known}
use Rattle.plus_tree.specs.declared.trees.Domain.{Domain}
use Rattle.plus_tree.specs.declared.trees.Problem.{Problem}
use Rattle.plus_report.specs.declared.refusals.Early.{Early}
use Rattle.plus_report.specs.Refusals.{early_text}
use Rattle.plus_validator.specs.declared.judge.Outcome.{Outcome}
use Rattle.plus_validator.specs.declared.judge.Outcome.TheVariants as outcomes
use Rattle.plus_validator.specs.Outcomes.{status_of}
use Rattle.plus_validator.specs.Validates.{IsUngrounded, IsWhole}
use Rattle.plus_validator.specs.Laws as laws
use Rattle.plus_validator.specs.Laws.{IsJudgedFor}
use Rattle.plus_validator.proofs.Excluding.{pair_or_plan}
use Rattle.plus_validator.proofs.OneLine.{one_line}
use Rattle.plus_validator.proofs.OneText as plans
use Rattle.plus_io.specs.Limits.{text_limit}
use Rattle.plus_report.specs.declared.status.Status.{Status}
use Rattle.plus_report.specs.declared.status.Status.TheVariants as s
use Rattle.plus_reply.specs.Pair.Pair.{PairRefused, SpellsWellTyped}
use Rattle.plus_reply.specs.Statuses.{early_status}
use Rattle.plus_reply.specs.Reply.{Same, HasOneReply, Replied}
use Rattle.plus_reply.proofs.PairLemmas.OnePair.{pair_once, pair_refused_once, pair_or_not}
use Rattle.plus_run.specs.Command.{Command, Check, ShowDomain, ShowProblem, Numeric, Trial, Translate, Lift, Plan, Trim, files_of}
use Rattle.plus_run.specs.Checks.{Checks, no_pair, no_ground, accepted, refused, OnPlan}
use Rattle.plus_run.specs.Shown.{Shows, a_tree, no_tree}
use Rattle.plus_run.specs.Headline.{Answers, OnWay, IsSettled, IsAnswer}
use Rattle.plus_run.specs.Laws.{AreTold}

-- ---- the answer of a check

-- what a check wrote, with its status: an accepted plan and a refused one have a report and a verdict line
pub data Checked (n : ℕ) (ds ps ls : List ℕ) (status : Status) (written : List ℕ) : Type 0 where
  by_pair : (e : Early) → PairRefused ds ps e → status ≡ early_status e → written ≡ early_text e → Checked n ds ps ls status written
  by_ground : (d : Domain) (p : Problem) → SpellsWellTyped ds ps d p → status ≡ s.Beyond → IsUngrounded d p written → Checked n ds ps ls status written
  by_plan :
      (d : Domain) (p : Problem) (outcome : Outcome) → SpellsWellTyped ds ps d p → status ≡ status_of outcome → IsWhole d p n ls outcome written
      → Checked n ds ps ls status written

-- an answer to a plan is one for its pair
judged : (n : ℕ) (d : Domain) (p : Problem) (ls : List ℕ) (outcome : Outcome) (written : List ℕ) → IsWhole d p n ls outcome written → IsJudgedFor d p
judged n d p ls outcomes.Valid w h = laws.accepted n ls w h
judged n d p ls outcomes.Invalid w h = laws.refused n h.text h.goes_on outcomes.Invalid w h.refused
judged n d p ls outcomes.Beyond w h = laws.refused n h.text h.goes_on outcomes.Beyond w h.refused
judged n d p ls outcomes.BadText w h = laws.refused n h.text h.goes_on outcomes.BadText w h.refused
judged n d p ls outcomes.ReadFault w h = absurd h
judged n d p ls outcomes.WriteFault w h = absurd h
judged n d p ls outcomes.NoMemory w h = absurd h

pub checked : (n : ℕ) (ds ps ls : List ℕ) (x : Status) (w : List ℕ) → Checks n ds ps (Some ls) x w → Checked n ds ps ls x w
checked n ds ps ls x w (no_pair e h i k) = by_pair e h i k
checked n ds ps ls x w (no_ground d p t i g) = by_ground d p t i g
checked n ds ps ls x w (accepted d p t i h) = by_plan d p outcomes.Valid t i h
checked n ds ps ls x w (refused d p outcomes.Invalid t l i h) = by_plan d p outcomes.Invalid t i h
checked n ds ps ls x w (refused d p outcomes.Beyond t l i h) = by_plan d p outcomes.Beyond t i h
checked n ds ps ls x w (refused d p outcomes.BadText t l i h) = by_plan d p outcomes.BadText t i h
checked n ds ps ls x w (refused d p outcomes.Valid t l i h) = absurd l
checked n ds ps ls x w (refused d p outcomes.ReadFault t l i h) = absurd l
checked n ds ps ls x w (refused d p outcomes.WriteFault t l i h) = absurd l
checked n ds ps ls x w (refused d p outcomes.NoMemory t l i h) = absurd l

module _ (n : ℕ) (ds ps ls : List ℕ) (x y : Status) (w v : List ℕ) where
  grounds : (d d' : Domain) (p p' : Problem) → SpellsWellTyped ds ps d p → SpellsWellTyped ds ps d' p' → x ≡ s.Beyond → y ≡ s.Beyond → IsUngrounded d p w → IsUngrounded d' p' v → Same x y w v
  grounds d d' p p' a b i j g h =
      let one = pair_once ds ps d' d p' p b.spelled a.spelled in
      (i ∙ sym j, one_line d p w v g (subst (λ q. IsUngrounded d q v) one.1 (subst (λ e. IsUngrounded e p' v) one.0 h)))

  ground_or_plan : (d d' : Domain) (p p' : Problem) (o : Outcome) (line text : List ℕ) → SpellsWellTyped ds ps d p → SpellsWellTyped ds ps d' p' → IsUngrounded d p line → IsWhole d' p' n ls o text → ⊥
  ground_or_plan d d' p p' o line text a b g h =
      let one = pair_once ds ps d' d p' p b.spelled a.spelled in
      pair_or_plan d p line g (judged n d p ls o text (subst (λ q. IsWhole d q n ls o text) one.1 (subst (λ e. IsWhole e p' n ls o text) one.0 h)))

  plans_once : (d d' : Domain) (p p' : Problem) (o o' : Outcome) → SpellsWellTyped ds ps d p → SpellsWellTyped ds ps d' p' → x ≡ status_of o → y ≡ status_of o' → IsWhole d p n ls o w → IsWhole d' p' n ls o' v → Same x y w v
  plans_once d d' p p' o o' a b i j g h =
      let one = pair_once ds ps d' d p' p b.spelled a.spelled in
      let again = subst (λ q. IsWhole d q n ls o' v) one.1 (subst (λ e. IsWhole e p' n ls o' v) one.0 h) in
      let same = plans.one_answer d p n ls o o' w v g again in
      (i ∙ ap status_of same.0 ∙ sym j, same.1)

  checked_once : Checked n ds ps ls x w → Checked n ds ps ls y v → Same x y w v
  checked_once (by_pair e h i k) (by_pair f g j l) =
      let one = pair_refused_once ds ps e f h g in
      (i ∙ ap early_status one ∙ sym j, k ∙ ap early_text one ∙ sym l)
  checked_once (by_pair e h i k) (by_ground d p t j g) = absurd (pair_or_not ds ps e d p h t)
  checked_once (by_pair e h i k) (by_plan d p o t j g) = absurd (pair_or_not ds ps e d p h t)
  checked_once (by_ground d p t i g) (by_pair e h j k) = absurd (pair_or_not ds ps e d p h t)
  checked_once (by_ground d p t i g) (by_ground d' p' u j h) = grounds d d' p p' t u i j g h
  checked_once (by_ground d p t i g) (by_plan d' p' o u j h) = absurd (ground_or_plan d d' p p' o w v t u g h)
  checked_once (by_plan d p o t i g) (by_pair e h j k) = absurd (pair_or_not ds ps e d p h t)
  checked_once (by_plan d p o t i g) (by_ground d' p' u j h) = absurd (ground_or_plan d' d p' p o v w u t h g)
  checked_once (by_plan d p o t i g) (by_plan d' p' o' u j h) = plans_once d d' p p' o o' t u i j g h

-- ---- the answer of `show`

module _ {T : Type 0} (Spells : List ℕ → T → Type 0) (canon : T → List ℕ) (Refused : List ℕ → Early → Type 0) (text : List ℕ) (trees : (a b : T) → Spells text a → Spells text b → a ≡ b) (lines : (e f : Early) → Refused text e → Refused text f → e ≡ f) (apart : (e : Early) (a : T) → Refused text e → length text ≤ text_limit → Spells text a → ⊥) where
  pub shown_once : HasOneReply (Shows Spells canon Refused text)
  shown_once x y w v (a_tree a h i k) (a_tree b g j l) = (i ∙ sym j, k ∙ ap canon (trees a b h.0 g.0) ∙ sym l)
  shown_once x y w v (a_tree a h i k) (no_tree e g j l) = absurd (apart e a g h.1 h.0)
  shown_once x y w v (no_tree e h i k) (a_tree b g j l) = absurd (apart e b h g.1 g.0)
  shown_once x y w v (no_tree e h i k) (no_tree f g j l) =
      let one = lines e f h g in
      (i ∙ ap early_status one ∙ sym j, k ∙ ap early_text one ∙ sym l)

-- ---- where the shelf tells the files

-- one file has one text, of which the reply is
pub on_one : (Q : List ℕ → Status → List ℕ → Type 0) (o : Option (List ℕ)) → IsSome o → ((text : List ℕ) → HasOneReply (Q text)) → HasOneReply (λ x w. IfSome o (λ text. Q text x w))
on_one Q None i once = cc i
on_one Q (Some text) i once = once text

pub on_two :
    (Q : List ℕ → List ℕ → Status → List ℕ → Type 0) (d p : Option (List ℕ)) → IsSome d → IsSome p → ((ds ps : List ℕ) → HasOneReply (Q ds ps))
    → HasOneReply (λ x w. IfSome d (λ ds. IfSome p (λ ps. Q ds ps x w)))
on_two Q d p i j once = on_one (λ ds x w. IfSome p (λ ps. Q ds ps x w)) d i (λ ds. on_one (Q ds) p j (once ds))

pub on_three :
    (Q : List ℕ → List ℕ → List ℕ → Status → List ℕ → Type 0) (d p l : Option (List ℕ)) → IsSome d → IsSome p → IsSome l
    → ((ds ps ls : List ℕ) → HasOneReply (Q ds ps ls)) → HasOneReply (λ x w. IfSome d (λ ds. IfSome p (λ ps. IfSome l (λ ls. Q ds ps ls x w))))
on_three Q d p l i j k once = on_two (λ ds ps x w. IfSome l (λ ls. Q ds ps ls x w)) d p i j (λ ds ps. on_one (Q ds ps) l k (once ds ps))

check_once : (n : ℕ) (ds ps : List ℕ) (l : Option (List ℕ)) → IsSome l → HasOneReply (Checks n ds ps l)
check_once n ds ps None k = cc k
check_once n ds ps (Some ls) k = λ x y w v a b. checked_once n ds ps ls x y w v (checked n ds ps ls x w a) (checked n ds ps ls y v b)

pub checks_once : (n : ℕ) (d p l : Option (List ℕ)) → IsSome d → IsSome p → IsSome l → HasOneReply (λ x w. IfSome d (λ ds. IfSome p (λ ps. Checks n ds ps l x w)))
checks_once n d p l i j k = on_two (λ ds ps. Checks n ds ps l) d p i j (λ ds ps. check_once n ds ps l k)

-- ---- what was written

-- a check whose files are told is not one whose plan is not
no_plan : (ds ps : List ℕ) (l : Option (List ℕ)) → IsSome l → OnPlan ds ps l (λ d p text. ⊥) → ⊥
no_plan ds ps None k h = cc k
no_plan ds ps (Some ls) k h = h.holds

untold : (d p l : Option (List ℕ)) → IsSome d → IsSome p → IsSome l → IfSome d (λ ds. IfSome p (λ ps. OnPlan ds ps l (λ a b text. ⊥))) → ⊥
untold None p l i j k h = cc i
untold (Some ds) None l i j k h = cc j
untold (Some ds) (Some ps) l i j k h = no_plan ds ps l k h

not_untold : (command : Option Command) (bytes : List ℕ → Option (List ℕ)) → AreTold bytes (files_of command) → OnWay command bytes (λ most d p plan. ⊥) → ⊥
not_untold None bytes t h = h
not_untold (Some (Check d p l n)) bytes t h = untold (bytes d) (bytes p) (bytes l) t.0 t.1.0 t.1.1.0 h
not_untold (Some (ShowDomain file)) bytes t h = h
not_untold (Some (ShowProblem file)) bytes t h = h
not_untold (Some (Numeric d p l)) bytes t h = h
not_untold (Some (Trial n)) bytes t h = h
not_untold (Some (Translate file q d p)) bytes t h = h
not_untold (Some (Lift q d p l)) bytes t h = h
not_untold (Some (Plan q k n cut d p)) bytes t h = h
not_untold (Some (Trim d p l)) bytes t h = h

-- where the shelf tells the files, the sink took what the command answers
pub settled_reply :
    (command : Option Command) (bytes : List ℕ → Option (List ℕ)) (old new : Option (List ℕ)) (a b c d : ℕ) (x : Status)
    → AreTold bytes (files_of command) → IsAnswer command bytes old new a b c d x → IsSettled x → Replied (Answers command bytes) old new x
settled_reply command bytes old new a b c d x t h g = elim (h.replied g) [
  | inl r ↦ r
  | inr u ↦ absurd (not_untold command bytes t u)
]

pub replied_once :
    (Q : Status → List ℕ → Type 0) (old new new' : Option (List ℕ)) (x y : Status) → HasOneReply Q → Replied Q old new x → Replied Q old new' y
    → (x ≡ y) × (new ≡ new')
replied_once Q old new new' x y once a b =
    let same = once x y a.written b.written a.reply b.reply in
    (same.0, a.took ∙ ap (append_known old) same.1 ∙ sym b.took)
