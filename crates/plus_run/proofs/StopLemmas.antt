-- What is out where a file failed, put together from what the calls answer.
use Rattle.std.proofs.Common.{◌≡◌, ◌⊎◌, ℕ, ◌+◌, List, [], ◌∷◌, Option, Some, None, subst, sym, ◌∙◌, IsTrue, inl, inr}
use Rattle.std.specs.Prelude.{IfSome}
use Rattle.plus_io.specs.Picks.{Pick, ReadsEach, ReadsInOrder}
use Rattle.plus_tree.specs.declared.trees.Domain.{Domain}
use Rattle.plus_tree.specs.declared.trees.Problem.{Problem}
use Rattle.plus_types.specs.Faults.{is_well_typed}
use Rattle.plus_report.specs.declared.refusals.Early.{Early}
use Rattle.plus_report.specs.declared.refusals.Early.TheVariants as es
use Rattle.plus_report.specs.Refusals.{early_text}
use Rattle.plus_validator.specs.Leaving.{StopsReading, KeepsUp}
use Rattle.plus_validator.specs.Validates.{RefusesPairInPart}
use Rattle.plus_report.specs.declared.status.Status.{Status}
use Rattle.plus_report.specs.declared.status.Status.TheVariants as s
use Rattle.plus_reply.specs.Statuses.{early_status, Writes}
use Rattle.plus_reply.specs.Pair.Pair.{SpellsWellTyped, PairRefused}
use Rattle.plus_io.specs.Limits.{text_limit}
use Rattle.plus_reply.specs.Pair.Reads.{ReadsPair}
use Rattle.plus_reply.proofs.PairLemmas.SpelledLemmas.{on_pair}
use Rattle.plus_run.specs.Command.{Command, Check, ShowDomain, ShowProblem, Numeric, Trial, Translate, Lift, Plan, Trim}
use Rattle.plus_run.specs.Headline.{IsAnswer}
use Rattle.plus_run.proofs.RunLemmas.{early_plain}
use Rattle.plus_run.specs.Stopping.{StopsCheck, in_plan, StopsRun, BreaksCheck, in_line, in_ground, in_report, BreaksRun}

early_no_read : (e : Early) → early_status e ≡ s.ReadFault → ⊥
early_no_read (es.BadText text start finish word) q = cc
early_no_read (es.BadLine line start finish) q = cc
early_no_read (es.TooLong text) q = cc
early_no_read (es.Depth text at) q = cc
early_no_read es.DepthOut q = cc
early_no_read (es.LineTooLong line) q = cc
early_no_read (es.Literal text start finish) q = cc
early_no_read (es.TooMany kind most) q = cc

-- where a line is written no file failed
written_no_read :
    {A : Type 0} (line : List ℕ) (status : Status) (old new : Option (List ℕ)) (before now : ℕ) (r : Status)
    → (status ≡ s.ReadFault → ⊥) → Writes line status old new before now r → r ≡ s.ReadFault → A
written_no_read line status old new before now r n (inl w) v = absurd (n (sym w.0 ∙ v))
written_no_read line status old new before now r n (inr w) v = absurd (let k : s.WriteFault ≡ s.ReadFault = sym w.0 ∙ v in cc k)

pub line_no_read :
    {A : Type 0} (e : Early) (old new : Option (List ℕ)) (before now : ℕ) (r : Status)
    → Writes (early_text e) (early_status e) old new before now r → r ≡ s.ReadFault → A
line_no_read e old new before now r = written_no_read (early_text e) (early_status e) old new before now r (early_no_read e)

pub usage_no_read :
    {A : Type 0} (line : List ℕ) (old new : Option (List ℕ)) (before now : ℕ) (r : Status)
    → Writes line s.Usage old new before now r → r ≡ s.ReadFault → A
usage_no_read line old new before now r = written_no_read line s.Usage old new before now r (λ q. cc q)

-- of a command that is no check nothing is out
at_once : {A : Type 0} → A ⊎ ⊥ → A
at_once (inl h) = h
at_once (inr h) = absurd h

abbrev pub IsNoCheck : Option Command → Type 0
IsNoCheck (Some (Check d p l n)) = ⊥
IsNoCheck _ = Unit {0}

module _ {S : Type 0} (bytes : S → List ℕ → Option (List ℕ)) (picked rest : S → Option (List ℕ)) (picks : S → Option (List Pick)) (before after : S) (old new : Option (List ℕ)) where
  -- the plan failed behind the pair
  pub plan_stops :
      (n : ℕ) (domain problem plan : List ℕ) (between : S) (d : Domain) (p : Problem)
      → ReadsEach bytes picked rest picks (text_limit + 1) (domain ∷ problem ∷ []) before between
      → ReadsPair (bytes before domain) (bytes before problem) d p → IsTrue (is_well_typed d p)
      → ReadsInOrder bytes picked rest picks (text_limit + 1) (plan ∷ []) between after
      → bytes between plan ≡ bytes before plan → StopsReading d p n (bytes between plan) (picked after) (rest after) old new
      → StopsCheck bytes picked rest picks n domain problem plan before after old new
  plan_stops n domain problem plan between d p both reads typed one same h =
      in_plan between d p both (on_pair (bytes before domain) (bytes before problem) d p (λ ds ps. SpellsWellTyped ds ps d p) reads typed (λ ds ps t. t)) one
      (subst (λ b. StopsReading d p n b (picked after) (rest after) old new) same h)

  -- the same command, under another name
  pub stops_as :
      (m o : Option Command) (r : Status) → m ≡ o → (r ≡ s.ReadFault → StopsRun bytes picked rest picks m before after old new)
      → r ≡ s.ReadFault → StopsRun bytes picked rest picks o before after old new
  stops_as m o r e h v = subst (λ x. StopsRun bytes picked rest picks x before after old new) e (h v)

  nothing_out :
      (m : Option Command) (files : List ℕ → Option (List ℕ)) (a b c d : ℕ) (r : Status) → IsNoCheck m → IsAnswer m files old new a b c d r
      → r ≡ s.ReadFault → StopsRun bytes picked rest picks m before after old new
  nothing_out None files a b c d r k h v = at_once ((h.read_fault v).1)
  nothing_out (Some (Check x y z n)) files a b c d r k h v = absurd k
  nothing_out (Some (ShowDomain x)) files a b c d r k h v = at_once ((h.read_fault v).1)
  nothing_out (Some (ShowProblem x)) files a b c d r k h v = at_once ((h.read_fault v).1)
  nothing_out (Some (Numeric x y z)) files a b c d r k h v = at_once ((h.read_fault v).1)
  nothing_out (Some (Trial n)) files a b c d r k h v = at_once ((h.read_fault v).1)
  nothing_out (Some (Translate file q x y)) files a b c d r k h v = at_once ((h.read_fault v).1)
  nothing_out (Some (Lift q x y z)) files a b c d r k h v = at_once ((h.read_fault v).1)
  nothing_out (Some (Plan q k' n cut x y)) files a b c d r k h v = at_once ((h.read_fault v).1)
  nothing_out (Some (Trim x y z)) files a b c d r k h v = at_once ((h.read_fault v).1)

  -- another command than a check
  pub other_stops :
      (m o : Option Command) (files : List ℕ → Option (List ℕ)) (a b c d : ℕ) (r : Status) → IsAnswer m files old new a b c d r
      → m ≡ o → IsNoCheck m → r ≡ s.ReadFault → StopsRun bytes picked rest picks o before after old new
  other_stops m o files a b c d r h e k = stops_as m o r e (nothing_out m files a b c d r k h)

  -- ---- the sink fails

  -- behind the pair
  pub plan_keeps_up :
      (n : ℕ) (domain problem plan : List ℕ) (between : S) (d : Domain) (p : Problem)
      → ReadsEach bytes picked rest picks (text_limit + 1) (domain ∷ problem ∷ []) before between
      → ReadsPair (bytes before domain) (bytes before problem) d p → IsTrue (is_well_typed d p)
      → ReadsInOrder bytes picked rest picks (text_limit + 1) (plan ∷ []) between after
      → bytes between plan ≡ bytes before plan
      → RefusesPairInPart d p old new ⊎ KeepsUp d p n (bytes between plan) (rest after) old new
      → BreaksCheck bytes picked rest picks n domain problem plan before after old new
  plan_keeps_up n domain problem plan between d p both reads typed one same (inl r) =
      in_ground d p (on_pair (bytes before domain) (bytes before problem) d p (λ ds ps. SpellsWellTyped ds ps d p) reads typed (λ ds ps t. t)) r
  plan_keeps_up n domain problem plan between d p both reads typed one same (inr k) =
      in_report between d p both (on_pair (bytes before domain) (bytes before problem) d p (λ ds ps. SpellsWellTyped ds ps d p) reads typed (λ ds ps t. t)) one
      (subst (λ b. KeepsUp d p n b (rest after) old new) same k)

  -- in the one line that refuses the pair
  pub line_keeps_up :
      (n : ℕ) (domain problem plan : List ℕ) (e : Early) (a b : ℕ) (r : Status)
      → IfSome (bytes before domain) (λ ds. IfSome (bytes before problem) (λ ps. PairRefused ds ps e))
      → Writes (early_text e) (early_status e) old new a b r → r ≡ s.WriteFault
      → BreaksCheck bytes picked rest picks n domain problem plan before after old new
  line_keeps_up n domain problem plan e a b r h (inl w) v = absurd (early_plain e (sym w.0 ∙ v))
  line_keeps_up n domain problem plan e a b r h (inr w) v = in_line e h w.2

  -- the same command, under another name
  pub keeps_up_as :
      (m o : Option Command) (r : Status) → m ≡ o → (r ≡ s.WriteFault → BreaksRun bytes picked rest picks m before after old new)
      → r ≡ s.WriteFault → BreaksRun bytes picked rest picks o before after old new
  keeps_up_as m o r e h v = subst (λ x. BreaksRun bytes picked rest picks x before after old new) e (h v)

  nothing_said : (m : Option Command) → IsNoCheck m → BreaksRun bytes picked rest picks m before after old new
  nothing_said None k = tt
  nothing_said (Some (Check x y z n)) k = absurd k
  nothing_said (Some (ShowDomain x)) k = tt
  nothing_said (Some (ShowProblem x)) k = tt
  nothing_said (Some (Numeric x y z)) k = tt
  nothing_said (Some (Trial n)) k = tt
  nothing_said (Some (Translate file q x y)) k = tt
  nothing_said (Some (Lift q x y z)) k = tt
  nothing_said (Some (Plan q k' n cut x y)) k = tt
  nothing_said (Some (Trim x y z)) k = tt

  -- another command than a check
  pub other_keeps_up : (m o : Option Command) (r : Status) → m ≡ o → IsNoCheck m → r ≡ s.WriteFault → BreaksRun bytes picked rest picks o before after old new
  other_keeps_up m o r e k v = subst (λ x. BreaksRun bytes picked rest picks x before after old new) e (nothing_said m k)
