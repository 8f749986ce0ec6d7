use Rattle.std.specs.Prelude.{IfOk, Result, Ok, Err}
use Rattle.plus_tree.specs.declared.trees.Domain.{Domain}
use Rattle.plus_tree.specs.declared.trees.Problem.{Problem}
use Rattle.plus_number.specs.Frac.{IsFrac64}
use Rattle.plus_ground.specs.Refusals.{RefusesGround}
use Rattle.plus_ground.proofs.RefusalLemmas.{names_refused}
use Rattle.plus_validator.specs.declared.judge.Judged.{Judged}
use Rattle.plus_validator.specs.Verdicts.{RefusesPairWith, JudgesText, ungrounded}
use Rattle.plus_validator.proofs.judge.judge.Goals as goal

if_ok : {A E : Type 0} (r : Result A E) (P Q : A → Type 0) → ((x : A) → P x → Q x) → IfOk r P → IfOk r Q
if_ok (Ok x) P Q f h = f x h
if_ok (Err e) P Q f h = h

pub returns-in-Err : goal.returns-in-Err
returns-in-Err c =
    let d = c.args.typed.now.domain in
    let p = c.args.typed.now.problem in
    record {
      judged = if_ok c.judge_pair.result (λ (j : Judged). (d : Domain) (p : Problem) → RefusesGround IsFrac64 d p c.in-Err.fault → RefusesPairWith d p j)
          (JudgesText d p c.args.happenings c.args.text.now)
          (λ j h. ungrounded (h d p (names_refused IsFrac64 d p c.in-Err.fault c.in-Err.ensures.counts))) c.judge_pair.ensures;
    }
