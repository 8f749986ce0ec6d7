use Rattle.std.specs.Prelude.{[], IfOk, Result, Ok, Err}
use Rattle.plus_number.specs.Frac.{fraction_of}
use Rattle.plus_state.specs.View.{problem_of, labels_of}
use Rattle.plus_validator.specs.declared.judge.Judged.{Judged}
use Rattle.plus_validator.specs.Account.{progress}
use Rattle.plus_validator.specs.Told.{silence, silent_told}
use Rattle.plus_validator.specs.Judged.{Says}
use Rattle.plus_validator.specs.Verdicts.{JudgesText}
use Rattle.plus_validator.proofs.Judging.{judged_silently}
use Rattle.plus_validator.proofs.Endings.{played_same}
use Rattle.plus_validator.proofs.judge.judge_ground.Goals as goal

if_ok : {A E : Type 0} (r : Result A E) (P Q : A → Type 0) → ((x : A) → P x → Q x) → IfOk r P → IfOk r Q
if_ok (Ok x) P Q f h = f x h
if_ok (Err e) P Q f h = h

pub play_text-played-requires-clause-expands : goal.play_text-played-requires-clause-expands
play_text-played-requires-clause-expands c = rw c.new-instances.ensures.of c.requires.expands

pub play_text-played-requires-clause-fresh : goal.play_text-played-requires-clause-fresh
play_text-played-requires-clause-fresh c = record { begins = c.in_ok-run.ensures.begins; made = c.new-instances.ensures.made }

pub returns : goal.returns
returns c =
    let d = c.args.numbering.now.typed.now.domain in
    let p = c.args.numbering.now.typed.now.problem in
    let N = labels_of c.args.ground.now in
    let P = problem_of fraction_of c.args.ground.now in
    let played = c.play_text-played.ensures.played in
    record {
      judged = if_ok c.say-judged.result (Says N P c.play_text-played.new.playing.run c.play_text-played.result) (JudgesText d p c.args.happenings c.args.bytes.now)
          (λ (j : Judged) u.
          judged_silently silent_told (λ M Q. silence Q) d p N P c.args.happenings c.args.bytes.now (progress silent_told [] c.in_ok-run.run') played.gone c.play_text-played.new.playing.run c.requires.groundable j c.play_text-played.result
          c.requires.expands.expands c.requires.expands.labels c.in_ok-run.ensures.begins
          (played_same _ _ P (silence P) silent_told c.new-instances.ensures.of c.args.bytes.now (progress silent_told [] c.in_ok-run.run') played.gone c.play_text-played.new.playing.run
          c.play_text-played.result played.out) c.play_text-played.ensures.fits u)
          c.say-judged.ensures.says;
    }
