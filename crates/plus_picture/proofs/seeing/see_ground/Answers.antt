use Rattle.std.specs.Prelude.{[]}
use Rattle.std.proofs.lemmas.Result.{IfOk-weaker}
use Rattle.plus_number.specs.Frac.{fraction_of}
use Rattle.plus_state.specs.View.{problem_of, labels_of}
use Rattle.plus_validator.specs.Account.{progress}
use Rattle.plus_validator.specs.Told.{silence}
use Rattle.plus_validator.specs.Judged.{Says}
use Rattle.plus_validator.specs.Verdicts.{JudgesText}
use Rattle.plus_validator.proofs.Judging.{judged_silently}
use Rattle.plus_validator.proofs.Endings.{played_same}
use Rattle.plus_picture.specs.Noting.{noted_told}
use Rattle.plus_picture.specs.declared.seeing.Seen.{Seen}
use Rattle.plus_picture.proofs.seeing.see_ground.Goals as goal

pub play_text-played-requires-clause-expands : goal.play_text-played-requires-clause-expands
play_text-played-requires-clause-expands c = rw c.new-instances.ensures.of c.requires.expands

pub play_text-played-requires-clause-fresh : goal.play_text-played-requires-clause-fresh
play_text-played-requires-clause-fresh c = record { begins = c.in_ok-run.ensures.begins; made = c.new-instances.ensures.made }

pub returns : goal.returns
returns c =
    let d = c.args.numbering.now.typed.now.domain in
    let p = c.args.numbering.now.typed.now.problem in
    let N = labels_of c.args.ground.now in
    let P = problem_of fraction_of c.args.ground.now in
    let most = c.args.asked.now.happenings.number in
    let first = progress noted_told [] c.in_ok-run.run' in
    let played = c.play_text-played.ensures.played in
    record {
      judged = IfOk-weaker c.sum_up-seen.result (λ (seen : Seen). Says N P c.play_text-played.new.playing.run c.play_text-played.result seen.judged)
          (λ (seen : Seen). JudgesText d p most c.args.plan.now seen.judged)
          (λ (seen : Seen) u.
          judged_silently noted_told (λ M Q. silence Q) d p N P most c.args.plan.now first played.gone c.play_text-played.new.playing.run c.requires.groundable seen.judged c.play_text-played.result
          c.requires.expands.expands c.requires.expands.labels c.in_ok-run.ensures.begins
          (played_same _ _ P (silence P) noted_told c.new-instances.ensures.of c.args.plan.now first played.gone c.play_text-played.new.playing.run c.play_text-played.result played.out)
          c.play_text-played.ensures.fits u)
          c.sum_up-seen.ensures.says;
    }
