use Rattle.std.proofs.Common.{[], sym, subst, ◌∙◌}
use Rattle.std.specs.Prelude.{IfOk, Result, Ok, Err, List}
use Rattle.plus_model.specs.Terms.{Problem}
use Rattle.plus_number.specs.declared.frac.Frac64.{Frac64}
use Rattle.plus_number.specs.Frac.{fraction_of}
use Rattle.plus_state.specs.View.{problem_of, labels_of}
use Rattle.plus_watch.specs.declared.watched.Watched.{Watched}
use Rattle.plus_watch.specs.Watched.{constraints_of}
use Rattle.plus_validator.specs.Account.{progress}
use Rattle.plus_validator.proofs.Endings.{played_same}
use Rattle.plus_watcher.specs.Fitting.{AllFit}
use Rattle.plus_watching.specs.declared.findings.Findings.{Findings}
use Rattle.plus_watching.specs.Watching.{watching, watched_told}
use Rattle.plus_watching.specs.Watches.{Gathers, WatchesText}
use Rattle.plus_watching.proofs.Driving.{found_so}
use Rattle.plus_watching.proofs.findings.watch_text.Goals as goal

if_ok : {A E : Type 0} (r : Result A E) (P Q : A → Type 0) → ((x : A) → P x → Q x) → IfOk r P → IfOk r Q
if_ok (Ok x) P Q f h = f x h
if_ok (Err e) P Q f h = h

pub rules_of-requires-clause-fit : goal.rules_of-requires-clause-fit
rules_of-requires-clause-fit c = subst (λ (P : Problem). AllFit P.atoms P.fluents c.args.watched.now) (sym c.requires.expands.expands) c.requires.fit

pub play_text-played-requires-clause-expands : goal.play_text-played-requires-clause-expands
play_text-played-requires-clause-expands c = rw c.new-instances.ensures.of c.requires.expands

pub play_text-played-requires-clause-fresh : goal.play_text-played-requires-clause-fresh
play_text-played-requires-clause-fresh c = record { begins = c.in_ok-run.ensures.begins; made = c.new-instances.ensures.made }

pub returns : goal.returns
returns c =
    let d = c.args.numbering.now.typed.now.domain in
    let p = c.args.numbering.now.typed.now.problem in
    let N = labels_of c.args.ground.now in
    let P = problem_of fraction_of c.args.ground.now in
    let rules = c.rules_of.result in
    let play = c.play_text-played in
    let played = play.ensures.played in
    let now = play.new.playing.run in
    subst (λ (ws : List (Watched Frac64)). IfOk c.gather-found.result (WatchesText d p (constraints_of fraction_of ws) c.args.happenings c.args.bytes.now)) c.rules_of.ensures.watched
    (if_ok c.gather-found.result (Gathers N P now play.result) (WatchesText d p (constraints_of fraction_of rules.watched.now) c.args.happenings c.args.bytes.now)
    (λ (f : Findings) g.
    found_so d p N P c.args.happenings c.args.bytes.now (progress watched_told [] c.in_ok-run.run') played.gone now c.requires.groundable
    c.requires.expands.expands c.requires.expands.labels c.in_ok-run.ensures.begins rules
    (record { atoms = c.rules_of.ensures.atoms; fluents = c.rules_of.ensures.fluents }) (play.ensures.keeps ∙ c.in_ok-run.ensures.keeps) play.result
    (played_same _ _ P (watching N P) watched_told c.new-instances.ensures.of c.args.bytes.now (progress watched_told [] c.in_ok-run.run') played.gone now play.result played.out)
    play.ensures.fits f g)
    c.gather-found.ensures)
