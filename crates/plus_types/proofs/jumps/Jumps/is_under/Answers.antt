use Rattle.std.proofs.Common.{◌≡◌, ◌∙◌, ℕ, List, ap, sym, subst, IfSome}
use Rattle.std.specs.Str.{bytes_eq}
use Rattle.plus_types.specs.Types.{is_under, object_name}
use Rattle.plus_types.specs.Listed.{name_at}
use Rattle.plus_types.proofs.JumpLemmas.{position-here}
use Rattle.plus_types.proofs.jumps.Jumps.is_under.Goals as goal

pub is_under_listed-requires-clause-high : goal.is_under_listed-requires-clause-high
is_under_listed-requires-clause-high c =
    let there = position-here c.args.listed.now c.args.high.now c.in-Some-number.end (sym c.in-Some-number.ensures.place) in
    ap (λ k. bytes_eq k object_name) (sym there) ∙ c.requires.high

pub returns-in-None-number : goal.returns-in-None-number
returns-in-None-number c =
    let types = c.args.listed.now in
    let start = position-here types c.args.low.now c.in-Some.start (sym c.in-Some.ensures.place) in
    let P : List ℕ → Type 0 = λ k. IfSome c.is_under_top.result (λ under. under ≡ is_under types k c.args.high.now) in
    subst P (sym start) c.is_under_top.ensures

pub returns-in-Some-number : goal.returns-in-Some-number
returns-in-Some-number c =
    let types = c.args.listed.now in
    let start = position-here types c.args.low.now c.in-Some.start (sym c.in-Some.ensures.place) in
    let end = position-here types c.args.high.now c.in-Some-number.end (sym c.in-Some-number.ensures.place) in
    let P : List ℕ → Type 0 = λ k. IfSome c.is_under_listed.result (λ under. under ≡ is_under types k (name_at types c.in-Some-number.end)) in
    let Q : List ℕ → Type 0 = λ k. IfSome c.is_under_listed.result (λ under. under ≡ is_under types c.args.low.now k) in
    subst Q (sym end) (subst P (sym start) c.is_under_listed.ensures)
