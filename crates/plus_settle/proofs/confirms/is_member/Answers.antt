use Rattle.std.proofs.Common.{rules}
use Rattle.std.proofs.lemmas.List.Sorted.{answers_always}
use Rattle.plus_settle.proofs.AmongLemmas.{found_at, not_found}
use Rattle.plus_settle.proofs.confirms.is_member.Goals as goal

pub returns-in-Ok : goal.returns-in-Ok
returns-in-Ok c =
    let s = c.binary_search_by_key.ensures.position (λ p. p.0) (answers_always _ _ _ (λ f a r g called. search rules)) in
    found_at _ c.args.id _ c.in-Ok.ensures.bound (rw c.in-Ok.is at s)

pub returns-in-Err : goal.returns-in-Err
returns-in-Err c =
    let s = c.binary_search_by_key.ensures.position (λ p. p.0) (answers_always _ _ _ (λ f a r g called. search rules)) in
    not_found _ c.args.id _ c.requires (rw c.in-Err.is at s)
