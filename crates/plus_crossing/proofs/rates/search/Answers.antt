use Rattle.std.proofs.Common.{rules}
use Rattle.std.proofs.lemmas.List.Sorted.{answers_always}
use Rattle.plus_crossing.proofs.Places.{found_place, found_between}
use Rattle.plus_crossing.proofs.rates.search.Goals as goal

pub returns-in-Ok : goal.returns-in-Ok
returns-in-Ok g c =
    let s = c.binary_search_by_key.ensures.position (λ e. e.0) (answers_always _ _ _ (λ f a r g called. search rules)) in
    found_place _ _ _ c.in-Ok.ensures.bound (rw c.in-Ok.is at s)

pub returns-in-Err : goal.returns-in-Err
returns-in-Err g c =
    let s = c.binary_search_by_key.ensures.position (λ e. e.0) (answers_always _ _ _ (λ f a r g called. search rules)) in
    found_between _ _ _ c.in-Err.ensures.bound c.requires (rw c.in-Err.is at s)
