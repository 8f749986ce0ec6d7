use Rattle.std.proofs.Common.{◌≡◌, take}
use Rattle.plus_renaming.proofs.copies.terms.Given as goal

-- the terms so far
abbrev pub invariant-terms : goal.invariant-terms
invariant-terms l = l.copy ≡ take l.member-index l.terms
