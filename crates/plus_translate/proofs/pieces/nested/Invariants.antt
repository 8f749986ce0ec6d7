use Rattle.std.proofs.Common.{◌≡◌, ◌≤◌, length, take}
use Rattle.plus_translation.specs.Leaves.{nested}
use Rattle.plus_translate.specs.Placed.{lists_of}
use Rattle.plus_translate.proofs.pieces.nested.Given as goal

-- the lists that are left stand around the piece
abbrev pub invariant-lists : goal.invariant-lists
invariant-lists l = (l.left ≤ length l.lists) × (nested (lists_of (take l.left l.lists)) l.piece ≡ nested (lists_of l.lists) l.initial.piece)

abbrev pub decreases-lists : goal.decreases-lists
decreases-lists l = l.left
