-- What a shelf in memory stands for: its files, and the failures that are to come.
use Rattle.std.specs.Prelude.{ℕ, Bool, false, ◌&&◌, ◌==◌, List, [], ◌∷◌, ◌++◌, length, Option, Some, None, unwrap_or}
use Rattle.std.specs.List.{list_any}
use Rattle.plus_io.specs.declared.mem_shelf.Listed.{Listed}
use Rattle.plus_io.specs.declared.mem_shelf.MemShelf.{MemShelf}
use Rattle.plus_io.specs.Faults.{one_more}
use Rattle.plus_io.specs.Stored.{Texts, place_of, with_named, picking}

pub record ShelfState : Type 0 where
  pub stored : Texts
  -- the failures that are listed
  pub listed : List Listed
  -- how many reads there were since the last pick
  pub reads : ℕ
  pub faults : ℕ

abbrev pub state_of : MemShelf → ShelfState
state_of shelf = record { stored = shelf.stored; listed = shelf.listed.items; reads = shelf.reads; faults = shelf.faults }

abbrev pub has_failure : List Listed → ℕ → ℕ → Bool
has_failure listed place call = list_any (λ failure. (failure.place == place) && (failure.call == call)) listed

-- whether a failure of this call is listed for the file at a place: call 0 is its pick, call k the k-th read since
abbrev pub is_listed : List Listed → Option ℕ → ℕ → Bool
is_listed listed None call = false
is_listed listed (Some place) call = has_failure listed place call

-- a failure is listed for a call of the file under a name
abbrev pub with_failure : ShelfState → List ℕ → ℕ → ShelfState
with_failure s name call = record s {
  stored = with_named (place_of s.stored.names name) s.stored name;
  listed = s.listed ++ record { place = unwrap_or (place_of s.stored.names name) (length s.stored.names); call = call } ∷ [];
}

-- after a pick of the file at a place
abbrev pub after_pick : ShelfState → Option ℕ → ShelfState
after_pick s place = record s { stored = picking s.stored place; reads = 0 }

-- after a call that failed
abbrev pub after_fault : ShelfState → ShelfState
after_fault s = record s { faults = one_more s.faults }
