-- The files of a shelf that never fails.
use Rattle.plus_io.specs.declared.quiet.QuietShelf.{QuietShelf}
use Rattle.plus_io.specs.Stored.{Texts}

abbrev pub files_of : QuietShelf → Texts
files_of shelf = shelf.stored
