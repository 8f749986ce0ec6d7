-- The lines of refusals that are no matter of a plan's meaning: of texts, of lines, of grounding
-- (this project's profile).
use Rattle.std.specs.Prelude.{ℕ, List, ◌++◌, codes, decimal}
use Rattle.plus_report.specs.declared.refusals.Text.{Text}
use Rattle.plus_report.specs.declared.refusals.Text.TheVariants as texts
use Rattle.plus_report.specs.declared.refusals.Word.{Word}
use Rattle.plus_report.specs.declared.refusals.Word.TheVariants.{Byte, Long, Unclosed, Form, UnknownType, UnknownName, Arity, WrongType, Twice, UnboundVariable, ShadowedVariable, TypeLoop, RateForm, DomainName, NameTaken, NotLevelTwo, OffGrid}
use Rattle.plus_report.specs.declared.refusals.Kinds.{Kinds}
use Rattle.plus_report.specs.declared.refusals.Kinds.TheVariants.{Objects, Atoms, Fluents, Processes, Events, Actions, Nodes, NodesInConstraints}
use Rattle.plus_report.specs.declared.refusals.Early.{Early}
use Rattle.plus_report.specs.declared.refusals.Early.TheVariants.{BadText, BadLine, TooLong, Depth, DepthOut, LineTooLong, Literal, TooMany}
use Rattle.plus_report.specs.Text.{newline}

abbrev pub text_name : Text → List ℕ
text_name texts.Domain = codes "domain"
text_name texts.Problem = codes "problem"
text_name texts.Plan = codes "plan"
text_name texts.Constraints = codes "constraints"
text_name texts.TranslatedDomain = codes "translated domain"
text_name texts.TranslatedProblem = codes "translated problem"

abbrev pub word_text : Word → List ℕ
word_text Byte = codes "byte"
word_text Long = codes "long"
word_text Unclosed = codes "unclosed"
word_text Form = codes "form"
word_text UnknownType = codes "unknown type"
word_text UnknownName = codes "unknown name"
word_text Arity = codes "arity"
word_text WrongType = codes "wrong type"
word_text Twice = codes "twice"
word_text UnboundVariable = codes "unbound variable"
word_text ShadowedVariable = codes "shadowed variable"
word_text TypeLoop = codes "type loop"
word_text RateForm = codes "rate form"
word_text DomainName = codes "domain name"
word_text NameTaken = codes "name taken"
word_text NotLevelTwo = codes "not level two"
word_text OffGrid = codes "off grid"

abbrev pub kind_text : Kinds → List ℕ
kind_text Objects = codes "objects"
kind_text Atoms = codes "atoms"
kind_text Fluents = codes "fluents"
kind_text Processes = codes "processes"
kind_text Events = codes "events"
kind_text Actions = codes "actions"
kind_text Nodes = codes "nodes"
kind_text NodesInConstraints = codes "nodes in constraints"

-- the bytes from the first to the last of a place
unfoldable pub place_text : ℕ → ℕ → List ℕ
place_text first last = decimal first ++ codes "-" ++ decimal last

unfoldable pub early_text : Early → List ℕ
early_text (BadText text start finish word) =
    (codes "bad text: " ++ text_name text ++ codes " ") ++ place_text start finish
    ++ (codes ": " ++ word_text word ++ newline)
early_text (BadLine line start finish) =
    (codes "bad text: plan line " ++ decimal line ++ codes ", bytes ") ++ place_text start finish
    ++ newline
early_text (TooLong text) = codes "beyond: " ++ text_name text ++ codes " text over 1048576 bytes\n"
early_text (Depth text at) =
    (codes "beyond: depth 64 in " ++ text_name text ++ codes " at ") ++ decimal at ++ newline
early_text DepthOut = codes "beyond: depth 64 in translation\n"
early_text (LineTooLong line) = codes "beyond: line " ++ decimal line ++ codes " over 4096 bytes\n"
early_text (Literal text start finish) =
    (codes "beyond: literal in " ++ text_name text ++ codes " ") ++ place_text start finish
    ++ newline
early_text (TooMany kind most) =
    (codes "beyond: more than " ++ decimal most ++ codes " ") ++ kind_text kind ++ newline
