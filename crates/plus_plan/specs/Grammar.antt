-- Reading a line of a plan from its tokens. Each token is refused with which no line goes on.
use Rattle.std.specs.Prelude.{ℕ, ◌^◌, not, ◌&&◌, List, [], ◌∷◌, ◌==◌, nat_lt, if◌then◌else◌, Option, Some, None, Result, Ok, Err}
use Rattle.plus_tokens.specs.declared.token.Kind.{Kind}
use Rattle.plus_tokens.specs.declared.token.Kind.TheVariants as kinds
use Rattle.plus_tokens.specs.declared.token.Op.TheVariants as ops
use Rattle.plus_tokens.specs.declared.span.Span.{Span}
use Rattle.plus_tree.specs.declared.trees.Call.{Call}
use Rattle.plus_plan.specs.declared.forms.Time.{Time}
use Rattle.plus_plan.specs.declared.forms.Line.{Line}
use Rattle.plus_plan.specs.declared.forms.Line.TheVariants as lines
use Rattle.plus_plan.specs.declared.forms.PlanForm.{PlanForm}
use Rattle.plus_plan.specs.declared.forms.PlanForm.TheVariants.{Timed, Untimed}
use Rattle.plus_plan.specs.declared.reader.Refusal.{Refusal}
use Rattle.plus_plan.specs.declared.reader.Refusal.TheVariants as refusals
use Rattle.plus_tokens.specs.Items.{Piece, Item, tok, bad}
use Rattle.plus_tokens.specs.declared.numeral.Numeral.{Numeral}
use Rattle.plus_tokens.specs.Numeral.{piece_numeral}
use Rattle.plus_plan.specs.Reading.{◌>>=◌, Read, byte_place, next_of}

-- from the first byte of the one to the end of the other
abbrev pub around : Span → Span → Span
around front back = record { start = front.start; «end» = back.«end» }

abbrev pub time : ℕ → ℕ → Span → Time
time top bottom span = record { top = top; bottom = bottom; span = span }

-- ---- the time

abbrev pub as_colon : Span → List Item → Kind → Read (Unit {0})
as_colon s rest kinds.Colon = Ok (tt, rest)
as_colon s rest _ = Err (refusals.At s)

unfoldable pub colon_of : List Item → Read (Unit {0})
colon_of items = next_of items >>= λ p. as_colon p.0.span p.1 p.0.kind

-- a Number without `-` and point that is not 0
abbrev pub as_divisor : Span → List Item → Option Numeral → Read (ℕ × Span)
as_divisor s rest None = Err (refusals.At s)
as_divisor s rest (Some n) =
    if (not n.negative && (n.places == 0)) && nat_lt 0 n.digits then Ok ((n.digits, s), rest) else Err (refusals.At s)

unfoldable pub divisor_of : List Item → Read (ℕ × Span)
divisor_of items = next_of items >>= λ p. as_divisor p.0.span p.1 (piece_numeral p.0)

-- what stands behind the `/` of a time
unfoldable pub quotient_of : ℕ → Span → List Item → Read Time
quotient_of d front items =
    divisor_of items >>= λ q. colon_of q.1 >>= λ c. Ok (time d q.0.0 (around front q.0.1), c.1)

-- what stands behind the first Number of a time, which has so many digits behind its point
abbrev pub time_with : ℕ → ℕ → Span → Span → List Item → Kind → Read Time
time_with d k front s rest kinds.Colon = Ok (time d (10 ^ k) front, rest)
time_with d k front s rest (kinds.Op ops.Divide) = if k == 0 then quotient_of d front rest else Err (refusals.At s)
time_with d k front s rest _ = Err (refusals.At s)

abbrev pub time_rest : ℕ → ℕ → Span → List Item → Read Time
time_rest d k front items = next_of items >>= λ p. time_with d k front p.0.span p.1 p.0.kind

abbrev pub time_behind : Span → List Item → Option Numeral → Read Time
time_behind front items None = Err (refusals.At front)
time_behind front items (Some n) =
    if n.negative then Err (refusals.At front) else time_rest n.digits n.places front items

-- a time and its colon, of which this is the first token
unfoldable pub time_of : Piece → List Item → Read Time
time_of p items = time_behind p.span items (piece_numeral p)

-- ---- the call

abbrev pub as_name : Piece → List Item → Kind → Read (List ℕ)
as_name p rest kinds.Name = Ok (p.word, rest)
as_name p rest _ = Err (refusals.At p.span)

unfoldable pub name_of : List Item → Read (List ℕ)
name_of items = next_of items >>= λ p. as_name p.0 p.1 p.0.kind

-- one more name before those that follow
abbrev pub with_name : List ℕ → Read (List (List ℕ)) → Read (List (List ℕ))
with_name w more = more >>= λ ws. Ok (w ∷ ws.0, ws.1)

abbrev pub args_with : Piece → List Item → Read (List (List ℕ)) → Kind → Read (List (List ℕ))
args_with p rest more kinds.Close = Ok ([], rest)
args_with p rest more kinds.Name = with_name p.word more
args_with p rest more _ = Err (refusals.At p.span)

-- names up to the closing parenthesis
unfoldable pub args_of : List Item → Read (List (List ℕ))
args_of [] = Err refusals.AtEnd
args_of (bad f ∷ rest) = Err (refusals.At (byte_place f))
args_of (tok p ∷ rest) = args_with p rest (args_of rest) p.kind

-- a call behind its opening parenthesis
unfoldable pub call_of : List Item → Read Call
call_of items =
    name_of items >>= λ n. args_of n.1 >>= λ ws. Ok (record { name = n.0; args = ws.0 }, ws.1)

-- ---- the end of the line

-- nothing is left
unfoldable pub end_of : List Item → Read (Unit {0})
end_of [] = Ok (tt, [])
end_of (bad f ∷ rest) = Err (refusals.At (byte_place f))
end_of (tok p ∷ rest) = Err (refusals.At p.span)

abbrev pub as_number : Span → List Item → Kind → Read (Unit {0})
as_number s rest kinds.Number = Ok (tt, rest)
as_number s rest _ = Err (refusals.At s)

unfoldable pub number_of : List Item → Read (Unit {0})
number_of items = next_of items >>= λ p. as_number p.0.span p.1 p.0.kind

abbrev pub as_close_square : Span → List Item → Kind → Read (Unit {0})
as_close_square s rest kinds.CloseSquare = Ok (tt, rest)
as_close_square s rest _ = Err (refusals.At s)

unfoldable pub close_square_of : List Item → Read (Unit {0})
close_square_of items = next_of items >>= λ p. as_close_square p.0.span p.1 p.0.kind

abbrev pub duration_with : Span → List Item → Kind → Read (Unit {0})
duration_with s rest kinds.OpenSquare = number_of rest >>= λ n. close_square_of n.1 >>= λ c. end_of c.1
duration_with s rest _ = Err (refusals.At s)

-- a Number in square brackets, and then nothing
abbrev pub brackets_of : List Item → Read (Unit {0})
brackets_of items = next_of items >>= λ p. duration_with p.0.span p.1 p.0.kind

-- a Number in square brackets, or none, and then nothing
unfoldable pub duration_of : List Item → Read (Unit {0})
duration_of [] = Ok (tt, [])
duration_of (bad f ∷ rest) = Err (refusals.At (byte_place f))
duration_of (tok p ∷ rest) = duration_with p.span rest p.kind

-- ---- the line

-- the first token, and none where the line is blank
abbrev pub next_or_none : List Item → Read (Option Piece)
next_or_none [] = Ok (None, [])
next_or_none (bad f ∷ rest) = Err (refusals.At (byte_place f))
next_or_none (tok p ∷ rest) = Ok (Some p, rest)

-- an action behind its time and its opening parenthesis
abbrev pub act_of : ℕ → Time → List Item → Result Line Refusal
act_of n t items = call_of items >>= λ c. duration_of c.1 >>= λ e. Ok (lines.Act n t c.0)

abbrev pub timed_with : ℕ → Time → Span → List Item → Kind → Result Line Refusal
timed_with n t s rest kinds.Open = act_of n t rest
timed_with n t s rest kinds.End = end_of rest >>= λ e. Ok (lines.End n t)
timed_with n t s rest _ = Err (refusals.At s)

-- the end of the plan behind its time
abbrev pub last_with : ℕ → Time → Span → List Item → Kind → Result Line Refusal
last_with n t s rest kinds.End = end_of rest >>= λ e. Ok (lines.End n t)
last_with n t s rest _ = Err (refusals.At s)

abbrev pub last_of : ℕ → Time → List Item → Result Line Refusal
last_of n t items = next_of items >>= λ f. last_with n t f.0.span f.1 f.0.kind

-- what stands behind a time
abbrev pub entry_of : ℕ → Time → List Item → Result Line Refusal
entry_of n t items = next_of items >>= λ f. timed_with n t f.0.span f.1 f.0.kind

abbrev pub timed_from : ℕ → Option Piece → List Item → Result Line Refusal
timed_from n None rest = Ok lines.Blank
timed_from n (Some p) rest =
    time_of p rest >>= λ t. entry_of n t.0 t.1

-- a line with a time, of this number
unfoldable pub timed_line : ℕ → List Item → Result Line Refusal
timed_line n items = next_or_none items >>= λ p. timed_from n p.0 p.1

-- an action without a time behind its opening parenthesis
abbrev pub step_of : ℕ → List Item → Result Line Refusal
step_of n items = call_of items >>= λ c. end_of c.1 >>= λ e. Ok (lines.Step n c.0)

abbrev pub untimed_with : ℕ → Span → List Item → Kind → Result Line Refusal
untimed_with n s rest kinds.Open = step_of n rest
untimed_with n s rest _ = Err (refusals.At s)

abbrev pub untimed_from : ℕ → Option Piece → List Item → Result Line Refusal
untimed_from n None rest = Ok lines.Blank
untimed_from n (Some p) rest = untimed_with n p.span rest p.kind

-- a line without a time, of this number
unfoldable pub untimed_line : ℕ → List Item → Result Line Refusal
untimed_line n items = next_or_none items >>= λ p. untimed_from n p.0 p.1

abbrev pub line_of : PlanForm → ℕ → List Item → Result Line Refusal
line_of Timed n items = timed_line n items
line_of Untimed n items = untimed_line n items
