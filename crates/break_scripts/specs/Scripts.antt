-- The script of a plan: lines of the number of a packet and the messages that come before that packet.
use Rattle.std.specs.Prelude.{ℕ, ◌+◌, ◌%◌, Bool, false, ◌==◌, if◌then◌else◌, List, [], ◌∷◌, ◌++◌, codes}
use Rattle.std.specs.List.{flat_map}
use Rattle.std.specs.Fmt.{decimal}
use Rattle.hex_digits.specs.Digits.{digits_of}
use Rattle.scte104_codec.specs.declared.head.Head.{Head}
use Rattle.scte104_codec.specs.declared.requests.SpliceRequest.{SpliceRequest}
use Rattle.scte104_codec.specs.Requesting.{asking_bytes}
use Rattle.break_scripts.specs.declared.request.PlacedRequest.{PlacedRequest}

-- the head of a message of this number, to the program of this DPI_PID_index; AS_index is 0
abbrev pub head_of : ℕ → ℕ → Head
head_of number index = record { as_index = 0; number = number; index = index }

-- and its bytes (ANSI/SCTE 104): a multiple_operation_message whose one operation is this splice_request
abbrev pub message : ℕ → ℕ → SpliceRequest → List ℕ
message number index r = asking_bytes (head_of number index) r

-- a line: so many packets stand before the one before which these bytes come
pub record PlannedLine : Type 0 where
  pub packet : ℕ
  pub bytes : List ℕ

-- bytes before a packet, in front of the lines behind: in the first of these, where it is of that packet, and else in a line of their own
abbrev pub with_bytes : ℕ → List ℕ → List PlannedLine → List PlannedLine
with_bytes packet bytes [] = record { packet = packet; bytes = bytes } ∷ []
with_bytes packet bytes (l ∷ ls) = if l.packet == packet
    then record { packet = packet; bytes = bytes ++ l.bytes } ∷ ls
    else record { packet = packet; bytes = bytes } ∷ l ∷ ls

-- THE LINES of requests, whose messages have the numbers from this one on, modulo 256
abbrev pub lines_of : ℕ → ℕ → List PlacedRequest → List PlannedLine
lines_of index number [] = []
lines_of index number (r ∷ rs) = with_bytes r.packet (message number index r.request) (lines_of index ((number + 1) % 256) rs)

-- the text of a line: the digits of its number, a space, the digits of its bytes, and a line feed
abbrev pub line_text : PlannedLine → List ℕ
line_text l = decimal l.packet ++ (codes " " ++ (digits_of l.bytes ++ 10 ∷ []))

-- THE TEXT of lines
abbrev pub script_text : List PlannedLine → List ℕ
script_text ls = flat_map line_text ls

-- what stands before the first message of a line, and behind the last, which is within it unless no other one follows
abbrev pub front : Bool → ℕ → List ℕ
front is_within packet = if is_within then [] else decimal packet ++ codes " "

abbrev pub ending : Bool → List ℕ
ending is_within = if is_within then [] else 10 ∷ []

-- the first of these requests comes before this packet too
abbrev pub goes_on : ℕ → List PlacedRequest → Bool
goes_on packet [] = false
goes_on packet (r ∷ rs) = r.packet == packet
