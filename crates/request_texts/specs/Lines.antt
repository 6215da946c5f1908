-- Messages as lines of a script: the number of a packet, a space, and the digits of the bytes that come before that packet.
use Rattle.std.specs.Prelude.{ℕ, List, [], ◌∷◌, ◌++◌, Option, Some, None, codes}
use Rattle.std.specs.Fmt.{decimal}
use Rattle.std.specs.Io.KnownBytes.{Appends}
use Rattle.hex_digits.specs.Digits.{digits_of}
use Rattle.request_texts.specs.declared.lines.RequestLine.{RequestLine}
use Rattle.request_texts.specs.Requests.{AsksFor}

-- the digits of these bytes, behind the mark and a space where there is a mark
abbrev pub marked_digits : Option ℕ → List ℕ → List ℕ
marked_digits None bytes = digits_of bytes
marked_digits (Some mark) bytes = decimal mark ++ codes " " ++ digits_of bytes

-- likewise, with the line feed behind it
abbrev pub request_line : Option ℕ → List ℕ → List ℕ
request_line mark bytes = marked_digits mark bytes ++ 10 ∷ []

-- THE LINE WAS PRINTED behind what was there: the digits are those of bytes that ask for just what it is to ask for
abbrev pub PrintsRequest : RequestLine → Option (List ℕ) → Option (List ℕ) → Type 0
PrintsRequest line old new = (bytes : List ℕ) × AsksFor bytes line.head line.kind × Appends old new (request_line line.mark bytes)
