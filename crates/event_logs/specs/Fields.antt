-- What the fields of an object are as bytes of JSON (RFC 8259), each behind a comma, and what a line is.
use Rattle.std.specs.Prelude.{ℕ, List, [], ◌∷◌, ◌++◌, Bool, codes, if◌then◌else◌}
use Rattle.std.specs.Fmt.{decimal}

-- a text between quotation marks
abbrev pub quoted : List ℕ → List ℕ
quoted word = 34 ∷ word ++ 34 ∷ []

-- a comma, the key and a colon
abbrev pub key_text : List ℕ → List ℕ
key_text key = 44 ∷ quoted key ++ 58 ∷ []

abbrev pub number_field : List ℕ → ℕ → List ℕ
number_field key number = key_text key ++ decimal number

abbrev pub word_field : List ℕ → List ℕ → List ℕ
word_field key word = key_text key ++ quoted word

abbrev pub flag_field : List ℕ → Bool → List ℕ
flag_field key is_set = key_text key ++ (if is_set then codes "true" else codes "false")

abbrev pub null_field : List ℕ → List ℕ
null_field key = key_text key ++ codes "null"

-- a line: an opening brace, the kind, the fields, a closing brace and a line feed
abbrev pub line_text : List ℕ → List ℕ → List ℕ
line_text kind fields = 123 ∷ quoted (codes "kind") ++ 58 ∷ 34 ∷ (kind ++ 34 ∷ (fields ++ 125 ∷ 10 ∷ []))
