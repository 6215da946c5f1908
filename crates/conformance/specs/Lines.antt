-- What a line begins with.
use Rattle.std.specs.Prelude.{ℕ, List, [], ◌∷◌, Bool, Option, None, Some, codes, length, take, drop, nat_eq, if◌then◌else◌}
use lib.Pointwise.{pointwise}
use Rattle.conformance.specs.declared.line.Codec.TheVariants.{Cue, Message, Table}
use Rattle.conformance.specs.declared.line.Kind.{Kind}
use Rattle.conformance.specs.declared.line.Kind.TheVariants.{Bytes, Sections}

-- the word that names the kind, with the space behind it
abbrev pub word_of : Kind → List ℕ
word_of (Bytes Cue) = codes "cue "
word_of (Bytes Message) = codes "message "
word_of (Bytes Table) = codes "table "
word_of Sections = codes "sections "

-- the line begins with this
abbrev pub begins_with : List ℕ → List ℕ → Bool
begins_with word line = pointwise nat_eq (take (length word) line) word

-- the first of these kinds whose word the line begins with, and what stands behind that word
abbrev pub asked_among : List Kind → List ℕ → Option (Kind × List ℕ)
asked_among [] line = None
asked_among (kind ∷ kinds) line = if begins_with (word_of kind) line then Some (kind, drop (length (word_of kind)) line) else asked_among kinds line

-- What the line asks for: the kind that its first word names, and what stands behind that. No word begins with another, so the
-- order of the kinds says nothing.
abbrev pub asked : List ℕ → Option (Kind × List ℕ)
asked line = asked_among (Bytes Cue ∷ Bytes Message ∷ Bytes Table ∷ Sections ∷ []) line
