-- A network that a timeline is fed.
use Rattle.std.proofs.Common.{◌≡◌, ◌<◌, ◌-◌, ◌^◌, ◌+◌, ℕ, List, [], ◌∷◌, ◌++◌, length, reverse, Option, subst, sym, ap, ◌∙◌, inl, inr}
use Rattle.std.proofs.lemmas.List.{reverse-append, length-append}
use Rattle.std.specs.Io.KnownBytes.{IsAtEnd}
use Rattle.ts_packet.specs.Sources.{HasRead, WasGiven}
use Rattle.ts_packet.proofs.PacketsLemmas.{read_more}
use Rattle.break_timelines.specs.Standing.{ReaderStandsFor}
use Rattle.break_timelines.specs.declared.reader.TimelineReader.{TimelineReader}
use Rattle.dpi_program.specs.Planning.{HasFed}

-- the reader was fed so many packets of the bytes that were there first
abbrev pub FedUpTo : TimelineReader → ℕ → ℕ → Option (List ℕ) → Option (List ℕ) → Type 0
FedUpTo reader program count first left = (ps : List (List ℕ)) × ReaderStandsFor reader program (reverse ps) × HasRead first left ps × (length ps ≡ count)

-- and one more
pub fed_more : (old new : TimelineReader) (program count : ℕ) (first left left' : Option (List ℕ)) (p : List ℕ) → FedUpTo old program count first left
    → WasGiven left left' p → ((past : List (List ℕ)) → ReaderStandsFor old program past → ReaderStandsFor new program (p ∷ past))
    → FedUpTo new program (count + 1) first left'
fed_more old new program count first left left' p (ps, stands, read, long) given so = (
  ps ++ p ∷ [],
  subst (ReaderStandsFor new program) (sym (reverse-append ps (p ∷ []))) (so (reverse ps) stands),
  read_more first left left' ps p read given,
  length-append ps (p ∷ []) ∙ ap (λ n. n + 1) long,
)

-- the network came to its end, or so many packets were read as may be counted
pub fed_to_end : (reader : TimelineReader) (program count : ℕ) (first left : Option (List ℕ)) → FedUpTo reader program count first left
    → IsAtEnd left → HasFed reader program first
fed_to_end reader program count first left (ps, stands, read, long) end = (ps, stands, (left, read, inl end))

pub fed_all : (reader : TimelineReader) (program : ℕ) (first left : Option (List ℕ)) → FedUpTo reader program (2 ^ 64 - 1) first left → HasFed reader program first
fed_all reader program first left (ps, stands, read, long) = (ps, stands, (left, read, inr long))
